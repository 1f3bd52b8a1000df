use Rattle.asp_response.specs.Calls.{said_by}
use Rattle.asp_response.proofs.Finishing.{finished_sound}
use Rattle.asp_response.proofs.Drafts.{said_sound}
use Rattle.asp_response.proofs.laws.drafts_finish_sound.Goals as goal

pub returns : goal.returns
returns c = λ calls letters failure head_only close printable.
    finished_sound (said_by calls) letters failure head_only close (said_sound calls) printable
