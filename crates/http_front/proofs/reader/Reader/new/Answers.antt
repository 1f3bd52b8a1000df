use Rattle.std.proofs.Common.{sym, subst}
use Rattle.http_front.specs.Front.{IsFront, More}
use Rattle.http_front.proofs.Streams.{nothing_wants}
use Rattle.http_front.proofs.reader.Reader.new.Goals as goal

pub returns-clause-wants : goal.returns-clause-wants
returns-clause-wants c = subst (λ bytes. IsFront bytes More) (sym c.new.ensures.items) nothing_wants
