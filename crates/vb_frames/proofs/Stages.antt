-- An act whose part has ended goes on at the page's end.
use Rattle.std.proofs.Common.{◌≡◌, ap}
use Rattle.vb_syntax.specs.declared.act.ActEnd.{ActEnd}
use Rattle.vb_syntax.specs.declared.program.Program.{Program}
use Rattle.vb_meaning.specs.Acts.{closed, page_ends, page_left}
use Rattle.vb_meaning.specs.Asking.{Host}
use Rattle.vb_meaning.specs.Meaning.{inside, most_levels}
use Rattle.vb_meaning.specs.Releases.{settle_last, end_all, in_world}
use Rattle.vb_meaning.specs.State.{State}
use Rattle.vb_meaning.specs.Step.{state_of, ◌>>◌}
use Rattle.vb_meaning.specs.Ticks.{page_end}
use Rattle.vb_frames.specs.declared.stage.Stage.TheVariants as stage
use Rattle.vb_frames.specs.Caught.{mapped, nothing}
use Rattle.vb_frames.specs.Ended.{ended, left}
use Rattle.vb_frames.proofs.Joins.{done_again}

module _ (E : Type 0) (host : Host E) (p : Program) where
  pub last_ended : (how : ActEnd) (s : State E) → ended E host p (stage.Last how) (mapped nothing
      ((settle_last E (inside E host p most_levels) >> end_all E (inside E host p most_levels))
      (in_world E (page_left s.world) s))) ≡ page_ends E (inside E host p most_levels) how s
  last_ended how s = ap (closed E (inside E host p most_levels) how) (done_again
      ((settle_last E (inside E host p most_levels) >> end_all E (inside E host p most_levels))
      (in_world E (page_left s.world) s)))

  pub last_left : (how : ActEnd) (s : State E) → left E host p (stage.Last how) (mapped nothing
      ((settle_last E (inside E host p most_levels) >> end_all E (inside E host p most_levels))
      (in_world E (page_left s.world) s))) ≡ page_end E (inside E host p most_levels) s
  last_left how s = ap state_of (done_again
      ((settle_last E (inside E host p most_levels) >> end_all E (inside E host p most_levels))
      (in_world E (page_left s.world) s)))
