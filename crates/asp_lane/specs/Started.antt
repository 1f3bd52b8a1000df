-- That an application has begun: its first run ended well. All of it is the product's own.
use Rattle.std.specs.Prelude.{◌≡◌, List, Some, None}
use Rattle.asp_core.specs.Start.{start_fail}
use Rattle.asp_job.specs.declared.entry.EndKind.TheVariants as kind
use Rattle.asp_job.specs.declared.entry.Entry.{Entry}
use Rattle.asp_job.specs.Rules.{Rules}
use Rattle.asp_journal.specs.Telling.{end_kind}

-- the first run has ended by itself, and did not fail
pub record HasStarted (rules : Rules) (past : List Entry) : Type 0 where
  pub ended : end_kind past 1 ≡ Some kind.Done
  pub sound : start_fail rules past ≡ None
