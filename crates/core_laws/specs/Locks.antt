-- What a lock lets go and keeps out, and the same rules with another rule of the lock. All of it is our own.
use Rattle.std.specs.Prelude.{ℕ, ◌==◌, ◌&&◌, Bool, false, not}
use Rattle.vb_value.specs.declared.application.AppCall.TheVariants.{Unlock}
use Rattle.asp_job.specs.declared.entry.What.{What}
use Rattle.asp_job.specs.declared.entry.What.TheVariants.{App, End}
use Rattle.asp_job.specs.Application.{is_guarded}
use Rattle.asp_job.specs.Rules.{Rules}

-- the entry lets the run's lock go: its Unlock, or its End
abbrev pub is_release_of : ℕ → What → Bool
is_release_of r (App run Unlock reply) = r == run
is_release_of r (End run kind status size made finished) = r == run
is_release_of r _ = false

-- the entry is a call of another run that the run's lock keeps out under this rule
abbrev pub is_kept_out : Bool → ℕ → What → Bool
is_kept_out strict r (App run call reply) = is_guarded strict call && not (r == run)
is_kept_out strict r _ = false

-- the same rules but for the lock: readers wait for it, or not
abbrev pub with_rule : Rules → Bool → Rules
with_rule rules strict = record {
  meaning = rules.meaning;
  letters = rules.letters;
  cookie_key = rules.cookie_key;
  unavailable = rules.unavailable;
  strict = strict;
}
