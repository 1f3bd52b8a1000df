-- Which calls a run makes. All of it is our own.
use Rattle.std.specs.Prelude.{◌≡◌, ℕ, List, length, take, slice_get, Some}
use Rattle.vb_value.specs.declared.application.AppCall.{AppCall}
use Rattle.asp_job.specs.Told.{Told, Wants, Meaning}

-- what a run was told when it had so many replies
abbrev pub told_at : Told → ℕ → Told
told_at told n = record told { replies = take n told.replies }

-- Each call is the one that the meaning wants after the replies to those before it, and each has its reply.
pub record AreWanted (meaning : Meaning) (told : Told) (calls : List AppCall) : Type 0 where
  pub wanted : (n : ℕ) (call : AppCall) → slice_get calls n ≡ Some call → meaning.does (told_at told n) ≡ Wants call
  pub replied : length told.replies ≡ length calls
