-- What is read of the live keys.
use Rattle.std.specs.Prelude.{ℕ, List, Option, None, nat_eq}
use Rattle.std.specs.Map.{lookup}
use Rattle.std.specs.Option.{option_map_or}
use Rattle.asp_job.specs.declared.session.SessionState.{SessionState}
use Rattle.asp_session.specs.declared.key.KeyState.{KeyState}

-- the session of a key
abbrev pub session_in : ℕ → List (ℕ × KeyState) → Option SessionState
session_in key keys = option_map_or (λ state. state.session) (lookup (nat_eq key) keys) None
