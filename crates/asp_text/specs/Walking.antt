-- This crate's own: what its steps along a path answer.
use Rattle.std.specs.Prelude.{◌≡◌, ◌≢◌, ◌<◌, ℕ, Bool, List, [], ◌∷◌, length, map, Option, None, Some, MatchOption}
use Rattle.std.specs.Prelude.{Result, Ok, Err}
use Rattle.std.specs.Borrow.{Bor}
use Rattle.asp_text.specs.declared.path.PathStop.{PathStop}
use Rattle.asp_text.specs.declared.path.PathStop.TheVariants.{Escapes, Memory}
use Rattle.asp_text.specs.Path.{Place, segments}

-- the characters that the slices show
abbrev pub shown : List (Bor (List ℕ)) → List (List ℕ)
shown slices = map (λ slice. slice.now) slices

-- the first segment of a path, and what stands behind the slash that ends it, if one does
abbrev pub SplitsFirst : List ℕ → List ℕ → Option (Bor (List ℕ)) → Type 0
SplitsFirst path segment later =
    MatchOption later (segments path ≡ segment ∷ [])
    (λ rest. (length rest.now < length path) × (segments path ≡ segment ∷ segments rest.now))

-- the place that the answer leaves, unless memory ran out, is this one
abbrev pub Reaches : Result Bool PathStop → List (Bor (List ℕ)) → Option Place → Type 0
Reaches (Ok folder) names place = place ≡ Some (record { names = shown names; folder = folder })
Reaches (Err stop) names place = stop ≢ Memory → (stop ≡ Escapes) × (place ≡ None)
