-- What an accept takes from the connections that will come.
use Rattle.std.specs.Prelude.{◌≡◌, Bool, IsTrue, Option, Some, None, IfSome, List, [], ◌∷◌, option_map}

-- no connection will come any more, and the wire is one that ends
pub record IsOver {L : Type 0} (ends : Bool) (old new : Option (List L)) : Type 0 where
  pub may : IsTrue ends
  pub same : new ≡ old
  pub none : IfSome old (λ links. links ≡ [])

-- an accept has given the next connection that comes, or none where none will come
abbrev pub Accepts : {L : Type 0} → Bool → Option (List L) → Option (List L) → Option L → Type 0
Accepts ends old new (Some link) = old ≡ option_map (λ rest. link ∷ rest) new
Accepts ends old new None = IsOver ends old new
