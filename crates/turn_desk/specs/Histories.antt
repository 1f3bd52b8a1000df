-- Histories: lists of entries, each with the number of the lane whose turn made it.
use Rattle.std.specs.Prelude.{◌≡◌, ℕ, ◌+◌, ◌<◌, ◌==◌, List, [], ◌∷◌, ◌++◌, All}
use Rattle.std.specs.List.{filter}

-- what each item counts for, added up
abbrev pub total : {A : Type 0} → (A → ℕ) → List A → ℕ
total count [] = 0
total count (x ∷ xs) = count x + total count xs

-- the fact holds of each item
abbrev pub Every : {A : Type 0} → (A → Type 0) → List A → Type 0
Every Fact [] = Unit {0}
Every Fact (x ∷ xs) = Fact x × Every Fact xs

-- a list begins with these items
abbrev pub BeginsWith : {A : Type 0} → List A → List A → Type 0
BeginsWith {A} whole first = (more : List A) × (whole ≡ first ++ more)

module _ {E : Type 0} (lane_of : E → ℕ) where
  -- a lane's own part of a history: the entries with its number, in their order
  abbrev pub own_part : ℕ → List E → List E
  own_part lane history = filter (λ entry. lane_of entry == lane) history

  -- a turn of a lane leaves the history that was there, and behind it new entries with the lane's number
  abbrev pub GrowsBy : ℕ → List E → List E → Type 0
  GrowsBy lane before after = (more : List E) × (after ≡ before ++ more) × All (λ entry. lane_of entry ≡ lane) more

  -- each entry has the number of one of so many lanes, which are numbered from 0
  abbrev pub AreOfLanes : ℕ → List E → Type 0
  AreOfLanes count history = All (λ entry. lane_of entry < count) history

  -- a history begins with what a lane has seen of it, and its entries with the lane's number are the lane's own
  abbrev pub Agrees : List E → ℕ → List E → List E → Type 0
  Agrees history lane seen own = BeginsWith history seen × (own_part lane history ≡ own)
