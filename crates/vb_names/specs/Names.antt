-- Names in an order, found by numbers that their letters give.
use Rattle.std.specs.Prelude.{◌≡◌, ℕ, ◌*◌, ◌%◌, ◌^◌, ◌≤◌, bit_xor, List, length, Option, nat_eq}
use Rattle.std.specs.List.{fold, position_from}
use Rattle.std.specs.HashMap.{HashMap, get}
use Rattle.vb_value.specs.Folding.{folded}
use Rattle.vb_syntax.specs.scope.Names.{Name}

-- a number with one more letter
abbrev pub with_letter : ℕ → ℕ → ℕ
with_letter hash letter = bit_xor hash letter * 1099511628211 % 2 ^ 64

-- the number of a key, which few keys share
unfoldable pub hashed : Name → ℕ
hashed = fold with_letter 14695981039346656037

-- the number of the first of some names whose key has the hash
abbrev pub number_of_hash : List Name → ℕ → Option ℕ
number_of_hash names hash = position_from (λ (name : Name). nat_eq hash (hashed (folded name))) 0 names

-- the map has each hash with the number of the first name whose key has it, and each number fits in 32 bits
abbrev pub IsNumbered : {S : Type 0} → HashMap ℕ ℕ S → List Name → Type 0
IsNumbered numbers names = record {
  numbered : (hash : ℕ) → get nat_eq numbers hash ≡ number_of_hash names hash;
  few : length names ≤ 2 ^ 32;
}
