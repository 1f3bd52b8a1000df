-- The keys of a dictionary differ.
use Rattle.std.proofs.Common.{◌≡◌, ◌≢◌, true, false, List, [], ◌∷◌, Some, arith, ℤ}
use Rattle.std.proofs.lemmas.List.Elements.{All-cons, All-nil}
use Rattle.std.proofs.lemmas.List.Kept.{AllPairs-cons}
use Rattle.std.specs.List.{All, AllPairs, AllByRecursion, IsDistinct}
use Rattle.std.specs.Map.{keys_of, values_of}
use Rattle.std.specs.Cmp.{int_eq_equiv}
use Rattle.std.specs.Cmp.Lexicographic.{nat_list_eq_equiv}
use Rattle.vb_value.specs.declared.session.Pair.{Pair}
use Rattle.vb_heap.specs.declared.key.Key.{Key}
use Rattle.vb_heap.specs.declared.key.Key.TheVariants.{Number, Text}
use Rattle.vb_heap.specs.contracts.key.KeyPartialEq.TheImpl.{ghosts}
use Rattle.vb_heap.specs.Indexed.{SayTheirKeys}
use Rattle.vb_heap.specs.Keys.{key_of}

like_itself : (key : Key) → ghosts.eq key key ≡ true
like_itself (Number n) = int_eq_equiv.refl n
like_itself (Text t) = nat_list_eq_equiv.refl t

apart : (mode : ℤ) (key other : Key) (pair later : Pair) → key_of mode pair.key ≡ Some key
    → key_of mode later.key ≡ Some other → ghosts.eq key other ≡ false
    → key_of mode pair.key ≢ key_of mode later.key
apart mode key other pair later said also differ = λ same.
    let one : key ≡ other = cc in
    absurd (cc (like_itself other))

each : (mode : ℤ) (key : Key) (pair : Pair) (entries : List (Key × Pair)) → key_of mode pair.key ≡ Some key
    → SayTheirKeys mode entries → AllByRecursion (λ other. ghosts.eq key other ≡ false) (keys_of entries)
    → All (λ later. key_of mode pair.key ≢ key_of mode later.key) (values_of entries)
each mode key pair [] said all differ = All-nil (λ later. key_of mode pair.key ≢ key_of mode later.key)
each mode key pair (entry ∷ entries) said all differ =
    All-cons (λ later. key_of mode pair.key ≢ key_of mode later.key) entry.1 (values_of entries)
    (apart mode key entry.0 pair entry.1 said all.0 differ.0) (each mode key pair entries said all.1 differ.1)

-- entries under different keys that say what they stand under
pub keys_differ : (mode : ℤ) (entries : List (Key × Pair)) → SayTheirKeys mode entries
    → IsDistinct ghosts.eq (keys_of entries)
    → AllPairs (λ pair later. key_of mode pair.key ≢ key_of mode later.key) (values_of entries)
unfolding IsDistinct
keys_differ mode [] said distinct = λ i j d before within. absurd (omega arith)
keys_differ mode (entry ∷ entries) said distinct =
    AllPairs-cons (λ pair later. key_of mode pair.key ≢ key_of mode later.key) entry.1 (values_of entries)
    (each mode entry.0 entry.1 entries said.0 said.1 distinct.0)
    (keys_differ mode entries said.1 distinct.1)
