-- Entries under what their keys say.
use Rattle.std.proofs.Common.{◌≡◌, ℕ, ◌+◌, ◌*◌, false, not, cond, nat_lt, List, [], ◌∷◌, ◌++◌, length, Option, Some}
use Rattle.std.proofs.Common.{None}
use Rattle.std.proofs.Common.{refl, sym, ap, ◌∙◌, arith, ℤ, position, is_some, zero, suc, remove, slice_set}
use Rattle.std.proofs.Common.{slice_get, get_or, inl, inr, ◌≤◌}
use Rattle.std.proofs.lemmas.Map.Entries.{length-keys_of, length-values_of}
use Rattle.std.specs.List.{prefix_len}
use Rattle.std.specs.Map.{keys_of, values_of}
use Rattle.std.proofs.lemmas.List.Sums.{sum_by-append, sum_by-remove, sum_by-set}
use Rattle.std.proofs.lemmas.Option.{get_or_from_slice_get, slice_get_cases}
use Rattle.std.specs.Option.{option_map_or}
use Rattle.indexmap.specs.IndexMap.{IndexMap, get, insert_entry, set_value_at}
use Rattle.indexmap.proofs.CallerLemmas.{insert_entry-new}
use Rattle.indexmap.proofs.MapLemmas.{some_index}
use Rattle.vb_value.specs.declared.session.Pair.{Pair}
use Rattle.vb_value.specs.declared.value.Value.{Value}
use Rattle.vb_value.specs.Weight.{weight_of}
use Rattle.vb_heap.specs.declared.key.Key.{Key}
use Rattle.vb_heap.specs.declared.key.Key.TheVariants.{Number, Text}
use Rattle.vb_heap.specs.contracts.key.KeyPartialEq.TheImpl.{ghosts}
use Rattle.vb_heap.specs.Entries.{with_item}
use Rattle.vb_heap.specs.Indexed.{SayTheirKeys}
use Rattle.vb_heap.specs.Keys.{key_of, same, says}
use Rattle.vb_heap.specs.PairWeight.{entries_weight, pair_weight}
use Rattle.vb_heap.proofs.ValueWeights.{least_weight}

-- the code compares what keys say
pub compares : (key other : Key) → ghosts.eq key other ≡ same key other
compares (Number m) (Number n) = refl
compares (Number m) (Text t) = refl
compares (Text s) (Number n) = refl
compares (Text s) (Text t) = refl

compared : (mode : ℤ) (key : Key) (entry : Key × Pair) → key_of mode entry.1.key ≡ Some entry.0
    → ghosts.eq key entry.0 ≡ says key (key_of mode entry.1.key)
compared mode key entry said = compares key entry.0 ∙ sym (ap (says key) said)

fronts : (mode : ℤ) (key : Key) (entries : List (Key × Pair)) → SayTheirKeys mode entries
    → prefix_len (λ other. not (ghosts.eq key other)) (keys_of entries)
    ≡ prefix_len (λ pair. not (says key (key_of mode pair.key))) (values_of entries)
fronts mode key [] said = refl
fronts mode key (entry ∷ entries) said =
    let first = compared mode key entry said.0 in
    let rest = fronts mode key entries said.1 in
    λ i. cond (not (first i)) (1 + rest i) 0

-- the code finds the entry of a key
pub finds : (mode : ℤ) (key : Key) (entries : List (Key × Pair)) → SayTheirKeys mode entries
    → position (ghosts.eq key) (keys_of entries)
    ≡ position (λ pair. says key (key_of mode pair.key)) (values_of entries)
finds mode key entries said =
    let front = fronts mode key entries said in
    let count : length (keys_of entries) ≡ length (values_of entries) =
    length-keys_of entries ∙ sym (length-values_of entries) in
    λ i. cond (nat_lt (front i) (count i)) (Some (front i)) None

nothing : {T : Type 0} (found : Option T) → is_some found ≡ false → found ≡ None
nothing (Some thing) gone = absurd (cc)
nothing None gone = refl

-- an entry of a new key comes last
pub comes_last : {S : Type 0} (map : IndexMap Key Pair S) (mode : ℤ) (key : Key) (pair : Pair)
    → SayTheirKeys mode map.entries
    → position (λ other. says key (key_of mode other.key)) (values_of map.entries) ≡ None
    → insert_entry ghosts.eq map.entries key pair ≡ map.entries ++ (key, pair) ∷ []
comes_last map mode key pair said free =
    let absent : position (ghosts.eq key) (keys_of map.entries) ≡ None = finds mode key map.entries said ∙ free in
    insert_entry-new ghosts.eq map key pair
    (nothing (get ghosts.eq map key) (sym (some_index (ghosts.eq key) map.entries) ∙ ap is_some absent))

-- all say their keys with one more
pub said_more : (mode : ℤ) (entries : List (Key × Pair)) (key : Key) (pair : Pair) → SayTheirKeys mode entries
    → key_of mode pair.key ≡ Some key → SayTheirKeys mode (entries ++ (key, pair) ∷ [])
said_more mode [] key pair said one = (one, tt)
said_more mode (entry ∷ entries) key pair said one = (said.0, said_more mode entries key pair said.1 one)

-- the pairs with one more
pub pairs_more : (entries : List (Key × Pair)) (key : Key) (pair : Pair)
    → values_of (entries ++ (key, pair) ∷ []) ≡ values_of entries ++ pair ∷ []
pairs_more [] key pair = refl
pairs_more (entry ∷ entries) key pair = ap (λ pairs. entry.1 ∷ pairs) (pairs_more entries key pair)

-- the weight of the pairs with one more
pub weight_more : (entries : List (Key × Pair)) (key : Key) (pair : Pair)
    → entries_weight (values_of (entries ++ (key, pair) ∷ [])) ≡ entries_weight (values_of entries) + pair_weight pair
weight_more entries key pair =
    rw (pairs_more entries key pair) (sum_by-append pair_weight (values_of entries) (pair ∷ []) ∙ omega arith)

-- the pairs without one
pub pairs_less : (entries : List (Key × Pair)) (at : ℕ) → values_of (remove entries at) ≡ remove (values_of entries) at
pairs_less [] zero = refl
pairs_less [] (suc at) = refl
pairs_less (entry ∷ entries) zero = refl
pairs_less (entry ∷ entries) (suc at) = ap (λ pairs. entry.1 ∷ pairs) (pairs_less entries at)

-- all say their keys without one
pub said_less : (mode : ℤ) (entries : List (Key × Pair)) (at : ℕ) → SayTheirKeys mode entries
    → SayTheirKeys mode (remove entries at)
said_less mode [] zero said = tt
said_less mode [] (suc at) said = tt
said_less mode (entry ∷ entries) zero said = said.1
said_less mode (entry ∷ entries) (suc at) said = (said.0, said_less mode entries at said.1)

-- the pairs with another one in the place of one
pub pairs_other : (entries : List (Key × Pair)) (at : ℕ) (pair : Pair)
    → values_of (set_value_at entries at pair) ≡ slice_set (values_of entries) at pair
pairs_other [] at pair = refl
pairs_other (entry ∷ entries) zero pair = refl
pairs_other (entry ∷ entries) (suc at) pair = ap (λ pairs. entry.1 ∷ pairs) (pairs_other entries at pair)

-- all say their keys with another item in one
pub said_other : (mode : ℤ) (entries : List (Key × Pair)) (at : ℕ) (pair : Pair) (item : Value)
    → Some pair ≡ slice_get (values_of entries) at → SayTheirKeys mode entries
    → SayTheirKeys mode (set_value_at entries at (with_item item pair))
said_other mode [] at pair item there said = tt
said_other mode (entry ∷ entries) zero pair item there said =
    let same_pair : pair ≡ entry.1 = cc in (rw same_pair said.0, said.1)
said_other mode (entry ∷ entries) (suc at) pair item there said =
    (said.0, said_other mode entries at pair item there said.1)

-- the pair of an entry
pub pair_of : (entries : List (Key × Pair)) (at : ℕ) (key : Key) (pair : Pair)
    → Some (key, pair) ≡ slice_get entries at → Some pair ≡ slice_get (values_of entries) at
pair_of [] at key pair there = absurd (cc)
pair_of (entry ∷ entries) zero key pair there = let first : (key, pair) ≡ entry = cc in ap (λ e. Some e.1) first
pair_of (entry ∷ entries) (suc at) key pair there = pair_of entries at key pair there

-- what the pairs weigh without one
pub weight_less : (entries : List (Key × Pair)) (at : ℕ) (key : Key) (pair : Pair)
    → Some (key, pair) ≡ slice_get entries at
    → entries_weight (values_of (remove entries at)) + pair_weight pair ≡ entries_weight (values_of entries)
weight_less entries at key pair there =
    let one : Some pair ≡ slice_get (values_of entries) at = pair_of entries at key pair there in
    rw (pairs_less entries at) (elim ((slice_get_cases (values_of entries) at).1) [
      | inl here ↦
          let is : get_or (values_of entries) at pair ≡ pair =
          get_or_from_slice_get (values_of entries) at pair pair (sym one) in
          let less = sum_by-remove pair_weight (values_of entries) at pair here.1 in
          rw is at less
      | inr past ↦ absurd (cc)
    ])

-- what pairs weigh with another item in one
pub weight_set : (pairs : List Pair) (at : ℕ) (pair : Pair) (item : Value) → Some pair ≡ slice_get pairs at
    → entries_weight (slice_set pairs at (with_item item pair)) + weight_of pair.item
    ≡ entries_weight pairs + weight_of item
weight_set pairs at pair item there = elim ((slice_get_cases pairs at).1) [
  | inl here ↦
      let is : get_or pairs at pair ≡ pair = get_or_from_slice_get pairs at pair pair (sym there) in
      let other = sum_by-set pair_weight pairs at (with_item item pair) pair here.1 in
      let swapped = rw is at other in
      omega arith
  | inr past ↦ absurd (cc)
]

-- the same of entries
pub weight_other : (entries : List (Key × Pair)) (at : ℕ) (pair : Pair) (item : Value)
    → Some pair ≡ slice_get (values_of entries) at
    → entries_weight (values_of (set_value_at entries at (with_item item pair))) + weight_of pair.item
    ≡ entries_weight (values_of entries) + weight_of item
weight_other entries at pair item there =
    rw (pairs_other entries at (with_item item pair)) (weight_set (values_of entries) at pair item there)

-- each pair weighs 64 or more
pub least_pairs : (pairs : List Pair) → 64 * length pairs ≤ entries_weight pairs
least_pairs [] = omega arith
least_pairs (pair ∷ pairs) =
    let rest = least_pairs pairs in
    let key = least_weight pair.key in
    let item = least_weight pair.item in
    let whole : entries_weight (pair ∷ pairs) ≡ entries_weight (pair ∷ []) + entries_weight pairs =
    sum_by-append pair_weight (pair ∷ []) pairs in
    omega arith

-- a pair weighs no more than all
pub pair_within : (pairs : List Pair) (at : ℕ) (pair : Pair) → Some pair ≡ slice_get pairs at
    → pair_weight pair ≤ entries_weight pairs
pair_within pairs at pair there = elim ((slice_get_cases pairs at).1) [
  | inl here ↦
      let is : get_or pairs at pair ≡ pair = get_or_from_slice_get pairs at pair pair (sym there) in
      let less = rw is at (sum_by-remove pair_weight pairs at pair here.1) in
      omega arith
  | inr past ↦ absurd (cc)
]

-- the pairs with another item in one, if it is there
pub pairs_set : (entries : List (Key × Pair)) (at : ℕ) (item : Value) (found : Option Pair)
    → values_of (option_map_or (λ pair. set_value_at entries at (with_item item pair)) found entries)
    ≡ option_map_or (λ pair. slice_set (values_of entries) at (with_item item pair)) found (values_of entries)
pairs_set entries at item (Some pair) = pairs_other entries at (with_item item pair)
pairs_set entries at item None = refl

-- all say their keys then
pub said_set : (mode : ℤ) (entries : List (Key × Pair)) (at : ℕ) (item : Value) (found : Option Pair)
    → found ≡ slice_get (values_of entries) at → SayTheirKeys mode entries
    → SayTheirKeys mode (option_map_or (λ pair. set_value_at entries at (with_item item pair)) found entries)
said_set mode entries at item (Some pair) there said = said_other mode entries at pair item there said
said_set mode entries at item None there said = said
