-- Entries of dictionaries, and the keys under which they stand.
use Rattle.std.proofs.Common.{ℕ, zero, suc, ◌+◌, ◌≡◌, ◌∙◌, nat_lt, Bool, true, false, if◌then◌else◌, cond}
use Rattle.std.proofs.Common.{ℤ, pos, List, [], ◌∷◌, ◌++◌, length, map, slice_get, slice_set, option_map, Option, Some}
use Rattle.std.proofs.Common.{None}
use Rattle.std.proofs.Common.{Result, Ok, Err, refl, sym, ap, arith}
use Rattle.std.specs.Prelude.{remove}
use Rattle.std.specs.Cmp.{int_eq_equiv}
use Rattle.std.specs.Cmp.Lexicographic.{nat_list_eq_equiv}
use Rattle.std.specs.List.{position, position_or_len}
use Rattle.std.proofs.lemmas.Bool.Decides.{nat_tests}
use Rattle.std.proofs.lemmas.List.{length-map}
use Rattle.vb_value.specs.declared.fault.VbError.{VbError}
use Rattle.vb_value.specs.declared.session.Pair.{Pair}
use Rattle.vb_value.specs.declared.value.ObjNo.{ObjNo}
use Rattle.vb_value.specs.declared.value.Value.{Value}
use Rattle.vb_heap.specs.declared.key.Key.{Key}
use Rattle.vb_heap.specs.declared.key.Key.TheVariants.{Number, Text}
use Rattle.vb_heap.specs.Dictionary.{Dictionary, entry_of}
use Rattle.vb_heap.specs.DictionaryCalls.{array_of, count_of, items_of, keys_of}
use Rattle.vb_heap.specs.Entries.{dictionary_of, entry_added, item_set}
use Rattle.vb_heap.specs.Keys.{key_of, same, says}
use Rattle.vb_heap.specs.Store.{Store}
use Rattle.heap_laws.specs.Dictionaries.{AddedIsLast, CountsAgree, KeysStayInOrder, OthersStayAbsent, OthersStayAdded}
use Rattle.heap_laws.specs.Dictionaries.{SameIsEquivalence}

-- ---- keys

pub like_itself : (key : Key) → same key key ≡ true
like_itself (Number n) = int_eq_equiv.refl n
like_itself (Text t) = nat_list_eq_equiv.refl t

turned : (key other : Key) → same key other ≡ same other key
turned (Number m) (Number n) = int_eq_equiv.symm m n
turned (Text s) (Text t) = nat_list_eq_equiv.symm s t
turned (Number m) (Text t) = refl
turned (Text s) (Number n) = refl

along : (key other third : Key) → same key other ≡ true → same other third ≡ true → same key third ≡ true
along (Number m) (Number n) (Number k) one also = int_eq_equiv.congr m n k one ∙ also
along (Text s) (Text t) (Text u) one also = nat_list_eq_equiv.congr s t u one ∙ also
along (Number m) (Text t) third one also = absurd (cc)
along (Text s) (Number n) third one also = absurd (cc)
along (Number m) (Number n) (Text u) one also = absurd (cc)
along (Text s) (Text t) (Number k) one also = absurd (cc)

pub same_is_equivalence : SameIsEquivalence
same_is_equivalence = record { itself = like_itself; turned = turned; along = along }

-- ---- the first place that passes

behind : (place count : ℕ) (within : Bool) → nat_lt place count ≡ within
    → cond (nat_lt (1 + place) (suc count)) (Some (1 + place)) None ≡ option_map suc (cond within (Some place) None)
behind place count true is =
    let more : nat_lt (1 + place) (suc count) ≡ true = grind (arith, nat_tests) in
    let next : 1 + place ≡ suc place = omega arith in
    rw more (ap Some next)
behind place count false is =
    let more : nat_lt (1 + place) (suc count) ≡ false = grind (arith, nat_tests) in
    rw more refl

module _ {X : Type 0} (test : X → Bool) where
  -- the same by recursion
  abbrev pub first : List X → Option ℕ
  first [] = None
  first (x ∷ xs) = if test x then Some 0 else option_map suc (first xs)

  pub first_is : (xs : List X) → position test xs ≡ first xs
  first_is [] = refl
  first_is (x ∷ xs) = by (test x) refl (first_is xs)
    where
      by : (passes : Bool) → test x ≡ passes → position test xs ≡ first xs
          → position test (x ∷ xs) ≡ (if passes then Some 0 else option_map suc (first xs))
      by true is rest =
          let some : nat_lt 0 (suc (length xs)) ≡ true = grind (arith, nat_tests) in
          rw (is, some) refl
      by false is rest =
          rw (is, sym rest) (behind (position_or_len test xs) (length xs)
          (nat_lt (position_or_len test xs) (length xs)) refl)

  -- where there was none, one more is the last or none
  one_more : (xs : List X) (x : X) → first xs ≡ None
      → first (xs ++ x ∷ []) ≡ (if test x then Some (length xs) else None)
  one_more [] x none = refl
  one_more (y ∷ xs) x none = by (test y) refl none (one_more xs x)
    where
      moved : (passes : Bool) → option_map suc (if passes then Some (length xs) else None)
          ≡ (if passes then Some (suc (length xs)) else None)
      moved true = refl
      moved false = refl

      left : (found : Option ℕ) → option_map suc found ≡ None → found ≡ None
      left None is = refl
      left (Some at) is = absurd (cc)

      by : (passes : Bool) → test y ≡ passes → (if passes then Some 0 else option_map suc (first xs)) ≡ None
          → (first xs ≡ None → first (xs ++ x ∷ []) ≡ (if test x then Some (length xs) else None))
          → first (y ∷ (xs ++ x ∷ [])) ≡ (if test x then Some (suc (length xs)) else None)
      by true is nothing rest = absurd (cc)
      by false is nothing rest = rw is (ap (λ found. option_map suc found) (rest (left (first xs) nothing)) ∙ moved (test x))

  -- one more changes nothing where there was one
  one_stays : (xs : List X) (x : X) (at : ℕ) → first xs ≡ Some at → first (xs ++ x ∷ []) ≡ Some at
  one_stays [] x at is = absurd (cc)
  one_stays (y ∷ xs) x at is = by (test y) refl is (one_stays xs x)
    where
      deeper : (found : Option ℕ) (at : ℕ) → option_map suc found ≡ Some at
          → ((place : ℕ) → found ≡ Some place → first (xs ++ x ∷ []) ≡ Some place)
          → option_map suc (first (xs ++ x ∷ [])) ≡ Some at
      deeper None at is stays = absurd (cc)
      deeper (Some place) at is stays = ap (λ found. option_map suc found) (stays place refl) ∙ is

      by : (passes : Bool) → test y ≡ passes → (if passes then Some 0 else option_map suc (first xs)) ≡ Some at
          → ((place : ℕ) → first xs ≡ Some place → first (xs ++ x ∷ []) ≡ Some place)
          → first (y ∷ (xs ++ x ∷ [])) ≡ Some at
      by true passes found rest = rw passes found
      by false passes found rest = rw passes (deeper (first xs) at found rest)

-- ---- one more

last_there : {X : Type 0} (xs : List X) (x : X) → slice_get (xs ++ x ∷ []) (length xs) ≡ Some x
last_there [] x = refl
last_there (y ∷ xs) x = last_there xs x

still_there : {X : Type 0} (test : X → Bool) (xs : List X) (x : X) (at : ℕ) → first test xs ≡ Some at
    → slice_get (xs ++ x ∷ []) at ≡ slice_get xs at
still_there test [] x at is = absurd (cc)
still_there test (y ∷ xs) x zero is = refl
still_there test (y ∷ xs) x (suc at) is = by (test y) is (still_there test xs x at)
  where
    under : (found : Option ℕ) → option_map suc found ≡ Some (suc at) → found ≡ Some at
    under None is = absurd (cc)
    under (Some place) is = cc

    by : (passes : Bool) → (if passes then Some 0 else option_map suc (first test xs)) ≡ Some (suc at)
        → (first test xs ≡ Some at → slice_get (xs ++ x ∷ []) at ≡ slice_get xs at)
        → slice_get (xs ++ x ∷ []) at ≡ slice_get xs at
    by true found rest = absurd (cc)
    by false found rest = rest (under (first test xs) found)

module _ (dictionary : Dictionary) (key item : Value) where
  abbrev standing : Key → Pair → Bool
  standing said pair = says said (key_of dictionary.mode pair.key)

  abbrev added : Pair
  added = record { key = key; item = item }

  absent : (said : Key) → entry_of said dictionary ≡ None
      → entry_of said (entry_added key item dictionary)
      ≡ (if says said (key_of dictionary.mode key) then Some (length dictionary.pairs) else None)
  absent said none = first_is (standing said) (dictionary.pairs ++ added ∷ [])
      ∙ one_more (standing said) dictionary.pairs added (sym (first_is (standing said) dictionary.pairs) ∙ none)

  found : (other : Key) (at : ℕ) → entry_of other dictionary ≡ Some at
      → (entry_of other (entry_added key item dictionary) ≡ Some at)
      × (slice_get (dictionary.pairs ++ added ∷ []) at ≡ slice_get dictionary.pairs at)
  found other at is =
      let there : first (standing other) dictionary.pairs ≡ Some at =
      sym (first_is (standing other) dictionary.pairs) ∙ is in (
        first_is (standing other) (dictionary.pairs ++ added ∷ [])
            ∙ one_stays (standing other) dictionary.pairs added at there,
        still_there (standing other) dictionary.pairs added at there,
      )

pub added_is_last : AddedIsLast
added_is_last dictionary key item said is none =
    let says_it : says said (key_of dictionary.mode key) ≡ true = rw is (like_itself said) in (
      rw says_it at (absent dictionary key item said none),
      last_there dictionary.pairs (record { key = key; item = item }),
    )

pub others_stay_added : OthersStayAdded
others_stay_added dictionary key item other at is = found dictionary key item other at is

pub others_stay_absent : OthersStayAbsent
others_stay_absent dictionary key item other apart none = rw apart at (absent dictionary key item other none)

-- ---- the order of keys

abbrev key_in : Pair → Value
key_in pair = pair.key

keys_more : (pairs : List Pair) (pair : Pair) → map key_in (pairs ++ pair ∷ []) ≡ map key_in pairs ++ pair.key ∷ []
keys_more [] pair = refl
keys_more (one ∷ pairs) pair = ap (λ keys. one.key ∷ keys) (keys_more pairs pair)

keys_set : (pairs : List Pair) (at : ℕ) (item : Value) (found : Pair) → slice_get pairs at ≡ Some found
    → map key_in (slice_set pairs at (record found { item = item })) ≡ map key_in pairs
keys_set [] at item found is = refl
keys_set (one ∷ pairs) zero item found is = let same : found ≡ one = cc in rw same refl
keys_set (one ∷ pairs) (suc at) item found is = ap (λ keys. one.key ∷ keys) (keys_set pairs at item found is)

keys_set_there : (dictionary : Dictionary) (at : ℕ) (item : Value) (found : Option Pair)
    → slice_get dictionary.pairs at ≡ found → map key_in (item_set at item dictionary).pairs ≡ map key_in dictionary.pairs
keys_set_there dictionary at item (Some pair) is = rw is (keys_set dictionary.pairs at item pair is)
keys_set_there dictionary at item None is = rw is refl

keys_less : (pairs : List Pair) (at : ℕ) → map key_in (remove pairs at) ≡ remove (map key_in pairs) at
keys_less [] zero = refl
keys_less [] (suc at) = refl
keys_less (pair ∷ pairs) zero = refl
keys_less (pair ∷ pairs) (suc at) = ap (λ keys. pair.key ∷ keys) (keys_less pairs at)

pub keys_in_order : KeysStayInOrder
keys_in_order = record {
  added = λ dictionary key item. keys_more dictionary.pairs (record { key = key; item = item });
  set = λ dictionary at item. keys_set_there dictionary at item (slice_get dictionary.pairs at) refl;
  dropped = λ dictionary at. keys_less dictionary.pairs at;
}

-- ---- Keys, Items and Count

counts_in : (object : ObjNo) (store : Store) (count : ℤ) (is : Result Dictionary VbError)
    → dictionary_of object store ≡ is → count_of object store ≡ Ok count
    → (keys : List Value) × (items : List Value) × (keys_of object store ≡ Ok (array_of keys))
    × (items_of object store ≡ Ok (array_of items)) × (pos (length keys) ≡ count) × (pos (length items) ≡ count)
counts_in object store count (Ok dictionary) is told =
    let count_is : pos (length dictionary.pairs) ≡ count = cc (rw is at told) in (
      map (λ (pair : Pair). pair.key) dictionary.pairs,
      map (λ (pair : Pair). pair.item) dictionary.pairs,
      rw is refl,
      rw is refl,
      ap pos (length-map dictionary.pairs (λ (pair : Pair). pair.key)) ∙ count_is,
      ap pos (length-map dictionary.pairs (λ (pair : Pair). pair.item)) ∙ count_is,
    )
counts_in object store count (Err error) is told = absurd (cc (rw is at told))

pub counts_agree : CountsAgree
counts_agree object store count told = counts_in object store count (dictionary_of object store) refl told
