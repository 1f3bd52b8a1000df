-- Keys that say the same, and keys that are taken away.
use Rattle.std.proofs.Common.{ℕ, zero, suc, ◌<◌, ◌≡◌, ◌≢◌, ◌∙◌, Bool, true, false, if◌then◌else◌, ℤ, pos, List, [], ◌∷◌}
use Rattle.std.proofs.Common.{length, option_map, Option, Some, None, refl, sym, ap, subst, arith}
use Rattle.std.specs.Prelude.{remove, slice_index_or}
use Rattle.std.specs.Cmp.{signed_Decides}
use Rattle.std.specs.Cmp.Lexicographic.{bytes_decides}
use Rattle.std.specs.List.{AllPairs}
use Rattle.vb_value.specs.declared.session.Pair.{Pair}
use Rattle.vb_value.specs.declared.value.Value.{Value, Empty, Bool as Boolean, Int, Long, Cur, Str}
use Rattle.vb_value.specs.Folding.{folded}
use Rattle.vb_heap.specs.declared.key.Key.{Key}
use Rattle.vb_heap.specs.declared.key.Key.TheVariants.{Number, Text}
use Rattle.vb_heap.specs.Dictionary.{KeysDiffer}
use Rattle.vb_heap.specs.Keys.{key_of, same, says}
use Rattle.heap_laws.specs.Dictionaries.{CaseIsFiner, RemovedIsAbsent}
use Rattle.heap_laws.proofs.Entries.{first, first_is, like_itself}

-- keys that say the same are the same
one_key : (key other : Key) → same key other ≡ true → other ≡ key
one_key (Number m) (Number n) is = ap Number (sym ((signed_Decides m n).0 is))
one_key (Text s) (Text t) is = ap Text (sym ((bytes_decides s t).0 is))
one_key (Number m) (Text t) is = absurd (cc)
one_key (Text s) (Number n) is = absurd (cc)

says_it : (said : Key) (found : Option Key) → says said found ≡ true → found ≡ Some said
says_it said (Some other) is = ap Some (one_key said other is)
says_it said None is = absurd (cc)

not_both : (said : Key) (one other : Option Key) → one ≢ other → says said one ≡ true → says said other ≡ false
not_both said one other apart is = by (says said other) refl
  where
    by : (also : Bool) → says said other ≡ also → also ≡ false
    by false found = refl
    by true found = absurd (apart (says_it said one is ∙ sym (says_it said other found)))

-- ---- without case

loosened : Key → Key
loosened (Number n) = Number n
loosened (Text text) = Text (folded text)

-- a key without case is the one with case, folded
loose_key : (value : Value) → key_of (pos 1) value ≡ option_map loosened (key_of (pos 0) value)
unfolding loosened
loose_key Empty = refl
loose_key (Boolean truth) = refl
loose_key (Int n) = refl
loose_key (Long n) = refl
loose_key (Cur n) = refl
loose_key (Str text) = refl
loose_key _ = refl

pub case_is_finer : CaseIsFiner
case_is_finer key other said is says =
    let also : key_of (pos 0) other ≡ Some said = says_it said (key_of (pos 0) other) says in (
      loosened said,
      loose_key key ∙ ap (λ found. option_map loosened found) is,
      rw (loose_key other, also) (like_itself (loosened said)),
    )

-- ---- one entry less

module _ {X : Type 0} (test : X → Bool) where
  none_first : (xs : List X) → ((k : ℕ) (d : X) → k < length xs → test (slice_index_or xs k d) ≡ false)
      → first test xs ≡ None
  none_first [] fails = refl
  none_first (x ∷ xs) fails = rw (fails 0 x (omega arith))
      (ap (λ found. option_map suc found)
      (none_first xs (λ k d within. fails (suc k) d (omega (arith, within)))))

  -- where no later one passes besides the first, none passes once that is gone
  gone : (xs : List X) (at : ℕ) → AllPairs (λ x later. test x ≡ true → test later ≡ false) xs
      → first test xs ≡ Some at → first test (remove xs at) ≡ None
  gone [] at apart is = absurd (cc)
  gone (x ∷ xs) at apart is = by (test x) refl at is (λ place. gone xs place
      (λ i j d less within. apart (suc i) (suc j) d (omega (arith, less)) (omega (arith, within))))
    where
      under : (found : Option ℕ) (at : ℕ) → option_map suc found ≡ Some (suc at) → found ≡ Some at
      under None at is = absurd (cc)
      under (Some place) at is = cc

      never : (found : Option ℕ) → option_map suc found ≡ Some 0 → ⊥
      never None is = absurd (cc)
      never (Some place) is = absurd (cc)

      by : (passes : Bool) → test x ≡ passes → (at : ℕ)
          → (if passes then Some 0 else option_map suc (first test xs)) ≡ Some at
          → ((place : ℕ) → first test xs ≡ Some place → first test (remove xs place) ≡ None)
          → first test (remove (x ∷ xs) at) ≡ None
      by true passes zero found rest = none_first xs (λ k d within. apart 0 (suc k) d (omega arith) (omega (arith, within))
          passes)
      by true passes (suc at) found rest = absurd (cc)
      by false passes zero found rest = absurd (never (first test xs) found)
      by false passes (suc at) found rest =
          rw passes (ap (λ found. option_map suc found) (rest at (under (first test xs) at found)))

pub removed_is_absent : RemovedIsAbsent
removed_is_absent dictionary said at differ is =
    let test = λ (pair : Pair). says said (key_of dictionary.mode pair.key) in
    let once = λ (pair later : Pair) (apart : key_of dictionary.mode pair.key ≢ key_of dictionary.mode later.key)
    (passes : test pair ≡ true). not_both said (key_of dictionary.mode pair.key) (key_of dictionary.mode later.key)
    apart passes in
    first_is test (remove dictionary.pairs at)
    ∙ gone test dictionary.pairs at (λ i j d less within. once (slice_index_or dictionary.pairs i d)
    (slice_index_or dictionary.pairs j d) (differ i j d less within))
    (sym (first_is test dictionary.pairs) ∙ is)
