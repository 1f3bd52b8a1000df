-- The counts of the objects of a page, and how they change as references move.
use Rattle.std.proofs.Common.{ℕ, ◌+◌, ◌-◌, ◌^◌, ◌<◌, ◌≤◌, ◌≡◌, ◌∙◌, ◌==◌, Bool, true, false, cond, List, [], ◌∷◌, ◌++◌}
use Rattle.std.proofs.Common.{map}
use Rattle.std.proofs.Common.{Option, Some, None, refl, sym, ap, arith, length}
use Rattle.std.specs.Prelude.{nat_le}
use Rattle.std.proofs.lemmas.Bool.Decides.{nat_tests}
use Rattle.std.proofs.lemmas.List.{length-map}
use Rattle.std.proofs.lemmas.List.Sums.{sum_by-cons}
use Rattle.std.specs.Option.{option_map, option_map_or}
use Rattle.vb_heap.specs.Counted.{AreCounted, AreRight, HaveRoom, ReferencesMove, counts_in, counts_less, counts_more}
use Rattle.vb_heap.specs.Counted.{reaching}
use Rattle.vb_heap.specs.Counts.{count_of}
use Rattle.vb_heap.specs.References.{all_references, references_to}
use Rattle.vb_heap.specs.Store.{Store, is_number, numbered, replaced, without}
use Rattle.vb_heap.proofs.Counting.{more_numbered}
use Rattle.vb_heap.proofs.Parts.{alike}
use Rattle.vb_heap.proofs.Sums.{counted_both}

-- ---- a number told of each thing by its number

abbrev pub told : {T : Type 0} → (ℕ → ℕ) → List (ℕ × T) → List (ℕ × ℕ)
told tell things = map (λ thing. (thing.0, tell thing.0)) things

module _ {T : Type 0} (tell : ℕ → ℕ) where
  pub told_alike : (other : ℕ → ℕ) → ((number : ℕ) → tell number ≡ other number) → (things : List (ℕ × T))
      → told tell things ≡ told other things
  told_alike other same [] = refl
  told_alike other same (first ∷ others) =
      ap (λ number. (first.0, number) ∷ told tell others) (same first.0)
      ∙ ap (λ rest. (first.0, other first.0) ∷ rest) (told_alike other same others)

  told_replaced : (number : ℕ) (thing : T) (things : List (ℕ × T))
      → told tell (replaced number thing things) ≡ told tell things
  told_replaced number thing [] = refl
  told_replaced number thing (first ∷ others) = by (is_number number first.0) (told_replaced number thing others)
    where
      by : (here : Bool) → told tell (replaced number thing others) ≡ told tell others
          → told tell (cond here ((first.0, thing) ∷ others) (first ∷ replaced number thing others))
          ≡ told tell (first ∷ others)
      by true rest = refl
      by false rest = ap (λ more. (first.0, tell first.0) ∷ more) rest

  -- a thing that is changed is the same number's
  pub told_changed : (number : ℕ) (change : T → T) (things : List (ℕ × T)) (found : Option T)
      → told tell (option_map_or (λ thing. replaced number (change thing) things) found things) ≡ told tell things
  told_changed number change things None = refl
  told_changed number change things (Some thing) = told_replaced number (change thing) things

  pub told_without : (number : ℕ) (things : List (ℕ × T))
      → told tell (without number things) ≡ without number (told tell things)
  told_without number [] = refl
  told_without number (first ∷ others) = by (is_number number first.0) (told_without number others)
    where
      by : (here : Bool) → told tell (without number others) ≡ without number (told tell others)
          → told tell (cond here others (first ∷ without number others))
          ≡ cond here (told tell others) ((first.0, tell first.0) ∷ without number (told tell others))
      by true rest = refl
      by false rest = ap (λ more. (first.0, tell first.0) ∷ more) rest

  pub told_both : (things others : List (ℕ × T)) → told tell (things ++ others) ≡ told tell things ++ told tell others
  told_both [] others = refl
  told_both (first ∷ rest) others = ap (λ more. (first.0, tell first.0) ∷ more) (told_both rest others)

  pub told_more : (came : List ℕ) (things : List (ℕ × T))
      → counts_more came (told tell things) ≡ told (λ number. tell number + count_of number came) things
  told_more came [] = refl
  told_more came (first ∷ others) =
      ap (λ more. (first.0, tell first.0 + count_of first.0 came) ∷ more) (told_more came others)

  pub told_less : (gone : List ℕ) (things : List (ℕ × T))
      → counts_less gone (told tell things) ≡ told (λ number. tell number - count_of number gone) things
  told_less gone [] = refl
  told_less gone (first ∷ others) =
      ap (λ more. (first.0, tell first.0 - count_of first.0 gone) ∷ more) (told_less gone others)

  -- what is told of a thing that is there
  pub told_numbered : (number count : ℕ) (things : List (ℕ × T)) → numbered number (told tell things) ≡ Some count
      → count ≡ tell number
  told_numbered number count [] is = absurd (cc)
  told_numbered number count (first ∷ others) is =
      by (is_number number first.0) refl is (told_numbered number count others)
    where
      by : (here : Bool) → is_number number first.0 ≡ here
          → cond here (Some (tell first.0)) (numbered number (told tell others)) ≡ Some count
          → (numbered number (told tell others) ≡ Some count → count ≡ tell number) → count ≡ tell number
      by true same found rest = let one : number ≡ first.0 = alike number first.0 same in cc
      by false same found rest = rest found

-- a count that goes with its object, and references that go
pub less_without : (gone : List ℕ) (number : ℕ) (counts : List (ℕ × ℕ))
    → counts_less gone (without number counts) ≡ without number (counts_less gone counts)
less_without gone number [] = refl
less_without gone number (first ∷ others) = by (is_number number first.0) (less_without gone number others)
  where
    by : (here : Bool) → counts_less gone (without number others) ≡ without number (counts_less gone others)
        → counts_less gone (cond here others (first ∷ without number others))
        ≡ cond here (counts_less gone others)
        ((first.0, first.1 - count_of first.0 gone) ∷ without number (counts_less gone others))
    by true rest = refl
    by false rest = ap (λ more. (first.0, first.1 - count_of first.0 gone) ∷ more) rest

-- ---- references that move

-- how many references there are to each number
abbrev pub counting : Store → ℕ → ℕ
counting store number = references_to number store

module _ {T : Type 0} (old new : Store) (things : List (ℕ × T)) where
  pub none_moved : ReferencesMove [] [] old new → told (counting new) things ≡ told (counting old) things
  none_moved moves = told_alike (counting new) (counting old)
      (λ number. let move = moves (λ other. other == number) in omega (arith, move)) things

  pub some_came : (came : List ℕ) → ReferencesMove [] came old new
      → told (counting new) things ≡ counts_more came (told (counting old) things)
  some_came came moves =
      told_alike (counting new) (λ number. counting old number + count_of number came)
      (λ number. let move = moves (λ other. other == number) in omega (arith, move)) things
      ∙ sym (told_more (counting old) came things)

  pub some_went : (gone : List ℕ) → ReferencesMove gone [] old new
      → told (counting new) things ≡ counts_less gone (told (counting old) things)
  some_went gone moves =
      told_alike (counting new) (λ number. counting old number - count_of number gone)
      (λ number. let move = moves (λ other. other == number) in omega (arith, move)) things
      ∙ sym (told_less (counting old) gone things)

  -- what went was there
  pub some_moved : (gone came : List ℕ) → ReferencesMove gone came old new
      → ((number : ℕ) → count_of number gone ≤ references_to number old)
      → told (counting new) things ≡ counts_more came (counts_less gone (told (counting old) things))
  some_moved gone came moves there =
      told_alike (counting new) (λ number. counting old number - count_of number gone + count_of number came)
      (λ number. let move = moves (λ other. other == number) in omega (arith, move, there number)) things
      ∙ (sym (told_more (λ number. counting old number - count_of number gone) came things)
      ∙ ap (counts_more came) (sym (told_less (counting old) gone things)))

-- what goes was there
pub went_there : (gone : List ℕ) (old new : Store) → ReferencesMove gone [] old new
    → (number : ℕ) → count_of number gone ≤ references_to number old
went_there gone old new moves number = let move = moves (λ other. other == number) in omega (arith, move)

-- ---- the count of an object

pub right_count : (number count : ℕ) (counts : List (ℕ × ℕ)) (top : ℕ) (store : Store) → AreRight counts top store
    → numbered number counts ≡ Some count → count ≡ references_to number store
right_count number count counts top store right is =
    told_numbered (counting store) number count store.objects
    (ap (λ told. numbered number told) (sym right.each) ∙ is)

-- there are as many counts as objects
pub as_many : (counts : List (ℕ × ℕ)) (top : ℕ) (store : Store) → AreRight counts top store
    → length counts ≡ length store.objects
as_many counts top store right =
    ap length right.each ∙ length-map store.objects (λ thing. (thing.0, references_to thing.0 store))

-- what was there is counted
pub counted_from : (gone : List ℕ) (store : Store) → ((number : ℕ) → count_of number gone ≤ references_to number store)
    → AreCounted gone (counts_in store)
counted_from gone store there = record {
  each = λ number count is.
      let same = told_numbered (counting store) number count store.objects is in omega (arith, same, there number);
}

-- where counts are those of data in which none is too great, there was room
pub room_from : (came : List ℕ) (counts : List (ℕ × ℕ)) (new : Store) → counts_in new ≡ counts_more came counts
    → ((number : ℕ) → references_to number new < 2 ^ 32) → HaveRoom came counts
room_from came counts new is few = record {
  each = λ number count there.
      let after : numbered number (counts_in new) ≡ Some (count + count_of number came) =
      ap (λ told. numbered number told) is
      ∙ (more_numbered came number counts ∙ ap (option_map (λ told. told + count_of number came)) there) in
      let same = told_numbered (counting new) number (count + count_of number came) new.objects after in
      omega (arith, same, few number);
}

-- ---- references to objects that are still to be made

reaching_cons : (top first : ℕ) (others : List ℕ)
    → reaching top (first ∷ others) ≡ cond (nat_le top first) 1 0 + reaching top others
reaching_cons top first others = sum_by-cons (λ number. cond (nat_le top number) 1 0) first others

pub reaching_both : (top : ℕ) (one other : List ℕ) → reaching top (one ++ other) ≡ reaching top one + reaching top other
reaching_both top one other = counted_both (λ number. nat_le top number) one other

higher : (top greater number : ℕ) → top ≤ greater → cond (nat_le greater number) 1 0 ≤ cond (nat_le top number) 1 0
higher top greater number below = grind (arith, nat_tests)

-- numbers below one are below a greater one
pub reaching_less : (top greater : ℕ) (numbers : List ℕ) → top ≤ greater
    → reaching greater numbers ≤ reaching top numbers
reaching_less top greater [] below = omega arith
reaching_less top greater (first ∷ others) below =
    let rest = reaching_less top greater others below in
    let one = higher top greater first below in
    let before = reaching_cons top first others in
    let after = reaching_cons greater first others in
    omega (arith, rest, one, before, after)

-- a number is below the one behind it, and below each greater one
pub reaching_one : (top number : ℕ) → number < top → reaching top (number ∷ []) ≡ 0
reaching_one top number below = grind (arith, nat_tests)

that_one : (top made number : ℕ) → top ≤ made → cond (number == made) 1 0 ≤ cond (nat_le top number) 1 0
that_one top made number below = grind (arith, nat_tests)

those : (top made : ℕ) (numbers : List ℕ) → top ≤ made → count_of made numbers ≤ reaching top numbers
those top made [] below = omega arith
those top made (first ∷ others) below =
    let rest = those top made others below in
    let one = that_one top made first below in
    let own = sum_by-cons (λ number. cond (number == made) 1 0) first others in
    let all = reaching_cons top first others in
    omega (arith, rest, one, own, all)

-- nothing refers to the next object where all references are below it
pub none_to_come : (counts : List (ℕ × ℕ)) (top : ℕ) (store : Store) → AreRight counts top store
    → top ≤ store.objects_made → references_to store.objects_made store ≡ 0
none_to_come counts top store right within =
    let all = those top store.objects_made (all_references store) within in omega (arith, all, right.below)

-- references that move stay below where those that come are
pub moved_below : (gone came : List ℕ) (old new : Store) (top greater : ℕ) → ReferencesMove gone came old new
    → top ≤ greater → reaching top (all_references old) ≡ 0 → reaching greater came ≡ 0
    → reaching greater (all_references new) ≡ 0
moved_below gone came old new top greater moves within before more =
    let move = moves (λ number. nat_le greater number) in
    let less = reaching_less top greater (all_references old) within in
    omega (arith, move, less, before, more)
