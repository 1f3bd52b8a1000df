-- Counts of references that are raised and lowered one by one.
use Rattle.std.proofs.Common.{ℕ, ◌+◌, ◌-◌, ◌^◌, ◌<◌, ◌≤◌, ◌≡◌, ◌≢◌, Bool, true, false, cond}
use Rattle.std.proofs.Common.{List, [], ◌∷◌, ◌++◌, map, Option, Some, None, refl, sym, ap, ◌∙◌, arith}
use Rattle.std.specs.Option.{option_map, option_map_or}
use Rattle.slot_pool.specs.Pool.{NumbersRise}
use Rattle.vb_heap.specs.Counted.{AreCounted, HaveRoom, counts_less, counts_more, parts_of}
use Rattle.vb_heap.specs.Counts.{count_of}
use Rattle.vb_heap.specs.Store.{is_number, numbered, replaced}
use Rattle.vb_heap.proofs.Parts.{alike, itself, parts_numbered, parts_replaced, parts_rise}
use Rattle.vb_heap.proofs.ValueReferences.{count_both}

-- ---- how often a number stands in a list of one

pub once : (number : ℕ) → count_of number (number ∷ []) ≡ 1
once number = grind (arith)

pub never : (number other : ℕ) → number ≢ other → count_of number (other ∷ []) ≡ 0
never number other apart = grind (arith)

-- ---- counts that are changed by their numbers

-- counts by their numbers, each of them changed
abbrev pub each_changed : (ℕ → ℕ → ℕ) → List (ℕ × ℕ) → List (ℕ × ℕ)
each_changed change counts = map (λ count. (count.0, change count.0 count.1)) counts

module _ (change : ℕ → ℕ → ℕ) where
  pub changed_numbered : (number : ℕ) (counts : List (ℕ × ℕ))
      → numbered number (each_changed change counts) ≡ option_map (change number) (numbered number counts)
  changed_numbered number [] = refl
  changed_numbered number (first ∷ others) =
      by (is_number number first.0) refl (changed_numbered number others)
    where
      by : (here : Bool) → is_number number first.0 ≡ here
          → numbered number (each_changed change others) ≡ option_map (change number) (numbered number others)
          → cond here (Some (change first.0 first.1)) (numbered number (each_changed change others))
          ≡ option_map (change number) (cond here (Some first.1) (numbered number others))
      by true is rest = ap (λ named. Some (change named first.1)) (sym (alike number first.0 is))
      by false is rest = rest

-- one number alone is changed
module _ (change : ℕ → ℕ → ℕ) (number : ℕ)
    (stays : (other count : ℕ) → other ≢ number → change other count ≡ count) where
  -- counts of greater numbers stay
  above : (low high : ℕ) (counts : List (ℕ × ℕ)) → number < low → NumbersRise low counts high
      → each_changed change counts ≡ counts
  above low high [] less rise = refl
  above low high (first ∷ others) less rise =
      let one : change first.0 first.1 ≡ first.1 =
      stays first.0 first.1 (λ same. omega (arith, less, rise.0, same)) in
      let rest : each_changed change others ≡ others =
      above (first.0 + 1) high others (omega (arith, less, rise.0)) rise.1 in
      ap (λ count. (first.0, count) ∷ each_changed change others) one ∙ ap (λ more. first ∷ more) rest

  pub one_changed : (low high : ℕ) (counts : List (ℕ × ℕ)) (found : Option ℕ) → NumbersRise low counts high
      → numbered number counts ≡ found
      → option_map_or (λ count. replaced number (change number count) counts) found counts ≡ each_changed change counts
  one_changed low high [] None rise is = refl
  one_changed low high [] (Some count) rise is = absurd (cc)
  one_changed low high (first ∷ others) found rise is =
      by (is_number number first.0) refl found is (λ deeper. one_changed (first.0 + 1) high others found rise.1 deeper)
    where
      onto : (found : Option ℕ) → option_map_or (λ count. replaced number (change number count) others) found others
          ≡ each_changed change others
          → option_map_or (λ count. first ∷ replaced number (change number count) others) found (first ∷ others)
          ≡ first ∷ each_changed change others
      onto None rest = ap (λ more. first ∷ more) rest
      onto (Some count) rest = ap (λ more. first ∷ more) rest

      by : (here : Bool) → is_number number first.0 ≡ here → (found : Option ℕ)
          → cond here (Some first.1) (numbered number others) ≡ found
          → (numbered number others ≡ found
          → option_map_or (λ count. replaced number (change number count) others) found others
          ≡ each_changed change others)
          → option_map_or (λ count. cond here ((first.0, change number count) ∷ others)
          (first ∷ replaced number (change number count) others)) found (first ∷ others)
          ≡ each_changed change (first ∷ others)
      by true here None is rest = absurd (cc)
      by true here (Some count) is rest =
          let one : number ≡ first.0 = alike number first.0 here in
          let same : first.1 ≡ count = cc in
          let others_stay : each_changed change others ≡ others =
          above (first.0 + 1) high others (omega (arith, one)) rise.1 in
          rw (others_stay, same, one) refl
      by false here found is rest =
          let apart : first.0 ≢ number = λ same. absurd (cc (itself number)) in
          onto found (rest is) ∙ ap (λ count. (first.0, count) ∷ each_changed change others)
          (sym (stays first.0 first.1 apart))

-- ---- one reference

-- a count more
pub raised : (number low high : ℕ) (counts : List (ℕ × ℕ)) (found : Option ℕ) → NumbersRise low counts high
    → numbered number counts ≡ found
    → option_map_or (λ count. replaced number (count + 1) counts) found counts ≡ counts_more (number ∷ []) counts
raised number low high counts found rise is =
    let one = once number in
    let whole = one_changed (λ other count. count + count_of other (number ∷ [])) number
    (λ other count apart. omega (arith, never other number apart)) low high counts found rise is in
    rw one at whole

-- a count less
pub lowered : (number low high : ℕ) (counts : List (ℕ × ℕ)) (found : Option ℕ) → NumbersRise low counts high
    → numbered number counts ≡ found
    → option_map_or (λ count. replaced number (count - 1) counts) found counts ≡ counts_less (number ∷ []) counts
lowered number low high counts found rise is =
    let one = once number in
    let whole = one_changed (λ other count. count - count_of other (number ∷ [])) number
    (λ other count apart. omega (arith, never other number apart)) low high counts found rise is in
    rw one at whole

-- the same of things that have a count, of which one is another with a count that differs by one
module _ {S : Type 0} (count : S → ℕ) (number low high : ℕ) (things : List (ℕ × S)) (rise : NumbersRise low things high)
  where
    pub raised_there : (old new : S) → numbered number things ≡ Some old → count new ≡ count old + 1
        → parts_of count (replaced number new things) ≡ counts_more (number ∷ []) (parts_of count things)
    raised_there old new there is =
        parts_replaced count number new things
        ∙ (ap (λ told. replaced number told (parts_of count things)) is
        ∙ raised number low high (parts_of count things) (Some (count old)) (parts_rise count low high things rise)
        (parts_numbered count number things ∙ ap (option_map count) there))

    pub lowered_there : (old new : S) → numbered number things ≡ Some old → count new ≡ count old - 1
        → parts_of count (replaced number new things) ≡ counts_less (number ∷ []) (parts_of count things)
    lowered_there old new there is =
        parts_replaced count number new things
        ∙ (ap (λ told. replaced number told (parts_of count things)) is
        ∙ lowered number low high (parts_of count things) (Some (count old)) (parts_rise count low high things rise)
        (parts_numbered count number things ∙ ap (option_map count) there))

    -- a number that nothing there has changes no count
    pub raised_nowhere : numbered number things ≡ None
        → parts_of count things ≡ counts_more (number ∷ []) (parts_of count things)
    raised_nowhere none =
        raised number low high (parts_of count things) None (parts_rise count low high things rise)
        (parts_numbered count number things ∙ ap (option_map count) none)

    pub lowered_nowhere : numbered number things ≡ None
        → parts_of count things ≡ counts_less (number ∷ []) (parts_of count things)
    lowered_nowhere none =
        lowered number low high (parts_of count things) None (parts_rise count low high things rise)
        (parts_numbered count number things ∙ ap (option_map count) none)

-- ---- several references

pub more_none : (counts : List (ℕ × ℕ)) → counts_more [] counts ≡ counts
more_none [] = refl
more_none (first ∷ others) =
    let same : first.1 + 0 ≡ first.1 = omega arith in
    ap (λ count. (first.0, count) ∷ counts_more [] others) same ∙ ap (λ rest. first ∷ rest) (more_none others)

pub less_none : (counts : List (ℕ × ℕ)) → counts_less [] counts ≡ counts
less_none [] = refl
less_none (first ∷ others) =
    let same : first.1 - 0 ≡ first.1 = omega arith in
    ap (λ count. (first.0, count) ∷ counts_less [] others) same ∙ ap (λ rest. first ∷ rest) (less_none others)

pub more_both : (one other : List ℕ) (counts : List (ℕ × ℕ))
    → counts_more (one ++ other) counts ≡ counts_more other (counts_more one counts)
more_both one other [] = refl
more_both one other (first ∷ others) =
    let both = count_both first.0 one other in
    let told : first.1 + count_of first.0 (one ++ other) ≡ first.1 + count_of first.0 one + count_of first.0 other =
    omega (arith, both) in
    ap (λ count. (first.0, count) ∷ counts_more (one ++ other) others) told
    ∙ ap (λ rest. (first.0, first.1 + count_of first.0 one + count_of first.0 other) ∷ rest)
    (more_both one other others)

pub less_both : (one other : List ℕ) (counts : List (ℕ × ℕ))
    → counts_less (one ++ other) counts ≡ counts_less other (counts_less one counts)
less_both one other [] = refl
less_both one other (first ∷ others) =
    let both = count_both first.0 one other in
    let told : first.1 - count_of first.0 (one ++ other) ≡ first.1 - count_of first.0 one - count_of first.0 other =
    omega (arith, both) in
    ap (λ count. (first.0, count) ∷ counts_less (one ++ other) others) told
    ∙ ap (λ rest. (first.0, first.1 - count_of first.0 one - count_of first.0 other) ∷ rest)
    (less_both one other others)

-- ---- room, and what is counted

pub more_numbered : (came : List ℕ) (number : ℕ) (counts : List (ℕ × ℕ))
    → numbered number (counts_more came counts) ≡ option_map (λ count. count + count_of number came)
    (numbered number counts)
more_numbered came number counts = changed_numbered (λ other count. count + count_of other came) number counts

pub less_numbered : (gone : List ℕ) (number : ℕ) (counts : List (ℕ × ℕ))
    → numbered number (counts_less gone counts) ≡ option_map (λ count. count - count_of number gone)
    (numbered number counts)
less_numbered gone number counts = changed_numbered (λ other count. count - count_of other gone) number counts

-- room for all is room for the first, and then for the others
pub room_first : (one other : List ℕ) (counts : List (ℕ × ℕ)) → HaveRoom (one ++ other) counts → HaveRoom one counts
room_first one other counts room = record {
  each = λ number count is. omega (arith, room.each number count is, count_both number one other);
}

pub room_then : (one other : List ℕ) (counts : List (ℕ × ℕ)) → HaveRoom (one ++ other) counts
    → HaveRoom other (counts_more one counts)
room_then one other counts room = record { each = λ number count is. by number count (numbered number counts) refl is }
  where
    by : (number count : ℕ) (found : Option ℕ) → numbered number counts ≡ found
        → numbered number (counts_more one counts) ≡ Some count → count + count_of number other < 2 ^ 32
    by number count None there is = absurd (cc (more_numbered one number counts))
    by number count (Some before) there is =
        let told : option_map (λ count. count + count_of number one) (Some before) ≡ Some count =
        sym (more_numbered one number counts ∙ ap (option_map (λ count. count + count_of number one)) there) ∙ is in
        let same : before + count_of number one ≡ count = cc in
        omega (arith, same, room.each number before there, count_both number one other)

-- a count that is to be raised has room
pub room_one : (number count : ℕ) (others : List ℕ) (counts : List (ℕ × ℕ)) → HaveRoom (number ∷ others) counts
    → numbered number counts ≡ Some count → count + 1 < 2 ^ 32
room_one number count others counts room is =
    omega (arith, room.each number count is, count_both number (number ∷ []) others, once number)

-- the same of things that have a count
pub thing_has_room : {S : Type 0} (count : S → ℕ) (number : ℕ) (others : List ℕ) (things : List (ℕ × S)) (thing : S)
    → HaveRoom (number ∷ others) (parts_of count things) → numbered number things ≡ Some thing
    → count thing + 1 < 2 ^ 32
thing_has_room count number others things thing room is =
    room_one number (count thing) others (parts_of count things) room
    (parts_numbered count number things ∙ ap (option_map count) is)

-- what is counted can be taken
pub counted_first : (one other : List ℕ) (counts : List (ℕ × ℕ)) → AreCounted (one ++ other) counts
    → AreCounted one counts
counted_first one other counts counted = record {
  each = λ number count is. omega (arith, counted.each number count is, count_both number one other);
}

pub counted_then : (one other : List ℕ) (counts : List (ℕ × ℕ)) → AreCounted (one ++ other) counts
    → AreCounted other (counts_less one counts)
counted_then one other counts counted =
    record { each = λ number count is. by number count (numbered number counts) refl is }
  where
    by : (number count : ℕ) (found : Option ℕ) → numbered number counts ≡ found
        → numbered number (counts_less one counts) ≡ Some count → count_of number other ≤ count
    by number count None there is = absurd (cc (less_numbered one number counts))
    by number count (Some before) there is =
        let told : option_map (λ count. count - count_of number one) (Some before) ≡ Some count =
        sym (less_numbered one number counts ∙ ap (option_map (λ count. count - count_of number one)) there) ∙ is in
        let same : before - count_of number one ≡ count = cc in
        omega (arith, same, counted.each number before there, count_both number one other)

pub counted_one : (number count : ℕ) (others : List ℕ) (counts : List (ℕ × ℕ)) → AreCounted (number ∷ others) counts
    → numbered number counts ≡ Some count → 1 ≤ count
counted_one number count others counts counted is =
    omega (arith, counted.each number count is, count_both number (number ∷ []) others, once number)
