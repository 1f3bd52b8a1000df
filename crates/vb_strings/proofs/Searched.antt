-- A search by one pass, one step further.
use Rattle.std.proofs.Common.{◌≡◌, ◌<◌, ◌≤◌, ℕ, zero, suc, ◌+◌, ◌-◌, true, false, List, [], ◌∷◌, length, get_or, drop}
use Rattle.std.proofs.Common.{refl, sym, ap, ◌∙◌, subst, arith, inl, inr, length-drop}
use Rattle.std.proofs.lemmas.Bool.{cases_lt, cases_order, and_parts, eqb-true, eq-eqb, false_from_ne_true}
use Rattle.std.proofs.lemmas.List.{get_or-drop}
use Rattle.vb_strings.specs.declared.comparing.Comparison.{Comparison}
use Rattle.vb_strings.specs.Comparing.{counted, same}
use Rattle.vb_strings.specs.Borders.{letter, IsLongestBorder, AreBorders}
use Rattle.vb_strings.specs.Searching.{begins, stands}
use Rattle.vb_strings.proofs.BorderTables.{Agrees, agrees_more, border_agrees, none_between}
use Rattle.vb_strings.proofs.Found.{fits}

-- a text that begins with a pattern agrees with it
begins_agrees : (comparison : Comparison) (text pattern : List ℕ) → begins comparison text pattern ≡ true
    → (k : ℕ) → k < length pattern → letter comparison text k ≡ letter comparison pattern k
begins_agrees comparison text [] is k below = absurd (omega arith)
begins_agrees comparison [] (letter ∷ pattern) is k below = absurd (cc)
begins_agrees comparison (character ∷ text) (letter ∷ pattern) is zero below =
    eqb-true (counted comparison character) (counted comparison letter)
    (and_parts (same comparison character letter) (begins comparison text pattern) is).0
begins_agrees comparison (character ∷ text) (letter ∷ pattern) is (suc k) below =
    begins_agrees comparison text pattern
    (and_parts (same comparison character letter) (begins comparison text pattern) is).1 k (omega arith)

-- and one that agrees with it begins with it
agrees_begins : (comparison : Comparison) (text pattern : List ℕ) → length pattern ≤ length text
    → ((k : ℕ) → k < length pattern → letter comparison text k ≡ letter comparison pattern k)
    → begins comparison text pattern ≡ true
agrees_begins comparison text [] long all = refl
agrees_begins comparison [] (letter ∷ pattern) long all = absurd (omega arith)
agrees_begins comparison (character ∷ text) (letter ∷ pattern) long all =
    let first : same comparison character letter ≡ true =
    eq-eqb (counted comparison character) (counted comparison letter) (all 0 (omega arith)) in
    let rest : begins comparison text pattern ≡ true =
    agrees_begins comparison text pattern (omega arith) (λ k below. all (suc k) (omega arith)) in
    rw first rest

module _ (comparison : Comparison) (text pattern : List ℕ) where
  -- what stands in a text agrees with it
  pub stands_agrees : (start : ℕ) → stands comparison text pattern start ≡ true
      → Agrees (letter comparison text) (letter comparison pattern) start (length pattern)
  stands_agrees start is k below =
      ap (counted comparison) (sym (get_or-drop start text k 0))
      ∙ begins_agrees comparison (drop start text) pattern is k below

  -- what agrees with a text stands in it
  pub agrees_stands : (start : ℕ) → start + length pattern ≤ length text
      → Agrees (letter comparison text) (letter comparison pattern) start (length pattern)
      → stands comparison text pattern start ≡ true
  agrees_stands start within all =
      let long : length pattern ≤ length (drop start text) = omega (arith, length-drop start text) in
      agrees_begins comparison (drop start text) pattern long (λ k below.
      ap (counted comparison) (get_or-drop start text k 0) ∙ all k below)

  -- the pattern stands nowhere from one place up to another, and at that one so many of its characters agree
  pub record Searched (from start matched : ℕ) : Type 0 where
    pub within : start + matched ≤ length text
    pub part : matched < length pattern
    pub agrees : Agrees (letter comparison text) (letter comparison pattern) start matched
    pub none : (k : ℕ) → from ≤ k → k < start → stands comparison text pattern k ≡ false

  -- nothing is searched
  pub searched_nothing : 0 < length pattern → Searched 0 0 0
  searched_nothing some = record {
    within = omega arith;
    part = omega arith;
    agrees = λ k below. absurd (omega arith);
    none = λ k behind before. absurd (omega arith);
  }

  module _ (from start matched : ℕ) (so_far : Searched from start matched) (more : start + matched < length text) where
    -- the next character agrees
    pub searched_hit : letter comparison text (start + matched) ≡ letter comparison pattern matched
        → (matched + 1 ≡ length pattern → ⊥) → Searched from start (matched + 1)
    searched_hit hit apart =
        let part : matched < length pattern = so_far.part in
        record {
          within = omega arith;
          part = omega arith;
          agrees = agrees_more (letter comparison text) (letter comparison pattern) start matched so_far.agrees hit;
          none = so_far.none;
        }

    -- it is the last one
    pub searched_found : letter comparison text (start + matched) ≡ letter comparison pattern matched
        → matched + 1 ≡ length pattern → stands comparison text pattern start ≡ true
    searched_found hit last =
        agrees_stands start (omega arith)
        (subst (λ n. Agrees (letter comparison text) (letter comparison pattern) start n) last
        (agrees_more (letter comparison text) (letter comparison pattern) start matched so_far.agrees hit))

    -- a place at which the next character differs is none
    missed_here : (letter comparison text (start + matched) ≡ letter comparison pattern matched → ⊥)
        → stands comparison text pattern start ≡ false
    missed_here miss =
        let part : matched < length pattern = so_far.part in
        false_from_ne_true (stands comparison text pattern start) (λ is.
        miss (stands_agrees start is matched (omega arith)))

    pub searched_miss : matched ≡ 0
        → (letter comparison text (start + matched) ≡ letter comparison pattern matched → ⊥)
        → Searched from (start + 1) matched
    searched_miss none miss =
        record {
          within = omega arith;
          part = so_far.part;
          agrees = λ k below. absurd (omega arith);
          none = λ k behind before.
              elim (cases_lt k start) [
                | inl less ↦ so_far.none k behind less
                | inr least ↦
                    let same : start ≡ k = omega arith in
                    subst (λ n. stands comparison text pattern n ≡ false) same (missed_here miss)
              ];
        }

  -- the longest border of the characters that agree
  border_read : (borders : List ℕ) (count border : ℕ) → AreBorders comparison pattern borders → 0 < count
      → count ≤ length pattern → border ≡ get_or borders (count - 1) 0 → IsLongestBorder comparison pattern count border
  border_read borders count border are some within read =
      let before : count - 1 + 1 ≡ count = omega arith in
      subst (λ n. IsLongestBorder comparison pattern count n) (sym read)
      (subst (λ n. IsLongestBorder comparison pattern n (get_or borders (count - 1) 0)) before
      (are.each (count - 1) (omega arith)))

  -- the pattern stands at no place that the border passes over
  none_passed : (start count border : ℕ) → IsLongestBorder comparison pattern count border → count ≤ length pattern
      → Agrees (letter comparison text) (letter comparison pattern) start count
      → (k : ℕ) → start < k → k < start + (count - border) → stands comparison text pattern k ≡ false
  none_passed start count border is within so_far k behind before =
      false_from_ne_true (stands comparison text pattern k) (λ stood.
      none_between comparison pattern (letter comparison text) start count border so_far is k behind before
      (λ j below. stands_agrees k stood j (omega arith)))

  module _ (borders : List ℕ) (are : AreBorders comparison pattern borders) where
    -- the next character differs, and the pattern is tried further on
    pub searched_border : (from start matched border : ℕ) → Searched from start matched
        → start + matched < length text → 0 < matched
        → (letter comparison text (start + matched) ≡ letter comparison pattern matched → ⊥)
        → border ≡ get_or borders (matched - 1) 0
        → (border < matched) × Searched from (start + (matched - border)) border
    searched_border from start matched border so_far more some miss read =
        let part : matched < length pattern = so_far.part in
        let is : IsLongestBorder comparison pattern matched border =
        border_read borders matched border are some (omega arith) read in
        let shorter : border < matched = is.shorter in (
          shorter,
          record {
            within = omega arith;
            part = omega arith;
            agrees = border_agrees comparison pattern (letter comparison text) start matched border so_far.agrees is;
            none = λ k behind before.
                elim (cases_order k start) [
                  | inl same ↦
                      subst (λ n. stands comparison text pattern n ≡ false) (sym same)
                      (missed_here from start matched so_far more miss)
                  | inr (inl less) ↦ so_far.none k behind less
                  | inr (inr past) ↦
                      none_passed start matched border is (omega arith) so_far.agrees k past before
                ];
          },
        )

    -- the pattern stands, and is tried further on
    pub searched_on : (from start matched border : ℕ) → Searched from start matched
        → start + matched < length text
        → letter comparison text (start + matched) ≡ letter comparison pattern matched
        → matched + 1 ≡ length pattern → border ≡ get_or borders (matched + 1 - 1) 0
        → (border < matched + 1) × Searched (start + 1) (start + (matched + 1 - border)) border
    searched_on from start matched border so_far more hit last read =
        let all : Agrees (letter comparison text) (letter comparison pattern) start (matched + 1) =
        agrees_more (letter comparison text) (letter comparison pattern) start matched so_far.agrees hit in
        let is : IsLongestBorder comparison pattern (matched + 1) border =
        border_read borders (matched + 1) border are (omega arith) (omega arith) read in
        let shorter : border < matched + 1 = is.shorter in (
          shorter,
          record {
            within = omega arith;
            part = omega arith;
            agrees = border_agrees comparison pattern (letter comparison text) start (matched + 1) border all is;
            none = λ k behind before.
                none_passed start (matched + 1) border is (omega arith) all k (omega arith) before;
          },
        )

  -- nothing is left to search
  pub searched_all : (from start matched : ℕ) → Searched from start matched → length text ≤ start + matched
      → (k : ℕ) → from ≤ k → k < length text → stands comparison text pattern k ≡ false
  searched_all from start matched so_far done k behind before =
      let part : matched < length pattern = so_far.part in
      elim (cases_lt k start) [
        | inl less ↦ so_far.none k behind less
        | inr least ↦
            false_from_ne_true (stands comparison text pattern k) (λ is.
            let within : k + length pattern ≤ length text =
            fits comparison text pattern k (omega arith) is in
            omega arith)
      ]
