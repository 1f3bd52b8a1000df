-- The borders of a pattern, one character further.
use Rattle.std.proofs.Common.{◌≡◌, ◌<◌, ◌≤◌, ℕ, ◌+◌, ◌-◌, List, [], ◌∷◌, ◌++◌, length, get_or, refl, sym, ap, ◌∙◌, subst, arith}
use Rattle.std.proofs.Common.{inl, inr, length-append}
use Rattle.std.proofs.lemmas.Bool.{cases_lt, cases_eq, cases_order, eqb-true, eq-eqb}
use Rattle.std.proofs.lemmas.List.{get_or_append_left, get_or_push, get_or_read}
use Rattle.vb_strings.specs.declared.comparing.Comparison.{Comparison}
use Rattle.std.proofs.Common.{true, false}
use Rattle.vb_strings.specs.Comparing.{counted, same}
use Rattle.vb_strings.specs.Borders.{letter, IsBorder, IsLongestBorder}

-- what the places of two lists of characters count as agrees, from a place of the first on, for so many of them
abbrev pub Agrees : (ℕ → ℕ) → (ℕ → ℕ) → ℕ → ℕ → Type 0
Agrees text pattern start count = (k : ℕ) → k < count → text (start + k) ≡ pattern k

-- no later place up to another agrees to the character behind a number
abbrev pub Passed : Comparison → List ℕ → ℕ → ℕ → Type 0
Passed comparison pattern start end =
    (s : ℕ) → 0 < s → s < start → ¬ ((k : ℕ) → s + k < end → letter comparison pattern (s + k) ≡ letter comparison pattern k)

module _ (comparison : Comparison) (text pattern : List ℕ) (i j x y : ℕ) (in_text : i < length text)
    (in_pattern : j < length pattern) (first : x ≡ get_or text i x) (second : y ≡ get_or pattern j y) where
  counted_first : counted comparison x ≡ letter comparison text i
  counted_first = ap (counted comparison) (get_or_read text i x in_text first 0)

  counted_second : counted comparison y ≡ letter comparison pattern j
  counted_second = ap (counted comparison) (get_or_read pattern j y in_pattern second 0)

  -- two characters that were read and are the same
  pub hit_read : same comparison x y ≡ true → letter comparison text i ≡ letter comparison pattern j
  hit_read is =
      sym counted_first ∙ eqb-true (counted comparison x) (counted comparison y) is ∙ counted_second

  -- two that are not
  pub miss_read : same comparison x y ≡ false → letter comparison text i ≡ letter comparison pattern j → ⊥
  miss_read is alike =
      let equal : same comparison x y ≡ true =
      eq-eqb (counted comparison x) (counted comparison y) (counted_first ∙ alike ∙ sym counted_second) in
      absurd (cc)

-- one more character agrees
pub agrees_more : (text pattern : ℕ → ℕ) (start count : ℕ) → Agrees text pattern start count
    → text (start + count) ≡ pattern count → Agrees text pattern start (count + 1)
agrees_more text pattern start count so_far hit k below =
    elim (cases_lt k count) [
      | inl less ↦ so_far k less
      | inr more ↦
          let same : k ≡ count = omega arith in
          ap (λ n. text (start + n)) same ∙ hit ∙ ap pattern (sym same)
    ]

module _ (comparison : Comparison) (pattern : List ℕ) where
  -- what agrees in more characters agrees in fewer
  pub passed_more : (start end : ℕ) → Passed comparison pattern start end
      → Passed comparison pattern start (end + 1)
  passed_more start end so_far s some below all = so_far s some below (λ k within. all k (omega arith))

  -- a border that is longer than what agrees from a place on begins before it
  longer : (start width border : ℕ) → Passed comparison pattern start width → border < width
      → width < start + border → IsBorder comparison pattern width border → ⊥
  longer start width border passed shorter early is =
      passed (width - border) (omega arith) (omega arith) (λ k within. is k (omega arith))

  -- the character behind agrees too
  pub border_of_match : (start count : ℕ) → 0 < start
      → Agrees (letter comparison pattern) (letter comparison pattern) start count
      → letter comparison pattern (start + count) ≡ letter comparison pattern count
      → Passed comparison pattern start (start + count + 1)
      → IsLongestBorder comparison pattern (start + count + 1) (count + 1)
  border_of_match start count some so_far hit passed = record {
    shorter = omega arith;
    stands = λ k below.
        let place : start + count + 1 - (count + 1) + k ≡ start + k = omega arith in
        ap (letter comparison pattern) place
        ∙ agrees_more (letter comparison pattern) (letter comparison pattern) start count so_far hit k below;
    longest = λ other more less is. longer start (start + count + 1) other passed (omega arith) (omega arith) is;
  }

  -- no character agrees
  pub border_of_miss : (start : ℕ) → 0 < start
      → (letter comparison pattern start ≡ letter comparison pattern 0 → ⊥)
      → Passed comparison pattern start (start + 1) → IsLongestBorder comparison pattern (start + 1) 0
  border_of_miss start some miss passed = record {
    shorter = omega arith;
    stands = λ k below. absurd (omega arith);
    longest = λ other more less is.
        elim (cases_eq other 1) [
          | inl one ↦
              let place : start + 1 - other + 0 ≡ start = omega arith in
              miss (ap (letter comparison pattern) (sym place) ∙ is 0 (omega arith))
          | inr apart ↦ longer start (start + 1) other passed (omega arith) (omega arith) is
        ];
  }

  pub passed_miss : (start : ℕ) → (letter comparison pattern start ≡ letter comparison pattern 0 → ⊥)
      → Passed comparison pattern start (start + 1) → Passed comparison pattern (start + 1) (start + 1 + 1)
  passed_miss start miss passed s some below all =
      elim (cases_eq s start) [
        | inl same ↦
            let place : s + 0 ≡ start = omega arith in
            miss (ap (letter comparison pattern) (sym place) ∙ all 0 (omega arith))
        | inr apart ↦ passed s some (omega arith) (λ k within. all k (omega arith))
      ]

  module _ (text : ℕ → ℕ) (start count border : ℕ)
      (so_far : Agrees text (letter comparison pattern) start count)
      (is : IsLongestBorder comparison pattern count border) where
    -- the border agrees further on
    pub border_agrees : Agrees text (letter comparison pattern) (start + (count - border)) border
    border_agrees k below =
        let shorter : border < count = is.shorter in
        let place : start + (count - border) + k ≡ start + (count - border + k) = omega arith in
        ap text place ∙ so_far (count - border + k) (omega arith) ∙ is.stands k below

    -- nothing agrees from a place before that
    pub none_between : (s : ℕ) → start < s → s < start + (count - border)
        → Agrees text (letter comparison pattern) s (start + count - s) → ⊥
    none_between s behind early all =
        let shorter : border < count = is.shorter in
        is.longest (start + count - s) (omega arith) (omega arith) (λ k below.
        let place : count - (start + count - s) + k ≡ s - start + k = omega arith in
        let further : start + (s - start + k) ≡ s + k = omega arith in
        ap (letter comparison pattern) place
        ∙ sym (so_far (s - start + k) (omega arith))
        ∙ ap text further
        ∙ all k below)

  -- no place before that agrees to the character behind
  pub passed_border : (start count border : ℕ)
      → Agrees (letter comparison pattern) (letter comparison pattern) start count
      → (letter comparison pattern (start + count) ≡ letter comparison pattern count → ⊥)
      → IsLongestBorder comparison pattern count border → Passed comparison pattern start (start + count + 1)
      → Passed comparison pattern (start + (count - border)) (start + (count - border) + border + 1)
  passed_border start count border so_far miss is passed s some below all =
      let shorter : border < count = is.shorter in
      elim (cases_order s start) [
        | inl same ↦
            let place : s + count ≡ start + count = omega arith in
            miss (ap (letter comparison pattern) (sym place) ∙ all count (omega arith))
        | inr (inl before) ↦ passed s some before (λ k within. all k (omega arith))
        | inr (inr behind) ↦
            none_between (letter comparison pattern) start count border so_far is s behind below
            (λ k within. all k (omega arith))
      ]

  -- the longest borders of the first so many beginnings
  abbrev pub BordersUpTo : List ℕ → ℕ → Type 0
  BordersUpTo borders count = (before : ℕ) → before < count
      → IsLongestBorder comparison pattern (before + 1) (get_or borders before 0)

  -- one more border
  pub borders_more : (borders : List ℕ) (count border : ℕ) → length borders ≡ count → BordersUpTo borders count
      → IsLongestBorder comparison pattern (count + 1) border → BordersUpTo (borders ++ border ∷ []) (count + 1)
  borders_more borders count border long so_far is before within =
      elim (cases_lt before count) [
        | inl less ↦
            let same : get_or borders before 0 ≡ get_or (borders ++ border ∷ []) before 0 =
            sym (get_or_append_left borders (border ∷ []) 0 before (omega arith)) in
            subst (λ n. IsLongestBorder comparison pattern (before + 1) n) same (so_far before less)
        | inr more ↦
            let last : count ≡ before = omega arith in
            let same : border ≡ get_or (borders ++ border ∷ []) before 0 =
            sym (get_or_push borders border 0 before (long ∙ last)) in
            subst (λ n. IsLongestBorder comparison pattern (n + 1) (get_or (borders ++ border ∷ []) before 0)) last
            (subst (λ n. IsLongestBorder comparison pattern (count + 1) n) same is)
      ]

  -- how far the borders are known, where so many characters agree from a place on
  pub record Known (borders : List ℕ) (start matched : ℕ) : Type 0 where
    pub some : 0 < start
    pub within : start + matched ≤ length pattern
    pub one_each : length borders ≡ start + matched
    pub agrees : Agrees (letter comparison pattern) (letter comparison pattern) start matched
    pub passed : Passed comparison pattern start (start + matched + 1)
    pub each : BordersUpTo borders (start + matched)

  -- one character has no shorter border
  pub known_one : 0 < length pattern → Known (0 ∷ []) 1 0
  known_one some = record {
    some = omega arith;
    within = omega arith;
    one_each = refl;
    agrees = λ k below. absurd (omega arith);
    passed = λ s above below all. absurd (omega arith);
    each = λ before below.
        let first : before ≡ 0 = omega arith in
        subst (λ n. IsLongestBorder comparison pattern (n + 1) (get_or (0 ∷ []) n 0)) (sym first) (record {
          shorter = omega arith;
          stands = λ k none. absurd (omega arith);
          longest = λ other more less is. absurd (omega arith);
        });
  }

  -- the next character agrees
  pub known_hit : (borders : List ℕ) (start matched : ℕ) → Known borders start matched
      → start + matched < length pattern
      → letter comparison pattern (start + matched) ≡ letter comparison pattern matched
      → Known (borders ++ (matched + 1) ∷ []) start (matched + 1)
  known_hit borders start matched known more hit =
      let further : start + (matched + 1) ≡ start + matched + 1 = omega arith in
      record {
        some = known.some;
        within = omega (arith, known.within);
        one_each = length-append borders ((matched + 1) ∷ []) ∙ omega (arith, known.one_each);
        agrees = agrees_more (letter comparison pattern) (letter comparison pattern) start matched known.agrees hit;
        passed = subst (λ n. Passed comparison pattern start (n + 1)) (sym further)
            (passed_more start (start + matched + 1) known.passed);
        each = subst (λ n. BordersUpTo (borders ++ (matched + 1) ∷ []) n) (sym further)
            (borders_more borders (start + matched) (matched + 1) known.one_each known.each
            (border_of_match start matched known.some known.agrees hit known.passed));
      }

  -- the next character is not the first one
  pub known_miss : (borders : List ℕ) (start matched : ℕ) → Known borders start matched
      → start + matched < length pattern → matched ≡ 0
      → (letter comparison pattern (start + matched) ≡ letter comparison pattern matched → ⊥)
      → Known (borders ++ 0 ∷ []) (start + 1) matched
  known_miss borders start matched known more none miss =
      let here : start + matched ≡ start = omega arith in
      let further : start + 1 + matched ≡ start + matched + 1 = omega arith in
      let next : start + matched + 1 ≡ start + 1 = omega arith in
      let passed : Passed comparison pattern start (start + 1) =
      subst (λ n. Passed comparison pattern start n) next known.passed in
      let missed : letter comparison pattern start ≡ letter comparison pattern 0 → ⊥ =
      λ is. miss (ap (letter comparison pattern) here ∙ is ∙ ap (letter comparison pattern) (sym none)) in
      record {
        some = omega arith;
        within = omega arith;
        one_each = length-append borders (0 ∷ []) ∙ omega (arith, known.one_each);
        agrees = λ k below. absurd (omega arith);
        passed = subst (λ n. Passed comparison pattern (start + 1) (n + 1)) (sym (further ∙ next))
            (passed_miss start missed passed);
        each = subst (λ n. BordersUpTo (borders ++ 0 ∷ []) n) (sym further)
            (borders_more borders (start + matched) 0 known.one_each known.each
            (subst (λ n. IsLongestBorder comparison pattern n 0) (sym next)
            (border_of_miss start known.some missed passed)));
      }

  -- the next character differs, and the pattern is tried further on
  pub known_border : (borders : List ℕ) (start matched : ℕ) → Known borders start matched
      → start + matched < length pattern → 0 < matched
      → (letter comparison pattern (start + matched) ≡ letter comparison pattern matched → ⊥)
      → (border : ℕ) → border ≡ get_or borders (matched - 1) 0
      → (border < matched) × Known borders (start + (matched - border)) border
  known_border borders start matched known more some miss border read =
      let before : matched - 1 + 1 ≡ matched = omega arith in
      let first : 0 < start = known.some in
      let is : IsLongestBorder comparison pattern matched border =
      subst (λ n. IsLongestBorder comparison pattern matched n) (sym read)
      (subst (λ n. IsLongestBorder comparison pattern n (get_or borders (matched - 1) 0)) before
      (known.each (matched - 1) (omega arith))) in
      let shorter : border < matched = is.shorter in
      let here : start + (matched - border) + border ≡ start + matched = omega arith in (
        shorter,
        record {
          some = omega arith;
          within = omega arith;
          one_each = known.one_each ∙ sym here;
          agrees = border_agrees (letter comparison pattern) start matched border known.agrees is;
          passed = passed_border start matched border known.agrees miss is known.passed;
          each = subst (λ n. BordersUpTo borders n) (sym here) known.each;
        },
      )
