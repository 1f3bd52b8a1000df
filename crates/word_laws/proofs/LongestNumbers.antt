-- No longer front of what is left than a number behind `&` is a word.
use Rattle.std.proofs.Common.{◌≡◌, ℕ, ◌+◌, ◌<◌, ◌≤◌, ◌⊎◌, Bool, true, false, eqb, ltb, leb, ◌&&◌, ◌||◌}
use Rattle.std.proofs.Common.{List, [], ◌∷◌, ◌++◌, length, get_or, drop, take, refl, sym, ap, ◌∙◌, subst, inl, inr}
use Rattle.std.proofs.Common.{arith, zero, suc, if◌then◌else◌}
use Rattle.std.proofs.lemmas.Bool.{eq-eqb, false≢true}
use Rattle.std.proofs.lemmas.Bool.Decides.{nat_tests}
use Rattle.std.proofs.lemmas.List.{append-nil, get_or-drop, get_or-take, length-take-le}
use Rattle.std.specs.Int.{w16, w32, cast_signed}
use Rattle.std.specs.List.{list_all, prefix_len}
use Rattle.std.specs.Str.Parse.{digits_value}
use Rattle.vb_value.specs.declared.token.Symbol.{Symbol}
use Rattle.vb_value.specs.declared.token.Symbol.TheVariants as s
use Rattle.vb_value.specs.declared.token.TokenKind.{TokenKind}
use Rattle.vb_value.specs.declared.token.TokenKind.TheVariants as kind
use Rattle.vb_lex.specs.declared.fault.LexFault.TheVariants.{BadNumber}
use Rattle.vb_lex.specs.declared.piece.Piece.TheVariants.{Word, Fault}
use Rattle.vb_lex.specs.Characters.{ampersand, capital_h, capital_o, is_decimal, is_hexadecimal, is_octal, small_h}
use Rattle.vb_lex.specs.Characters.{small_o}
use Rattle.vb_lex.specs.Numbers.{ampersand_word, based, based_kind, is_spoilt}
use Rattle.word_laws.specs.Spelling.{HasValue, IsBased, IsSpelled, symbol_text}
use Rattle.word_laws.proofs.Beginnings.{Mark, beginning, begins_with, decimal_begins, first_true, head_of, run_longest}
use Rattle.word_laws.proofs.Longest.{IsMost, IsMostOf, front_of, pick, tail_of}

-- `&` as a whole word
symbol_alone : (x : Symbol) (c : ℕ) (text : List ℕ) → c ∷ text ≡ symbol_text x → c ≡ ampersand → text ≡ []
symbol_alone s.Ampersand c text same is = ap tail_of same
symbol_alone s.AtMost c text same is = absurd (omega (arith, ap head_of same, is))
symbol_alone s.AtLeast c text same is = absurd (omega (arith, ap head_of same, is))
symbol_alone s.Backslash c text same is = absurd (omega (arith, ap head_of same, is))
symbol_alone s.Close c text same is = absurd (omega (arith, ap head_of same, is))
symbol_alone s.Colon c text same is = absurd (omega (arith, ap head_of same, is))
symbol_alone s.Comma c text same is = absurd (omega (arith, ap head_of same, is))
symbol_alone s.Equal c text same is = absurd (omega (arith, ap head_of same, is))
symbol_alone s.Greater c text same is = absurd (omega (arith, ap head_of same, is))
symbol_alone s.Less c text same is = absurd (omega (arith, ap head_of same, is))
symbol_alone s.Minus c text same is = absurd (omega (arith, ap head_of same, is))
symbol_alone s.NotEqual c text same is = absurd (omega (arith, ap head_of same, is))
symbol_alone s.Open c text same is = absurd (omega (arith, ap head_of same, is))
symbol_alone s.Plus c text same is = absurd (omega (arith, ap head_of same, is))
symbol_alone s.Star c text same is = absurd (omega (arith, ap head_of same, is))
symbol_alone s.PathPoint c text same is = absurd (omega (arith, ap head_of same, is))
symbol_alone s.WithPoint c text same is = absurd (omega (arith, ap head_of same, is))

-- what stands behind `&` in a word: nothing, or a number, with a `&` behind it or not
abbrev IsNumber : ℕ → List ℕ → Type 0
IsNumber c text =
    (front : List ℕ) × (value : ℕ) × HasValue (c ∷ front) value × ((text ≡ front) ⊎ (text ≡ front ++ ampersand ∷ []))

no_digit : (c : ℕ) → c ≡ ampersand → is_decimal c ≡ true → ⊥
no_digit c is digit = grind (arith, nat_tests)

no_value : (value : ℕ) → HasValue [] value → ⊥
no_value value (inl has) = let written = has.1.written in cc
no_value value (inr has) = let written = has.1.written in cc

long_number : (front text : List ℕ) (c value : ℕ) → c ∷ text ≡ front ++ ampersand ∷ [] → HasValue front value
    → IsNumber c text
long_number [] text c value same has = absurd (no_value value has)
long_number (e ∷ front) text c value same has =
    let P : ℕ → Type 0 = λ d. HasValue (d ∷ front) value in
    (front, value, subst P (sym (ap head_of same)) has, inr (ap tail_of same))

number_of : (other : TokenKind) (c : ℕ) (text : List ℕ) → c ≡ ampersand → IsSpelled other (c ∷ text)
    → (text ≡ []) ⊎ IsNumber c text
number_of (kind.Symbol x) c text is spelled = inl (symbol_alone x c text spelled is)
number_of (kind.Integer v) c text is (inl spelled) = absurd (no_digit c is
    (decimal_begins c spelled.0 text spelled.1))
number_of (kind.Integer v) c text is (inr spelled) = inr (text, spelled.0, spelled.1, inl refl)
number_of (kind.Long v) c text is (inl spelled) = absurd (no_digit c is (decimal_begins c spelled.0 text spelled.1))
number_of (kind.Long v) c text is (inr (inl spelled)) = inr (text, spelled.0, spelled.1, inl refl)
number_of (kind.Long v) c text is (inr (inr spelled)) =
    inr (long_number spelled.0 text c spelled.1 spelled.2 spelled.3)
number_of (kind.Keyword w) c text is spelled =
    absurd (begins_with (kind.Keyword w) c text Mark (ap beginning is) spelled)
number_of (kind.Name x false) c text is spelled =
    absurd (begins_with (kind.Name x false) c text Mark (ap beginning is) spelled)
number_of (kind.Name x true) c text is spelled =
    absurd (begins_with (kind.Name x true) c text Mark (ap beginning is) spelled)
number_of (kind.String x) c text is spelled =
    absurd (begins_with (kind.String x) c text Mark (ap beginning is) spelled)
number_of kind.LineEnd c text is spelled =
    absurd (begins_with kind.LineEnd c text Mark (ap beginning is) spelled)
number_of (kind.PageText x) c text is spelled = absurd spelled
number_of kind.PageWrite c text is spelled = absurd spelled

-- the digits of a number behind `&` and its letter
abbrev HasDigits : (ℕ → Bool) → List ℕ → Type 0
HasDigits test front =
    (letter : ℕ) × (digits : List ℕ) × (front ≡ letter ∷ digits) × (0 < length digits) × (list_all test digits ≡ true)

-- digits take no more than their run
digits_most : (test : ℕ → Bool) (d : ℕ) (rest front : List ℕ) (more : ℕ) → HasDigits test front
    → more ≤ length (d ∷ rest) → take more (d ∷ rest) ≡ front → more ≤ 1 + prefix_len test rest
digits_most test d rest front zero has within same = omega arith
digits_most test d rest front (suc more) has within same =
    let inside : take more rest ≡ has.1 = ap tail_of (same ∙ has.2) in
    let all : list_all test (take more rest) ≡ true = ap (list_all test) inside ∙ has.4 in
    let most = run_longest test rest more (omega arith) all in
    omega arith

-- with a `&` behind them they take one more, which stands behind the run if they are all of it
long_most : (test : ℕ → Bool) (d : ℕ) (rest front : List ℕ) (more : ℕ) → HasDigits test front
    → more ≤ length (d ∷ rest) → take more (d ∷ rest) ≡ front ++ ampersand ∷ []
    → (more ≤ 2 + prefix_len test rest)
    × (more ≡ 2 + prefix_len test rest → get_or rest (prefix_len test rest) 0 ≡ ampersand)
long_most test d rest front more has within same =
    let whole : take more (d ∷ rest) ≡ (has.0 ∷ has.1) ++ ampersand ∷ [] = same ∙ ap
    (λ t. t ++ ampersand ∷ []) has.2 in
    let parts = front_of (d ∷ rest) (has.0 ∷ has.1) ampersand more within whole in
    let inside : take (length has.1) rest ≡ has.1 = ap tail_of parts.1 in
    let all : list_all test (take (length has.1) rest) ≡ true = ap (list_all test) inside ∙ has.4 in
    let fits : length has.1 ≤ length rest = omega (arith, parts.0) in
    let most = run_longest test rest (length has.1) fits all in (
      omega (arith, parts.0),
      λ equal.
          (let here : length has.1 ≡ prefix_len test rest = omega (arith, parts.0) in
          ap (λ n. get_or rest n 0) (sym here) ∙ parts.2),
    )

single_value : (c value : ℕ) → HasValue (c ∷ []) value → ⊥
single_value c value (inl has) = let sizes = ap length has.1.written in omega arith
single_value c value (inr has) = let sizes = ap length has.1.written in omega arith

front_first : (c value : ℕ) (front : List ℕ) → HasValue (c ∷ front) value
    → get_or (front ++ ampersand ∷ []) 0 0 ≡ get_or front 0 0
front_first c value [] has = absurd (single_value c value has)
front_first c value (e ∷ front) has = refl

-- a number of a base, where each number that begins with its letter has digits of its base
number_most : (test : ℕ → Bool) (c d taken : ℕ) (rest : List ℕ) → c ≡ ampersand
    → ((front : List ℕ) (value : ℕ) → HasValue (c ∷ front) value → get_or front 0 0 ≡ d → HasDigits test front)
    → 2 + prefix_len test rest ≤ taken
    → (taken ≡ 2 + prefix_len test rest → get_or rest (prefix_len test rest) 0 ≡ ampersand → ⊥)
    → IsMost c (d ∷ rest) taken
number_most test c d taken rest is mine least last word more below within spelled =
    let text : List ℕ = take more (d ∷ rest) in
    let first : get_or text 0 0 ≡ d = get_or-take more (d ∷ rest) 0 0 (omega arith) in
    let size : length text ≡ more = length-take-le more (d ∷ rest) within in
    elim (number_of word c text is spelled) [
      | inl none ↦ (let sizes = ap length none in omega (arith, sizes))
      | inr number ↦ elim number.3 [
        | inl same ↦
            (let has = mine number.0 number.1 number.2 (sym (ap head_of same) ∙ first) in
            let most = digits_most test d rest number.0 more has within same in
            omega arith)
        | inr same ↦
            (let begins_so = sym (front_first c number.1 number.0 number.2) ∙ sym (ap head_of same) ∙ first in
            let has = mine number.0 number.1 number.2 begins_so in
            let most = long_most test d rest number.0 more has within same in
            let few = most.0 in
            let equal : more ≡ 2 + prefix_len test rest = omega arith in
            let exact : taken ≡ 2 + prefix_len test rest = omega arith in
            last exact (most.1 equal))
      ]
    ]

based_kind_most : (c : ℕ) (rest : List ℕ) (value : ℕ) (is_long : Bool) (taken : ℕ)
    → (is_long ≡ true → IsMost c rest (taken + 1)) → (is_long ≡ false → IsMost c rest taken)
    → IsMostOf c rest (based_kind value is_long taken)
based_kind_most c rest value is_long taken long short =
    pick (IsMostOf c rest) (ltb 4294967295 value) (Fault BadNumber)
    (if is_long then Word (kind.Long (cast_signed w32 value)) (taken + 1)
    else (if leb value 65535 then Word (kind.Integer (cast_signed w16 value)) taken
    else Word (kind.Long (cast_signed w32 value)) taken))
    (λ _. tt)
    (λ _. pick (IsMostOf c rest) is_long (Word (kind.Long (cast_signed w32 value)) (taken + 1))
    (if leb value 65535 then Word (kind.Integer (cast_signed w16 value)) taken
    else Word (kind.Long (cast_signed w32 value)) taken)
    long
    (λ no_long. pick (IsMostOf c rest) (leb value 65535) (Word (kind.Integer (cast_signed w16 value)) taken)
    (Word (kind.Long (cast_signed w32 value)) taken) (λ _. short no_long) (λ _. short no_long)))

behind_digits : (c d count : ℕ) (rest : List ℕ)
    → get_or (drop (2 + count) (c ∷ d ∷ rest)) 0 0 ≡ get_or rest count 0
behind_digits c d count rest =
    let places : 2 + count ≡ suc (suc count) = omega arith in
    let none : count + 0 ≡ count = omega arith in
    ap (λ n. get_or (drop n (c ∷ d ∷ rest)) 0 0) places ∙ get_or-drop count rest 0 0 ∙ ap (λ n. get_or rest n 0) none

based_most : (base : ℕ) (test : ℕ → Bool) (c d : ℕ) (rest : List ℕ) → c ≡ ampersand
    → ((front : List ℕ) (value : ℕ) → HasValue (c ∷ front) value → get_or front 0 0 ≡ d → HasDigits test front)
    → IsMostOf c (d ∷ rest) (based base test (c ∷ d ∷ rest))
based_most base test c d rest is mine =
    let count : ℕ = prefix_len test rest in
    let mark : Bool = eqb (get_or (drop (2 + count) (c ∷ d ∷ rest)) 0 0) ampersand in
    pick (IsMostOf c (d ∷ rest)) (is_spoilt (drop (2 + count) (c ∷ d ∷ rest))) (Fault BadNumber)
    (based_kind (digits_value base (take count rest)) mark (2 + count))
    (λ _. tt)
    (λ _. based_kind_most c (d ∷ rest) (digits_value base (take count rest)) mark (2 + count)
    (λ _. number_most test c d (2 + count + 1) rest is mine (omega arith) (λ same _. omega arith))
    (λ no_mark. number_most test c d (2 + count) rest is mine (omega arith) (λ _ there.
    false≢true (sym no_mark ∙ eq-eqb (get_or (drop (2 + count) (c ∷ d ∷ rest)) 0 0) ampersand
    (behind_digits c d count rest ∙ there)))))

-- the letter tells the base
digits_of_base : (test : ℕ → Bool) (capital small c : ℕ) (front digits : List ℕ)
    → IsBased capital small test (c ∷ front) digits → HasDigits test front
digits_of_base test capital small c front digits has = (has.letter, digits, ap tail_of has.written, has.some, has.all)

letter_is : (capital small c : ℕ) (test : ℕ → Bool) (front digits : List ℕ) → IsBased capital small test
    (c ∷ front) digits
    → (get_or front 0 0 ≡ capital) ⊎ (get_or front 0 0 ≡ small)
letter_is capital small c test front digits has =
    let Either : ℕ → Type 0 = λ d. (d ≡ capital) ⊎ (d ≡ small) in
    subst Either (sym (ap (λ t. get_or t 1 0) has.written)) has.either

apart : (d : ℕ) → (d ≡ capital_h) ⊎ (d ≡ small_h) → (d ≡ capital_o) ⊎ (d ≡ small_o) → ⊥
apart d (inl h) (inl o) = omega arith
apart d (inl h) (inr o) = omega arith
apart d (inr h) (inl o) = omega arith
apart d (inr h) (inr o) = omega arith

hexadecimal_mine : (c d : ℕ) → (d ≡ capital_h) ⊎ (d ≡ small_h) → (front : List ℕ) (value : ℕ)
    → HasValue (c ∷ front) value → get_or front 0 0 ≡ d → HasDigits is_hexadecimal front
hexadecimal_mine c d letter front value (inl has) first =
    digits_of_base is_hexadecimal capital_h small_h c front has.0 has.1
hexadecimal_mine c d letter front value (inr has) first =
    let Other : ℕ → Type 0 = λ e. (e ≡ capital_o) ⊎ (e ≡ small_o) in
    absurd (apart d letter (subst Other first (letter_is capital_o small_o c is_octal front has.0 has.1)))

octal_mine : (c d : ℕ) → (d ≡ capital_o) ⊎ (d ≡ small_o) → (front : List ℕ) (value : ℕ)
    → HasValue (c ∷ front) value → get_or front 0 0 ≡ d → HasDigits is_octal front
octal_mine c d letter front value (inr has) first = digits_of_base is_octal capital_o small_o c front has.0 has.1
octal_mine c d letter front value (inl has) first =
    let Other : ℕ → Type 0 = λ e. (e ≡ capital_h) ⊎ (e ≡ small_h) in
    absurd (apart d (subst Other first (letter_is capital_h small_h c is_hexadecimal front has.0 has.1)) letter)

-- what a number shows behind its `&`: its letter, and a digit
abbrev Shows : ℕ → ℕ → (ℕ → Bool) → List ℕ → Type 0
Shows capital small test text =
    ((get_or text 0 0 ≡ capital) ⊎ (get_or text 0 0 ≡ small)) × (test (get_or text 1 0) ≡ true) × (2 ≤ length text)

shows_digits : (capital small letter : ℕ) (test : ℕ → Bool) (digits more : List ℕ) → (letter ≡ capital) ⊎
    (letter ≡ small)
    → 0 < length digits → list_all test digits ≡ true → Shows capital small test (letter ∷ digits ++ more)
shows_digits capital small letter test [] more either some all = absurd (omega arith)
shows_digits capital small letter test (e ∷ digits) more either some all =
    (either, first_true (test e) (list_all test digits) all, omega arith)

shows_front : (capital small c : ℕ) (test : ℕ → Bool) (front digits text : List ℕ)
    → IsBased capital small test (c ∷ front) digits → (text ≡ front) ⊎ (text ≡ front ++ ampersand ∷ [])
    → Shows capital small test text
shows_front capital small c test front digits text has (inl same) =
    let whole : has.letter ∷ digits ++ [] ≡ text =
    append-nil (has.letter ∷ digits) ∙ sym (same ∙ ap tail_of has.written) in
    subst (Shows capital small test) whole
    (shows_digits capital small has.letter test digits [] has.either has.some has.all)
shows_front capital small c test front digits text has (inr same) =
    let whole : has.letter ∷ digits ++ ampersand ∷ [] ≡ text =
    sym (same ∙ ap (λ t. t ++ ampersand ∷ []) (ap tail_of has.written)) in
    subst (Shows capital small test) whole
    (shows_digits capital small has.letter test digits (ampersand ∷ []) has.either has.some has.all)

not_seen : (d capital small : ℕ) (other : Bool) → (d ≡ capital) ⊎ (d ≡ small) → other ≡ true
    → ((eqb d capital || eqb d small) && other) ≡ false → ⊥
not_seen d capital small other letter digit none = grind (arith, nat_tests)

-- what a front of a text shows, the text shows
shown_by : (capital small : ℕ) (test : ℕ → Bool) (rest : List ℕ) (more : ℕ) → more ≤ length rest
    → Shows capital small test (take more rest)
    → ((eqb (get_or rest 0 0) capital || eqb (get_or rest 0 0) small) && test (get_or rest 1 0)) ≡ false → ⊥
shown_by capital small test rest more within shows none =
    let size : length (take more rest) ≡ more = length-take-le more rest within in
    let first : get_or (take more rest) 0 0 ≡ get_or rest 0 0 = get_or-take more rest 0 0 (omega (arith, shows.2)) in
    let second : get_or (take more rest) 1 0 ≡ get_or rest 1 0 = get_or-take more rest 1 0 (omega (arith, shows.2)) in
    let Letter : ℕ → Type 0 = λ e. (e ≡ capital) ⊎ (e ≡ small) in
    not_seen (get_or rest 0 0) capital small (test (get_or rest 1 0)) (subst Letter first shows.0)
    (ap test (sym second) ∙ shows.1) none

alone_most : (c : ℕ) (rest : List ℕ) → c ≡ ampersand
    → ((eqb (get_or rest 0 0) capital_h || eqb (get_or rest 0 0) small_h) && is_hexadecimal (get_or rest 1 0)) ≡ false
    → ((eqb (get_or rest 0 0) capital_o || eqb (get_or rest 0 0) small_o) && is_octal (get_or rest 1 0)) ≡ false
    → IsMost c rest 1
alone_most c rest is no_h no_o word more below within spelled =
    let text : List ℕ = take more rest in
    let size : length text ≡ more = length-take-le more rest within in
    elim (number_of word c text is spelled) [
      | inl none ↦ (let sizes = ap length none in omega (arith, sizes))
      | inr number ↦ elim number.2 [
        | inl has ↦ shown_by capital_h small_h is_hexadecimal rest more within
            (shows_front capital_h small_h c is_hexadecimal number.0 has.0 text has.1 number.3) no_h
        | inr has ↦ shown_by capital_o small_o is_octal rest more within
            (shows_front capital_o small_o c is_octal number.0 has.0 text has.1 number.3) no_o
      ]
    ]

pub ampersand_most : (c : ℕ) (rest : List ℕ) → c ≡ ampersand → IsMostOf c rest (ampersand_word (c ∷ rest))
ampersand_most c [] is = alone_most c [] is refl refl
ampersand_most c (d ∷ rest) is =
    let digit : ℕ = get_or rest 0 0 in
    let h : Bool = (eqb d capital_h || eqb d small_h) && is_hexadecimal digit in
    let o : Bool = (eqb d capital_o || eqb d small_o) && is_octal digit in
    pick (IsMostOf c (d ∷ rest)) h (based 16 is_hexadecimal (c ∷ d ∷ rest))
    (if o then based 8 is_octal (c ∷ d ∷ rest) else Word (kind.Symbol s.Ampersand) 1)
    (λ seen. based_most 16 is_hexadecimal c d rest is
    (hexadecimal_mine c d (letter_seen d capital_h small_h (is_hexadecimal digit) seen)))
    (λ no_h. pick (IsMostOf c (d ∷ rest)) o (based 8 is_octal (c ∷ d ∷ rest)) (Word (kind.Symbol s.Ampersand) 1)
    (λ seen. based_most 8 is_octal c d rest is
    (octal_mine c d (letter_seen d capital_o small_o (is_octal digit) seen)))
    (λ no_o. alone_most c (d ∷ rest) is no_h no_o))
  where
    letter_seen : (d capital small : ℕ) (other : Bool) → ((eqb d capital || eqb d small) && other) ≡ true
        → (d ≡ capital) ⊎ (d ≡ small)
    letter_seen d capital small other is = grind (arith, nat_tests)
