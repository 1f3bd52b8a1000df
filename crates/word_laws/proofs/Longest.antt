-- No longer front of what is left at a word's place is a word.
use Rattle.std.proofs.Common.{◌≡◌, ◌≢◌, ℕ, ◌+◌, ◌<◌, ◌≤◌, ◌⊎◌, Bool, true, false, eqb}
use Rattle.std.proofs.Common.{List, [], ◌∷◌, ◌++◌, Option, Some, None, length, get_or, drop}
use Rattle.std.proofs.Common.{take, refl, sym, ap, ◌∙◌, subst, inl, inr, arith, suc, if◌then◌else◌}
use Rattle.std.proofs.lemmas.Bool.{eq-eqb, eqb-true, false≢true}
use Rattle.std.proofs.lemmas.Bool.Decides.{nat_tests}
use Rattle.std.specs.Char.{is_ascii_alphabetic}
use Rattle.std.specs.List.{list_all, prefix_len}
use Rattle.vb_value.specs.declared.token.Symbol.{Symbol}
use Rattle.vb_value.specs.declared.token.Symbol.TheVariants as s
use Rattle.vb_value.specs.declared.token.TokenKind.{TokenKind}
use Rattle.vb_value.specs.declared.token.TokenKind.TheVariants as kind
use Rattle.vb_lex.specs.declared.piece.Piece.{Piece}
use Rattle.vb_lex.specs.declared.piece.Piece.TheVariants.{Word}
use Rattle.std.proofs.lemmas.List.{append_assoc, length-take-le, get_or-take, take-append-drop, get_or_push}
use Rattle.std.proofs.lemmas.List.{length_push, take-take, take_at}
use Rattle.vb_value.specs.Characters.{carriage_return}
use Rattle.vb_lex.specs.Characters.{ampersand, close_bracket, equal, greater}
use Rattle.vb_lex.specs.Characters.{is_bracketed, is_decimal, is_line_end, is_name_part}
use Rattle.vb_value.specs.Characters.{line_feed}
use Rattle.vb_lex.specs.Characters.{less, open_bracket, quote}
use Rattle.vb_lex.specs.Gaps.{line_end_length}
use Rattle.vb_lex.specs.Symbols.{beside, greater_word, less_word, one_character, symbol}
use Rattle.word_laws.specs.Spelling.{IsLineEnd, IsSpelled, doubled, symbol_text}
use Rattle.vb_lex.specs.Strings.{behind_front, quoted}
use Rattle.vb_lex.proofs.StringLemmas.{ended, other}
use Rattle.word_laws.proofs.Beginnings.{Bracket, Digit, Ending, Letter, Mark, Quoted, Begins, beginning, begins_with}
use Rattle.word_laws.proofs.Beginnings.{decimal_begins, digit_begins, ending_begins, front_begins, has_value_begins}
use Rattle.word_laws.proofs.Beginnings.{head_of, keyword_letters, letter_begins, letters_parts, run_longest}
use Rattle.vb_lex.proofs.Within.{line_end_moves}

-- No word that begins at a character goes on over more of what stands behind it than the word has there.
abbrev pub IsMost : ℕ → List ℕ → ℕ → Type 0
IsMost c rest taken = (other : TokenKind) (more : ℕ) → taken ≤ more → more ≤ length rest
    → IsSpelled other (c ∷ take more rest) → ⊥

-- names and keywords
parts_of : (other : TokenKind) (text : List ℕ) → Begins other Letter → IsSpelled other text
    → list_all is_name_part text ≡ true
parts_of (kind.Keyword w) text has spelled = letters_parts text (keyword_letters text w spelled)
parts_of (kind.Name x false) text has spelled = spelled.2
parts_of (kind.Name x true) text has spelled = absurd has
parts_of (kind.Symbol x) text has spelled = absurd has
parts_of (kind.Integer x) text has spelled = absurd has
parts_of (kind.Long x) text has spelled = absurd has
parts_of (kind.String x) text has spelled = absurd has
parts_of kind.LineEnd text has spelled = absurd has
parts_of (kind.PageText x) text has spelled = absurd has
parts_of kind.PageWrite text has spelled = absurd has

pub name_most : (c : ℕ) (rest : List ℕ) → is_ascii_alphabetic c ≡ true
    → IsMost c rest (prefix_len is_name_part (c ∷ rest))
name_most c rest is other more below within spelled =
    let has = begins_with other c (take more rest) Letter (letter_begins c is) spelled in
    let most = run_longest is_name_part (c ∷ rest) (suc more) (omega arith)
    (parts_of other (c ∷ take more rest) has spelled) in
    omega arith

-- numbers
decimal_no_mark : (c : ℕ) → is_decimal c ≡ true → c ≡ ampersand → ⊥
decimal_no_mark c is same = grind (arith, nat_tests)

digits_of : (other : TokenKind) (c : ℕ) (text : List ℕ) → is_decimal c ≡ true → Begins other Digit
    → IsSpelled other (c ∷ text) → list_all is_decimal (c ∷ text) ≡ true
digits_of (kind.Integer v) c text is has (inl spelled) = spelled.1.1
digits_of (kind.Integer v) c text is has (inr spelled) =
    absurd (decimal_no_mark c is (has_value_begins c spelled.0 text spelled.1))
digits_of (kind.Long v) c text is has (inl spelled) = spelled.1.1
digits_of (kind.Long v) c text is has (inr (inl spelled)) =
    absurd (decimal_no_mark c is (has_value_begins c spelled.0 text spelled.1))
digits_of (kind.Long v) c text is has (inr (inr spelled)) =
    absurd (decimal_no_mark c is (front_begins c spelled.1 text spelled.0 spelled.2 spelled.3))
digits_of (kind.Keyword w) c text is has spelled = absurd has
digits_of (kind.Name x false) c text is has spelled = absurd has
digits_of (kind.Name x true) c text is has spelled = absurd has
digits_of (kind.Symbol x) c text is has spelled = absurd has
digits_of (kind.String x) c text is has spelled = absurd has
digits_of kind.LineEnd c text is has spelled = absurd has
digits_of (kind.PageText x) c text is has spelled = absurd has
digits_of kind.PageWrite c text is has spelled = absurd has

pub decimal_most : (c : ℕ) (rest : List ℕ) → is_decimal c ≡ true → IsMost c rest (prefix_len is_decimal (c ∷ rest))
decimal_most c rest is other more below within spelled =
    let has = begins_with other c (take more rest) Digit (digit_begins c is) spelled in
    let most = run_longest is_decimal (c ∷ rest) (suc more) (omega arith)
    (digits_of other c (take more rest) is has spelled) in
    omega arith

-- line ends
cr_lf : (c : ℕ) (rest : List ℕ) → c ≡ carriage_return → get_or rest 0 0 ≡ line_feed → line_end_length (c ∷ rest) ≡ 2
cr_lf c rest first second = grind (arith, nat_tests)

line_end_of : (other : TokenKind) (text : List ℕ) → Begins other Ending → IsSpelled other text → IsLineEnd text
line_end_of kind.LineEnd text has spelled = spelled
line_end_of (kind.Keyword w) text has spelled = absurd has
line_end_of (kind.Name x false) text has spelled = absurd has
line_end_of (kind.Name x true) text has spelled = absurd has
line_end_of (kind.Symbol x) text has spelled = absurd has
line_end_of (kind.Integer x) text has spelled = absurd has
line_end_of (kind.Long x) text has spelled = absurd has
line_end_of (kind.String x) text has spelled = absurd has
line_end_of (kind.PageText x) text has spelled = absurd has
line_end_of kind.PageWrite text has spelled = absurd has

line_end_longer : (c : ℕ) (rest : List ℕ) (more : ℕ) → 0 < line_end_length (c ∷ rest)
    → line_end_length (c ∷ rest) ≤ more → more ≤ length rest → IsLineEnd (c ∷ take more rest) → ⊥
line_end_longer c rest more moves below within (inl none) = absurd cc
line_end_longer c rest more moves below within (inr (inl both)) =
    let size : length (take more rest) ≡ more = length-take-le more rest within in
    let two = ap length both in
    let one : more ≡ 1 = omega arith in
    let second : get_or (take more rest) 0 0 ≡ line_feed = ap (λ t. get_or t 1 0) both in
    let read : get_or (take more rest) 0 0 ≡ get_or rest 0 0 = get_or-take more rest 0 0 (omega arith) in
    let whole = cr_lf c rest (ap head_of both) (sym read ∙ second) in
    omega arith
line_end_longer c rest more moves below within (inr (inr (inl one))) =
    let size : length (take more rest) ≡ more = length-take-le more rest within in
    let alone = ap length one in
    omega arith
line_end_longer c rest more moves below within (inr (inr (inr one))) =
    let size : length (take more rest) ≡ more = length-take-le more rest within in
    let alone = ap length one in
    omega arith

pub line_end_most : (c : ℕ) (rest : List ℕ) → is_line_end c ≡ true → IsMost c rest (line_end_length (c ∷ rest))
line_end_most c rest is other more below within spelled =
    let has = begins_with other c (take more rest) Ending (ending_begins c is) spelled in
    line_end_longer c rest more (line_end_moves c rest is) below within (line_end_of other
    (c ∷ take more rest) has spelled)

-- names in brackets
bracketed_of : (other : TokenKind) (text : List ℕ) → Begins other Bracket → IsSpelled other text
    → (name : List ℕ) × (text ≡ open_bracket ∷ name ++ close_bracket ∷ []) × (list_all is_bracketed name ≡ true)
bracketed_of (kind.Name x true) text has spelled = (x, spelled.0, spelled.1)
bracketed_of (kind.Name x false) text has spelled = absurd has
bracketed_of (kind.Keyword w) text has spelled = absurd has
bracketed_of (kind.Symbol x) text has spelled = absurd has
bracketed_of (kind.Integer x) text has spelled = absurd has
bracketed_of (kind.Long x) text has spelled = absurd has
bracketed_of (kind.String x) text has spelled = absurd has
bracketed_of kind.LineEnd text has spelled = absurd has
bracketed_of (kind.PageText x) text has spelled = absurd has
bracketed_of kind.PageWrite text has spelled = absurd has

abbrev pub tail_of : List ℕ → List ℕ
tail_of text = drop 1 text

-- what stands before the last character of a front
pub front_of : (rest front : List ℕ) (last more : ℕ) → more ≤ length rest → take more rest ≡ front ++ last ∷ []
    → (more ≡ length front + 1) × (take (length front) rest ≡ front) × (get_or rest (length front) 0 ≡ last)
front_of rest front last more within same =
    let size : length (take more rest) ≡ more = length-take-le more rest within in
    let sizes = ap length same in
    let parts = length_push front last in
    let count : more ≡ length front + 1 = omega (arith, sizes, parts) in
    let low : length front ≤ more = omega arith in
    let cut : take (length front) (take more rest) ≡ take (length front) rest = take-take
    (length front) more rest low in
    let front_is : take (length front) (take more rest) ≡ front =
    ap (λ t. take (length front) t) same ∙ take_at front (last ∷ []) (length front) refl in
    let read : get_or (take more rest) (length front) 0 ≡ get_or rest (length front) 0 =
    get_or-take more rest (length front) 0 (omega arith) in
    let last_is : get_or (take more rest) (length front) 0 ≡ last =
    ap (λ t. get_or t (length front) 0) same ∙ get_or_push front last 0 (length front) refl in
    (count, sym cut ∙ front_is, sym read ∙ last_is)

pub bracketed_most : (c : ℕ) (rest : List ℕ) → c ≡ open_bracket → IsMost c rest (prefix_len is_bracketed rest + 2)
bracketed_most c rest is other more below within spelled =
    let has = begins_with other c (take more rest) Bracket (ap beginning is) spelled in
    let name = bracketed_of other (c ∷ take more rest) has spelled in
    let parts = front_of rest name.0 close_bracket more within (ap tail_of name.1) in
    let fits : length name.0 ≤ length rest = omega (arith, parts.0) in
    let all : list_all is_bracketed (take (length name.0) rest) ≡ true = ap (list_all is_bracketed) parts.1
    ∙ name.2 in
    let most = run_longest is_bracketed rest (length name.0) fits all in
    omega (arith, parts.0)

-- strings
abbrev Counts : ℕ → Option (List ℕ × ℕ) → Type 0
Counts least None = Unit {0}
Counts least (Some found) = least ≤ found.1

counts_behind : (front : List ℕ) (count least : ℕ) (found : Option (List ℕ × ℕ)) → Counts least found
    → Counts (least + count) (behind_front front count found)
counts_behind front count least None counts = tt
counts_behind front count least (Some found) counts = omega arith

counts_less : (most least : ℕ) (found : Option (List ℕ × ℕ)) → least ≤ most → Counts most found → Counts least found
counts_less most least None below counts = tt
counts_less most least (Some found) below counts = omega arith

counts_none : (least : ℕ) (found : Option (List ℕ × ℕ)) → found ≡ None → Counts least found
counts_none least found same = subst (Counts least) (sym same) tt

-- a closing quote stands no nearer than behind all that a longer string has
closes_late : (value more : List ℕ) → Counts (length (doubled value) + 1) (quoted (doubled value ++ quote ∷ more))
closes_late [] [] = omega arith
closes_late [] (d ∷ more) =
    let go : (b : Bool) → Counts 1 (if b then behind_front (quote ∷ []) 2 (quoted more) else Some ([], 1)) =
    elim [
      | true ↦ counts_less 2 1 (behind_front (quote ∷ []) 2 (quoted more)) (omega arith)
          (counts_behind (quote ∷ []) 2 0 (quoted more) (counts_zero (quoted more)))
      | false ↦ omega arith
    ] in
    go (eqb d quote)
  where
    counts_zero : (found : Option (List ℕ × ℕ)) → Counts 0 found
    counts_zero None = tt
    counts_zero (Some found) = omega arith
closes_late (c ∷ value) more =
    let inner = closes_late value more in
    let text : List ℕ = doubled value ++ quote ∷ more in
    let plain : eqb c quote ≡ false → Counts (length (c ∷ doubled value) + 1) (quoted (c ∷ text)) =
    λ differs. (let go : (b : Bool) → is_line_end c ≡ b → Counts (length (c ∷ doubled value) + 1) (quoted
    (c ∷ text)) =
    elim [
      | true ↦ λ ends. counts_none (length (c ∷ doubled value) + 1) (quoted (c ∷ text)) (ended c text differs ends)
      | false ↦ λ stays.
          let same = other c text differs stays in
          let behind = counts_behind (c ∷ []) 1 (length (doubled value) + 1) (quoted text) inner in
          let enough = counts_less (length (doubled value) + 1 + 1) (length (c ∷ doubled value) + 1)
          (behind_front (c ∷ []) 1 (quoted text)) (omega arith) behind in
          subst (Counts (length (c ∷ doubled value) + 1)) (sym same) enough
    ] in
    go (is_line_end c) refl) in
    let pair : Counts (length (quote ∷ quote ∷ doubled value) + 1) (behind_front (quote ∷ []) 2 (quoted text)) =
    counts_less (length (doubled value) + 1 + 2) (length (quote ∷ quote ∷ doubled value) + 1)
    (behind_front (quote ∷ []) 2 (quoted text)) (omega arith)
    (counts_behind (quote ∷ []) 2 (length (doubled value) + 1) (quoted text) inner) in
    let go : (b : Bool) → eqb c quote ≡ b
    → Counts (length ((if b then quote ∷ quote ∷ [] else c ∷ []) ++ doubled value) + 1)
    (quoted ((if b then quote ∷ quote ∷ [] else c ∷ []) ++ doubled value ++ quote ∷ more)) =
    elim [ true ↦ λ _. pair | false ↦ λ differs. plain differs ] in
    go (eqb c quote) refl

string_of : (other : TokenKind) (text : List ℕ) → Begins other Quoted → IsSpelled other text
    → (value : List ℕ) × (text ≡ quote ∷ doubled value ++ quote ∷ [])
string_of (kind.String x) text has spelled = (x, spelled)
string_of (kind.Name x false) text has spelled = absurd has
string_of (kind.Name x true) text has spelled = absurd has
string_of (kind.Keyword w) text has spelled = absurd has
string_of (kind.Symbol x) text has spelled = absurd has
string_of (kind.Integer x) text has spelled = absurd has
string_of (kind.Long x) text has spelled = absurd has
string_of kind.LineEnd text has spelled = absurd has
string_of (kind.PageText x) text has spelled = absurd has
string_of kind.PageWrite text has spelled = absurd has

pub string_most : (c : ℕ) (rest : List ℕ) (found : List ℕ × ℕ) → c ≡ quote → quoted rest ≡ Some found
    → IsMost c rest (1 + found.1)
string_most c rest found is closed word more below within spelled =
    let has = begins_with word c (take more rest) Quoted (ap beginning is) spelled in
    let string_is = string_of word (c ∷ take more rest) has spelled in
    let front : List ℕ = doubled string_is.0 in
    let inside : take more rest ≡ front ++ quote ∷ [] = ap tail_of string_is.1 in
    let parts = front_of rest front quote more within inside in
    let whole : front ++ quote ∷ drop more rest ≡ rest =
    sym (append_assoc front (quote ∷ []) (drop more rest))
    ∙ ap (λ t. t ++ drop more rest) (sym inside) ∙ take-append-drop more rest in
    let late : Counts (length front + 1) (quoted (front ++ quote ∷ drop more rest)) =
    closes_late string_is.0 (drop more rest) in
    let here : Counts (length front + 1) (Some found) =
    subst (Counts (length front + 1)) (ap quoted whole ∙ closed) late in
    omega (arith, parts.0, here)

-- marks
no_digit : (c : ℕ) → beginning c ≡ Mark → is_decimal c ≡ true → ⊥
no_digit c is digit = let other = digit_begins c digit in cc

symbol_of : (other : TokenKind) (c : ℕ) (text : List ℕ) → beginning c ≡ Mark → c ≢ ampersand
    → Begins other Mark → IsSpelled other (c ∷ text) → (x : Symbol) × (c ∷ text ≡ symbol_text x)
symbol_of (kind.Symbol x) c text is differs begins_so spelled = (x, spelled)
symbol_of (kind.Integer v) c text is differs begins_so (inl spelled) =
    absurd (no_digit c is (decimal_begins c spelled.0 text spelled.1))
symbol_of (kind.Integer v) c text is differs begins_so (inr spelled) =
    absurd (differs (has_value_begins c spelled.0 text spelled.1))
symbol_of (kind.Long v) c text is differs begins_so (inl spelled) =
    absurd (no_digit c is (decimal_begins c spelled.0 text spelled.1))
symbol_of (kind.Long v) c text is differs begins_so (inr (inl spelled)) =
    absurd (differs (has_value_begins c spelled.0 text spelled.1))
symbol_of (kind.Long v) c text is differs begins_so (inr (inr spelled)) =
    absurd (differs (front_begins c spelled.1 text spelled.0 spelled.2 spelled.3))
symbol_of (kind.Keyword w) c text is differs begins_so spelled = absurd begins_so
symbol_of (kind.Name x false) c text is differs begins_so spelled = absurd begins_so
symbol_of (kind.Name x true) c text is differs begins_so spelled = absurd begins_so
symbol_of (kind.String x) c text is differs begins_so spelled = absurd begins_so
symbol_of kind.LineEnd c text is differs begins_so spelled = absurd begins_so
symbol_of (kind.PageText x) c text is differs begins_so spelled = absurd begins_so
symbol_of kind.PageWrite c text is differs begins_so spelled = absurd begins_so

-- the symbols of two characters
abbrev IsPair : ℕ → ℕ → Type 0
IsPair c d = ((c ≡ less) × ((d ≡ equal) ⊎ (d ≡ greater))) ⊎ ((c ≡ greater) × (d ≡ equal))

symbol_pair : (x : Symbol) (c : ℕ) (text : List ℕ) → c ∷ text ≡ symbol_text x → 0 < length text
    → (length text ≡ 1) × IsPair c (get_or text 0 0)
symbol_pair s.Ampersand c text same long = absurd (omega (arith, ap length same))
symbol_pair s.AtMost c text same long = (
  omega (arith, ap length same),
  inl (
    ap head_of same,
    inl (ap
        (λ t. get_or t 1 0) same),
  ),
)
symbol_pair s.AtLeast c text same long = (
  omega (arith, ap length same),
  inr (
    ap head_of same,
    ap
        (λ t. get_or t 1 0) same,
  ),
)
symbol_pair s.Backslash c text same long = absurd (omega (arith, ap length same))
symbol_pair s.Close c text same long = absurd (omega (arith, ap length same))
symbol_pair s.Colon c text same long = absurd (omega (arith, ap length same))
symbol_pair s.Comma c text same long = absurd (omega (arith, ap length same))
symbol_pair s.Equal c text same long = absurd (omega (arith, ap length same))
symbol_pair s.Greater c text same long = absurd (omega (arith, ap length same))
symbol_pair s.Less c text same long = absurd (omega (arith, ap length same))
symbol_pair s.Minus c text same long = absurd (omega (arith, ap length same))
symbol_pair s.NotEqual c text same long = (
  omega (arith, ap length same),
  inl (
    ap head_of same,
    inr (ap
        (λ t. get_or t 1 0) same),
  ),
)
symbol_pair s.Open c text same long = absurd (omega (arith, ap length same))
symbol_pair s.Plus c text same long = absurd (omega (arith, ap length same))
symbol_pair s.Star c text same long = absurd (omega (arith, ap length same))
symbol_pair s.PathPoint c text same long = absurd (omega (arith, ap length same))
symbol_pair s.WithPoint c text same long = absurd (omega (arith, ap length same))

pair_of : (c : ℕ) (rest : List ℕ) (word : TokenKind) (more : ℕ) → beginning c ≡ Mark → c ≢ ampersand → 0 < more
    → more ≤ length rest → IsSpelled word (c ∷ take more rest) → (more ≡ 1) × IsPair c (get_or rest 0 0)
pair_of c rest word more is differs some within spelled =
    let size : length (take more rest) ≡ more = length-take-le more rest within in
    let symbol_is = symbol_of word c (take more rest) is differs
    (begins_with word c (take more rest) Mark is spelled) spelled in
    let pair = symbol_pair symbol_is.0 c (take more rest) symbol_is.1 (omega arith) in
    let read : get_or (take more rest) 0 0 ≡ get_or rest 0 0 = get_or-take more rest 0 0 some in
    (omega (arith, pair.0), subst (IsPair c) read pair.1)

-- a piece takes all that a word there can have
abbrev pub IsMostOf : ℕ → List ℕ → Piece → Type 0
IsMostOf c rest (Word word taken) = IsMost c rest taken
IsMostOf c rest _ = Unit {0}

pub pick : (P : Piece → Type 0) (b : Bool) (one two : Piece) → (b ≡ true → P one) → (b ≡ false → P two)
    → P (if b then one else two)
pick P true one two first second = first refl
pick P false one two first second = second refl

-- a symbol of two characters, and one of one character where no other of two begins so
two_most : (c : ℕ) (rest : List ℕ) → beginning c ≡ Mark → c ≢ ampersand → IsMost c rest 2
two_most c rest is differs word more below within spelled =
    let pair = pair_of c rest word more is differs (omega arith) within spelled in
    omega (arith, pair.0)

pub one_most : (c : ℕ) (rest : List ℕ) → beginning c ≡ Mark → c ≢ ampersand → (IsPair c (get_or rest 0 0) → ⊥)
    → IsMost c rest 1
one_most c rest is differs alone word more below within spelled =
    alone (pair_of c rest word more is differs (omega arith) within spelled).1

less_alone : (c d : ℕ) → c ≡ less → eqb d greater ≡ false → eqb d equal ≡ false → IsPair c d → ⊥
less_alone c d is no_greater no_equal (inl (pair)) = less_second d no_greater no_equal pair.1
  where
    less_second : (d : ℕ) → eqb d greater ≡ false → eqb d equal ≡ false → (d ≡ equal) ⊎ (d ≡ greater) → ⊥
    less_second d no_greater no_equal second = grind (arith, nat_tests)
less_alone c d is no_greater no_equal (inr pair) = omega (arith, pair.0)

less_most : (c : ℕ) (rest : List ℕ) → beginning c ≡ Mark → c ≢ ampersand → c ≡ less
    → IsMostOf c rest (less_word (get_or rest 0 0))
less_most c rest mark differs is =
    pick (IsMostOf c rest) (eqb (get_or rest 0 0) greater) (Word (kind.Symbol s.NotEqual) 2)
    (if eqb (get_or rest 0 0) equal then Word (kind.Symbol s.AtMost) 2 else Word (kind.Symbol s.Less) 1)
    (λ _. two_most c rest mark differs)
    (λ no_greater. pick (IsMostOf c rest) (eqb (get_or rest 0 0) equal) (Word (kind.Symbol s.AtMost) 2)
    (Word (kind.Symbol s.Less) 1) (λ _. two_most c rest mark differs)
    (λ no_equal. one_most c rest mark differs (less_alone c (get_or rest 0 0) is no_greater no_equal)))

greater_alone : (c d : ℕ) → c ≡ greater → eqb d equal ≡ false → IsPair c d → ⊥
greater_alone c d is no_equal (inl pair) = omega (arith, pair.0)
greater_alone c d is no_equal (inr pair) = let second = pair.1 in grind (arith, nat_tests)

greater_most : (c : ℕ) (rest : List ℕ) → beginning c ≡ Mark → c ≢ ampersand → c ≡ greater
    → IsMostOf c rest (greater_word (get_or rest 0 0))
greater_most c rest mark differs is =
    pick (IsMostOf c rest) (eqb (get_or rest 0 0) equal) (Word (kind.Symbol s.AtLeast) 2) (Word
    (kind.Symbol s.Greater) 1)
    (λ _. two_most c rest mark differs)
    (λ no_equal. one_most c rest mark differs (greater_alone c (get_or rest 0 0) is no_equal))

pub other_alone : (c d : ℕ) → c ≢ less → c ≢ greater → IsPair c d → ⊥
other_alone c d no_less no_greater (inl pair) = no_less pair.0
other_alone c d no_less no_greater (inr pair) = no_greater pair.0

-- the entries of a table, each a word of one character or a fault
abbrev AreSingle : List (ℕ × Piece) → Type 0
AreSingle [] = Unit {0}
AreSingle (entry ∷ entries) = ((c : ℕ) (rest : List ℕ) → IsMost c rest 1 → IsMostOf c rest entry.1)
    × AreSingle entries

beside_most : (entries : List (ℕ × Piece)) (c character : ℕ) (rest : List ℕ) → AreSingle entries → IsMost c rest 1
    → IsMostOf c rest (beside entries character)
beside_most [] c character rest single most = tt
beside_most (entry ∷ entries) c character rest single most =
    pick (IsMostOf c rest) (eqb character entry.0) entry.1 (beside entries character)
    (λ _. single.0 c rest most) (λ _. beside_most entries c character rest single.1 most)

one_character_single : AreSingle one_character
one_character_single = (
  λ _ _ most. most,
  (
    λ _ _ most. most,
    (
      λ _ _ most. most,
      (
        λ _ _ most. most,
        (
          λ _ _ most. most,
          (
            λ _ _ most. most,
            (
              λ _ _ most. most,
              (
                λ _ _ most. most,
                (
                  λ _ _ most. most,
                  (
                    λ _ _ _. tt,
                    (
                      λ _ _ _. tt,
                      (λ _ _ _. tt, tt),
                    ),
                  ),
                ),
              ),
            ),
          ),
        ),
      ),
    ),
  ),
)

pub symbol_most : (c : ℕ) (rest : List ℕ) → beginning c ≡ Mark → c ≢ ampersand
    → IsMostOf c rest (symbol c (get_or rest 0 0))
unfolding symbol
symbol_most c rest mark differs =
    pick (IsMostOf c rest) (eqb c less) (less_word (get_or rest 0 0))
    (if eqb c greater then greater_word (get_or rest 0 0) else beside one_character c)
    (λ is. less_most c rest mark differs (eqb-true c less is))
    (λ no_less. pick (IsMostOf c rest) (eqb c greater) (greater_word (get_or rest 0 0)) (beside one_character c)
    (λ is. greater_most c rest mark differs (eqb-true c greater is))
    (λ no_greater. beside_most one_character c c rest one_character_single
    (one_most c rest mark differs (other_alone c (get_or rest 0 0)
    (λ same. false≢true (sym no_less ∙ eq-eqb c less same))
    (λ same. false≢true (sym no_greater ∙ eq-eqb c greater same))))))
