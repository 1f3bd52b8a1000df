-- How each kind of word begins, and what its front has to be made of.
use Rattle.std.proofs.Common.{◌≡◌, ℕ, ◌≤◌, Bool, true, false, eqb, ◌==◌}
use Rattle.std.proofs.Common.{◌&&◌, List, [], ◌∷◌, ◌++◌, map, Some, length, get_or}
use Rattle.std.proofs.Common.{take, refl, ap, ◌∙◌, inl, inr, arith, zero, suc, if◌then◌else◌}
use Rattle.std.proofs.Common.{subst, sym}
use Rattle.std.proofs.lemmas.Bool.{false≢true}
use Rattle.std.proofs.lemmas.Bool.Decides.{nat_tests}
use Rattle.std.specs.Char.{is_ascii_alphabetic, to_ascii_lowercase}
use Rattle.std.specs.List.{list_all, prefix_len}
use Rattle.vb_value.specs.Folding.{same_name}
use Rattle.vb_value.specs.declared.token.Keyword.{Keyword}
use Rattle.vb_value.specs.declared.token.Symbol.{Symbol}
use Rattle.vb_value.specs.declared.token.Symbol.TheVariants as s
use Rattle.vb_value.specs.declared.token.TokenKind.{TokenKind}
use Rattle.vb_value.specs.declared.token.TokenKind.TheVariants as kind
use Rattle.vb_lex.specs.declared.names.TheConstants.{KEYWORDS}
use Rattle.vb_lex.specs.Characters.{ampersand}
use Rattle.vb_lex.specs.Characters.{is_decimal, is_line_end, is_name_part}
use Rattle.vb_lex.specs.Characters.{open_bracket, quote}
use Rattle.vb_value.specs.Folding.{beside}
use Rattle.vb_lex.specs.Names.{keyword}
use Rattle.word_laws.specs.Spelling.{HasValue, IsDecimal, IsLineEnd, IsSpelled, symbol_text}
use Rattle.vb_lex.proofs.StringLemmas.{other}

-- two tests that both pass
pub first_true : (b other : Bool) → (b && other) ≡ true → b ≡ true
first_true true other is = refl
first_true false other is = is

pub second_true : (b other : Bool) → (b && other) ≡ true → other ≡ true
second_true true other is = is
second_true false other is = absurd (false≢true is)

-- a front whose characters are all of a class is no longer than the run
pub run_longest : (test : ℕ → Bool) (text : List ℕ) (count : ℕ) → count ≤ length text
    → list_all test (take count text) ≡ true → count ≤ prefix_len test text
run_longest test text zero within all = omega arith
run_longest test [] (suc count) within all = absurd (omega arith)
run_longest test (c ∷ text) (suc count) within all =
    let rest = run_longest test text count (omega arith) (second_true (test c) (list_all test
    (take count text)) all) in
    rw (first_true (test c) (list_all test (take count text)) all) (omega arith)

-- a word that is a keyword has letters alone
pub lower_letter : (c d : ℕ) → is_ascii_alphabetic c ≡ true → (to_ascii_lowercase c == to_ascii_lowercase d) ≡ true
    → is_ascii_alphabetic d ≡ true
lower_letter c d is same = grind (arith, nat_tests)

pub same_letters : (word name : List ℕ) → list_all is_ascii_alphabetic word ≡ true
    → same_name word name ≡ true → list_all is_ascii_alphabetic name ≡ true
same_letters [] [] all same = refl
same_letters [] (d ∷ name) all same = absurd (false≢true same)
same_letters (c ∷ word) [] all same = absurd (false≢true same)
same_letters (c ∷ word) (d ∷ name) all same =
    let first : is_ascii_alphabetic d ≡ true = lower_letter c d
    (first_true (is_ascii_alphabetic c) (list_all is_ascii_alphabetic word) all)
    (first_true (to_ascii_lowercase c == to_ascii_lowercase d) (same_name word name) same) in
    let rest = same_letters word name
    (second_true (is_ascii_alphabetic c) (list_all is_ascii_alphabetic word) all)
    (second_true (to_ascii_lowercase c == to_ascii_lowercase d) (same_name word name) same) in
    rw (first, rest) refl

abbrev pub has_letters : List ℕ × Keyword → Bool
has_letters entry = list_all is_ascii_alphabetic entry.0

pub among_letters : (entries : List (List ℕ × Keyword)) (name : List ℕ) (word : Keyword)
    → list_all has_letters entries ≡ true → beside entries name ≡ Some word
    → list_all is_ascii_alphabetic name ≡ true
among_letters [] name word all found = cc
among_letters (entry ∷ entries) name word all found =
    let go : (b : Bool) → same_name entry.0 name ≡ b
    → (if b then Some entry.1 else beside entries name) ≡ Some word
    → list_all is_ascii_alphabetic name ≡ true =
    elim [
      | true ↦ λ same _. same_letters entry.0 name (first_true (has_letters entry)
          (list_all has_letters entries) all) same
      | false ↦ λ _ more. among_letters entries name word (second_true (has_letters entry)
          (list_all has_letters entries) all) more
    ] in
    go (same_name entry.0 name) refl found

pub keyword_letters : (name : List ℕ) (word : Keyword) → keyword name ≡ Some word
    → list_all is_ascii_alphabetic name ≡ true
unfolding keyword
keyword_letters name word found = among_letters (map (λ entry. (entry.0.now, entry.1)) KEYWORDS) name word refl found

pub letters_parts : (name : List ℕ) → list_all is_ascii_alphabetic name ≡ true → list_all is_name_part name ≡ true
letters_parts [] all = refl
letters_parts (c ∷ name) all =
    let part : is_name_part c ≡ true =
    let is = first_true (is_ascii_alphabetic c) (list_all is_ascii_alphabetic name) all in grind (arith, nat_tests) in
    rw (part, letters_parts name (second_true (is_ascii_alphabetic c) (list_all is_ascii_alphabetic name) all)) refl

-- what a word begins with
pub data Beginning : Type 0 where
  Letter Digit Ending Quoted Bracket Mark : Beginning

-- what a character begins
abbrev pub beginning : ℕ → Beginning
beginning c =
    if is_ascii_alphabetic c then Letter
    else (if is_decimal c then Digit
    else (if is_line_end c then Ending
    else (if eqb c quote then Quoted
    else (if eqb c open_bracket then Bracket else Mark))))

-- what each kind of word may begin with
abbrev pub Begins : TokenKind → Beginning → Type 0
Begins (kind.Keyword w) Letter = Unit {0}
Begins (kind.Name x false) Letter = Unit {0}
Begins (kind.Name x true) Bracket = Unit {0}
Begins (kind.Symbol x) Mark = Unit {0}
Begins (kind.Integer v) Digit = Unit {0}
Begins (kind.Integer v) Mark = Unit {0}
Begins (kind.Long v) Digit = Unit {0}
Begins (kind.Long v) Mark = Unit {0}
Begins (kind.String x) Quoted = Unit {0}
Begins kind.LineEnd Ending = Unit {0}
Begins _ _ = ⊥

pub letter_begins : (c : ℕ) → is_ascii_alphabetic c ≡ true → beginning c ≡ Letter
letter_begins c is = rw is refl

pub digit_begins : (c : ℕ) → is_decimal c ≡ true → beginning c ≡ Digit
digit_begins c is =
    let no_letter : is_ascii_alphabetic c ≡ false = grind (arith, nat_tests) in
    rw (no_letter, is) refl

pub ending_begins : (c : ℕ) → is_line_end c ≡ true → beginning c ≡ Ending
ending_begins c is =
    let no_letter : is_ascii_alphabetic c ≡ false = grind (arith, nat_tests) in
    let no_digit : is_decimal c ≡ false = grind (arith, nat_tests) in
    rw (no_letter, no_digit, is) refl

symbol_begins : (x : Symbol) → beginning (get_or (symbol_text x) 0 0) ≡ Mark
symbol_begins s.Ampersand = refl
symbol_begins s.AtMost = refl
symbol_begins s.AtLeast = refl
symbol_begins s.Backslash = refl
symbol_begins s.Close = refl
symbol_begins s.Colon = refl
symbol_begins s.Comma = refl
symbol_begins s.Equal = refl
symbol_begins s.Greater = refl
symbol_begins s.Less = refl
symbol_begins s.Minus = refl
symbol_begins s.NotEqual = refl
symbol_begins s.Open = refl
symbol_begins s.Plus = refl
symbol_begins s.Star = refl
symbol_begins s.PathPoint = refl
symbol_begins s.WithPoint = refl

abbrev pub head_of : List ℕ → ℕ
head_of text = get_or text 0 0

pub has_value_begins : (c n : ℕ) (text : List ℕ) → HasValue (c ∷ text) n → c ≡ ampersand
has_value_begins c n text (inl has) = ap head_of has.1.written
has_value_begins c n text (inr has) = ap head_of has.1.written

pub front_begins : (c n : ℕ) (text front : List ℕ) → c ∷ text ≡ front ++ ampersand ∷ [] → HasValue front n
    → c ≡ ampersand
front_begins c n text [] same has = ap head_of same
front_begins c n text (d ∷ front) same has = ap head_of same ∙ has_value_begins d n front has

pub decimal_begins : (c n : ℕ) (text : List ℕ) → IsDecimal (c ∷ text) n → is_decimal c ≡ true
decimal_begins c n text is = first_true (is_decimal c) (list_all is_decimal text) is.1

-- the word may begin so, by what its first character is
begins_by : (word : TokenKind) (c : ℕ) (first : Beginning) → beginning c ≡ first → Begins word first
    → Begins word (beginning c)
begins_by word c first same begins_so = subst (Begins word) (sym same) begins_so

line_end_begins : (c : ℕ) (text : List ℕ) → IsLineEnd (c ∷ text) → is_line_end c ≡ true
line_end_begins c text (inl is) = cc
line_end_begins c text (inr (inl is)) = let first = ap head_of is in grind (arith, nat_tests)
line_end_begins c text (inr (inr (inl is))) = let first = ap head_of is in grind (arith, nat_tests)
line_end_begins c text (inr (inr (inr is))) = let first = ap head_of is in grind (arith, nat_tests)

pub begins : (word : TokenKind) (c : ℕ) (text : List ℕ) → IsSpelled word (c ∷ text) → Begins word (beginning c)
begins (kind.Keyword w) c text is =
    let first = first_true (is_ascii_alphabetic c) (list_all is_ascii_alphabetic text) (keyword_letters (c ∷ text) w is) in
    begins_by (kind.Keyword w) c Letter (letter_begins c first) tt
begins (kind.Symbol x) c text is =
    begins_by (kind.Symbol x) c Mark (ap beginning (ap head_of is) ∙ symbol_begins x) tt
begins (kind.Name x false) c text is = begins_by (kind.Name x false) c Letter (letter_begins c is.1) tt
begins (kind.Name x true) c text is = begins_by (kind.Name x true) c Bracket (ap beginning (ap head_of is.0)) tt
begins (kind.Integer v) c text (inl is) =
    begins_by (kind.Integer v) c Digit (digit_begins c (decimal_begins c is.0 text is.1)) tt
begins (kind.Integer v) c text (inr is) =
    begins_by (kind.Integer v) c Mark (ap beginning (has_value_begins c is.0 text is.1)) tt
begins (kind.Long v) c text (inl is) =
    begins_by (kind.Long v) c Digit (digit_begins c (decimal_begins c is.0 text is.1)) tt
begins (kind.Long v) c text (inr (inl is)) =
    begins_by (kind.Long v) c Mark (ap beginning (has_value_begins c is.0 text is.1)) tt
begins (kind.Long v) c text (inr (inr is)) =
    begins_by (kind.Long v) c Mark (ap beginning (front_begins c is.1 text is.0 is.2 is.3)) tt
begins (kind.String x) c text is = begins_by (kind.String x) c Quoted (ap beginning (ap head_of is)) tt
begins kind.LineEnd c text is = begins_by kind.LineEnd c Ending (ending_begins c (line_end_begins c text is)) tt
begins (kind.PageText x) c text is = absurd is
begins kind.PageWrite c text is = absurd is

-- the same, where it is known what the first character begins
pub begins_with : (word : TokenKind) (c : ℕ) (text : List ℕ) (first : Beginning) → beginning c ≡ first
    → IsSpelled word (c ∷ text) → Begins word first
begins_with word c text first same spelled = subst (Begins word) same (begins word c text spelled)
