-- Each word of a text is the longest that stands at its place.
use Rattle.std.proofs.Common.{◌≡◌, ℕ, ◌+◌, ◌-◌, ◌<◌, ◌≤◌, true, false, eqb, ltb, leb, codes, pos}
use Rattle.std.proofs.Common.{List, [], ◌∷◌, ◌++◌, Option, Some, None, length, get_or, drop, take, refl, sym, ap}
use Rattle.std.proofs.Common.{◌∙◌, subst, arith, zero, suc, if◌then◌else◌}
use Rattle.std.proofs.lemmas.Bool.{eq-eqb, eqb-true, false≢true}
use Rattle.std.proofs.lemmas.List.{length-drop}
use Rattle.std.specs.Char.{is_ascii_alphabetic}
use Rattle.std.specs.List.{prefix_len}
use Rattle.vb_value.specs.Folding.{same_name}
use Rattle.std.specs.Str.Parse.{digits_value}
use Rattle.vb_value.specs.declared.token.Token.{Token}
use Rattle.vb_value.specs.declared.token.TokenKind.{TokenKind}
use Rattle.vb_value.specs.declared.token.TokenKind.TheVariants as kind
use Rattle.vb_lex.specs.declared.fault.LexFault.TheVariants.{BadNumber, LongName, OpenBracket}
use Rattle.vb_lex.specs.declared.piece.Piece.{Piece}
use Rattle.vb_lex.specs.declared.piece.Piece.TheVariants.{Gap, Word, Fault}
use Rattle.vb_lex.specs.declared.place.Behind.{Behind}
use Rattle.vb_lex.specs.declared.place.Place.{Place}
use Rattle.vb_value.specs.Characters.{is_blank}
use Rattle.vb_lex.specs.Characters.{ampersand, apostrophe, close_bracket, is_bracketed, is_decimal}
use Rattle.vb_lex.specs.Characters.{is_line_end, is_name_part, open_bracket, point, quote}
use Rattle.vb_lex.specs.Gaps.{blank_length, line_end_length, line_length}
use Rattle.vb_lex.specs.Names.{bracketed, is_behind_point, keyword, kind_of_name, named}
use Rattle.vb_lex.specs.Numbers.{ampersand_word, decimal, decimal_kind, is_spoilt}
use Rattle.vb_lex.specs.Pieces.{marked, piece}
use Rattle.vb_lex.specs.Places.{first_place, past}
use Rattle.word_laws.specs.Spelling.{AreLongest, IsSpelled}
use Rattle.vb_lex.specs.Strings.{quoted, string, string_word}
use Rattle.vb_lex.specs.Symbols.{point_kind, point_word, symbol}
use Rattle.vb_lex.specs.Tokens.{IsCut, Tokenizes, edge, tokens_from}
use Rattle.word_laws.proofs.Beginnings.{Mark, beginning}
use Rattle.word_laws.proofs.Longest.{IsMost, IsMostOf, bracketed_most, decimal_most, line_end_most, name_most, one_most}
use Rattle.word_laws.proofs.Longest.{other_alone, pick, string_most, symbol_most}
use Rattle.word_laws.proofs.LongestNumbers.{ampersand_most}

named_most : (before : Behind) (c : ℕ) (rest : List ℕ) → is_ascii_alphabetic c ≡ true
    → IsMostOf c rest (named before (c ∷ rest))
named_most before c rest is =
    let size : ℕ = prefix_len is_name_part (c ∷ rest) in
    let name : List ℕ = take size (c ∷ rest) in
    let most = name_most c rest is in
    let last : Piece = Word (kind_of_name (keyword name) name) size in
    let third : Piece = if same_name (codes "rem") name then Gap (line_length (c ∷ rest)) else last in
    let second : Piece = if is_behind_point before then Word (kind.Name name false) size else third in
    pick (IsMostOf c rest) (ltb 255 size) (Fault LongName) second (λ _. tt) (λ _.
    pick (IsMostOf c rest) (is_behind_point before) (Word (kind.Name name false) size) third (λ _. most) (λ _.
    pick (IsMostOf c rest) (same_name (codes "rem") name) (Gap (line_length (c ∷ rest))) last
    (λ _. tt) (λ _. most)))

decimal_most_of : (c : ℕ) (rest : List ℕ) → is_decimal c ≡ true → IsMostOf c rest (decimal (c ∷ rest))
decimal_most_of c rest is =
    let size : ℕ = prefix_len is_decimal (c ∷ rest) in
    let value : ℕ = digits_value 10 (take size (c ∷ rest)) in
    let most = decimal_most c rest is in
    pick (IsMostOf c rest) (is_spoilt (drop size (c ∷ rest))) (Fault BadNumber) (decimal_kind value size)
    (λ _. tt) (λ _.
    pick (IsMostOf c rest) (leb value 32767) (Word (kind.Integer (pos value)) size)
    (if leb value 2147483647 then Word (kind.Long (pos value)) size else Fault BadNumber) (λ _. most) (λ _.
    pick (IsMostOf c rest) (leb value 2147483647) (Word (kind.Long (pos value)) size) (Fault BadNumber) (λ _. most)
    (λ _. tt)))

bracketed_most_of : (c : ℕ) (rest : List ℕ) → c ≡ open_bracket → IsMostOf c rest (bracketed (c ∷ rest))
bracketed_most_of c rest is =
    let size : ℕ = prefix_len is_bracketed rest in
    pick (IsMostOf c rest) (eqb (get_or (c ∷ rest) (1 + size) 0) close_bracket)
    (Word (kind.Name (take size rest) true) (size + 2)) (Fault OpenBracket)
    (λ _. bracketed_most c rest is) (λ _. tt)

string_most_of : (c : ℕ) (rest : List ℕ) → c ≡ quote → IsMostOf c rest (string (c ∷ rest))
string_most_of c rest is = go (quoted rest) refl
  where
    go : (found : Option (List ℕ × ℕ)) → quoted rest ≡ found → IsMostOf c rest (string_word found)
    go None closed = tt
    go (Some found) closed = string_most c rest found is closed

point_most : (before : Behind) (c : ℕ) (rest : List ℕ) → c ≡ point → IsMostOf c rest (point_word before (c ∷ rest))
point_most before c rest is =
    pick (IsMostOf c rest) (is_decimal (get_or rest 0 0)) (Fault BadNumber) (Word (kind.Symbol (point_kind before)) 1)
    (λ _. tt)
    (λ _. one_most c rest (ap beginning is) (λ same. omega (arith, same))
    (other_alone c (get_or rest 0 0) (λ same. omega (arith, same)) (λ same. omega (arith, same))))

-- a character that begins none of the other forms
left_mark : (c : ℕ) → is_ascii_alphabetic c ≡ false → is_decimal c ≡ false → is_line_end c ≡ false
    → eqb c quote ≡ false → eqb c open_bracket ≡ false → beginning c ≡ Mark
left_mark c a b d e f = rw (a, b, d, e, f) refl

marked_most : (before : Behind) (c : ℕ) (rest : List ℕ) → is_ascii_alphabetic c ≡ false → is_decimal c ≡ false
    → is_line_end c ≡ false → IsMostOf c rest (marked before (c ∷ rest))
unfolding marked
marked_most before c rest no_letter no_digit no_end =
    let P : Piece → Type 0 = IsMostOf c rest in
    let last : Piece = symbol c (get_or rest 0 0) in
    let fourth : Piece = if eqb c ampersand then ampersand_word (c ∷ rest) else last in
    let third : Piece = if eqb c point then point_word before (c ∷ rest) else fourth in
    let second : Piece = if eqb c open_bracket then bracketed (c ∷ rest) else third in
    let first : Piece = if eqb c quote then string (c ∷ rest) else second in
    pick P (eqb c apostrophe) (Gap (line_length (c ∷ rest))) first (λ _. tt) (λ _.
    pick P (eqb c quote) (string (c ∷ rest)) second (λ is. string_most_of c rest (eqb-true c quote is)) (λ no_quote.
    pick P (eqb c open_bracket) (bracketed (c ∷ rest)) third
    (λ is. bracketed_most_of c rest (eqb-true c open_bracket is)) (λ no_bracket.
    pick P (eqb c point) (point_word before (c ∷ rest)) fourth
    (λ is. point_most before c rest (eqb-true c point is)) (λ _.
    pick P (eqb c ampersand) (ampersand_word (c ∷ rest)) last
    (λ is. ampersand_most c rest (eqb-true c ampersand is)) (λ no_mark.
    symbol_most c rest (left_mark c no_letter no_digit no_end no_quote no_bracket)
    (λ same. false≢true (sym no_mark ∙ eq-eqb c ampersand same)))))))

piece_most : (before : Behind) (c : ℕ) (rest : List ℕ) → IsMostOf c rest (piece before (c ∷ rest))
unfolding piece
piece_most before c rest =
    let P : Piece → Type 0 = IsMostOf c rest in
    let last : Piece = marked before (c ∷ rest) in
    let third : Piece = if is_decimal c then decimal (c ∷ rest) else last in
    let second : Piece = if is_ascii_alphabetic c then named before (c ∷ rest) else third in
    let first : Piece = if is_line_end c then Word kind.LineEnd (line_end_length (c ∷ rest)) else second in
    pick P (is_blank c) (Gap (blank_length (c ∷ rest))) first (λ _. tt) (λ _.
    pick P (is_line_end c) (Word kind.LineEnd (line_end_length (c ∷ rest))) second (line_end_most c rest) (λ no_end.
    pick P (is_ascii_alphabetic c) (named before (c ∷ rest)) third (named_most before c rest) (λ no_letter.
    pick P (is_decimal c) (decimal (c ∷ rest)) last (decimal_most_of c rest) (λ no_digit.
    marked_most before c rest no_letter no_digit no_end))))

-- the same of a text
pub word_longest : (before : Behind) (text : List ℕ) (word : TokenKind) (taken : ℕ) → 0 < length text
    → piece before text ≡ Word word taken → (other : TokenKind) (more : ℕ) → taken < more → more ≤ length text
    → IsSpelled other (take more text) → ⊥
word_longest before [] word taken some stands other more longer within spelled = omega arith
word_longest before (c ∷ rest) word taken some stands other zero longer within spelled = omega arith
word_longest before (c ∷ rest) word taken some stands other (suc more) longer within spelled =
    let most : IsMost c rest taken = subst (IsMostOf c rest) stands (piece_most before c rest) in
    most other more (omega arith) (omega arith) spelled

longest_from : (text : List ℕ) (from : Place) (pieces : List Piece) (to : Place) → IsCut text from pieces to
    → AreLongest text (tokens_from text from pieces ++ edge to ∷ [])
longest_from text from [] to same = (λ moves. absurd (omega arith), tt)
longest_from text from (Gap n ∷ pieces) to cut = longest_from text (past text from (Gap n)) pieces to cut.3
longest_from text from (Word word n ∷ pieces) to cut =
    let size = length-drop from.at text in (
      λ _ other end longer within spelled.
          word_longest from.behind (drop from.at text) word n (let some = cut.0 in omega arith) cut.1 other
          (end - from.at)
          (omega arith) (omega arith) spelled,
      longest_from text (past text from (Word word n)) pieces to cut.3,
    )
longest_from text from (Fault fault ∷ pieces) to cut = absurd cut.2

pub tokens_longest : (text : List ℕ) (tokens : List Token) → Tokenizes text tokens → AreLongest text tokens
tokens_longest text tokens is =
    let reaches = is.reaches in
    let rest = longest_from text first_place reaches.pieces is.last reaches.cut in
    let whole : AreLongest text (edge first_place ∷ tokens_from text first_place reaches.pieces ++ edge is.last ∷ []) =
    (λ moves. absurd (omega arith), rest) in
    let same : tokens ≡ edge first_place ∷ tokens_from text first_place reaches.pieces ++ edge is.last ∷ [] =
    is.spelled ∙ ap (λ ts. ts ++ edge is.last ∷ []) reaches.spelled in
    subst (AreLongest text) (sym same) whole
