-- Strings.
use Rattle.std.specs.Prelude.{ℕ, ◌+◌, List, [], ◌∷◌, ◌++◌, drop, Option, Some, None, if◌then◌else◌, ◌==◌}
use Rattle.vb_value.specs.declared.token.TokenKind.TheVariants.{String}
use Rattle.vb_lex.specs.declared.fault.LexFault.TheVariants.{OpenString}
use Rattle.vb_lex.specs.declared.piece.Piece.{Piece}
use Rattle.vb_lex.specs.declared.piece.Piece.TheVariants.{Word, Fault}
use Rattle.vb_lex.specs.Characters.{quote, is_line_end}

-- a string's value and its number of characters, with more characters at its front
abbrev pub behind_front : List ℕ → ℕ → Option (List ℕ × ℕ) → Option (List ℕ × ℕ)
behind_front front length None = None
behind_front front length (Some rest) = Some (front ++ rest.0, length + rest.1)

-- A string goes up to the next quote on its line, where two quotes beside each other are one of its
-- characters: the value behind the opening quote, and the number of characters with the closing one.
abbrev pub quoted : List ℕ → Option (List ℕ × ℕ)
quoted [] = None
quoted (c ∷ []) = if c == quote then Some ([], 1) else None
quoted (c ∷ d ∷ text) =
    if c == quote
    then (if d == quote then behind_front (quote ∷ []) 2 (quoted text) else Some ([], 1))
    else (if is_line_end c then None else behind_front (c ∷ []) 1 (quoted (d ∷ text)))

-- the word that a string is
abbrev pub string_word : Option (List ℕ × ℕ) → Piece
string_word None = Fault OpenString
string_word (Some found) = Word (String found.0) (1 + found.1)

-- the string at the front of a text that begins with a quote
abbrev pub string : List ℕ → Piece
string text = string_word (quoted (drop 1 text))
