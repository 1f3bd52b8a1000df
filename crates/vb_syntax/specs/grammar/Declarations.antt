-- What is declared: variables, constants and parameters.
use Rattle.std.specs.Prelude.{ℕ, ℤ, zero, suc, Bool, true, false, List, [], Option, Some, None}
use Rattle.vb_value.specs.declared.token.Keyword.TheVariants as k
use Rattle.vb_value.specs.declared.token.Symbol.TheVariants as s
use Rattle.vb_value.specs.declared.token.Token.{Token}
use Rattle.vb_value.specs.declared.token.TokenKind.{TokenKind}
use Rattle.vb_value.specs.declared.token.TokenKind.TheVariants as kind
use Rattle.vb_syntax.specs.declared.declaration.Access.{Access}
use Rattle.vb_syntax.specs.declared.declaration.Access.TheVariants as access
use Rattle.vb_syntax.specs.declared.declaration.Constant.{Constant}
use Rattle.vb_syntax.specs.declared.declaration.ConstantValue.{ConstantValue}
use Rattle.vb_syntax.specs.declared.declaration.ConstantValue.TheVariants as value
use Rattle.vb_syntax.specs.declared.declaration.Declared.{Declared}
use Rattle.vb_syntax.specs.declared.declaration.Parameter.{Parameter}
use Rattle.vb_syntax.specs.grammar.Rules.{Rule, none, pure, ◌>>=◌, ◌>>◌, ◌or◌, one}
use Rattle.vb_syntax.specs.grammar.Words.{keyword, symbol, list_of, name_of, literal_of}

-- what stands inside a construct that opens here, where one less may open
abbrev pub opened : {A : Type 0} → ℕ → (ℕ → Rule A) → Rule A
opened zero rule = none
opened (suc depth) rule = rule depth

-- "Public" | "Private", with its line
abbrev pub access_word : Rule (ℕ × Access)
access_word = (do line ← keyword k.Public; pure (line, access.Public))
    or (do line ← keyword k.Private; pure (line, access.Private))

-- [ "Public" | "Private" ], and a word with its line. The line is that of the first of them.
abbrev pub with_access : Rule ℕ → Rule (ℕ × Option Access)
with_access word = (do line ← keyword k.Public; word; pure (line, Some access.Public))
    or (do line ← keyword k.Private; word; pure (line, Some access.Private))
    or (do line ← word; pure (line, None))

-- ---- variables

-- the value of a number
abbrev pub number_of_kind : TokenKind → Option ℤ
number_of_kind (kind.Integer number) = Some number
number_of_kind (kind.Long number) = Some number
number_of_kind _ = None

abbrev pub number_of : Token → Option ℤ
number_of token = number_of_kind token.kind

-- "(" [ number { "," number } ] ")"
abbrev pub bounds : ℕ → Rule (List ℤ)
bounds depth = opened depth (λ within. do
  symbol s.Open
  numbers ← pure [] or list_of (one number_of)
  symbol s.Close
  pure numbers)

-- decl = name [ "(" [ number { "," number } ] ")" ]
abbrev pub declared : ℕ → Rule Declared
declared depth = do
  name ← one name_of
  found ← pure None or (do numbers ← bounds depth; pure (Some numbers))
  pure (record { name = name; bounds = found })

-- ---- constants

-- a number of which the negative is meant
abbrev pub negative_of_kind : TokenKind → Option ConstantValue
negative_of_kind (kind.Integer number) = Some (value.NegativeInteger number)
negative_of_kind (kind.Long number) = Some (value.NegativeLong number)
negative_of_kind _ = None

abbrev pub negative_of : Token → Option ConstantValue
negative_of token = negative_of_kind token.kind

-- lit = [ "-" ] number | string | "True" | "False" | "Empty" | "Null"
abbrev pub constant_value : Rule ConstantValue
constant_value = (do symbol s.Minus; one negative_of)
    or (do found ← one literal_of; pure (value.Literal found))

-- name "=" lit
abbrev pub constant : Rule Constant
constant = do
  name ← one name_of
  symbol s.Equal
  found ← constant_value
  pure (record { name = name; value = found })

-- ---- parameters

-- [ "ByVal" | "ByRef" ], and whether it is the first
abbrev pub passing : Rule Bool
passing = (do keyword k.ByVal; pure true) or (do keyword k.ByRef; pure false) or pure false

-- [ "(" ")" ], which says nothing
abbrev pub array_mark : ℕ → Rule (Unit {0})
array_mark depth = pure tt or opened depth (λ within. do symbol s.Open; symbol s.Close; pure tt)

-- param = [ "ByVal" | "ByRef" ] name [ "(" ")" ]
abbrev pub parameter : ℕ → Rule Parameter
parameter depth = do
  by_value ← passing
  name ← one name_of
  array_mark depth
  pure (record { by_value = by_value; name = name })

-- [ params ], params = "(" [ param { "," param } ] ")"
abbrev pub parameters : ℕ → Rule (List Parameter)
parameters depth = pure [] or opened depth (λ within. do
  symbol s.Open
  found ← pure [] or list_of (parameter within)
  symbol s.Close
  pure found)
