-- Reading declarations: each reader is the rule of its name, and asks the next token alone.
use Rattle.std.specs.Prelude.{ℕ, ℤ, zero, suc, Bool, true, false, ◌||◌, List, [], Option, Some, None}
use Rattle.vb_value.specs.declared.token.Keyword.TheVariants as k
use Rattle.vb_value.specs.declared.token.Symbol.TheVariants as s
use Rattle.vb_value.specs.declared.token.TokenKind.TheVariants as kind
use Rattle.vb_syntax.specs.declared.declaration.Access.{Access}
use Rattle.vb_syntax.specs.declared.declaration.Access.TheVariants as access
use Rattle.vb_syntax.specs.declared.declaration.Constant.{Constant}
use Rattle.vb_syntax.specs.declared.declaration.ConstantValue.{ConstantValue}
use Rattle.vb_syntax.specs.declared.declaration.ConstantValue.TheVariants as value
use Rattle.vb_syntax.specs.declared.declaration.Declared.{Declared}
use Rattle.vb_syntax.specs.declared.declaration.Parameter.{Parameter}
use Rattle.vb_syntax.specs.grammar.Words.{name_of, literal_of}
use Rattle.vb_syntax.specs.grammar.Declarations.{number_of, negative_of}
use Rattle.vb_read.specs.Reader.{Reader, Look, ◌>>=◌, ◌>>◌, pure, refuse, one, keyword, symbol, sees, case}
use Rattle.vb_read.specs.ReadExpressions.{list_of}

-- what is read inside a construct that opens here, where one less may open
abbrev pub opened : {A : Type 0} → ℕ → (ℕ → Reader A) → Reader A
opened zero read = refuse
opened (suc depth) read = read depth

-- ---- words before a declaration

abbrev pub sees_access : Look
sees_access token = sees (kind.Keyword k.Public) token || sees (kind.Keyword k.Private) token

-- "Public" | "Private", with its line
abbrev pub access_word : Reader (ℕ × Access)
access_word = case (sees (kind.Keyword k.Public))
    (do line ← keyword k.Public; pure (line, access.Public))
    (do line ← keyword k.Private; pure (line, access.Private))

-- The line of a declaration, and the word before it. Without one the line is that of its own first word.
abbrev pub begun : Option (ℕ × Access) → ℕ → ℕ × Option Access
begun None line = (line, None)
begun (Some before) line = (before.0, Some before.1)

-- ---- variables

-- "(" [ number { "," number } ] ")"
abbrev pub bounds : ℕ → Reader (List ℤ)
bounds depth = opened depth (λ within. do
  symbol s.Open
  numbers ← case (sees (kind.Symbol s.Close)) (pure []) (list_of (one number_of))
  symbol s.Close
  pure numbers)

-- what stands behind the name of a variable
abbrev pub bounds_behind : ℕ → Reader (Option (List ℤ))
bounds_behind depth = case (sees (kind.Symbol s.Open)) (do numbers ← bounds depth; pure (Some numbers)) (pure None)

-- a variable of which the name was read
abbrev pub declared_from : ℕ → List ℕ → Reader Declared
declared_from depth name = do
  found ← bounds_behind depth
  pure (record { name = name; bounds = found })

-- decl
abbrev pub declared : ℕ → Reader Declared
declared depth = one name_of >>= declared_from depth

-- ---- constants

-- lit
abbrev pub constant_value : Reader ConstantValue
constant_value = case (sees (kind.Symbol s.Minus))
    (do symbol s.Minus; one negative_of)
    (do found ← one literal_of; pure (value.Literal found))

-- name "=" lit
abbrev pub constant : Reader Constant
constant = do
  name ← one name_of
  symbol s.Equal
  found ← constant_value
  pure (record { name = name; value = found })

-- ---- parameters

-- [ "ByVal" | "ByRef" ], and whether it is the first
abbrev pub passing : Reader Bool
passing = case (sees (kind.Keyword k.ByVal)) (do keyword k.ByVal; pure true)
    (case (sees (kind.Keyword k.ByRef)) (do keyword k.ByRef; pure false) (pure false))

-- [ "(" ")" ]
abbrev pub array_mark : ℕ → Reader (Unit {0})
array_mark depth = case (sees (kind.Symbol s.Open))
    (opened depth (λ within. do symbol s.Open; symbol s.Close; pure tt))
    (pure tt)

-- param
abbrev pub parameter : ℕ → Reader Parameter
parameter depth = do
  by_value ← passing
  name ← one name_of
  array_mark depth
  pure (record { by_value = by_value; name = name })

-- params
abbrev pub opened_parameters : ℕ → Reader (List Parameter)
opened_parameters depth = opened depth (λ within. do
  symbol s.Open
  found ← case (sees (kind.Symbol s.Close)) (pure []) (list_of (parameter within))
  symbol s.Close
  pure found)

-- [ params ]
abbrev pub parameters : ℕ → Reader (List Parameter)
parameters depth = case (sees (kind.Symbol s.Open)) (opened_parameters depth) (pure [])
