-- The steps that a reader of tokens is made of. A reader asks the next token alone.
use Rattle.std.specs.Prelude.{ℕ, zero, suc, Bool, true, false, List, [], ◌∷◌, length, Option, Some, None, Result, Ok}
use Rattle.std.specs.Prelude.{Err, if◌then◌else◌, ◌==◌}
use Rattle.std.specs.declared.ops.ControlFlow.{ControlFlow}
use Rattle.std.specs.declared.ops.ControlFlow.TheVariants.{Continue, Break}
use Rattle.vb_value.specs.declared.token.Keyword.{Keyword}
use Rattle.vb_value.specs.declared.token.Symbol.{Symbol}
use Rattle.vb_value.specs.declared.token.Token.{Token}
use Rattle.vb_value.specs.declared.token.TokenKind.{TokenKind}
use Rattle.vb_value.specs.declared.token.TokenKind.TheVariants as kind
use Rattle.vb_syntax.specs.grammar.Rules.{Tokens}
use Rattle.vb_syntax.specs.grammar.Words.{tag, line_of}
use Rattle.vb_read.specs.declared.cursor.ReadStop.{ReadStop}
use Rattle.vb_read.specs.declared.cursor.ReadStop.TheVariants.{Fault, Memory}

-- what was read and the tokens behind it, or the tokens from the faulty one on
abbrev pub Outcome : Type 0 → Type 0
Outcome A = Result (A × Tokens) Tokens

-- the tokens that a function leaves where it stops at a fault
abbrev pub stopped_at : ReadStop → Tokens → Option Tokens
stopped_at Fault left = Some left
stopped_at Memory left = None

-- what reads some of the tokens, from the front
abbrev pub Reader : Type 0 → Type 0
Reader A = Tokens → Outcome A

-- what is read behind what was read
abbrev pub and_then : {A B : Type 0} → Outcome A → (A → Reader B) → Outcome B
and_then (Ok read) later = later read.0 read.1
and_then (Err rest) later = Err rest

-- one reader and then another, which may depend on what the first gives
infixl 10 ◌>>=◌
abbrev pub ◌>>=◌ : {A B : Type 0} → Reader A → (A → Reader B) → Reader B
(p >>= later) tokens = and_then (p tokens) later

-- one reader and then another
infixl 10 ◌>>◌
abbrev pub ◌>>◌ : {A B : Type 0} → Reader A → Reader B → Reader B
p >> q = p >>= (λ _. q)

-- nothing, and it gives x
abbrev pub pure : {A : Type 0} → A → Reader A
pure x tokens = Ok (x, tokens)

-- the next token does not go on
abbrev pub refuse : {A : Type 0} → Reader A
refuse tokens = Err tokens

-- a token, by what its test tells
abbrev pub one_by : {A : Type 0} → Option A → Token → Tokens → Outcome A
one_by None token rest = Err (token ∷ rest)
one_by (Some x) token rest = Ok (x, rest)

-- one token that passes a test
abbrev pub one : {A : Type 0} → (Token → Option A) → Reader A
one test [] = Err []
one test (token ∷ rest) = one_by (test token) token rest

-- a word of this kind
abbrev pub word : TokenKind → Reader ℕ
word kind = one (line_of (tag kind))

-- a keyword
abbrev pub keyword : Keyword → Reader ℕ
keyword quoted = word (kind.Keyword quoted)

-- an operator or a mark of punctuation
abbrev pub symbol : Symbol → Reader ℕ
symbol quoted = word (kind.Symbol quoted)

-- nothing, where no token is left
abbrev pub at_end : Reader (Unit {0})
at_end [] = Ok (tt, [])
at_end (token ∷ rest) = Err (token ∷ rest)

-- what one reader reads, where nothing is left behind it
abbrev pub whole : {A : Type 0} → Reader A → Reader A
whole p = p >>= (λ x. at_end >> pure x)

-- the next token, where there is one
abbrev pub next : Tokens → Option Token
next [] = None
next (token ∷ rest) = Some token

-- a question to the next token
abbrev pub Look : Type 0
Look = Option Token → Bool

-- whether a word of this kind comes next
abbrev pub sees : TokenKind → Look
sees kind None = false
sees kind (Some token) = tag token.kind == tag kind

-- whether the kind of the next token has the property
abbrev pub asks : (TokenKind → Bool) → Look
asks property None = false
asks property (Some token) = property token.kind

-- whether a test is passed
abbrev pub is_some : {A : Type 0} → Option A → Bool
is_some None = false
is_some (Some x) = true

-- whether a token comes next that passes a test
abbrev pub passes : {A : Type 0} → (Token → Option A) → Look
passes test None = false
passes test (Some token) = is_some (test token)

-- the one reader or the other, by a question to the next token
abbrev pub case : {A : Type 0} → Look → Reader A → Reader A → Reader A
case look p q tokens = if look (next tokens) then p tokens else q tokens

-- what a reader reads, where one more construct may open
abbrev pub gate : {A : Type 0} → Bool → Reader A → Reader A
gate true p = p
gate false p = refuse

-- as often as the look says. The number bounds the turns, and each turn takes a token.
abbrev pub many_from : {A : Type 0} → Look → Reader A → ℕ → Reader (List A)
many_from look p zero = pure []
many_from look p (suc n) = case look (p >>= (λ x. many_from look p n >>= (λ xs. pure (x ∷ xs)))) (pure [])

-- as often as the look says
abbrev pub many : {A : Type 0} → Look → Reader A → Reader (List A)
many look p tokens = many_from look p (length tokens) tokens

-- a turn of a loop that goes on with a thing, or ends with what stands last
abbrev pub Turn : Type 0 → Type 0 → Type 0
Turn A B = ControlFlow B A

abbrev pub then_until : {A B : Type 0} → Reader (List A × B) → Turn A B → Reader (List A × B)
then_until later (Continue x) = later >>= (λ found. pure (x ∷ found.0, found.1))
then_until later (Break last) = pure ([], last)

-- turns up to the last one. The number bounds them, and each but the last takes a token.
abbrev pub until_from : {A B : Type 0} → Reader (Turn A B) → ℕ → Reader (List A × B)
until_from turn zero = refuse
until_from turn (suc n) = turn >>= then_until (until_from turn n)

-- turns up to the last one
abbrev pub until : {A B : Type 0} → Reader (Turn A B) → Reader (List A × B)
until turn tokens = until_from turn (suc (length tokens)) tokens
