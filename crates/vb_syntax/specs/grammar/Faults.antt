-- Where a fault stands: at the first token with which nothing that the rule spells goes on.
use Rattle.std.specs.Prelude.{◌≡◌, ℕ, [], ◌∷◌, ◌++◌}
use Rattle.vb_syntax.specs.grammar.Rules.{Tokens, Rule}

-- these tokens are the beginning of something that the rule spells
abbrev pub GoesOn : {A : Type 0} → Rule A → Tokens → Type 0
GoesOn {A} rule tokens = (more : Tokens) × (x : A) × rule (tokens ++ more) x

-- With the next token nothing goes on. Where there is none, the tokens spell nothing.
abbrev pub Ends : {A : Type 0} → Rule A → Tokens → Tokens → Type 0
Ends {A} rule front [] = (x : A) → ¬ (rule front x)
Ends rule front (token ∷ rest) = ¬ (GoesOn rule (front ++ token ∷ []))

-- a fault of the tokens, of which `left` begin with the first with which nothing goes on
pub record IsFault {A : Type 0} (rule : Rule A) (tokens left : Tokens) : Type 0 where
  pub front : Tokens
  pub split : tokens ≡ front ++ left
  pub goes_on : GoesOn rule front
  pub ends : Ends rule front left

-- With a looser rule something goes on with the first of `left`, which stand behind `front`.
abbrev pub WouldGoOn : {A : Type 0} → Rule A → Tokens → Tokens → Type 0
WouldGoOn looser front [] = ⊥
WouldGoOn looser front (token ∷ rest) = GoesOn looser (front ++ token ∷ [])

-- the line of a token, or of the last one where no token stands, and 1 where there is none at all
abbrev pub last_line : ℕ → Tokens → ℕ
last_line line [] = line
last_line line (token ∷ rest) = last_line token.line rest

abbrev pub fault_line : Tokens → Tokens → ℕ
fault_line tokens [] = last_line 1 tokens
fault_line tokens (token ∷ rest) = token.line
