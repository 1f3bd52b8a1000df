-- What a rule of a grammar is, and how rules are put together.
use Rattle.std.specs.Prelude.{◌≡◌, ◌⊎◌, Bool, IsTrue, List, [], ◌∷◌, ◌++◌, Option, Some}
use Rattle.vb_value.specs.declared.token.Token.{Token}

-- the words of a script
abbrev pub Tokens : Type 0
Tokens = List Token

-- which whole token lists spell which things
abbrev pub Rule : Type 0 → Type 1
Rule A = Tokens → A → Type 0

-- no token, and it gives x
abbrev pub pure : {A : Type 0} → A → Rule A
pure x tokens y = (tokens ≡ []) × (y ≡ x)

-- no tokens spell anything
abbrev pub none : {A : Type 0} → Rule A
none tokens x = ⊥

-- the first rule's tokens, and behind them those of the rule that its thing leads to
pub record Then {A B : Type 0} (first : Rule A) (next : A → Rule B) (tokens : Tokens) (y : B) : Type 0 where
  pub front : Tokens
  pub back : Tokens
  pub thing : A
  pub split : tokens ≡ front ++ back
  pub first_spells : first front thing
  pub next_spells : next thing back y

-- one rule and then another, which may depend on what the first gives
infixl 10 ◌>>=◌
abbrev pub ◌>>=◌ : {A B : Type 0} → Rule A → (A → Rule B) → Rule B
first >>= next = Then first next

-- one rule and then another
infixl 10 ◌>>◌
abbrev pub ◌>>◌ : {A B : Type 0} → Rule A → Rule B → Rule B
first >> next = Then first (λ _. next)

-- the one or the other
infixr 5 ◌or◌
abbrev pub ◌or◌ : {A : Type 0} → Rule A → Rule A → Rule A
(r or s) tokens x = r tokens x ⊎ s tokens x

-- one token, of which the test tells what it gives
pub record One {A : Type 0} (test : Token → Option A) (tokens : Tokens) (x : A) : Type 0 where
  pub token : Token
  pub alone : tokens ≡ token ∷ []
  pub passes : test token ≡ Some x

-- one token that passes a test
abbrev pub one : {A : Type 0} → (Token → Option A) → Rule A
one test = One test

-- tokens that fit the one, and behind them tokens that fit the other
pub record Cut (one other : Tokens → Type 0) (tokens : Tokens) : Type 0 where
  pub front : Tokens
  pub back : Tokens
  pub split : tokens ≡ front ++ back
  pub first : one front
  pub second : other back

-- any number of the rule's things, one behind the other
abbrev pub many : {A : Type 0} → Rule A → Rule (List A)
many rule tokens [] = tokens ≡ []
many rule tokens (x ∷ xs) = Cut (λ front. rule front x) (λ back. many rule back xs) tokens

-- what the rule spells, where the fact holds
abbrev pub where_true : {A : Type 0} → Bool → Rule A → Rule A
where_true fact rule tokens x = IsTrue fact × rule tokens x
