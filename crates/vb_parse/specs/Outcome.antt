-- What the parser answers where the tokens spell no script: the fault, with its kind and its line.
use Rattle.std.specs.Prelude.{◌≡◌, ℕ, nat_lt, if◌then◌else◌, length, Ok, Err}
use Rattle.vb_syntax.specs.grammar.Rules.{Tokens}
use Rattle.vb_syntax.specs.grammar.Faults.{IsFault, fault_line}
use Rattle.vb_syntax.specs.grammar.Units.{Derives, IsTooDeep, IsCallParens, IsTextHere}
use Rattle.vb_parse.specs.declared.fault.ParseFault.{ParseFault}
use Rattle.vb_parse.specs.declared.fault.ParseFault.TheVariants as kind
use Rattle.vb_read.specs.Reader.{Outcome}

-- The kind of the fault at the first of the tokens that are left, behind those in front. The kinds stand in an order:
-- of those that hold the first counts, and Unexpected where no other holds.
abbrev pub IsKind : Tokens → Tokens → ParseFault → Type 0
IsKind front left kind.TooDeep = IsTooDeep front left
IsKind front left kind.CallParens = (¬ (IsTooDeep front left)) × IsCallParens front left
IsKind front left kind.TextHere = (¬ (IsTooDeep front left)) × (¬ (IsCallParens front left)) × IsTextHere front left
IsKind front left kind.Unexpected =
    (¬ (IsTooDeep front left)) × (¬ (IsCallParens front left)) × (¬ (IsTextHere front left))

-- The first token with which no script goes on is a fault of this kind, in this line.
pub record HasFault (tokens : Tokens) (kind : ParseFault) (line : ℕ) : Type 0 where
  pub left : Tokens
  pub fault : IsFault Derives tokens left
  pub is_kind : IsKind fault.front left kind
  pub in_line : line ≡ fault_line tokens left

-- how many tokens a reader leaves, none where it comes to its end
abbrev pub Leaves : {A : Type 0} → Outcome A → ℕ → Type 0
Leaves (Ok read) count = count ≡ 0
Leaves (Err left) count = count ≡ length left

-- The kind that is told by how many tokens are left, and how many where one more construct may open, where a call's
-- parenthesis may hold several expressions, and where text may stand anywhere.
abbrev pub kind_by : ℕ → ℕ → ℕ → ℕ → ParseFault
kind_by left deeper several texts =
    if nat_lt deeper left then kind.TooDeep
    else if nat_lt several left then kind.CallParens
    else if nat_lt texts left then kind.TextHere
    else kind.Unexpected
