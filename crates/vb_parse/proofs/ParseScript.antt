-- What the parser of scripts answers, from what its reader reads.
use Rattle.std.proofs.Common.{◌≡◌, ◌⊎◌, inl, inr, ℕ, ◌<◌, ◌≤◌, Bool, true, false, nat_lt, if◌then◌else◌, ◌++◌, length}
use Rattle.std.proofs.Common.{Result, Ok, Err, IfOk, refl, sym, ap, ◌∙◌, subst, arith}
use Rattle.std.proofs.lemmas.Bool.Decides.{nat_tests}
use Rattle.std.proofs.lemmas.List.{append_cancel_right}
use Rattle.vb_value.specs.Outcome.{Answers, OnFault}
use Rattle.vb_value.specs.declared.stop.Stop.{Stop}
use Rattle.vb_value.specs.declared.stop.Stop.TheVariants as stop
use Rattle.vb_syntax.specs.declared.unit.Unit.{Unit as Script}
use Rattle.vb_syntax.specs.grammar.Rules.{Tokens}
use Rattle.vb_syntax.specs.grammar.SimpleStatements.{Looser}
use Rattle.vb_syntax.specs.grammar.Units.{Derives, strict}
use Rattle.vb_syntax.specs.grammar.Faults.{IsFault, fault_line}
use Rattle.vb_parse.specs.declared.fault.ParseFault.{ParseFault}
use Rattle.vb_parse.specs.declared.fault.ParseFault.TheVariants as kind
use Rattle.vb_read.specs.Reader.{Outcome}
use Rattle.vb_parse.specs.Outcome.{HasFault, IsKind, Leaves, kind_by}
use Rattle.vb_read.specs.ReadUnits.{whole_unit}
use Rattle.vb_parse.proofs.ParseUnit.{unit_sound, unit_stops, unit_unique, unit_faultless, one_unit_fault, unit_goes_on}
use Rattle.vb_parse.proofs.ParseUnit.{no_unit_goes_on}

-- several expressions in the parenthesis of a call statement
abbrev several : Looser
several = record { several = true; texts = false }

-- text inside Class and in the head of Select
abbrev texts : Looser
texts = record { several = false; texts = true }

pub script_sound : (tokens rest : Tokens) (x : Script) → whole_unit strict 200 tokens ≡ Ok (x, rest) → Derives tokens x
script_sound = unit_sound strict 200

less : (a b : ℕ) → nat_lt a b ≡ true → a < b
less a b is = grind (arith, nat_tests)

no_less : (a b : ℕ) → nat_lt a b ≡ false → b ≤ a
no_less a b is = grind (arith, nat_tests)

module _ (tokens left : Tokens) (f : IsFault Derives tokens left) (deeper_count several_count texts_count : ℕ)
    (deeper_leaves : Leaves (whole_unit strict 201 tokens) deeper_count)
    (several_leaves : Leaves (whole_unit several 200 tokens) several_count)
    (texts_leaves : Leaves (whole_unit texts 200 tokens) texts_count) where
  told : (deep parens text : Bool) → nat_lt deeper_count (length left) ≡ deep
      → nat_lt several_count (length left) ≡ parens → nat_lt texts_count (length left) ≡ text
      → IsKind f.front left (if deep then kind.TooDeep else if parens then kind.CallParens
      else if text then kind.TextHere else kind.Unexpected)
  told true parens text is is_parens is_text =
      unit_goes_on strict 200 strict 201 tokens left deeper_count f deeper_leaves (less _ _ is)
  told false true text is is_parens is_text = (
    no_unit_goes_on strict 200 strict 201 tokens left deeper_count f deeper_leaves (no_less _ _ is),
    unit_goes_on strict 200 several 200 tokens left several_count f several_leaves (less _ _ is_parens),
  )
  told false false true is is_parens is_text = (
    no_unit_goes_on strict 200 strict 201 tokens left deeper_count f deeper_leaves (no_less _ _ is),
    no_unit_goes_on strict 200 several 200 tokens left several_count f several_leaves (no_less _ _ is_parens),
    unit_goes_on strict 200 texts 200 tokens left texts_count f texts_leaves (less _ _ is_text),
  )
  told false false false is is_parens is_text = (
    no_unit_goes_on strict 200 strict 201 tokens left deeper_count f deeper_leaves (no_less _ _ is),
    no_unit_goes_on strict 200 several 200 tokens left several_count f several_leaves (no_less _ _ is_parens),
    no_unit_goes_on strict 200 texts 200 tokens left texts_count f texts_leaves (no_less _ _ is_text),
  )

  pub kind_is : IsKind f.front left (kind_by (length left) deeper_count several_count texts_count)
  kind_is = told _ _ _ refl refl refl

pub script_fault : (tokens left : Tokens) (deeper_count several_count texts_count line : ℕ)
    → whole_unit strict 200 tokens ≡ Err left
    → Leaves (whole_unit strict 201 tokens) deeper_count
    → Leaves (whole_unit several 200 tokens) several_count
    → Leaves (whole_unit texts 200 tokens) texts_count
    → line ≡ fault_line tokens left
    → HasFault tokens (kind_by (length left) deeper_count several_count texts_count) line
script_fault tokens left deeper_count several_count texts_count line read deeper_is several_is texts_is at =
    let f : IsFault Derives tokens left = unit_stops strict 200 tokens left read in
    record {
      left = left;
      fault = f;
      is_kind = kind_is tokens left f deeper_count several_count texts_count deeper_is several_is texts_is;
      in_line = at;
    }

-- ---- one answer

-- how many tokens a reader leaves
abbrev count_of : {A : Type 0} → Outcome A → ℕ
count_of (Ok read) = 0
count_of (Err left) = length left

counted : {A : Type 0} (o : Outcome A) → Leaves o (count_of o)
counted (Ok read) = refl
counted (Err left) = refl

-- every list of tokens spells a script or has a fault
pub some_answer : (tokens : Tokens) → ((unit : Script) × Derives tokens unit)
    ⊎ ((kind : ParseFault) × (line : ℕ) × HasFault tokens kind line)
some_answer tokens = go (whole_unit strict 200 tokens) refl
  where
    go : (o : Outcome Script) → whole_unit strict 200 tokens ≡ o → ((unit : Script) × Derives tokens unit)
        ⊎ ((kind : ParseFault) × (line : ℕ) × HasFault tokens kind line)
    go (Ok read) is = inl (read.0, script_sound tokens read.1 read.0 is)
    go (Err left) is = inr (
      _,
      fault_line tokens left,
      script_fault tokens left _ _ _ (fault_line tokens left) is
          (counted (whole_unit strict 201 tokens)) (counted (whole_unit several 200 tokens))
          (counted (whole_unit texts 200 tokens)) refl,
    )

-- what is spelled has no fault
pub no_fault : (tokens : Tokens) (unit : Script) (kind : ParseFault) (line : ℕ) → Derives tokens unit
    → HasFault tokens kind line → ⊥
no_fault tokens unit kind line is f = unit_faultless strict 200 tokens f.left unit is f.fault

-- no two kinds hold of the same tokens
one_kind : (front left : Tokens) (kind other : ParseFault) → IsKind front left kind → IsKind front left other
    → kind ≡ other
one_kind front left kind.TooDeep kind.TooDeep f g = refl
one_kind front left kind.TooDeep kind.CallParens f g = absurd (g.0 f)
one_kind front left kind.TooDeep kind.TextHere f g = absurd (g.0 f)
one_kind front left kind.TooDeep kind.Unexpected f g = absurd (g.0 f)
one_kind front left kind.CallParens kind.TooDeep f g = absurd (f.0 g)
one_kind front left kind.CallParens kind.CallParens f g = refl
one_kind front left kind.CallParens kind.TextHere f g = absurd (g.1 f.1)
one_kind front left kind.CallParens kind.Unexpected f g = absurd (g.1 f.1)
one_kind front left kind.TextHere kind.TooDeep f g = absurd (f.0 g)
one_kind front left kind.TextHere kind.CallParens f g = absurd (f.1 g.1)
one_kind front left kind.TextHere kind.TextHere f g = refl
one_kind front left kind.TextHere kind.Unexpected f g = absurd (g.2 f.2)
one_kind front left kind.Unexpected kind.TooDeep f g = absurd (f.0 g)
one_kind front left kind.Unexpected kind.CallParens f g = absurd (f.1 g.1)
one_kind front left kind.Unexpected kind.TextHere f g = absurd (f.2 g.2)
one_kind front left kind.Unexpected kind.Unexpected f g = refl

-- no two faults
pub fault_one : (tokens : Tokens) (kind other : ParseFault) (line number : ℕ) → HasFault tokens kind line
    → HasFault tokens other number → (kind ≡ other) × (line ≡ number)
fault_one tokens kind other line number f g =
    let left : f.left ≡ g.left = one_unit_fault strict 200 tokens f.left g.left f.fault g.fault in
    let front : f.fault.front ≡ g.fault.front = append_cancel_right f.fault.front g.fault.front g.left
    (ap (λ t. f.fault.front ++ t) (sym left) ∙ sym f.fault.split ∙ g.fault.split) in
    let is_kind : IsKind g.fault.front g.left kind = subst (λ t. IsKind t g.left kind) front
    (subst (λ t. IsKind f.fault.front t kind) left f.is_kind) in (
      one_kind g.fault.front g.left kind other is_kind g.is_kind,
      f.in_line ∙ ap (λ t. fault_line tokens t) left ∙ sym g.in_line,
    )

-- what a call answers whose Ok and faults are right
pub only_unit : (tokens : Tokens) (result : Result Script (Stop ParseFault)) → IfOk result (λ unit. Derives tokens unit)
    → OnFault result (HasFault tokens) → (unit : Script) → Derives tokens unit → Answers result stop.Memory (Ok unit)
only_unit tokens (Ok found) right faulty unit is = ap (λ u. Ok u) (unit_unique strict 200 tokens unit found is right)
only_unit tokens (Err stop.Memory) right faulty unit is = λ differs. absurd (differs refl)
only_unit tokens (Err (stop.Fault kind line)) right faulty unit is = absurd (no_fault tokens unit kind line is faulty)

pub only_fault : (tokens : Tokens) (result : Result Script (Stop ParseFault))
    → IfOk result (λ unit. Derives tokens unit) → OnFault result (HasFault tokens) → (kind : ParseFault) (line : ℕ)
    → HasFault tokens kind line → Answers result stop.Memory (Err (stop.Fault kind line))
only_fault tokens (Ok found) right faulty kind line is = absurd (no_fault tokens found kind line right is)
only_fault tokens (Err stop.Memory) right faulty kind line is = λ differs. absurd (differs refl)
only_fault tokens (Err (stop.Fault other number)) right faulty kind line is =
    let same = fault_one tokens kind other line number is faulty in
    λ _. ap (λ k. Err (stop.Fault k line)) same.0 ∙ ap (λ n. Err (stop.Fault other n)) same.1
