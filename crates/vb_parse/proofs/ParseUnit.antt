-- What a parser of units answers, from what its readers read.
use Rattle.std.proofs.Common.{◌≡◌, ℕ, ◌<◌, ◌≤◌, length, Ok, Err, refl}
use Rattle.vb_syntax.specs.declared.unit.Unit.{Unit as Script}
use Rattle.vb_syntax.specs.grammar.Rules.{Tokens}
use Rattle.vb_syntax.specs.grammar.SimpleStatements.{Looser}
use Rattle.vb_syntax.specs.grammar.Units as grammar
use Rattle.vb_syntax.specs.grammar.Faults.{IsFault, WouldGoOn}
use Rattle.vb_parse.specs.Outcome.{Leaves}
use Rattle.vb_read.specs.ReadUnits as spec
use Rattle.vb_read.specs.ReadUnits.{whole_unit}
use Rattle.vb_read.proofs.Theorems.{Fits, fits, unique, sound, stops_at_fault, spelled_no_fault}
use Rattle.vb_read.proofs.Theorems.{fault_unique}
use Rattle.vb_parse.proofs.Telling.{would_go_on, would_not_go_on}
use Rattle.vb_read.proofs.UnitReading.{reads_unit}
use Rattle.vb_read.proofs.ScriptTaking.{takes_unit}

unit_fits : (looser : Looser) (depth : ℕ) → Fits (spec.unit looser depth) (grammar.unit looser depth)
unit_fits looser depth = fits (reads_unit looser depth) (takes_unit looser depth) (record { fits = refl })

-- what is read is spelled so
pub unit_sound : (looser : Looser) (depth : ℕ) (tokens rest : Tokens) (x : Script)
    → whole_unit looser depth tokens ≡ Ok (x, rest) → grammar.unit looser depth tokens x
unfolding whole_unit
unit_sound looser depth = sound (spec.unit looser depth) (grammar.unit looser depth) (unit_fits looser depth)

-- a reader that stops stops at a fault
pub unit_stops : (looser : Looser) (depth : ℕ) (tokens left : Tokens) → whole_unit looser depth tokens ≡ Err left
    → IsFault (grammar.unit looser depth) tokens left
unfolding whole_unit
unit_stops looser depth = stops_at_fault (spec.unit looser depth) (grammar.unit looser depth) (unit_fits looser depth)

-- no tokens spell two units
pub unit_unique : (looser : Looser) (depth : ℕ) (tokens : Tokens) (x y : Script) → grammar.unit looser depth tokens x
    → grammar.unit looser depth tokens y → x ≡ y
unit_unique looser depth = unique (spec.unit looser depth) (grammar.unit looser depth) (unit_fits looser depth)

-- what is spelled has no fault
pub unit_faultless : (looser : Looser) (depth : ℕ) (tokens left : Tokens) (x : Script)
    → grammar.unit looser depth tokens x → IsFault (grammar.unit looser depth) tokens left → ⊥
unit_faultless looser depth tokens left x = spelled_no_fault (grammar.unit looser depth) tokens left x

-- the first token with which no unit goes on is one
pub one_unit_fault : (looser : Looser) (depth : ℕ) (tokens left other : Tokens)
    → IsFault (grammar.unit looser depth) tokens left → IsFault (grammar.unit looser depth) tokens other → left ≡ other
one_unit_fault looser depth = fault_unique (grammar.unit looser depth)

-- ---- kinds

module _ (looser : Looser) (depth : ℕ) (wider : Looser) (deeper : ℕ) where
  -- a unit of the wider grammar goes on with the first token that is left: its reader leaves fewer tokens
  pub unit_goes_on : (tokens left : Tokens) (count : ℕ) (f : IsFault (grammar.unit looser depth) tokens left)
      → Leaves (whole_unit wider deeper tokens) count → count < length left
      → WouldGoOn (grammar.unit wider deeper) f.front left
  unfolding whole_unit
  unit_goes_on = would_go_on (grammar.unit looser depth) (spec.unit wider deeper) (grammar.unit wider deeper)
      (unit_fits wider deeper)

  -- none does: its reader leaves as many
  pub no_unit_goes_on : (tokens left : Tokens) (count : ℕ) (f : IsFault (grammar.unit looser depth) tokens left)
      → Leaves (whole_unit wider deeper tokens) count → length left ≤ count
      → ¬ (WouldGoOn (grammar.unit wider deeper) f.front left)
  unfolding whole_unit
  no_unit_goes_on = would_not_go_on (grammar.unit looser depth) (spec.unit wider deeper) (grammar.unit wider deeper)
      (unit_fits wider deeper)
