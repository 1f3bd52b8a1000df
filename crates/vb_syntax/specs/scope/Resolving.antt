-- The scope rules: which program a unit is (VBScript 5.6 language reference, "Scope and Lifetime of Variables", with
-- our own rules on what is unique and on what may stand where).
use Rattle.std.specs.Prelude.{◌≡◌, ℕ, [], ◌∷◌}
use Rattle.vb_syntax.specs.declared.note.ScopeFault.{ScopeFault}
use Rattle.vb_syntax.specs.declared.unit.Unit.{Unit as Script}
use Rattle.vb_syntax.specs.scope.Faults.{Faults, faults_of}
use Rattle.vb_syntax.specs.scope.Programs.{Parts, program_of}

-- The unit resolves to the program: it has no fault, and each name is what it stands for.
pub record Resolves (unit : Script) (program : Parts) : Type 0 where
  pub faultless : faults_of unit ≡ []
  pub is : program ≡ program_of unit

-- the fault, in its line, is the first of some
abbrev pub IsFirst : Faults → ScopeFault → ℕ → Type 0
IsFirst faults fault line = (later : Faults) × (faults ≡ (fault, line) ∷ later)

-- the fault, in its line, is the first that the unit has
abbrev pub IsFirstFault : Script → ScopeFault → ℕ → Type 0
IsFirstFault unit fault line = IsFirst (faults_of unit) fault line
