-- Programs and faults of a script exclude one another.
use Rattle.std.proofs.Common.{◌≡◌, ◌⊎◌, inl, inr, ℕ, [], ◌∷◌, refl, sym, ◌∙◌}
use Rattle.vb_syntax.specs.declared.note.ScopeFault.{ScopeFault}
use Rattle.vb_syntax.specs.declared.unit.Unit.{Unit as Script}
use Rattle.vb_syntax.specs.scope.Resolving.{IsFirstFault, Resolves}
use Rattle.vb_syntax.specs.scope.Faults.{Faults, faults_of}
use Rattle.vb_syntax.specs.scope.Programs.{Parts, program_of}

pub one_program_lem : (script : Script) (one other : Parts) → Resolves script one → Resolves script other → one ≡ other
one_program_lem script one other a b = a.is ∙ sym b.is

by_faults : (script : Script) (faults : Faults) → faults_of script ≡ faults
    → ((program : Parts) × Resolves script program)
    ⊎ ((fault : ScopeFault) × (line : ℕ) × IsFirstFault script fault line)
by_faults script [] is = inl (program_of script, record { faultless = is; is = refl })
by_faults script (fault ∷ later) is = inr (fault.0, fault.1, (later, is))

pub program_or_first_fault_lem : (script : Script) → ((program : Parts) × Resolves script program)
    ⊎ ((fault : ScopeFault) × (line : ℕ) × IsFirstFault script fault line)
program_or_first_fault_lem script = by_faults script (faults_of script) refl

none_first : (faults : Faults) (fault : ScopeFault) (line : ℕ) (later : Faults) → faults ≡ []
    → faults ≡ (fault, line) ∷ later → ⊥
none_first faults fault line later none first = cc

pub program_faultless_lem : (script : Script) (program : Parts) (fault : ScopeFault) (line : ℕ)
    → Resolves script program → IsFirstFault script fault line → ⊥
program_faultless_lem script program fault line resolves first =
    none_first (faults_of script) fault line first.0 resolves.faultless first.1
