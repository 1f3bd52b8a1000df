-- The first procedure of a name, looked for from a number on.
use Rattle.std.proofs.Common.{◌≡◌, ℕ, zero, suc, ◌+◌, ◌==◌, ◌&&◌, Bool, true, if◌then◌else◌, List, [], ◌∷◌, drop, slice_get}
use Rattle.std.proofs.Common.{Some, None, refl, sym, ◌∙◌, arith}
use Rattle.std.proofs.lemmas.Bool.Decides.{nat_tests}
use Rattle.vb_syntax.specs.declared.program.unit.Procedure.{Procedure}
use Rattle.vb_syntax.specs.declared.program.unit.ProcedureKind.{ProcedureKind}
use Rattle.vb_meaning.specs.Objects.{procedure_named}

pub named_here : (name : ℕ) (test : ProcedureKind → Bool) (procedures : List Procedure) (number : ℕ)
    (found : Procedure) → slice_get procedures number ≡ Some found
    → procedure_named name test (drop number procedures) ≡ (if found.name == name && test found.kind then Some found
    else procedure_named name test (drop (number + 1) procedures))
named_here name test [] number found is = cc
named_here name test (first ∷ others) zero found is = let same : first ≡ found = cc in rw same refl
named_here name test (first ∷ others) (suc number) found is =
    let more : suc number + 1 ≡ suc (number + 1) = omega arith in
    rw more (named_here name test others number found is)

pub named_found : (name : ℕ) (test : ProcedureKind → Bool) (procedures : List Procedure) (number : ℕ)
    (found : Procedure) → slice_get procedures number ≡ Some found → found.name ≡ name
    → test found.kind ≡ true → slice_get procedures number ≡ procedure_named name test (drop number procedures)
named_found name test procedures number found is named kind =
    let same : (found.name == name) ≡ true = grind (named, arith, nat_tests) in
    is ∙ sym (named_here name test procedures number found is ∙ rw (same, kind) refl)

pub named_nowhere : (name : ℕ) (test : ProcedureKind → Bool) (procedures : List Procedure) (number : ℕ)
    → slice_get procedures number ≡ None → procedure_named name test (drop number procedures) ≡ None
named_nowhere name test [] zero is = refl
named_nowhere name test [] (suc number) is = refl
named_nowhere name test (first ∷ others) zero is = cc
named_nowhere name test (first ∷ others) (suc number) is = named_nowhere name test others number is
