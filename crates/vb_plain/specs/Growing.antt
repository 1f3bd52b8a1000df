-- Assignments `x = x & ..` by which the text of a variable grows where it lies.
use Rattle.std.specs.Prelude.{◌≡◌, ℕ, List, [], ◌++◌, Ok}
use Rattle.vb_value.specs.declared.value.Value.{Str}
use Rattle.vb_syntax.specs.declared.program.Program.{Program}
use Rattle.vb_syntax.specs.declared.program.expression.Expression.{Expression, out-Expression}
use Rattle.vb_syntax.specs.declared.program.expression.Expression.TheOpen.{Expression-F}
use Rattle.vb_syntax.specs.declared.program.expression.Head.TheVariants as head
use Rattle.vb_syntax.specs.declared.program.expression.Operation.{Operation}
use Rattle.vb_syntax.specs.declared.program.expression.Path.{Path}
use Rattle.vb_syntax.specs.declared.program.name.Named.TheVariants as named
use Rattle.vb_syntax.specs.declared.program.name.Slot.{Slot}
use Rattle.vb_heap.specs.declared.place.CellNo.{CellNo}
use Rattle.vb_heap.specs.Cells.{read_of}
use Rattle.vb_meaning.specs.declared.reached.Assigned.TheVariants as assigned
use Rattle.vb_meaning.specs.declared.world.Exit.TheVariants.{Next}
use Rattle.vb_meaning.specs.Asking.{Host}
use Rattle.vb_meaning.specs.Meaning.{inside}
use Rattle.vb_meaning.specs.Places.{cell_place, store_place}
use Rattle.vb_meaning.specs.State.{State, on_world}
use Rattle.vb_meaning.specs.Statements.{assignment}
use Rattle.vb_meaning.specs.Step.{and_then, pure}
use Rattle.vb_plain.specs.Lent.{IsVariable}

-- a target is a variable alone, and what is assigned begins with that variable, behind which these operations stand
pub record Lengthens (target : Path) (given : Expression) (slot : Slot) (rest : List Operation) : Type 0 where
  pub at : target.head ≡ head.Named (named.Place slot)
  pub alone : target.steps ≡ []
  pub first : Expression
  pub variable : IsVariable first slot
  pub chain : out-Expression given ≡ Expression-F.Chain first rest

-- an assignment stores the text of a cell there with more behind it, and does nothing else
pub record Grows (E : Type 0) (host : Host E) (program : Program) (levels : ℕ) (target : Path) (given : Expression)
    (s : State E) (cell : CellNo) (more : List ℕ) : Type 0 where
  pub text : List ℕ
  pub there : read_of (cell_place cell) s.world.store ≡ Ok (Str text)
  pub does : assignment E (inside E host program levels) assigned.Let target given s
      ≡ and_then (on_world (store_place (cell_place cell) (Str (text ++ more))) s) (λ _. pure Next)
