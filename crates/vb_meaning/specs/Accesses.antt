-- The steps of a path as accesses: an element or a call by a group, and a member together with the group directly
-- behind it.
use Rattle.std.specs.Prelude.{ℕ, Bool, true, false, List, [], ◌∷◌, Option, Some, None}
use Rattle.vb_syntax.specs.declared.program.expression.Expression.{Expression}
use Rattle.vb_syntax.specs.declared.program.expression.Expression.TheOpen.{Step-F}
use Rattle.vb_syntax.specs.declared.program.expression.Operation.{Operation}
use Rattle.vb_syntax.specs.declared.program.expression.Path.{Path}
use Rattle.vb_syntax.specs.declared.program.expression.Step.{Step, out-Step}

pub data Access : Type 0 where
  -- `(arguments)`
  Group : List Expression → Access
  -- `.name` by the number of the name, and the arguments behind it if there are parentheses
  Member : ℕ → Option (List Expression) → Access

-- a member before other accesses
abbrev pub member_before : ℕ → List Access → List Access
member_before name (Group arguments ∷ more) = Member name (Some arguments) ∷ more
member_before name more = Member name None ∷ more

-- one step before other accesses
abbrev pub access_before : Step-F Expression Step Operation Path → List Access → List Access
access_before (Step-F.Group arguments) more = Group arguments ∷ more
access_before (Step-F.Member name) more = member_before name more

-- the accesses of some steps
abbrev pub accesses : List Step → List Access
accesses [] = []
accesses (step ∷ steps) = access_before (out-Step step) (accesses steps)

-- the arguments of a member
abbrev pub given_arguments : Option (List Expression) → List Expression
given_arguments (Some arguments) = arguments
given_arguments None = []

-- the arguments of a call, which are the first group, and what stands behind
abbrev pub call_split : List Access → List Expression × List Access
call_split (Group arguments ∷ more) = (arguments, more)
call_split more = ([], more)

-- whether no member is among the accesses
abbrev pub only_groups : List Access → Bool
only_groups [] = true
only_groups (Group arguments ∷ more) = only_groups more
only_groups (Member name arguments ∷ more) = false
