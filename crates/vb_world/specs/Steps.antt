-- The accesses of a path as the evaluator has them.
use Rattle.std.specs.Prelude.{ℕ, zero, suc, List, [], ◌∷◌, Option, Some, None, Result, Ok, Err}
use Rattle.std.specs.Option.{option_copied}
use denote.Ref.{Bor}
use Rattle.vb_syntax.specs.declared.program.expression.Step.{Step}
use Rattle.vb_value.specs.declared.value.Value.{Value}
use Rattle.vb_syntax.specs.declared.program.expression.Expression.{Expression}
use Rattle.vb_meaning.specs.declared.stop.Stop.{Stop}
use Rattle.vb_meaning.specs.Accesses.{Access, Group, Member, accesses}
use Rattle.vb_world.specs.declared.accesses.Access.{Access as Found}
use Rattle.vb_world.specs.declared.accesses.Access.TheVariants as found

-- one access
abbrev pub access_seen : Found → Access
access_seen (found.Group arguments) = Group arguments.now
access_seen (found.Member name arguments) = Member name (option_copied arguments)

-- the accesses of what was split into the first and the rest
abbrev pub split_seen : Option (Found × Bor (List Step)) → List Access
split_seen (Some split) = access_seen split.0 ∷ accesses split.1.now
split_seen None = []

-- the next of so many groups and what stands behind
abbrev pub next_group : ℕ → List Access → Option (List Expression × List Access)
next_group zero more = None
next_group (suc groups) (Group supplied ∷ more) = Some (supplied, more)
next_group (suc groups) more = None

-- the same of what was split
abbrev pub group_split_seen : Option (Bor (List Expression) × Bor (List Step)) → Option (List Expression × List Access)
group_split_seen (Some split) = Some (split.0.now, accesses split.1.now)
group_split_seen None = None

-- the values in groups, and the accesses that stand behind
abbrev pub groups_seen : Result (List Value × Bor (List Step)) Stop → Result (List Value × List Access) Stop
groups_seen (Ok split) = Ok (split.0, accesses split.1.now)
groups_seen (Err why) = Err why

-- the call that a path begins with, if there is one, and what stands behind
abbrev pub first_call : List Access → List Access × List Access
first_call (Group supplied ∷ more) = (Group supplied ∷ [], more)
first_call more = ([], more)

-- the arguments of a call, if nothing else stands among the accesses
abbrev pub call_alone : List Access → Option (List Expression)
call_alone [] = Some []
call_alone (Group supplied ∷ []) = Some supplied
call_alone more = None
