-- The objects of an act, from when they are made to their end. An object is live at first. Then its terminator has
-- begun, and then it has ended.
use Rattle.std.specs.Prelude.{◌≡◌, ◌≢◌, ◌+◌, ◌<◌, ◌≤◌, ℕ, zero, suc, Bool, true, false, if◌then◌else◌}
use Rattle.std.specs.Prelude.{List, [], ◌∷◌, ◌++◌, length, map, Some, None, is_none}
use Rattle.vb_heap.specs.declared.object.Object.{Object}
use Rattle.vb_heap.specs.Below.{EachBelow}
use Rattle.vb_heap.specs.Limits.{most_objects}
use Rattle.vb_heap.specs.Store.{numbered}
use Rattle.vb_meaning.specs.declared.stop.Stop.{Stop}
use Rattle.vb_meaning.specs.declared.stop.Stop.TheVariants as stop
use Rattle.vb_meaning.specs.World.{World}
use Rattle.vb_meaning.specs.State.{State}
use Rattle.vb_meaning.specs.Step.{Step, Returns, Ends}

-- what a world says of the objects of its act
pub record Account : Type 0 where
  -- those that have not ended, by their numbers, each with whether its terminator has begun
  pub objects : List (ℕ × Bool)
  -- how many were made
  pub made : ℕ
  -- how many have ended
  pub finished : ℕ

-- objects by their numbers, each with whether its terminator has begun
abbrev pub marks : List (ℕ × Object) → List (ℕ × Bool)
marks objects = map (λ object. (object.0, object.1.ending)) objects

abbrev pub account_of : World → Account
account_of world =
    record { objects = marks world.store.objects; made = world.store.objects_made; finished = world.finished }

-- an object is live
abbrev pub IsLive : ℕ → Account → Type 0
IsLive number account = numbered number account.objects ≡ Some false

-- its terminator has begun, and it has not ended
abbrev pub IsEnding : ℕ → Account → Type 0
IsEnding number account = numbered number account.objects ≡ Some true

-- an object was made, and is not live any more
abbrev pub HasBegun : ℕ → Account → Type 0
HasBegun number account = (number < account.made) × (numbered number account.objects ≢ Some false)

-- an object was made, and is not there any more
abbrev pub HasEnded : ℕ → Account → Type 0
HasEnded number account = (number < account.made) × (numbered number account.objects ≡ None)

-- the numbers below that one
abbrev pub numbers_below : ℕ → List ℕ
numbers_below zero = []
numbers_below (suc n) = numbers_below n ++ n ∷ []

-- those of them that no object has which is there
abbrev pub absent_below : ℕ → List (ℕ × Bool) → List ℕ
absent_below zero objects = []
absent_below (suc n) objects =
    if is_none (numbered n objects) then absent_below n objects ++ n ∷ [] else absent_below n objects

-- the numbers of the objects that have ended, each once
abbrev pub ended_objects : Account → List ℕ
ended_objects account = absent_below account.made account.objects

-- each number stands once
abbrev pub Differ : List (ℕ × Bool) → Type 0
Differ [] = Unit {0}
Differ (first ∷ others) = (numbered first.0 others ≡ None) × Differ others

-- An account that adds up: the objects that are there and those that have ended are as many as were made.
pub record AddsUp (account : Account) : Type 0 where
  pub differ : Differ account.objects
  pub below : EachBelow account.made account.objects
  pub count : account.finished + length account.objects ≡ account.made
  pub most : account.made ≤ most_objects

-- From an account to a later one: it adds up again, as many objects were made or more, an object whose terminator has
-- begun is not live again, and one that has ended does not come back.
pub record Onward (before after : Account) : Type 0 where
  pub adds_up : AddsUp after
  pub made : before.made ≤ after.made
  pub finished : before.finished ≤ after.finished
  pub begun : (number : ℕ) → HasBegun number before → HasBegun number after
  pub ended : (number : ℕ) → HasEnded number before → HasEnded number after

-- Onward, and the terminators that are being run are the same before and after: each that began on the way has come to
-- its end on the way.
pub record Settled (before after : Account) : Type 0 where
  pub onward : Onward before after
  pub stays : (number : ℕ) → IsEnding number before → IsEnding number after
  pub stood : (number : ℕ) → IsEnding number after → IsEnding number before

-- How the account goes on where something ended for this reason: a limit, and a call that is wanted, leave terminators
-- that have not come to their end.
abbrev pub Goes : Stop → Account → Account → Type 0
Goes (stop.Error what line) before after = Settled before after
Goes stop.Page before after = Settled before after
Goes (stop.Limit kind line) before after = Onward before after
Goes (stop.Wants call) before after = Onward before after
Goes stop.Memory before after = Onward before after

-- how it goes on where a step left its state
abbrev pub Kept : {S A : Type 0} → (S → Account) → Account → Step S A → Type 0
Kept of before (Returns value s) = Settled before (of s)
Kept of before (Ends why s) = Goes why before (of s)

-- the account of a state
abbrev pub account_at : {E : Type 0} → State E → Account
account_at s = account_of s.world
