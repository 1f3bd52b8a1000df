-- The numbers of the objects that New and CreateObject give.
use Rattle.std.specs.Prelude.{◌≡◌, ◌<◌, ℕ, List, Option, None}
use Rattle.vb_value.specs.declared.value.Value.{Value, Obj}
use Rattle.vb_heap.specs.Releases.{object_of}
use Rattle.vb_heap.specs.Store.{numbered}
use Rattle.vb_meaning.specs.World.{World}
use Rattle.vb_meaning.specs.Inner.{Inner}
use Rattle.vb_meaning.specs.Making.{new_of}
use Rattle.vb_meaning.specs.Reading.{create_object}
use Rattle.vb_meaning.specs.State.{State}
use Rattle.vb_meaning.specs.Step.{Step, Returns, Ends}

-- what a step gives, with the state that it leaves, if it gives a value
abbrev pub Gives : {S A : Type 0} → (A → S → Type 0) → Step S A → Type 0
Gives holds (Returns value s) = holds value s
Gives holds (Ends why s) = Unit {0}

-- a value is an object with the number that the next object was to have, and the next has a greater one
pub record IsNext (before : World) (value : Value) (after : World) : Type 0 where
  pub is : value ≡ Obj (object_of before.store.objects_made)
  pub later : before.store.objects_made < after.store.objects_made

-- From a state, New and CreateObject give such objects. No object that is there has that number.
pub record GivesNew (E : Type 0) (m : Inner E) (s : State E) : Type 0 where
  pub free : numbered s.world.store.objects_made s.world.store.objects ≡ None
  pub new : (class : Option ℕ) → Gives (λ value after. IsNext s.world value after.world) (new_of E m class s)
  pub create : (arguments : List Value) → Gives (IsNext s.world) (create_object arguments s.world)
