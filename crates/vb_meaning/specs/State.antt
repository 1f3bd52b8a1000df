-- All that an act changes: the world, the ticks, the environment and the replies that are left.
use Rattle.std.specs.Prelude.{ℕ, List, Result, Ok, Err}
use Rattle.vb_value.specs.declared.application.AppReply.{AppReply}
use Rattle.vb_heap.specs.declared.fault.HeapStop.{HeapStop}
use Rattle.vb_heap.specs.Store.{Store}
use Rattle.vb_meaning.specs.declared.world.Frame.{Frame}
use Rattle.vb_meaning.specs.World.{World}
use Rattle.vb_meaning.specs.Stops.{heap_stop}
use Rattle.vb_meaning.specs.Step.{Step, Returns, Ends, Run}

-- the state of an act in an environment of type E
pub record State (E : Type 0) : Type 0 where
  pub world : World
  -- how many ticks are left
  pub ticks : ℕ
  pub env : E
  -- the replies of the Application object that no call has taken yet
  pub replies : List AppReply

-- what is done in an act
abbrev pub Does : Type 0 → Type 0 → Type 0
Does E A = Run (State E) A

-- a step of the world, in a state
abbrev pub lifted : {E A : Type 0} → State E → Step World A → Step (State E) A
lifted s (Returns value world) = Returns value (record s { world = world })
lifted s (Ends why world) = Ends why (record s { world = world })

-- a change of the world alone
abbrev pub on_world : {E A : Type 0} → Run World A → Does E A
on_world change s = lifted s (change s.world)

-- a look at the world
abbrev pub looking : {E A : Type 0} → (World → A) → Does E A
looking at s = Returns (at s.world) s

-- the procedure that runs
abbrev pub with_frame : (Frame → Frame) → World → World
with_frame change world = record world { frame = change world.frame }

-- the data of the page
abbrev pub with_store : (Store → Store) → World → World
with_store change world = record world { store = change world.store }

-- what a call on the data of the page answers, and the world that it leaves where it is not refused
abbrev pub store_answer : {A : Type 0} → Result A HeapStop → World → World → Step World A
store_answer (Ok value) changed world = Returns value changed
store_answer (Err why) changed world = Ends (heap_stop why) world

-- a call on the data of the page
abbrev pub on_store : {A : Type 0} → (Store → Result A HeapStop) → (Store → Store) → Run World A
on_store answer change world = store_answer (answer world.store) (with_store change world) world
