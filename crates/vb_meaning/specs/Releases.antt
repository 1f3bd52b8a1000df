-- Release points: how objects end to which nothing refers any more, and their terminators (VBScript 5.6 language
-- reference, "Terminate Event").
use Rattle.std.specs.Prelude.{ℕ, zero, suc, ◌+◌, ◌-◌, Bool, true, false, [], Option, Some, None, slice_get}
use Rattle.std.specs.Option.{option_and_then}
use Rattle.vb_value.specs.declared.value.Value.{Value, Empty}
use Rattle.vb_syntax.specs.declared.program.unit.Class.{Class}
use Rattle.vb_syntax.specs.declared.program.unit.Procedure.{Procedure}
use Rattle.vb_heap.specs.Limits.{most_objects}
use Rattle.vb_heap.specs.Releases.{oldest_loose, oldest_live, with_ending, object_of}
use Rattle.vb_meaning.specs.declared.stop.Stop.TheVariants as stop
use Rattle.vb_meaning.specs.World.{World}
use Rattle.vb_meaning.specs.Errors.{cleared, in_line}
use Rattle.vb_meaning.specs.Inner.{Inner}
use Rattle.vb_meaning.specs.Objects.{class_at}
use Rattle.vb_meaning.specs.Places.{let_go}
use Rattle.vb_meaning.specs.State.{State, Does, with_store}
use Rattle.vb_meaning.specs.Step.{Step, Returns, Ends, and_then, ◌>>◌, pure}
use Rattle.vb_meaning.specs.Stored as stored
use Rattle.vb_meaning.specs.Stored.{class_number}

-- the world in which a terminator begins: Err holds no error
abbrev pub terminating : World → World
terminating world = cleared (record world { terminates = true })

-- The world after a terminator: its object has ended, and Err holds what it held before.
abbrev pub ended : ℕ → World → World → World
ended object before world = record world {
  store = stored.finished object world.store;
  err = before.err;
  terminates = before.terminates;
  finished = world.finished + 1;
}

-- the world once the page has ended
abbrev pub behind_page : World → World
behind_page world = record world { page_ended = true }

-- the Class_Terminate of a class
abbrev pub terminator_in : Option Class → Option Procedure
terminator_in (Some class) = option_and_then (slice_get class.procedures) class.terminate
terminator_in None = None

module _ (E : Type 0) where
  -- a state with another world
  abbrev pub in_world : World → State E → State E
  in_world world s = record s { world = world }

  -- what a page stop in a terminator does behind it: it goes on, unless the page has ended
  abbrev pub stopped : Bool → State E → Step (State E) (Unit {0})
  stopped true s = Returns tt s
  stopped false s = Ends stop.Page s

  -- How a terminator came to its end: its object has ended. An error ends it alone.
  abbrev pub terminated : ℕ → World → Step (State E) Value → Step (State E) (Unit {0})
  terminated object before (Returns value s) = Returns tt (in_world (ended object before s.world) s)
  terminated object before (Ends (stop.Error what line) s) = Returns tt (in_world (ended object before s.world) s)
  terminated object before (Ends stop.Page s) = stopped before.page_ended (in_world (ended object before s.world) s)
  terminated object before (Ends (stop.Limit kind line) s) = Ends (stop.Limit kind line) s
  terminated object before (Ends (stop.Wants call) s) = Ends (stop.Wants call) s
  terminated object before (Ends stop.Memory s) = Ends stop.Memory s

module _ (E : Type 0) (m : Inner E) where
  -- the terminator of an object, if its class has one
  abbrev pub terminator : ℕ → Option ℕ → Option Procedure → Does E Value
  terminator object (Some class) (Some procedure) = m.enter (Some (object_of object, class)) procedure []
  terminator object _ _ = pure Empty

  -- the same for the class of this number
  abbrev pub terminator_of : ℕ → Option ℕ → Does E Value
  terminator_of object class = terminator object class (terminator_in (class_at m.program class))

  -- the terminator of an ending object, and what follows it
  unfoldable pub terminate : ℕ → Does E (Unit {0})
  terminate object s = terminated E object s.world
      (terminator_of object (class_number object s.world.store) (in_world E (terminating s.world) s))

  -- an object that was found ends, and more do
  abbrev pub released_one : Does E (Unit {0}) → Option ℕ → Does E (Unit {0})
  released_one more (Some object) s =
      (terminate object >> more) (in_world E (with_store (with_ending (Some object)) s.world) s)
  released_one more None s = Returns tt s

  -- While some live object has no reference, the oldest such ends, at most so many times.
  abbrev pub settle_times : ℕ → Does E (Unit {0})
  settle_times zero s = Returns tt s
  settle_times (suc more) s = released_one (settle_times more) (oldest_loose s.world.store) s

  -- no object ends twice
  unfoldable pub settle : Does E (Unit {0})
  settle s = settle_times (most_objects - s.world.finished) s

  -- The end of a statement or of a head: what it held is held no more, and objects end. An error goes on behind it.
  abbrev pub release : {A : Type 0} → ℕ → Step (State E) A → Step (State E) A
  release mark (Returns value s) = (settle >> pure value) (in_world E (let_go mark s.world) s)
  release mark (Ends (stop.Error what line) s) =
      (settle >> Ends (stop.Error what line)) (in_world E (let_go mark s.world) s)
  release mark (Ends stop.Page s) = Ends stop.Page s
  release mark (Ends (stop.Limit kind line) s) = Ends (stop.Limit kind line) s
  release mark (Ends (stop.Wants call) s) = Ends (stop.Wants call) s
  release mark (Ends stop.Memory s) = Ends stop.Memory s

  -- ---- the end of the page

  -- the line in which a terminator begins
  abbrev pub terminator_line : Option Procedure → ℕ
  terminator_line (Some procedure) = procedure.line
  terminator_line None = 0

  -- the same of the terminator of an object
  abbrev pub line_of : ℕ → World → ℕ
  line_of object world =
      terminator_line (terminator_in (class_at m.program (class_number object world.store)))

  -- An object ends where no statement does, so that its terminator is entered in its own line. The page has ended: a page
  -- stop in a terminator ends that terminator alone, also where it runs within another one.
  abbrev pub end_one : Does E (Unit {0}) → Option ℕ → Does E (Unit {0})
  end_one more (Some object) s = and_then (in_line (line_of object s.world) (terminate object
      (in_world E (behind_page (with_store (with_ending (Some object)) s.world)) s))) (λ _. more)
  end_one more None s = Returns tt s

  -- while some live object has no reference, as above
  abbrev pub settle_last_times : ℕ → Does E (Unit {0})
  settle_last_times zero s = Returns tt s
  settle_last_times (suc more) s = end_one (settle_last_times more) (oldest_loose s.world.store) s

  unfoldable pub settle_last : Does E (Unit {0})
  settle_last s = settle_last_times (most_objects - s.world.finished) s

  -- each object that is left ends in the order of creation, and after each what it leaves without references
  abbrev pub end_times : ℕ → Does E (Unit {0})
  end_times zero s = Returns tt s
  end_times (suc more) s = end_one (settle_last >> end_times more) (oldest_live s.world.store) s

  unfoldable pub end_all : Does E (Unit {0})
  end_all s = end_times (most_objects - s.world.finished) s
