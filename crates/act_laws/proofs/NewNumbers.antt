-- The numbers of the objects that New and CreateObject give are new.
use Rattle.std.proofs.Common.{ℕ, ◌≡◌, ◌<◌, Bool, true, false, if◌then◌else◌, IsTrue, List, [], ◌∷◌, length}
use Rattle.std.proofs.Common.{Option, Some, None, Result, Ok, Err, is_ok, refl, sym, ap, subst, ◌∙◌, arith, codes}
use Rattle.std.proofs.Common.{slice_get}
use Rattle.std.specs.Option.{option_and_then, option_map}
use Rattle.vb_value.specs.declared.fault.VbError.{VbError}
use Rattle.vb_value.specs.declared.value.ObjNo.{ObjNo}
use Rattle.vb_value.specs.declared.value.Value.{Value, Obj}
use Rattle.vb_value.specs.Conversions.{to_str_of}
use Rattle.vb_value.specs.Errors.{cannot_create_object}
use Rattle.vb_value.specs.Folding.{same_name}
use Rattle.vb_syntax.specs.declared.program.unit.Class.{Class}
use Rattle.vb_syntax.specs.declared.program.unit.Field.{Field}
use Rattle.vb_syntax.specs.declared.program.unit.Procedure.{Procedure}
use Rattle.vb_heap.specs.declared.fault.HeapStop.{HeapStop}
use Rattle.vb_heap.specs.declared.object.Object.{Object}
use Rattle.vb_heap.specs.Entries.{new_table_of, with_new_table}
use Rattle.vb_heap.specs.Limits.{fits}
use Rattle.vb_heap.specs.Objects.{new_object_of, with_new_object}
use Rattle.vb_heap.specs.Releases.{object_of}
use Rattle.vb_heap.specs.Store.{numbered}
use Rattle.vb_meaning.specs.declared.reached.Argument.{Argument}
use Rattle.vb_meaning.specs.World.{World}
use Rattle.vb_meaning.specs.Inner.{Inner, Owner}
use Rattle.vb_meaning.specs.Making as making
use Rattle.vb_meaning.specs.Meaning.{inside}
use Rattle.vb_meaning.specs.Objects.{class_at}
use Rattle.vb_meaning.specs.Places.{hold}
use Rattle.vb_meaning.specs.Reading.{create_object, created}
use Rattle.vb_meaning.specs.State.{State, store_answer, lifted, on_store, with_store}
use Rattle.vb_meaning.specs.Step.{Step, Returns, Ends, Run, and_then, ◌>>=◌, ◌>>◌, pure, given, fails}
use Rattle.act_laws.specs.Laws.{NewNumbersAreFree}
use Rattle.act_laws.specs.Numbers.{Gives, IsNext}
use Rattle.act_laws.specs.Objects.{AddsUp, Kept, account_at, account_of, marks}
use Rattle.act_laws.proofs.Finishing.{levels_alone}
use Rattle.act_laws.proofs.Keeping.{Keeps}
use Rattle.act_laws.proofs.Marks.{marked_by, object_settles}
use Rattle.act_laws.proofs.Numbers.{none_above}
use Rattle.act_laws.proofs.Wantless.{then_wantless}
use Rattle.act_laws.proofs.WantlessPlaces.{hold_wantless}
use Rattle.act_laws.proofs.WantlessScopes.{fields_made_wantless}

-- ---- a new object of a class

-- it has that number, and others were not made before it
abbrev IsMade : World → ObjNo → World → Type 0
IsMade before object after = (object ≡ object_of before.store.objects_made)
    × (before.store.objects_made < after.store.objects_made) × AddsUp (account_of after)

-- what is made of it keeps the account, and gives the object itself
abbrev behind : ObjNo → List Field → Run World ObjNo
behind object fields = hold (Obj object) >> making.fields_made object 0 fields >> pure object

behind_gives : (before world : World) (object : ObjNo) (fields : List Field) → IsMade before object world
    → Gives (IsMade before) (behind object fields world)
behind_gives before world object fields made =
    let first = then_wantless (hold_wantless (Obj object)) (λ done. fields_made_wantless object 0 fields) in
    by ((hold (Obj object) >> making.fields_made object 0 fields) world) (first.keeps world made.2)
  where
    by : (step : Step World (Unit {0})) → Kept account_of (account_of world) step
        → Gives (IsMade before) (and_then step (λ done. pure object))
    by (Returns done after) kept =
        let more = kept.onward.made in (made.0, omega (arith, made.1, more), kept.onward.adds_up)
    by (Ends why after) kept = tt

object_gives : (number : ℕ) (fields : List Field) (world : World) → AddsUp (account_of world)
    → Gives (IsMade world) ((on_store (new_object_of number (length fields)) (with_new_object number (length fields))
    >>= (λ object. behind object fields)) world)
object_gives number fields world right = by (new_object_of number (length fields) world.store) refl
  where
    changed : World
    changed = with_store (with_new_object number (length fields)) world

    is_it : (fitting : Bool) (object : ObjNo) (made : ObjNo) (why : HeapStop)
        → (if fitting then Ok made else Err why) ≡ Ok object → object ≡ made
    is_it true object made why is = cc
    is_it false object made why is = absurd (cc)

    by : (found : Result ObjNo HeapStop) → new_object_of number (length fields) world.store ≡ found
        → Gives (IsMade world) (and_then (store_answer found changed world) (λ object. behind object fields))
    by (Err why) is = tt
    by (Ok object) is =
        let settled = object_settles number (length fields) world.store world.finished right
        (subst (λ (answer : Result ObjNo HeapStop). IsTrue (is_ok answer)) (sym is) refl) in
        behind_gives world changed object fields (
          is_it (fits (with_new_object number (length fields) world.store)) object
              (record { 0 = world.store.objects_made }) _ is,
          omega arith,
          settled.onward.adds_up,
        )

module _ (E : Type 0) (m : Inner E)
    (enter : (owner : Owner) (procedure : Procedure) (arguments : List Argument)
    → Keeps account_at (m.enter owner procedure arguments)) where
  -- the object that was made, in a state
  initialized_gives : (before : World) (s : State E) (object : ObjNo) (number : ℕ) (found : Option Procedure)
      → IsMade before object s.world
      → Gives (λ value after. IsNext before value after.world) (making.initialized E m object number found s)
  initialized_gives before s object number None made = record { is = ap (λ found. Obj found) made.0; later = made.1 }
  initialized_gives before s object number (Some procedure) made =
      by (m.enter (Some (object, number)) procedure [] s) (enter (Some (object, number)) procedure [] s made.2)
    where
      by : (step : Step (State E) Value) → Kept account_at (account_at s) step
          → Gives (λ (value : Value) (after : State E). IsNext before value after.world)
          (and_then step (λ value. pure (Obj object)))
      by (Returns value after) kept =
          let more = kept.onward.made in record {
            is = ap (λ found. Obj found) made.0;
            later = omega (arith, made.1, more);
          }
      by (Ends why after) kept = tt

  let_go_gives : (before : World) (change : World → World)
      → ((world : World) → (change world).store.objects_made ≡ world.store.objects_made) → (step : Step (State E) Value)
      → Gives (λ value after. IsNext before value after.world) step
      → Gives (λ value after. IsNext before value after.world)
      (and_then step (λ value s. Returns value (record s { world = change s.world })))
  let_go_gives before change same (Returns value s) next =
      let made = same s.world in let later = next.later in record { is = next.is; later = omega (arith, made, later) }
  let_go_gives before change same (Ends why s) next = tt

  made_gives : (number : ℕ) (class : Class) (s : State E) → AddsUp (account_at s)
      → Gives (λ value after. IsNext s.world value after.world) (making.made E m number class s)
  made_gives number class s right = let_go_gives s.world _ (λ world. refl) _
      (by ((on_store (new_object_of number (length class.fields)) (with_new_object number (length class.fields))
      >>= (λ object. behind object class.fields)) s.world) (object_gives number class.fields s.world right))
    where
      initialize : Option Procedure
      initialize = option_and_then (slice_get class.procedures) class.initialize

      by : (step : Step World ObjNo) → Gives (IsMade s.world) step
          → Gives (λ (value : Value) (after : State E). IsNext s.world value after.world)
          (and_then (lifted s step) (λ object. making.initialized E m object number initialize))
      by (Returns object world) made = initialized_gives s.world
          (record s { world = world }) object number initialize made
      by (Ends why world) made = tt

  made_of_gives : (number : Option ℕ) (class : Option Class) (s : State E) → AddsUp (account_at s)
      → Gives (λ value after. IsNext s.world value after.world) (making.made_of E m number class s)
  made_of_gives (Some number) (Some class) s right = made_gives number class s right
  made_of_gives (Some number) None s right = tt
  made_of_gives None class s right = tt

  new_gives : (number : Option ℕ) (s : State E) → AddsUp (account_at s)
      → Gives (λ value after. IsNext s.world value after.world) (making.new_of E m number s)
  unfolding making.new_of
  new_gives number s right = made_of_gives number (class_at m.program number) s right

-- ---- a dictionary

created_gives : (name : List ℕ) (world : World) → Gives (IsNext world) (created name world)
created_gives name world = by (same_name (codes "scripting.dictionary") name)
  where
    table : (found : Result ObjNo HeapStop) → new_table_of world.store ≡ found → Gives (IsNext world)
        (and_then (store_answer found (with_store with_new_table world) world) (λ object. pure (Obj object)))
    table (Err why) is = tt
    table (Ok object) is = record {
      is = ap (λ found. Obj found) (is_it (fits (with_new_table world.store)) object
          (record { 0 = world.store.objects_made }) _ is);
      later = omega arith;
    }
      where
        is_it : (fitting : Bool) (object : ObjNo) (made : ObjNo) (why : HeapStop)
            → (if fitting then Ok made else Err why) ≡ Ok object → object ≡ made
        is_it true object made why is = cc
        is_it false object made why is = absurd (cc)

    by : (is_dictionary : Bool) → Gives (IsNext world) ((if is_dictionary
        then on_store new_table_of with_new_table >>= (λ object. pure (Obj object))
        else fails cannot_create_object) world)
    by true = table (new_table_of world.store) refl
    by false = tt

create_gives : (arguments : List Value) (world : World) → Gives (IsNext world) (create_object arguments world)
create_gives [] world = tt
create_gives (name ∷ []) world = by (to_str_of name)
  where
    by : (found : Result (List ℕ) VbError) → Gives (IsNext world) (and_then (given found world) created)
    by (Ok text) = created_gives text world
    by (Err error) = tt
create_gives (name ∷ more ∷ others) world = tt

-- no object that is there has the number that the next is to have
none_there : {E : Type 0} (s : State E) → AddsUp (account_at s)
    → numbered s.world.store.objects_made s.world.store.objects ≡ None
none_there s right = unmarked_none (numbered s.world.store.objects_made s.world.store.objects)
    (sym (marked_by s.world.store.objects s.world.store.objects_made)
    ∙ none_above (marks s.world.store.objects) s.world.store.objects_made s.world.store.objects_made right.below
    (omega arith))
  where
    unmarked_none : (found : Option Object) → option_map (λ (object : Object). object.ending) found ≡ None
        → found ≡ None
    unmarked_none None is = refl
    unmarked_none (Some object) is = absurd (cc)

pub new_numbers : (E : Type 0) → NewNumbersAreFree E
new_numbers E host program levels s right =
    let i = levels_alone E host program levels in
    let m = inside E host program levels in
    record {
      free = none_there s right;
      new = λ class. new_gives E m (λ owner procedure arguments. (i.enter_fits owner procedure arguments).keeps) class s
          right;
      create = λ arguments. create_gives arguments s.world;
    }
