-- Assignments (VBScript 5.6 language reference, "Assignment", "Set Statement", "Property Let Statement"). The value
-- comes first, and then the whole target from left to right.
use Rattle.std.specs.Prelude.{ℕ, if◌then◌else◌, List, [], ◌∷◌, ◌++◌, length}
use Rattle.std.specs.Prelude.{Option, Some, None, Result, Ok, Err}
use Rattle.vb_value.specs.declared.fault.VbError.{VbError}
use Rattle.vb_value.specs.declared.value.ObjNo.{ObjNo}
use Rattle.vb_value.specs.declared.value.Value.{Value, Obj, Nothing}
use Rattle.vb_value.specs.Errors.{illegal_assignment, unsupported, object_not_set, object_required, type_mismatch}
use Rattle.vb_value.specs.Errors.{wrong_number}
use Rattle.vb_syntax.specs.declared.member.Member.{Member as PageMember}
use Rattle.vb_syntax.specs.declared.member.Takes.{Takes}
use Rattle.vb_syntax.specs.declared.program.expression.Expression.{Expression}
use Rattle.vb_syntax.specs.declared.program.expression.Head.{Head}
use Rattle.vb_syntax.specs.declared.program.expression.Head.TheVariants as head
use Rattle.vb_syntax.specs.declared.program.expression.Path.{Path}
use Rattle.vb_syntax.specs.declared.program.name.ErrMember.{ErrMember}
use Rattle.vb_syntax.specs.declared.program.name.Named.{Named}
use Rattle.vb_syntax.specs.declared.program.name.Named.TheVariants as named
use Rattle.vb_syntax.specs.declared.program.name.Slot.{Slot}
use Rattle.vb_syntax.specs.declared.program.name.Slot.TheVariants as slot
use Rattle.vb_syntax.specs.declared.program.unit.Class.{Class}
use Rattle.vb_syntax.specs.declared.program.unit.Procedure.{Procedure}
use Rattle.vb_heap.specs.declared.place.Place.{Place}
use Rattle.vb_meaning.specs.World.{World}
use Rattle.vb_meaning.specs.Accesses.{Access, Group, Member, accesses, member_before, given_arguments}
use Rattle.vb_meaning.specs.Accesses.{only_groups}
use Rattle.vb_meaning.specs.Asking.{ask}
use Rattle.vb_meaning.specs.Dictionaries.{asking, has_items, put_by, set_member}
use Rattle.vb_meaning.specs.ErrObject.{set_err}
use Rattle.vb_meaning.specs.Inner.{Inner, Owner}
use Rattle.vb_meaning.specs.declared.reached.Argument.{Argument}
use Rattle.vb_meaning.specs.declared.reached.Argument.TheVariants.{Value as OfValue}
use Rattle.vb_meaning.specs.declared.reached.Assigned.{Assigned}
use Rattle.vb_meaning.specs.declared.reached.Assigned.TheVariants.{Let as ByLet, Set as BySet}
use Rattle.vb_meaning.specs.Objects.{class_at, dictionary_word, field_named, procedure_named, if_public}
use Rattle.vb_meaning.specs.Objects.{takes_assigned, own_procedure, owner_class}
use Rattle.vb_meaning.specs.Paths.{hold_reached, kind_of, reached_value}
use Rattle.vb_meaning.specs.declared.reached.Kind.{Kind}
use Rattle.vb_meaning.specs.declared.reached.Kind.TheVariants as kind
use Rattle.vb_meaning.specs.declared.reached.Reached.{Reached}
use Rattle.vb_meaning.specs.declared.reached.Reached.TheVariants.{Place as AtPlace, Value as AtValue}
use Rattle.vb_meaning.specs.Places.{variable, hold, held_at, store_place, element_place, indices_of}
use Rattle.vb_meaning.specs.Reading.{values, arguments, access, field_place, from_name, from_page_member, group_values}
use Rattle.vb_meaning.specs.Reading.{is_taken, subject, me_value, unknown}
use Rattle.vb_meaning.specs.State.{Does, on_world}
use Rattle.vb_meaning.specs.Step.{Run, ◌>>=◌, ◌>>◌, pure, given, fails}
use Rattle.vb_meaning.specs.Stored.{class_of}
use Rattle.vb_meaning.specs.Values.{object_in}

-- ---- what may be assigned

-- A value that is assigned: with Set an object or Nothing, without it anything else.
abbrev pub assignable : Assigned → Value → Result (Unit {0}) VbError
assignable BySet (Obj object) = Ok tt
assignable BySet Nothing = Ok tt
assignable BySet _ = Err object_required
assignable ByLet (Obj object) = Err unsupported
assignable ByLet Nothing = Err object_not_set
assignable ByLet _ = Ok tt

-- ---- elements

-- a value into an item of an object, which has to be a dictionary
abbrev pub put_in_object : ObjNo → List Value → Value → Run World (Unit {0})
put_in_object object keys value = asking (has_items object) >> put_by object keys value

-- A value into an element of what a place holds: of an array, or the item of a dictionary.
abbrev pub store_in_place : Place → List Value → Value → Kind → Run World (Unit {0})
store_in_place place indices value kind.Array =
    given (indices_of indices) >>= (λ found. store_place (element_place place found) value)
store_in_place place indices value (kind.Object object) = put_in_object object indices value
store_in_place place indices value kind.Nothing = fails object_not_set
store_in_place place indices value kind.Scalar = fails type_mismatch

-- A value into an element of a value: only an object keeps it.
abbrev pub store_in_value : List Value → Value → Kind → Run World (Unit {0})
store_in_value indices value (kind.Object object) = put_in_object object indices value
store_in_value indices value kind.Nothing = fails object_not_set
store_in_value indices value kind.Array = fails illegal_assignment
store_in_value indices value kind.Scalar = fails illegal_assignment

-- a value into an element of what is reached
unfoldable pub store_element : Reached → List Value → Value → Run World (Unit {0})
store_element (AtPlace place) indices value =
    held_at place >>= (λ whole. store_in_place place indices value (kind_of whole))
store_element (AtValue whole) indices value = store_in_value indices value (kind_of whole)

module _ (E : Type 0) (m : Inner E) (how : Assigned) where
  -- ---- members of objects

  -- a property of an object, if it is there; a method or no such property takes no value
  abbrev pub into_property : Owner → Option Procedure → List Argument → Does E (Unit {0})
  into_property owner (Some procedure) found = m.enter owner procedure found >> pure tt
  into_property owner None found = fails unsupported

  -- the same with its arguments, which come first, and then the value
  abbrev pub property : Owner → Option Procedure → List Expression → Value → Does E (Unit {0})
  property owner procedure supplied value = arguments E m [] supplied >>= (λ found.
      into_property owner procedure (found ++ OfValue value ∷ []))

  -- a field that is reached, or an element of it
  abbrev pub into_field : Option (List Expression) → Reached → Value → Does E (Unit {0})
  into_field None (AtPlace place) value = on_world (store_place place value)
  into_field None (AtValue whole) value = fails illegal_assignment
  into_field (Some indices) field value =
      values E m [] indices >>= (λ found. on_world (store_element field found value))

  -- a public member of an object of a class
  abbrev pub into_class : ObjNo → ℕ → Class → ℕ → Option (List Expression) → Value → Option ℕ → Does E (Unit {0})
  into_class object number class name supplied value (Some field) =
      field_place E m object field >>= (λ reached. into_field supplied reached value)
  into_class object number class name supplied value None = property (Some (object, number))
      (if_public (procedure_named name (takes_assigned how) class.procedures)) (given_arguments supplied) value

  -- a member of an object of a class that the program has
  abbrev pub into_class_of : ObjNo → ℕ → Option Class → ℕ → Option (List Expression) → Value → Does E (Unit {0})
  into_class_of object number (Some class) name supplied value =
      into_class object number class name supplied value (field_named name class.fields)
  into_class_of object number None name supplied value = fails unsupported

  -- a member of an object that has not ended
  abbrev pub into_object : ObjNo → ℕ → Option (List Expression) → Value → Option ℕ → Does E (Unit {0})
  into_object object name supplied value None = values E m [] (given_arguments supplied) >>= (λ found.
      on_world (set_member object (dictionary_word m.program name) found value))
  into_object object name supplied value (Some number) =
      into_class_of object number (class_at m.program (Some number)) name supplied value

  -- a member of a value, which has to be an object; the object is held
  unfoldable pub into_member : Value → ℕ → Option (List Expression) → Value → Does E (Unit {0})
  into_member whole name supplied value = on_world (hold whole >> given (object_in whole)) >>= (λ object.
      on_world (λ world. given (class_of object world.store) world)
      >>= into_object object name supplied value)

  -- ---- the last access

  abbrev pub into_access : Reached → Access → Value → Does E (Unit {0})
  into_access from (Group indices) value = on_world (hold_reached from) >> values E m [] indices >>= (λ found.
      on_world (store_element from found value))
  into_access from (Member name supplied) value =
      on_world (reached_value from) >>= (λ whole. into_member whole name supplied value)

  -- a value into what the accesses come to, of which there is at least one
  abbrev pub into : Reached → Access → List Access → Value → Does E (Unit {0})
  into from first [] value = into_access from first value
  into from first (second ∷ others) value = access E m from first >>= (λ next. into next second others value)

  -- a value into what stands behind a value; a value alone keeps none
  abbrev pub into_value : Does E Value → List Access → Value → Does E (Unit {0})
  into_value run [] value = fails illegal_assignment
  into_value run (first ∷ others) value = run >>= (λ whole. into (AtValue whole) first others value)

  -- ---- where a target begins

  -- a variable, or what its accesses come to
  abbrev pub into_place : List Access → Value → Place → Does E (Unit {0})
  into_place [] value place = on_world (store_place place value)
  into_place (first ∷ others) value place = into (AtPlace place) first others value

  -- The result of a procedure is a variable, but with parentheses it is no place.
  abbrev pub into_slot : Slot → List Access → Value → Does E (Unit {0})
  into_slot slot.Result (Group indices ∷ others) value = fails illegal_assignment
  into_slot found more value = on_world (variable found) >>= into_place more value

  -- a value into what stands behind what is reached; without anything behind it there is no place
  abbrev pub into_rest : Does E Reached → List Access → Value → Does E (Unit {0})
  into_rest run [] value = fails illegal_assignment
  into_rest run (first ∷ others) value = run >>= (λ from. into from first others value)

  -- the call that a path begins with, and a value into what stands behind it
  abbrev pub into_called : Named → List Access → Value → Does E (Unit {0})
  into_called found (Group supplied ∷ more) value = into_rest (from_name E m found (Group supplied ∷ [])) more value
  into_called found more value = into_rest (from_name E m found []) more value

  -- Behind a procedure or a function a member of what it gives may be assigned to. No call is made where parentheses
  -- alone stand behind the name.
  abbrev pub into_call : Named → List Access → Value → Does E (Unit {0})
  into_call found more value =
      if only_groups more then fails illegal_assignment else into_called found more value

  -- the property of the class around that has the name of that one
  abbrev pub own_property : ℕ → World → Option Procedure
  own_property number world = own_procedure number (takes_assigned how) (owner_class m.program world.frame.owner)

  -- a property of the class around, where nothing but its arguments stands behind, or what it gives
  abbrev pub into_own : ℕ → List Access → Value → Does E (Unit {0})
  into_own number [] value s = property s.world.frame.owner (own_property number s.world) [] value s
  into_own number (Group supplied ∷ []) value s =
      property s.world.frame.owner (own_property number s.world) supplied value s
  into_own number more value s = into_called (named.Own number) more value s

  -- A name that stands for nothing: the target fails as it does where it is read.
  abbrev pub into_unknown : List Access → Does E (Unit {0})
  into_unknown more = unknown E m more >> pure tt

  -- a value into what a name and the accesses behind it come to
  abbrev pub into_name : Named → List Access → Value → Does E (Unit {0})
  into_name (named.Place found) more value = into_slot found more value
  into_name (named.Own number) more value = into_own number more value
  into_name (named.PageConstant number) more value = into_rest (from_name E m (named.PageConstant number) []) more value
  into_name (named.LocalConstant number) more value =
      into_rest (from_name E m (named.LocalConstant number) []) more value
  into_name (named.Value literal) more value = into_rest (from_name E m (named.Value literal) []) more value
  into_name named.Unknown more value = into_unknown more
  into_name (named.Class number) more value = fails illegal_assignment
  into_name found more value = into_call found more value

  -- a member of the page's objects is written: its arguments, and then the value
  abbrev pub write_member : PageMember → Takes → List Value → Value → Does E (Unit {0})
  write_member found takes supplied value =
      if takes.is_written then (if is_taken takes (length supplied)
      then ask m.host found (supplied ++ value ∷ []) >> pure tt else fails wrong_number)
      else fails unsupported

  -- the same, or a value into what stands behind the member
  abbrev pub into_page_member : PageMember → Takes → Value → List Value × List Access → Does E (Unit {0})
  into_page_member found takes value (supplied, []) = write_member found takes supplied value
  into_page_member found takes value (supplied, first ∷ others) =
      into_rest (from_page_member E m found takes (supplied, [])) (first ∷ others) value

  -- a member of Err
  abbrev pub into_err : ErrMember → List Access → Value → Does E (Unit {0})
  into_err found [] value = on_world (set_err found value)
  into_err found more value = fails unsupported

  -- a value into what a path comes to
  abbrev pub into_head : Head → List Access → Value → Does E (Unit {0})
  into_head (head.Named found) more value = into_name found more value
  into_head head.Me more value = into_value (on_world (λ world. me_value world.frame.owner world)) more value
  into_head (head.With name) more value = into_value (on_world subject) (member_before name more) value
  into_head (head.Err found) more value = into_err found more value
  into_head (head.Member found groups takes) more value =
      group_values E m groups [] more >>= into_page_member found takes value

  -- A value is assigned to a path.
  unfoldable pub assign_to : Path → Value → Does E (Unit {0})
  assign_to path value = into_head path.head (accesses path.steps) value
