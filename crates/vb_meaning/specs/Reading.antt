-- A path whose value is wanted, and arguments (VBScript 5.6 language reference, "Variables", "Function Statement",
-- "Property Get Statement").
use Rattle.std.specs.Prelude.{Result, Ok, Err, zero, suc, ℕ, nat_lt, ◌||◌}
use Rattle.std.specs.Prelude.{Bool, true, false, if◌then◌else◌, List, [], ◌∷◌, ◌++◌, length}
use Rattle.std.specs.Prelude.{slice_get, Option, Some, None, Ok, codes}
use Rattle.vb_value.specs.declared.fault.VbError.{VbError}
use Rattle.vb_value.specs.declared.value.ObjNo.{ObjNo}
use Rattle.vb_value.specs.declared.value.Value.{Value, Obj, Str, Nothing}
use Rattle.vb_value.specs.Conversions.{to_str_of}
use Rattle.vb_value.specs.Errors.{type_mismatch, unsupported, wrong_number, object_not_set, undefined_variable}
use Rattle.vb_value.specs.Errors.{cannot_create_object, and_then}
use Rattle.vb_value.specs.Folding.{same_name}
use Rattle.vb_syntax.specs.declared.member.Member.{Member as PageMember}
use Rattle.vb_syntax.specs.declared.member.Member.TheVariants as asks
use Rattle.vb_syntax.specs.declared.member.Takes.{Takes}
use Rattle.vb_syntax.specs.declared.program.Program.{Program}
use Rattle.vb_syntax.specs.declared.program.expression.Expression.{Expression}
use Rattle.vb_syntax.specs.declared.program.expression.Head.{Head}
use Rattle.vb_syntax.specs.declared.program.expression.Head.TheVariants as head
use Rattle.vb_syntax.specs.declared.program.expression.Path.{Path}
use Rattle.vb_syntax.specs.declared.program.name.Named.{Named}
use Rattle.vb_syntax.specs.declared.program.name.Named.TheVariants as named
use Rattle.vb_syntax.specs.declared.program.unit.Class.{Class}
use Rattle.vb_syntax.specs.declared.program.unit.Constant.{Constant}
use Rattle.vb_syntax.specs.declared.program.unit.Procedure.{Procedure}
use Rattle.vb_funcs.specs.Functions.{call_func_of}
use Rattle.vb_funcs.specs.TypeNames.{type_name_of}
use Rattle.vb_strings.specs.Functions.{call_string_of}
use Rattle.vb_heap.specs.Entries.{new_table_of, with_new_table}
use Rattle.vb_meaning.specs.World.{World}
use Rattle.vb_meaning.specs.Accesses.{Access, Group, Member, accesses, member_before, given_arguments, call_split}
use Rattle.vb_meaning.specs.Accesses.{}
use Rattle.vb_meaning.specs.Asking.{ask}
use Rattle.vb_meaning.specs.Dictionaries.{named_member}
use Rattle.vb_meaning.specs.ErrObject.{err_value}
use Rattle.vb_meaning.specs.Inner.{Inner, Owner}
use Rattle.vb_meaning.specs.declared.reached.Argument.{Argument}
use Rattle.vb_meaning.specs.Objects.{class_at, dictionary_word, field_named, procedure_named, if_public, is_read}
use Rattle.vb_meaning.specs.Objects.{name_of_class, own_procedure, owner_class}
use Rattle.vb_meaning.specs.Paths.{element, hold_reached, reached_value}
use Rattle.vb_meaning.specs.declared.reached.Reached.{Reached}
use Rattle.vb_meaning.specs.declared.reached.Reached.TheVariants.{Place as AtPlace, Value as AtValue}
use Rattle.vb_meaning.specs.Places.{variable, hold, cell_place}
use Rattle.vb_meaning.specs.State.{Does, on_world, on_store}
use Rattle.vb_meaning.specs.Step.{Run, ◌>>=◌, ◌>>◌, pure, given, fails}
use Rattle.vb_meaning.specs.Stored.{class_of, field_of}
use Rattle.vb_meaning.specs.Values.{object_in, constant_value, literal_value}

-- ---- objects of the language

-- CreateObject makes a dictionary, and no other object
abbrev pub created : List ℕ → Run World Value
created name = if same_name (codes "scripting.dictionary") name
    then on_store new_table_of with_new_table >>= (λ object. pure (Obj object))
    else fails cannot_create_object

-- CreateObject with its argument
abbrev pub create_object : List Value → Run World Value
create_object (name ∷ []) = given (to_str_of name) >>= created
create_object _ = fails wrong_number

-- TypeName with its argument
abbrev pub type_name_in : Program → List Value → Run World Value
type_name_in program (value ∷ []) world =
    given (and_then (name_of_class program world.store value) (λ class. Ok (Str (type_name_of value class)))) world
type_name_in program _ world = fails wrong_number world

-- what a constant of the page stands for
abbrev pub constant_of : Option Constant → Result Value VbError
constant_of (Some constant) = constant_value constant.value
constant_of None = Err undefined_variable

-- what a constant of the procedure stands for
abbrev pub value_of_constant : Option Value → Result Value VbError
value_of_constant (Some value) = Ok value
value_of_constant None = Err undefined_variable

-- the object whose method runs, as a value
abbrev pub me_of : Owner → Result Value VbError
me_of (Some (object, class)) = Ok (Obj object)
me_of None = Err object_not_set

abbrev pub me_value : Owner → Run World Value
me_value owner = given (me_of owner)

-- the last of some values
abbrev pub last_of : List Value → Value
last_of [] = Nothing
last_of (value ∷ []) = value
last_of (value ∷ others) = last_of others

-- the subject of the innermost With
abbrev pub subject : Run World Value
subject world = pure (last_of world.frame.subjects) world

-- whether a member of the page's objects takes so many arguments
abbrev pub is_taken : Takes → ℕ → Bool
is_taken takes count = if nat_lt count takes.fewest || nat_lt takes.most count then false else true

module _ (E : Type 0) (m : Inner E) where
  -- ---- arguments, from left to right

  -- the values of expressions, behind those so far
  abbrev pub values : List Value → List Expression → Does E (List Value)
  values done [] = pure done
  values done (first ∷ others) = m.value first >>= (λ value. values (done ++ value ∷ []) others)

  -- expressions as arguments, behind those so far
  abbrev pub arguments : List Argument → List Expression → Does E (List Argument)
  arguments done [] = pure done
  arguments done (first ∷ others) = m.argument first >>= (λ argument. arguments (done ++ argument ∷ []) others)

  -- ---- calls

  -- a procedure of the page or of an object, if it is there
  abbrev pub entered : Owner → Option Procedure → List Argument → Does E Reached
  entered owner (Some procedure) found = m.enter owner procedure found >>= (λ value. pure (AtValue value))
  entered owner None found = fails unsupported

  -- the same with its arguments, which come first
  abbrev pub called : Owner → Option Procedure → List Expression → Does E Reached
  called owner procedure supplied = arguments [] supplied >>= entered owner procedure

  -- ---- members of objects

  -- a field of an object as a place
  abbrev pub field_place : ObjNo → ℕ → Does E Reached
  field_place object number = on_world (λ world. (given (field_of number object world.store)
      >>= (λ cell. pure (AtPlace (cell_place cell)))) world)

  -- a field of an object, and an element of it where arguments stand behind
  abbrev pub field_reached : ObjNo → ℕ → Option (List Expression) → Does E Reached
  field_reached object number None = field_place object number
  field_reached object number (Some indices) = field_place object number >>= (λ field.
      values [] indices >>= (λ found. on_world (element field found)))

  -- a public member of an object of a class: a field, or else a method or a property
  abbrev pub class_member : ObjNo → ℕ → Class → ℕ → Option (List Expression) → Option ℕ → Does E Reached
  class_member object number class name supplied (Some field) = field_reached object field supplied
  class_member object number class name supplied None =
      called (Some (object, number)) (if_public (procedure_named name is_read class.procedures)) (given_arguments supplied)

  -- a member of an object of a class that the program has
  abbrev pub member_in : ObjNo → ℕ → Option Class → ℕ → Option (List Expression) → Does E Reached
  member_in object number (Some class) name supplied =
      class_member object number class name supplied (field_named name class.fields)
  member_in object number None name supplied = fails unsupported

  -- a member of a dictionary
  abbrev pub of_dictionary : ObjNo → ℕ → List Expression → Does E Reached
  of_dictionary object name supplied = values [] supplied >>= (λ found.
      on_world (named_member object (dictionary_word m.program name) found >>= (λ value. pure (AtValue value))))

  -- a member of an object: of a dictionary, or of an object of a class
  abbrev pub object_member : ObjNo → ℕ → Option (List Expression) → Option ℕ → Does E Reached
  object_member object name supplied None = of_dictionary object name (given_arguments supplied)
  object_member object name supplied (Some number) =
      member_in object number (class_at m.program (Some number)) name supplied

  -- a member of a value, which has to be an object that has not ended; the object is held
  unfoldable pub member_of : Value → ℕ → Option (List Expression) → Does E Reached
  member_of value name arguments = on_world (hold value >> given (object_in value)) >>= (λ object.
      on_world (λ world. given (class_of object world.store) world)
      >>= object_member object name arguments)

  -- ---- from access to access

  abbrev pub access : Reached → Access → Does E Reached
  access from (Group indices) =
      on_world (hold_reached from) >> values [] indices >>= (λ found. on_world (element from found))
  access from (Member name arguments) =
      on_world (reached_value from) >>= (λ value. member_of value name arguments)

  abbrev pub walk : Reached → List Access → Does E Reached
  walk from [] = pure from
  walk from (first ∷ others) = access from first >>= (λ next. walk next others)

  -- ---- where a path begins

  -- a value, and what is reached from it
  abbrev pub from_value : Does E Value → List Access → Does E Reached
  from_value run more = run >>= (λ value. walk (AtValue value) more)

  -- a function of the language with its arguments, and what is reached from what it gives
  abbrev pub function : (List Value → Run World Value) → List Expression × List Access → Does E Reached
  function applied split = from_value (values [] split.0 >>= (λ found. on_world (applied found))) split.1

  -- a procedure with its arguments, and what is reached from what it gives
  abbrev pub procedure : Owner → Option Procedure → List Expression × List Access → Does E Reached
  procedure owner found split = called owner found split.0 >>= (λ from. walk from split.1)

  -- a name that stands for nothing: a call of it is a Type mismatch
  abbrev pub unknown : List Access → Does E Reached
  unknown (Group supplied ∷ more) = values [] supplied >> fails type_mismatch
  unknown more = fails undefined_variable

  -- the object whose method runs, with the number of its class
  abbrev pub owner_of : World → Owner
  owner_of world = world.frame.owner

  -- the first procedure of the class around that has the name of that one and is read
  abbrev pub own_read : ℕ → World → Option Procedure
  own_read number world = own_procedure number is_read (owner_class m.program world.frame.owner)

  -- a name that a path begins with
  abbrev pub from_name : Named → List Access → Does E Reached
  from_name (named.Place found) more s = (on_world (variable found) >>= (λ place. walk (AtPlace place) more)) s
  from_name (named.Own number) more s = procedure (owner_of s.world) (own_read number s.world) (call_split more) s
  from_name (named.PageConstant number) more s =
      (from_value (given (constant_of (slice_get m.program.unit.constants number))) more) s
  from_name (named.LocalConstant number) more s =
      from_value (given (value_of_constant (slice_get s.world.frame.constants number))) more s
  from_name (named.Value literal) more s = (walk (AtValue (literal_value literal)) more) s
  from_name (named.Procedure number) more s =
      (procedure None (slice_get m.program.unit.procedures number) (call_split more)) s
  from_name (named.StringFunction found) more s =
      (function (λ supplied. given (call_string_of found supplied)) (call_split more)) s
  from_name (named.PlainFunction found) more s =
      (function (λ supplied. given (call_func_of found supplied)) (call_split more)) s
  from_name named.TypeName more s = (function (type_name_in m.program) (call_split more)) s
  from_name named.CreateObject more s = (function create_object (call_split more)) s
  from_name named.Unknown more s = (unknown more) s
  from_name (named.Class number) more s = (fails type_mismatch) s
  from_name named.Err more s = (fails type_mismatch) s

  -- the values in so many of the first groups, behind those so far, and what stands behind
  abbrev pub group_values : ℕ → List Value → List Access → Does E (List Value × List Access)
  group_values zero done more = pure (done, more)
  group_values (suc count) done (Group supplied ∷ more) =
      values done supplied >>= (λ found. group_values count found more)
  group_values (suc count) done more = pure (done, more)

  -- a member of the page's objects with its arguments; Server.CreateObject is CreateObject
  abbrev pub page_member : PageMember → Takes → List Value → Does E Value
  page_member asks.ServerCreateObject takes supplied = on_world (create_object supplied)
  page_member found takes supplied =
      if is_taken takes (length supplied) then ask m.host found supplied else fails wrong_number

  -- a member of the page's objects, and what is reached from what it gives
  abbrev pub from_page_member : PageMember → Takes → List Value × List Access → Does E Reached
  from_page_member found takes split = from_value (page_member found takes split.0) split.1

  -- what a path reaches
  abbrev pub from_head : Head → List Access → Does E Reached
  from_head (head.Named found) more s = (from_name found more) s
  from_head head.Me more s = from_value (on_world (me_value s.world.frame.owner)) more s
  from_head (head.With name) more s = (from_value (on_world subject) (member_before name more)) s
  from_head (head.Err found) more s = (function (err_value found) (call_split more)) s
  from_head (head.Member found groups takes) more s = (group_values groups [] more >>= from_page_member found takes) s

  unfoldable pub reached : Path → Does E Reached
  reached path = from_head path.head (accesses path.steps)

  -- the value of a path
  abbrev pub path_value : Path → Does E Value
  path_value path = reached path >>= (λ found. on_world (reached_value found))
