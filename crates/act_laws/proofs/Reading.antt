-- Paths whose values are wanted, and arguments, in two environments side by side.
use Rattle.std.proofs.Common.{ℕ, zero, suc, List, [], ◌∷◌, ◌++◌, length, slice_get, Option, Some, None}
use Rattle.vb_value.specs.declared.value.ObjNo.{ObjNo}
use Rattle.vb_value.specs.declared.value.Value.{Value}
use Rattle.vb_value.specs.Errors.{type_mismatch, unsupported, wrong_number, undefined_variable}
use Rattle.vb_syntax.specs.declared.member.Member.{Member as PageMember}
use Rattle.vb_syntax.specs.declared.member.Member.TheVariants as asks
use Rattle.vb_syntax.specs.declared.member.Takes.{Takes}
use Rattle.vb_syntax.specs.declared.program.expression.Expression.{Expression}
use Rattle.vb_syntax.specs.declared.program.expression.Head.{Head}
use Rattle.vb_syntax.specs.declared.program.expression.Head.TheVariants as head
use Rattle.vb_syntax.specs.declared.program.expression.Path.{Path}
use Rattle.vb_syntax.specs.declared.program.name.Named.{Named}
use Rattle.vb_syntax.specs.declared.program.name.Named.TheVariants as named
use Rattle.vb_syntax.specs.declared.program.unit.Class.{Class}
use Rattle.vb_syntax.specs.declared.program.unit.Procedure.{Procedure}
use Rattle.vb_funcs.specs.Functions.{call_func_of}
use Rattle.vb_strings.specs.Functions.{call_string_of}
use Rattle.vb_heap.specs.Objects.{class_of, field_of}
use Rattle.vb_heap.specs.Store.{numbered}
use Rattle.vb_meaning.specs.declared.reached.Argument.{Argument}
use Rattle.vb_meaning.specs.declared.reached.Reached.{Reached}
use Rattle.vb_meaning.specs.declared.reached.Reached.TheVariants.{Place as AtPlace, Value as AtValue}
use Rattle.vb_meaning.specs.World.{World}
use Rattle.vb_meaning.specs.Accesses.{Access, Group, Member, accesses, member_before, given_arguments, call_split}
use Rattle.vb_meaning.specs.ErrObject.{err_value}
use Rattle.vb_meaning.specs.Inner.{Owner}
use Rattle.vb_meaning.specs.Objects.{class_at, dictionary_word, field_named, procedure_named, if_public, is_read}
use Rattle.vb_meaning.specs.Places.{cell_place, hold}
use Rattle.vb_meaning.specs.Reading as reading
use Rattle.vb_meaning.specs.State.{Does, on_world}
use Rattle.vb_meaning.specs.Step.{Run, ◌>>◌, given, pure}
use Rattle.vb_meaning.specs.Values.{object_in, literal_value}
use Rattle.act_laws.proofs.Inside.{Inners, one, two, Same, seen_fits}
use Rattle.act_laws.proofs.Joined.{Link}
use Rattle.act_laws.proofs.Linked.{Fits, then_fits, value_fits, fails_fit, given_fits, world_fits, choice_fits}
use Rattle.act_laws.proofs.Wantless.{Wantless, then_wantless, pure_wantless, given_wantless}
use Rattle.act_laws.proofs.Wantless.{seeing_wantless}
use Rattle.act_laws.proofs.WantlessPlaces.{hold_wantless, variable_wantless, named_member_wantless, element_wantless}
use Rattle.act_laws.proofs.WantlessPlaces.{hold_reached_wantless, reached_wantless, err_wantless}
use Rattle.act_laws.proofs.WantlessScopes.{create_object_wantless, type_name_wantless}

pub me_wantless : (owner : Owner) → Wantless (reading.me_value owner)
me_wantless owner = given_wantless (reading.me_of owner)

pub subject_wantless : Wantless reading.subject
subject_wantless = seeing_wantless (λ world. pure (reading.last_of world.frame.subjects))
    (λ world. pure_wantless (reading.last_of world.frame.subjects))

module _ (l : Link) (i : Inners l) where
  pub values_fit : (done : List Value) (supplied : List Expression)
      → Same l i (λ E m. reading.values E m done supplied)
  values_fit done [] = value_fits l done
  values_fit done (first ∷ others) =
      then_fits (i.value_fits first) (λ value. values_fit (done ++ value ∷ []) others)

  pub arguments_fit : (done : List Argument) (supplied : List Expression)
      → Same l i (λ E m. reading.arguments E m done supplied)
  arguments_fit done [] = value_fits l done
  arguments_fit done (first ∷ others) =
      then_fits (i.argument_fits first) (λ argument. arguments_fit (done ++ argument ∷ []) others)

  entered_fits : (owner : Owner) (procedure : Option Procedure) (found : List Argument)
      → Same l i (λ E m. reading.entered E m owner procedure found)
  entered_fits owner (Some procedure) found =
      then_fits (i.enter_fits owner procedure found) (λ value. value_fits l (AtValue value))
  entered_fits owner None found = fails_fit l unsupported

  called_fits : (owner : Owner) (procedure : Option Procedure) (supplied : List Expression)
      → Same l i (λ E m. reading.called E m owner procedure supplied)
  called_fits owner procedure supplied = then_fits (arguments_fit [] supplied) (entered_fits owner procedure)

  -- ---- members of objects

  pub field_fits : (object : ObjNo) (number : ℕ) → Same l i (λ E m. reading.field_place E m object number)
  field_fits object number = world_fits l (then_wantless
      (seeing_wantless (λ world. given (field_of number (numbered object.0 world.store.objects)))
      (λ world. given_wantless (field_of number (numbered object.0 world.store.objects))))
      (λ cell. pure_wantless (AtPlace (cell_place cell))))

  field_reached_fits : (object : ObjNo) (number : ℕ) (supplied : Option (List Expression))
      → Same l i (λ E m. reading.field_reached E m object number supplied)
  field_reached_fits object number None = field_fits object number
  field_reached_fits object number (Some indices) = then_fits (field_fits object number) (λ field.
      then_fits (values_fit [] indices) (λ found. world_fits l (element_wantless field found)))

  class_member_fits : (object : ObjNo) (number : ℕ) (class : Class) (name : ℕ) (supplied : Option (List Expression))
      (field : Option ℕ) → Same l i (λ E m. reading.class_member E m object number class name supplied field)
  class_member_fits object number class name supplied (Some field) = field_reached_fits object field supplied
  class_member_fits object number class name supplied None = called_fits (Some (object, number))
      (if_public (procedure_named name is_read class.procedures)) (given_arguments supplied)

  member_in_fits : (object : ObjNo) (number : ℕ) (class : Option Class) (name : ℕ)
      (supplied : Option (List Expression)) → Same l i (λ E m. reading.member_in E m object number class name supplied)
  member_in_fits object number (Some class) name supplied =
      class_member_fits object number class name supplied (field_named name class.fields)
  member_in_fits object number None name supplied = fails_fit l unsupported

  object_member_fits : (object : ObjNo) (name : ℕ) (supplied : Option (List Expression)) (class : Option ℕ)
      → Same l i (λ E m. reading.object_member E m object name supplied class)
  object_member_fits object name supplied None = then_fits (values_fit [] (given_arguments supplied)) (λ found.
      world_fits l (then_wantless (named_member_wantless object (dictionary_word i.program name) found)
      (λ value. pure_wantless (AtValue value))))
  object_member_fits object name supplied (Some number) =
      member_in_fits object number (class_at i.program (Some number)) name supplied

  pub held_object_fits : (whole : Value)
      → Same l i (λ E m. on_world (hold whole >> given (object_in whole)))
  held_object_fits whole =
      world_fits l (then_wantless (hold_wantless whole) (λ done. given_wantless (object_in whole)))

  pub class_fits : (object : ObjNo)
      → Same l i (λ E m. on_world (λ world. given (class_of (numbered object.0 world.store.objects)) world))
  class_fits object = world_fits l
      (seeing_wantless (λ world. given (class_of (numbered object.0 world.store.objects)))
      (λ world. given_wantless (class_of (numbered object.0 world.store.objects))))

  member_fits : (whole : Value) (name : ℕ) (supplied : Option (List Expression))
      → Same l i (λ E m. reading.member_of E m whole name supplied)
  unfolding reading.member_of
  member_fits whole name supplied = then_fits (held_object_fits whole) (λ object.
      then_fits (class_fits object) (object_member_fits object name supplied))

  -- ---- from access to access

  pub access_fits : (from : Reached) (found : Access) → Same l i (λ E m. reading.access E m from found)
  access_fits from (Group indices) =
      then_fits (then_fits (world_fits l (hold_reached_wantless from)) (λ done. values_fit [] indices))
      (λ found. world_fits l (element_wantless from found))
  access_fits from (Member name supplied) =
      then_fits (world_fits l (reached_wantless from)) (λ value. member_fits value name supplied)

  pub walk_fits : (from : Reached) (more : List Access) → Same l i (λ E m. reading.walk E m from more)
  walk_fits from [] = value_fits l from
  walk_fits from (first ∷ others) = then_fits (access_fits from first) (λ next. walk_fits next others)

  -- ---- where a path begins

  from_value_fits : {first : Does l.E Value} {second : Does l.F Value} (more : List Access) → Fits l first second
      → Fits l (reading.from_value l.E (one i) first more) (reading.from_value l.F (two i) second more)
  from_value_fits more fit = then_fits fit (λ value. walk_fits (AtValue value) more)

  function_fits : (applied : List Value → Run World Value) (split : List Expression × List Access)
      → ((supplied : List Value) → Wantless (applied supplied))
      → Same l i (λ E m. reading.function E m applied split)
  function_fits applied split wantless = from_value_fits split.1
      (then_fits (values_fit [] split.0) (λ found. world_fits l (wantless found)))

  procedure_fits : (owner : Owner) (found : Option Procedure) (split : List Expression × List Access)
      → Same l i (λ E m. reading.procedure E m owner found split)
  procedure_fits owner found split =
      then_fits (called_fits owner found split.0) (λ from. walk_fits from split.1)

  pub unknown_fits : (more : List Access) → Same l i (λ E m. reading.unknown E m more)
  unknown_fits (Group supplied ∷ more) = then_fits (values_fit [] supplied) (λ found. fails_fit l type_mismatch)
  unknown_fits (Member name supplied ∷ more) = fails_fit l undefined_variable
  unknown_fits [] = fails_fit l undefined_variable

  pub name_fits : (found : Named) (more : List Access) → Same l i (λ E m. reading.from_name E m found more)
  name_fits (named.Place found) more =
      then_fits (world_fits l (variable_wantless found)) (λ place. walk_fits (AtPlace place) more)
  name_fits (named.Own number) more = seen_fits l i
      (λ E m world. reading.procedure E m (reading.owner_of E m world) (reading.own_read E m number world)
      (call_split more))
      (λ world. procedure_fits world.frame.owner (reading.own_read l.E (one i) number world) (call_split more))
  name_fits (named.PageConstant number) more =
      from_value_fits more (given_fits l (reading.constant_of (slice_get i.program.unit.constants number)))
  name_fits (named.LocalConstant number) more = seen_fits l i
      (λ E m world. reading.from_value E m
      (given (reading.value_of_constant (slice_get world.frame.constants number))) more)
      (λ world. from_value_fits more
      (given_fits l (reading.value_of_constant (slice_get world.frame.constants number))))
  name_fits (named.Value literal) more = walk_fits (AtValue (literal_value literal)) more
  name_fits (named.Procedure number) more =
      procedure_fits None (slice_get i.program.unit.procedures number) (call_split more)
  name_fits (named.StringFunction found) more = function_fits (λ supplied. given (call_string_of found supplied))
      (call_split more) (λ supplied. given_wantless (call_string_of found supplied))
  name_fits (named.PlainFunction found) more = function_fits (λ supplied. given (call_func_of found supplied))
      (call_split more) (λ supplied. given_wantless (call_func_of found supplied))
  name_fits named.TypeName more =
      function_fits (reading.type_name_in i.program) (call_split more) (type_name_wantless i.program)
  name_fits named.CreateObject more =
      function_fits reading.create_object (call_split more) create_object_wantless
  name_fits named.Unknown more = unknown_fits more
  name_fits (named.Class number) more = fails_fit l type_mismatch
  name_fits named.Err more = fails_fit l type_mismatch

  pub groups_fit : (count : ℕ) (done : List Value) (more : List Access)
      → Same l i (λ E m. reading.group_values E m count done more)
  groups_fit zero done more = value_fits l (done, more)
  groups_fit (suc count) done (Group supplied ∷ more) =
      then_fits (values_fit done supplied) (λ found. groups_fit count found more)
  groups_fit (suc count) done (Member name supplied ∷ more) = value_fits l (done, Member name supplied ∷ more)
  groups_fit (suc count) done [] = value_fits l (done, [])

  page_member_fits : (found : PageMember) (takes : Takes) (supplied : List Value)
      → Same l i (λ E m. reading.page_member E m found takes supplied)
  page_member_fits asks.ServerCreateObject takes supplied = world_fits l (create_object_wantless supplied)
  page_member_fits found takes supplied = choice_fits (reading.is_taken takes (length supplied))
      (i.asks found supplied) (fails_fit l wrong_number)

  pub from_page_fits : (found : PageMember) (takes : Takes) (split : List Value × List Access)
      → Same l i (λ E m. reading.from_page_member E m found takes split)
  from_page_fits found takes split = from_value_fits split.1 (page_member_fits found takes split.0)

  pub head_fits : (found : Head) (more : List Access) → Same l i (λ E m. reading.from_head E m found more)
  head_fits (head.Named found) more = name_fits found more
  head_fits head.Me more = seen_fits l i
      (λ E m world. reading.from_value E m (on_world (reading.me_value world.frame.owner)) more)
      (λ world. from_value_fits more (world_fits l (me_wantless world.frame.owner)))
  head_fits (head.With name) more = from_value_fits (member_before name more) (world_fits l subject_wantless)
  head_fits (head.Err found) more = function_fits (err_value found) (call_split more) (err_wantless found)
  head_fits (head.Member found groups takes) more =
      then_fits (groups_fit groups [] more) (from_page_fits found takes)

  pub reached_fits : (path : Path) → Same l i (λ E m. reading.reached E m path)
  unfolding reading.reached
  reached_fits path = head_fits path.head (accesses path.steps)

  pub path_value_fits : (path : Path) → Same l i (λ E m. reading.path_value E m path)
  path_value_fits path = then_fits (reached_fits path) (λ found. world_fits l (reached_wantless found))
