-- Assignments, in two environments side by side.
use Rattle.std.proofs.Common.{ℕ, List, [], ◌∷◌, ◌++◌, length, Option, Some, None}
use Rattle.vb_value.specs.declared.value.ObjNo.{ObjNo}
use Rattle.vb_value.specs.declared.value.Value.{Value}
use Rattle.vb_value.specs.Errors.{illegal_assignment, unsupported, wrong_number}
use Rattle.vb_syntax.specs.declared.member.Member.{Member as PageMember}
use Rattle.vb_syntax.specs.declared.member.Takes.{Takes}
use Rattle.vb_syntax.specs.declared.program.expression.Expression.{Expression}
use Rattle.vb_syntax.specs.declared.program.expression.Head.{Head}
use Rattle.vb_syntax.specs.declared.program.expression.Head.TheVariants as head
use Rattle.vb_syntax.specs.declared.program.expression.Path.{Path}
use Rattle.vb_syntax.specs.declared.program.name.ErrMember.{ErrMember}
use Rattle.vb_syntax.specs.declared.program.name.Named.{Named}
use Rattle.vb_syntax.specs.declared.program.name.Named.TheVariants as named
use Rattle.vb_syntax.specs.declared.program.name.Slot.{Slot}
use Rattle.vb_syntax.specs.declared.program.name.Slot.TheVariants as slot
use Rattle.vb_syntax.specs.declared.program.unit.Class.{Class}
use Rattle.vb_syntax.specs.declared.program.unit.Procedure.{Procedure}
use Rattle.vb_heap.specs.declared.place.Place.{Place}
use Rattle.vb_meaning.specs.declared.reached.Argument.{Argument}
use Rattle.vb_meaning.specs.declared.reached.Argument.TheVariants.{Value as OfValue}
use Rattle.vb_meaning.specs.declared.reached.Assigned.{Assigned}
use Rattle.vb_meaning.specs.declared.reached.Reached.{Reached}
use Rattle.vb_meaning.specs.declared.reached.Reached.TheVariants.{Place as AtPlace, Value as AtValue}
use Rattle.vb_meaning.specs.Accesses.{Access, Group, Member, accesses, member_before, given_arguments, only_groups}
use Rattle.vb_meaning.specs.Assigning as assigning
use Rattle.vb_meaning.specs.Inner.{Owner}
use Rattle.vb_meaning.specs.Objects.{class_at, dictionary_word, field_named, procedure_named, if_public}
use Rattle.vb_meaning.specs.Objects.{takes_assigned}
use Rattle.vb_meaning.specs.Reading.{is_taken, me_value}
use Rattle.vb_meaning.specs.State.{Does}
use Rattle.act_laws.proofs.Inside.{Inners, one, two, Same, seen_fits}
use Rattle.act_laws.proofs.Joined.{Link}
use Rattle.act_laws.proofs.Linked.{Fits, then_fits, value_fits, fails_fit, world_fits, choice_fits}
use Rattle.act_laws.proofs.Reading.{values_fit, arguments_fit, field_fits, held_object_fits, class_fits, access_fits}
use Rattle.act_laws.proofs.Reading.{unknown_fits, name_fits, groups_fit, from_page_fits, me_wantless, subject_wantless}
use Rattle.act_laws.proofs.Wantless.{seeing_wantless}
use Rattle.act_laws.proofs.WantlessPlaces.{variable_wantless, store_wantless, store_element_wantless, set_err_wantless}
use Rattle.act_laws.proofs.WantlessPlaces.{hold_reached_wantless, reached_wantless, set_member_wantless}

module _ (l : Link) (i : Inners l) (how : Assigned) where
  -- ---- members of objects

  into_property_fits : (owner : Owner) (procedure : Option Procedure) (found : List Argument)
      → Same l i (λ E m. assigning.into_property E m how owner procedure found)
  into_property_fits owner (Some procedure) found =
      then_fits (i.enter_fits owner procedure found) (λ given. value_fits l tt)
  into_property_fits owner None found = fails_fit l unsupported

  property_fits : (owner : Owner) (procedure : Option Procedure) (supplied : List Expression) (value : Value)
      → Same l i (λ E m. assigning.property E m how owner procedure supplied value)
  property_fits owner procedure supplied value = then_fits (arguments_fit l i [] supplied) (λ found.
      into_property_fits owner procedure (found ++ OfValue value ∷ []))

  into_field_fits : (supplied : Option (List Expression)) (from : Reached) (value : Value)
      → Same l i (λ E m. assigning.into_field E m how supplied from value)
  into_field_fits None (AtPlace place) value = world_fits l (store_wantless place value)
  into_field_fits None (AtValue whole) value = fails_fit l illegal_assignment
  into_field_fits (Some indices) from value =
      then_fits (values_fit l i [] indices) (λ found. world_fits l (store_element_wantless from found value))

  into_class_fits : (object : ObjNo) (number : ℕ) (class : Class) (name : ℕ) (supplied : Option (List Expression))
      (value : Value) (field : Option ℕ)
      → Same l i (λ E m. assigning.into_class E m how object number class name supplied value field)
  into_class_fits object number class name supplied value (Some field) =
      then_fits (field_fits l i object field) (λ reached. into_field_fits supplied reached value)
  into_class_fits object number class name supplied value None = property_fits (Some (object, number))
      (if_public (procedure_named name (takes_assigned how) class.procedures)) (given_arguments supplied) value

  into_class_of_fits : (object : ObjNo) (number : ℕ) (class : Option Class) (name : ℕ)
      (supplied : Option (List Expression)) (value : Value)
      → Same l i (λ E m. assigning.into_class_of E m how object number class name supplied value)
  into_class_of_fits object number (Some class) name supplied value =
      into_class_fits object number class name supplied value (field_named name class.fields)
  into_class_of_fits object number None name supplied value = fails_fit l unsupported

  into_object_fits : (object : ObjNo) (name : ℕ) (supplied : Option (List Expression)) (value : Value)
      (class : Option ℕ) → Same l i (λ E m. assigning.into_object E m how object name supplied value class)
  into_object_fits object name supplied value None =
      then_fits (values_fit l i [] (given_arguments supplied)) (λ found.
      world_fits l (set_member_wantless object (dictionary_word i.program name) found value))
  into_object_fits object name supplied value (Some number) =
      into_class_of_fits object number (class_at i.program (Some number)) name supplied value

  into_member_fits : (whole : Value) (name : ℕ) (supplied : Option (List Expression)) (value : Value)
      → Same l i (λ E m. assigning.into_member E m how whole name supplied value)
  unfolding assigning.into_member
  into_member_fits whole name supplied value = then_fits (held_object_fits l i whole) (λ object.
      then_fits (class_fits l i object) (into_object_fits object name supplied value))

  -- ---- the last access

  into_access_fits : (from : Reached) (found : Access) (value : Value)
      → Same l i (λ E m. assigning.into_access E m how from found value)
  into_access_fits from (Group indices) value =
      then_fits (then_fits (world_fits l (hold_reached_wantless from)) (λ done. values_fit l i [] indices))
      (λ found. world_fits l (store_element_wantless from found value))
  into_access_fits from (Member name supplied) value =
      then_fits (world_fits l (reached_wantless from)) (λ whole. into_member_fits whole name supplied value)

  into_fits : (from : Reached) (first : Access) (more : List Access) (value : Value)
      → Same l i (λ E m. assigning.into E m how from first more value)
  into_fits from first [] value = into_access_fits from first value
  into_fits from first (second ∷ others) value =
      then_fits (access_fits l i from first) (λ next. into_fits next second others value)

  into_value_fits : {first : Does l.E Value} {second : Does l.F Value} (more : List Access) (value : Value)
      → Fits l first second → Fits l (assigning.into_value l.E (one i) how first more value)
      (assigning.into_value l.F (two i) how second more value)
  into_value_fits [] value fit = fails_fit l illegal_assignment
  into_value_fits (first ∷ others) value fit =
      then_fits fit (λ whole. into_fits (AtValue whole) first others value)

  -- ---- where a target begins

  into_place_fits : (more : List Access) (value : Value) (place : Place)
      → Same l i (λ E m. assigning.into_place E m how more value place)
  into_place_fits [] value place = world_fits l (store_wantless place value)
  into_place_fits (first ∷ others) value place = into_fits (AtPlace place) first others value

  into_slot_fits : (found : Slot) (more : List Access) (value : Value)
      → Same l i (λ E m. assigning.into_slot E m how found more value)
  into_slot_fits slot.Result (Group indices ∷ others) value = fails_fit l illegal_assignment
  into_slot_fits found more value =
      then_fits (world_fits l (variable_wantless found)) (into_place_fits more value)

  into_rest_fits : {first : Does l.E Reached} {second : Does l.F Reached} (more : List Access) (value : Value)
      → Fits l first second → Fits l (assigning.into_rest l.E (one i) how first more value)
      (assigning.into_rest l.F (two i) how second more value)
  into_rest_fits [] value fit = fails_fit l illegal_assignment
  into_rest_fits (first ∷ others) value fit = then_fits fit (λ from. into_fits from first others value)

  into_called_fits : (found : Named) (more : List Access) (value : Value)
      → Same l i (λ E m. assigning.into_called E m how found more value)
  into_called_fits found (Group supplied ∷ more) value =
      into_rest_fits more value (name_fits l i found (Group supplied ∷ []))
  into_called_fits found more value = into_rest_fits more value (name_fits l i found [])

  into_call_fits : (found : Named) (more : List Access) (value : Value)
      → Same l i (λ E m. assigning.into_call E m how found more value)
  into_call_fits found more value =
      choice_fits (only_groups more) (fails_fit l illegal_assignment) (into_called_fits found more value)

  own_property_fits : (number : ℕ) (supplied : List Expression) (value : Value)
      → Same l i (λ E m s. assigning.property E m how s.world.frame.owner
      (assigning.own_property E m how number s.world) supplied value s)
  own_property_fits number supplied value = seen_fits l i
      (λ E m world. assigning.property E m how world.frame.owner
      (assigning.own_property E m how number world) supplied value)
      (λ world. property_fits world.frame.owner (assigning.own_property l.E (one i) how number world) supplied value)

  into_own_fits : (number : ℕ) (more : List Access) (value : Value)
      → Same l i (λ E m. assigning.into_own E m how number more value)
  into_own_fits number [] value = own_property_fits number [] value
  into_own_fits number (Group supplied ∷ []) value = own_property_fits number supplied value
  into_own_fits number more value = into_called_fits (named.Own number) more value

  into_name_fits : (found : Named) (more : List Access) (value : Value)
      → Same l i (λ E m. assigning.into_name E m how found more value)
  into_name_fits (named.Place found) more value = into_slot_fits found more value
  into_name_fits (named.Own number) more value = into_own_fits number more value
  into_name_fits (named.PageConstant number) more value =
      into_rest_fits more value (name_fits l i (named.PageConstant number) [])
  into_name_fits (named.LocalConstant number) more value =
      into_rest_fits more value (name_fits l i (named.LocalConstant number) [])
  into_name_fits (named.Value literal) more value =
      into_rest_fits more value (name_fits l i (named.Value literal) [])
  into_name_fits named.Unknown more value =
      then_fits (unknown_fits l i more) (λ found. value_fits l tt)
  into_name_fits (named.Class number) more value = fails_fit l illegal_assignment
  into_name_fits found more value = into_call_fits found more value

  -- ---- the page's objects

  write_fits : (found : PageMember) (takes : Takes) (supplied : List Value) (value : Value)
      → Same l i (λ E m. assigning.write_member E m how found takes supplied value)
  write_fits found takes supplied value = choice_fits takes.is_written
      (choice_fits (is_taken takes (length supplied))
      (then_fits (i.asks found (supplied ++ value ∷ [])) (λ given. value_fits l tt)) (fails_fit l wrong_number))
      (fails_fit l unsupported)

  into_page_fits : (found : PageMember) (takes : Takes) (value : Value) (split : List Value × List Access)
      → Same l i (λ E m. assigning.into_page_member E m how found takes value split)
  into_page_fits found takes value (supplied, []) = write_fits found takes supplied value
  into_page_fits found takes value (supplied, first ∷ others) =
      into_rest_fits (first ∷ others) value (from_page_fits l i found takes (supplied, []))

  into_err_fits : (found : ErrMember) (more : List Access) (value : Value)
      → Same l i (λ E m. assigning.into_err E m how found more value)
  into_err_fits found [] value = world_fits l (set_err_wantless found value)
  into_err_fits found (first ∷ others) value = fails_fit l unsupported

  into_head_fits : (found : Head) (more : List Access) (value : Value)
      → Same l i (λ E m. assigning.into_head E m how found more value)
  into_head_fits (head.Named found) more value = into_name_fits found more value
  into_head_fits head.Me more value = into_value_fits more value (world_fits l
      (seeing_wantless (λ world. me_value world.frame.owner) (λ world. me_wantless world.frame.owner)))
  into_head_fits (head.With name) more value =
      into_value_fits (member_before name more) value (world_fits l subject_wantless)
  into_head_fits (head.Err found) more value = into_err_fits found more value
  into_head_fits (head.Member found groups takes) more value =
      then_fits (groups_fit l i groups [] more) (into_page_fits found takes value)

  pub assign_to_fits : (path : Path) (value : Value) → Same l i (λ E m. assigning.assign_to E m how path value)
  unfolding assigning.assign_to
  assign_to_fits path value = into_head_fits path.head (accesses path.steps) value
