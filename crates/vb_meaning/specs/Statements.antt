-- Statements, but for loops (VBScript 5.6 language reference, "Statements", with those of an ASP page).
use Rattle.std.specs.Prelude.{ℕ, ◌+◌, ◌-◌, ◌==◌, Bool, true, false, ◌&&◌, if◌then◌else◌, ℤ, List, [], ◌∷◌, ◌++◌}
use Rattle.std.specs.Prelude.{length, take, replicate, slice_get, Option, Some, None, Result, Ok, Err}
use Rattle.std.specs.List.{list_any}
use Rattle.std.specs.Option.{option_map}
use Rattle.std.specs.Ordering.{int_eq}
use Rattle.std.specs.Cmp.Lexicographic.{pointwise}
use Rattle.vb_value.specs.declared.fault.VbError.{VbError}
use Rattle.vb_value.specs.declared.operator.Op2.TheVariants.{Equal}
use Rattle.vb_value.specs.declared.value.Array.{Array}
use Rattle.vb_value.specs.declared.value.Value.{Value, Empty, out-Value}
use Rattle.vb_value.specs.declared.value.Value.TheOpen.{Value-F}
use Rattle.vb_value.specs.declared.value.Value.TheViews.{Arr}
use Rattle.vb_value.specs.Errors.{array_is_fixed, out_of_range, type_mismatch, undefined_variable}
use Rattle.vb_value.specs.Sound.{item_count}
use Rattle.vb_syntax.specs.declared.member.Member.TheVariants.{ResponseWrite}
use Rattle.vb_syntax.specs.declared.program.expression.Expression.{Expression}
use Rattle.vb_syntax.specs.declared.program.expression.Head.{Head}
use Rattle.vb_syntax.specs.declared.program.expression.Head.TheVariants as head
use Rattle.vb_syntax.specs.declared.program.expression.Path.{Path}
use Rattle.vb_syntax.specs.declared.program.name.Named.{Named}
use Rattle.vb_syntax.specs.declared.program.name.Named.TheVariants as named
use Rattle.vb_syntax.specs.declared.program.statement.Case.{Case, out-Case}
use Rattle.vb_syntax.specs.declared.program.statement.ElseIf.{ElseIf, out-ElseIf}
use Rattle.vb_syntax.specs.declared.program.statement.Resized.{Resized}
use Rattle.vb_syntax.specs.declared.program.statement.Statement.{Statement}
use Rattle.vb_syntax.specs.declared.statement.ExitKind.{ExitKind}
use Rattle.vb_syntax.specs.declared.statement.ExitKind.TheVariants as left
use Rattle.vb_ops.specs.Operators.{apply2_of, truth_of}
use Rattle.vb_heap.specs.declared.place.Place.{Place}
use Rattle.vb_heap.specs.Cells.{store_of, with_stored}
use Rattle.vb_meaning.specs.declared.world.Exit.{Exit}
use Rattle.vb_meaning.specs.declared.world.Exit.TheVariants.{Next, Leave}
use Rattle.vb_meaning.specs.World.{World}
use Rattle.vb_meaning.specs.Accesses.{Access, accesses}
use Rattle.vb_meaning.specs.Asking.{ask}
use Rattle.vb_meaning.specs.Assigning.{assignable}
use Rattle.vb_meaning.specs.Blocks.{block}
use Rattle.vb_meaning.specs.Errors.{in_line, resumed, cleared, on_error}
use Rattle.vb_meaning.specs.Inner.{Inner}
use Rattle.vb_meaning.specs.declared.reached.Assigned.{Assigned}
use Rattle.vb_meaning.specs.Paths.{element}
use Rattle.vb_meaning.specs.declared.reached.Reached.TheVariants.{Place as AtPlace}
use Rattle.vb_meaning.specs.Places.{variable, target_variable, held_at, held_so_far, indices_of}
use Rattle.vb_meaning.specs.Reading.{values, from_head}
use Rattle.vb_meaning.specs.Releases.{release}
use Rattle.vb_meaning.specs.State.{State, Does, on_world, on_store, with_frame}
use Rattle.vb_meaning.specs.Step.{Step, Returns, Ends, Run, ◌>>=◌, ◌>>◌, pure, given, fails}
use Rattle.vb_meaning.specs.Values.{empty_array, is_bad_bound}

-- ---- arrays

-- an array of these bounds, not fixed, in the place of what was there
abbrev pub array_into : Place → List ℤ → Run World (Unit {0})
array_into place bounds = on_store (store_of place (Arr (empty_array false bounds)))
    (with_stored place (Arr (empty_array false bounds)))

-- all bounds but the last
abbrev pub but_last : List ℤ → List ℤ
but_last bounds = take (length bounds - 1) bounds

-- whether Preserve may go from these bounds to those: as many, and all but the last the same
abbrev pub may_preserve : List ℤ → List ℤ → Bool
may_preserve old new = length old == length new && pointwise int_eq (but_last old) (but_last new)

-- as many items as there are places, the old ones first
abbrev pub items_kept : List Value → ℕ → List Value
items_kept items count = take count items ++ replicate (count - length items) Empty

-- an array with another last bound, with the items that it still has a place for
abbrev pub preserved : Array → List ℤ → Array
preserved array bounds =
    record { bounds = bounds; fixed = false; items = items_kept array.items (item_count bounds) }

-- ReDim Preserve: an array without dimensions keeps nothing; a value that is no array is a Type mismatch
abbrev pub preserved_from : Array → List ℤ → Result Array VbError
preserved_from array bounds = if length array.bounds == 0 then Ok (empty_array false bounds)
    else if may_preserve array.bounds bounds then Ok (preserved array bounds) else Err out_of_range

abbrev pub resized_array : Bool → Value-F Value Array → List ℤ → Result Array VbError
resized_array false old bounds = Ok (empty_array false bounds)
resized_array true (Value-F.Arr array) bounds = preserved_from array bounds
resized_array true _ bounds = Err type_mismatch

-- an error where a value is a fixed array
abbrev pub not_fixed : Value-F Value Array → Result (Unit {0}) VbError
not_fixed (Value-F.Arr array) = if array.fixed then Err array_is_fixed else Ok tt
not_fixed _ = Ok tt

-- an error where a bound is below -1
abbrev pub good_bounds : List ℤ → Result (Unit {0}) VbError
good_bounds bounds = if list_any is_bad_bound bounds then Err out_of_range else Ok tt

-- Of a variable that gets bounds: a fixed array is refused first, then each bound is made Long, then a bound below -1
-- is refused, then Preserve asks, and then the page's data may be too much.
abbrev pub resize : Bool → List Value → Place → Value → Run World (Unit {0})
resize preserve bounds place old = given (not_fixed (out-Value old)) >> given (indices_of bounds) >>= (λ found.
    given (good_bounds found) >> given (resized_array preserve (out-Value old) found) >>= (λ array.
    on_store (store_of place (Arr array)) (with_stored place (Arr array))))

-- what Erase makes of a value: a fixed array with Empty items, another array without dimensions
abbrev pub erased : Value-F Value Array → Result Value VbError
erased (Value-F.Arr array) =
    if array.fixed then Ok (Arr (empty_array true array.bounds)) else Ok (Arr (empty_array false []))
erased _ = Err type_mismatch

-- Erase of what a place holds
abbrev pub erase_place : Place → Run World (Unit {0})
erase_place place = held_at place >>= (λ old. given (erased (out-Value old)) >>= (λ value.
    on_store (store_of place value) (with_stored place value)))

-- Erase of a variable; a name that nothing declares is undefined, and any other is no array
abbrev pub erase : Named → Run World (Unit {0})
erase (named.Place found) = variable found >>= erase_place
erase named.Unknown = fails undefined_variable
erase _ = fails type_mismatch

-- Erase of several, in their order
abbrev pub erase_all : List Named → Run World (Unit {0})
erase_all [] = pure tt
erase_all (first ∷ others) = erase first >> erase_all others

-- ---- Exit

-- whether an Exit clears Err: of a Sub, a Function or a Property
abbrev pub clears_err : ExitKind → Bool
clears_err left.Sub = true
clears_err left.Function = true
clears_err left.Property = true
clears_err _ = false

-- an Exit
abbrev pub leave : ExitKind → Run World Exit
leave kind world = Returns (Leave kind) (if clears_err kind then cleared world else world)

-- ---- Select Case

-- the block of the Case of this number, or that of Case Else
abbrev pub case_block : List Case → Option (List Statement) → Option ℕ → Option (List Statement)
case_block cases otherwise (Some number) = option_map (λ found. (out-Case found).body) (slice_get cases number)
case_block cases otherwise None = otherwise

module _ (E : Type 0) (m : Inner E) where
  -- The head of a statement is a statement for what it holds: at its end that is let go, and objects end.
  abbrev pub in_head : {A : Type 0} → Does E A → Does E A
  in_head run s = release E m (held_so_far s.world) (run s)

  -- a condition as a head of its own
  unfoldable pub condition : Expression → Does E Bool
  condition test = in_head (m.value test >>= (λ value. given (truth_of value)))

  -- ---- If

  -- a condition of an If: under On Error Resume Next its branch is entered after an error
  abbrev pub chooses : Expression → Does E Bool
  chooses test s = resumed true (condition test s)

  -- the Else part, if there is one
  abbrev pub otherwise_block : Option (List Statement) → Does E Exit
  otherwise_block (Some statements) = block E m statements
  otherwise_block None = pure Next

  -- the condition of an ElseIf, in its own line
  abbrev pub else_if_chooses : ElseIf → Does E Bool
  else_if_chooses found s = in_line (out-ElseIf found).line (chooses (out-ElseIf found).condition s)

  -- the ElseIf parts
  abbrev pub else_ifs : List ElseIf → Option (List Statement) → Does E Exit
  else_ifs [] otherwise = otherwise_block otherwise
  else_ifs (first ∷ others) otherwise = else_if_chooses first >>= (λ holds.
      if holds then block E m (out-ElseIf first).«then» else else_ifs others otherwise)

  unfoldable pub if_statement : Expression → List Statement → List ElseIf → Option (List Statement) → Does E Exit
  if_statement test branch others otherwise = chooses test >>= (λ holds.
      if holds then block E m branch else else_ifs others otherwise)

  -- ---- Select Case

  -- whether the subject equals one of some expressions, which are tried from left to right
  abbrev pub is_among : Value → List Expression → Does E Bool
  is_among subject [] = pure false
  is_among subject (first ∷ others) = m.value first >>= (λ value.
      given (apply2_of Equal subject value) >>= (λ equal. given (truth_of equal) >>= (λ holds.
      if holds then pure true else is_among subject others)))

  -- whether a Case holds, in its own line
  abbrev pub case_holds : Value → Case → Does E Bool
  case_holds subject found s = in_line (out-Case found).line (is_among subject (out-Case found).values s)

  -- the number of the first Case that holds, if one does, where the first of these has this number
  abbrev pub first_case : ℕ → Value → List Case → Does E (Option ℕ)
  first_case number subject [] = pure None
  first_case number subject (first ∷ others) = case_holds subject first >>= (λ holds.
      if holds then pure (Some number) else first_case (number + 1) subject others)

  -- the subject and the Case expressions that are tried are one head
  unfoldable pub select_statement : Expression → List Case → Option (List Statement) → Does E Exit
  select_statement subject cases otherwise =
      in_head (m.value subject >>= (λ value. first_case 0 value cases)) >>= (λ chosen.
      otherwise_block (case_block cases otherwise chosen))

  -- ---- With

  -- the subjects of the Withs around are those again
  abbrev pub with_subjects : List Value → World → World
  with_subjects subjects world = with_frame (λ frame. record frame { subjects = subjects }) world

  -- what a With leaves behind: the Withs around it, however its block ended
  abbrev pub out_of_with : {A : Type 0} → List Value → Step (State E) A → Step (State E) A
  out_of_with subjects (Returns value s) = Returns value (record s { world = with_subjects subjects s.world })
  out_of_with subjects (Ends why s) = Ends why (record s { world = with_subjects subjects s.world })

  -- the subject stays held to the end of the whole statement
  unfoldable pub with_statement : Expression → List Statement → Does E Exit
  with_statement subject body = m.value subject >>= (λ value s. out_of_with s.world.frame.subjects
      (block E m body (record s { world = with_subjects (s.world.frame.subjects ++ value ∷ []) s.world })))

  -- ---- assignments and calls

  -- `target = value` and `Set target = value`
  unfoldable pub assignment : Assigned → Path → Expression → Does E Exit
  assignment how target value = m.value value >>= (λ found.
      given (assignable how found) >> m.assign how target found >> pure Next)

  -- A path that a statement calls. A variable is asked for an element, also without parentheses. A constant alone, and a
  -- name that stands for nothing, can't be called, which is a Type mismatch.
  abbrev pub call_head : Head → List Access → Does E (Unit {0})
  call_head (head.Named (named.Place found)) [] =
      on_world (variable found) >>= (λ place. on_world (element (AtPlace place) [])) >> pure tt
  call_head (head.Named (named.PageConstant number)) [] = fails type_mismatch
  call_head (head.Named (named.LocalConstant number)) [] = fails type_mismatch
  call_head (head.Named (named.Value literal)) [] = fails type_mismatch
  call_head (head.Named named.Unknown) [] = fails type_mismatch
  call_head found more = from_head E m found more >> pure tt

  unfoldable pub call_of : Path → Does E (Unit {0})
  call_of path = call_head path.head (accesses path.steps)

  -- ---- ReDim

  -- one array: its bounds are evaluated first
  abbrev pub redim_one : Bool → Resized → Does E (Unit {0})
  redim_one preserve resized = values E m [] resized.bounds >>= (λ bounds. on_world
      (target_variable resized.name >>= (λ place. held_at place >>= resize preserve bounds place)))

  -- name by name
  abbrev pub redim : Bool → List Resized → Does E (Unit {0})
  redim preserve [] = pure tt
  redim preserve (first ∷ others) = redim_one preserve first >> redim preserve others

  -- ---- the page

  -- a value is written as Response.Write writes it
  abbrev pub write : Value → Does E Exit
  write value = ask m.host ResponseWrite (value ∷ []) >> pure Next

  -- the state after On Error
  abbrev pub handles : Bool → Does E Exit
  handles resumes = on_world (λ world. Returns Next (on_error resumes world))
