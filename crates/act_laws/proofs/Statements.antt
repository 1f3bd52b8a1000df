-- Statements but for loops, in two environments side by side.
use Rattle.std.proofs.Common.{ℕ, ◌+◌, Bool, true, false, List, [], ◌∷◌, ◌++◌, Option, Some, None, refl}
use Rattle.vb_value.specs.declared.operator.Op2.TheVariants.{Equal}
use Rattle.vb_value.specs.declared.value.Value.{Value}
use Rattle.vb_value.specs.Errors.{type_mismatch}
use Rattle.vb_syntax.specs.declared.member.Member.TheVariants.{ResponseWrite}
use Rattle.vb_syntax.specs.declared.program.expression.Expression.{Expression}
use Rattle.vb_syntax.specs.declared.program.expression.Head.{Head}
use Rattle.vb_syntax.specs.declared.program.expression.Head.TheVariants as head
use Rattle.vb_syntax.specs.declared.program.expression.Path.{Path}
use Rattle.vb_syntax.specs.declared.program.name.Named.TheVariants as named
use Rattle.vb_syntax.specs.declared.program.statement.Case.{Case, out-Case}
use Rattle.vb_syntax.specs.declared.program.statement.ElseIf.{ElseIf, out-ElseIf}
use Rattle.vb_syntax.specs.declared.program.statement.Resized.{Resized}
use Rattle.vb_syntax.specs.declared.program.statement.Statement.{Statement}
use Rattle.vb_ops.specs.Operators.{apply2_of, truth_of}
use Rattle.vb_meaning.specs.declared.reached.Assigned.{Assigned}
use Rattle.vb_meaning.specs.declared.reached.Reached.TheVariants.{Place as AtPlace}
use Rattle.vb_meaning.specs.declared.world.Exit.TheVariants.{Next}
use Rattle.vb_meaning.specs.Accesses.{Access, accesses}
use Rattle.vb_meaning.specs.Assigning.{assignable}
use Rattle.vb_meaning.specs.Blocks.{block}
use Rattle.vb_meaning.specs.Errors.{on_error}
use Rattle.vb_meaning.specs.State.{Does}
use Rattle.vb_meaning.specs.Statements as statements
use Rattle.act_laws.proofs.Calling.{block_fits}
use Rattle.act_laws.proofs.Inside.{Inners, one, two, Same, seen_fits}
use Rattle.act_laws.proofs.Joined.{Link}
use Rattle.act_laws.proofs.Linked.{Fits, turned, then_fits, value_fits, fails_fit, given_fits, world_fits}
use Rattle.act_laws.proofs.Linked.{choice_fits, moved_fits}
use Rattle.act_laws.proofs.Reading.{values_fit, head_fits}
use Rattle.act_laws.proofs.Holding.{carried_still}
use Rattle.act_laws.proofs.Releasing.{release_fits}
use Rattle.act_laws.proofs.Turning.{line_turns, resumed_turns, with_turns}
use Rattle.act_laws.proofs.Wantless.{then_wantless, change_wantless}
use Rattle.act_laws.proofs.WantlessPlaces.{variable_wantless, element_wantless, target_wantless, held_wantless}
use Rattle.act_laws.proofs.WantlessScopes.{resize_wantless}

module _ (l : Link) (i : Inners l) where
  pub in_head_fits : {A : Type 0} {first : Does l.E A} {second : Does l.F A} → Fits l first second
      → Fits l (statements.in_head l.E (one i) first) (statements.in_head l.F (two i) second)
  in_head_fits = release_fits l i

  pub condition_fits : (test : Expression) → Same l i (λ E m. statements.condition E m test)
  unfolding statements.condition
  condition_fits test = in_head_fits (then_fits (i.value_fits test) (λ value. given_fits l (truth_of value)))

  -- ---- If

  chooses_fits : (test : Expression) → Same l i (λ E m. statements.chooses E m test)
  chooses_fits test = turned (resumed_turns l true) (condition_fits test)

  otherwise_fits : (found : Option (List Statement)) → Same l i (λ E m. statements.otherwise_block E m found)
  otherwise_fits (Some body) = block_fits l i body
  otherwise_fits None = value_fits l Next

  else_ifs_fit : (found : List ElseIf) (otherwise : Option (List Statement))
      → Same l i (λ E m. statements.else_ifs E m found otherwise)
  else_ifs_fit [] otherwise = otherwise_fits otherwise
  else_ifs_fit (first ∷ others) otherwise = then_fits
      (turned (line_turns l (out-ElseIf first).line) (chooses_fits (out-ElseIf first).condition)) (λ holds.
      choice_fits holds (block_fits l i (out-ElseIf first).«then») (else_ifs_fit others otherwise))

  pub if_fits : (test : Expression) (branch : List Statement) (others : List ElseIf)
      (otherwise : Option (List Statement)) → Same l i (λ E m. statements.if_statement E m test branch others otherwise)
  unfolding statements.if_statement
  if_fits test branch others otherwise = then_fits (chooses_fits test) (λ holds.
      choice_fits holds (block_fits l i branch) (else_ifs_fit others otherwise))

  -- ---- Select Case

  is_among_fits : (subject : Value) (found : List Expression)
      → Same l i (λ E m. statements.is_among E m subject found)
  is_among_fits subject [] = value_fits l false
  is_among_fits subject (first ∷ others) = then_fits (i.value_fits first) (λ value.
      then_fits (given_fits l (apply2_of Equal subject value)) (λ equal.
      then_fits (given_fits l (truth_of equal)) (λ holds.
      choice_fits holds (value_fits l true) (is_among_fits subject others))))

  first_case_fits : (number : ℕ) (subject : Value) (cases : List Case)
      → Same l i (λ E m. statements.first_case E m number subject cases)
  first_case_fits number subject [] = value_fits l None
  first_case_fits number subject (first ∷ others) = then_fits
      (turned (line_turns l (out-Case first).line) (is_among_fits subject (out-Case first).values)) (λ holds.
      choice_fits holds (value_fits l (Some number)) (first_case_fits (number + 1) subject others))

  pub select_fits : (subject : Expression) (cases : List Case) (otherwise : Option (List Statement))
      → Same l i (λ E m. statements.select_statement E m subject cases otherwise)
  unfolding statements.select_statement
  select_fits subject cases otherwise = then_fits
      (in_head_fits (then_fits (i.value_fits subject) (λ value. first_case_fits 0 value cases)))
      (λ chosen. otherwise_fits (statements.case_block cases otherwise chosen))

  -- ---- With

  pub with_fits : (subject : Expression) (body : List Statement)
      → Same l i (λ E m. statements.with_statement E m subject body)
  unfolding statements.with_statement
  with_fits subject body = then_fits (i.value_fits subject) (λ value. seen_fits l i
      (λ E m world s. statements.out_of_with E m world.frame.subjects (block E m body
      (record s { world = statements.with_subjects E m (s.world.frame.subjects ++ value ∷ []) s.world })))
      (λ world. turned (with_turns l (one i) (two i) world.frame.subjects) (moved_fits
      (λ world. statements.with_subjects l.E (one i) (world.frame.subjects ++ value ∷ []) world) (λ world. refl) carried_still
      (block_fits l i body))))

  -- ---- assignments and calls

  pub assignment_fits : (how : Assigned) (target : Path) (value : Expression)
      → Same l i (λ E m. statements.assignment E m how target value)
  unfolding statements.assignment
  assignment_fits how target value = then_fits (i.value_fits value) (λ found.
      then_fits (then_fits (given_fits l (assignable how found)) (λ done. i.assign_fits how target found))
      (λ done. value_fits l Next))

  call_head_fits : (found : Head) (more : List Access) → Same l i (λ E m. statements.call_head E m found more)
  call_head_fits (head.Named (named.Place found)) [] = then_fits (then_fits (world_fits l (variable_wantless found))
      (λ place. world_fits l (element_wantless (AtPlace place) []))) (λ done. value_fits l tt)
  call_head_fits (head.Named (named.PageConstant number)) [] = fails_fit l type_mismatch
  call_head_fits (head.Named (named.LocalConstant number)) [] = fails_fit l type_mismatch
  call_head_fits (head.Named (named.Value literal)) [] = fails_fit l type_mismatch
  call_head_fits (head.Named named.Unknown) [] = fails_fit l type_mismatch
  call_head_fits found more = then_fits (head_fits l i found more) (λ done. value_fits l tt)

  pub call_of_fits : (path : Path) → Same l i (λ E m. statements.call_of E m path)
  unfolding statements.call_of
  call_of_fits path = call_head_fits path.head (accesses path.steps)

  -- ---- ReDim

  redim_one_fits : (preserve : Bool) (resized : Resized) → Same l i (λ E m. statements.redim_one E m preserve resized)
  redim_one_fits preserve resized = then_fits (values_fit l i [] resized.bounds) (λ bounds. world_fits l
      (then_wantless (target_wantless resized.name) (λ place.
      then_wantless (held_wantless place) (resize_wantless preserve bounds place))))

  pub redim_fits : (preserve : Bool) (found : List Resized) → Same l i (λ E m. statements.redim E m preserve found)
  redim_fits preserve [] = value_fits l tt
  redim_fits preserve (first ∷ others) =
      then_fits (redim_one_fits preserve first) (λ done. redim_fits preserve others)

  -- ---- the page

  pub write_fits : (value : Value) → Same l i (λ E m. statements.write E m value)
  write_fits value = then_fits (i.asks ResponseWrite (value ∷ [])) (λ given. value_fits l Next)

  pub handles_fit : (resumes : Bool) → Same l i (λ E m. statements.handles E m resumes)
  handles_fit resumes = world_fits l (change_wantless Next (on_error resumes) (λ world. refl) carried_still)
