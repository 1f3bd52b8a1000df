-- An environment beside itself with the terminators that are entered noted.
use Rattle.std.proofs.Common.{ℕ, zero, suc, ◌≡◌, ◌≤◌, List, [], ◌∷◌, Bool, true, false, if◌then◌else◌}
use Rattle.std.proofs.Common.{Option, Some, None, Ok, Err, refl, sym, ap, subst, ◌∙◌}
use Rattle.std.specs.Option.{option_map}
use Rattle.vb_value.specs.declared.application.AppReply.{AppReply}
use Rattle.vb_value.specs.declared.value.Value.{Value}
use Rattle.vb_syntax.specs.declared.act.Given.TheVariants as given
use Rattle.vb_syntax.specs.declared.member.Member.{Member}
use Rattle.vb_syntax.specs.declared.program.Program.{Program}
use Rattle.vb_syntax.specs.declared.program.expression.Expression.{Expression, out-Expression}
use Rattle.vb_syntax.specs.declared.program.expression.Path.{Path}
use Rattle.vb_syntax.specs.declared.program.statement.Statement.{Statement}
use Rattle.vb_syntax.specs.declared.program.statement.StatementKind.{out-StatementKind}
use Rattle.vb_syntax.specs.declared.program.unit.Procedure.{Procedure}
use Rattle.vb_heap.specs.declared.object.Object.{Object}
use Rattle.vb_heap.specs.DictionaryCalls.{array_of}
use Rattle.vb_heap.specs.Releases.{ends_now, object_of}
use Rattle.vb_heap.specs.Store.{numbered}
use Rattle.vb_meaning.specs.declared.reached.Argument.{Argument}
use Rattle.vb_meaning.specs.declared.reached.Argument.TheVariants.{Value as OfValue}
use Rattle.vb_meaning.specs.declared.reached.Assigned.{Assigned}
use Rattle.vb_meaning.specs.declared.stop.Stop.TheVariants as stop
use Rattle.vb_meaning.specs.World.{World}
use Rattle.vb_meaning.specs.Asking.{Host, Said, ask, heard, name_values}
use Rattle.vb_meaning.specs.Expressions.{bare}
use Rattle.vb_meaning.specs.Inner.{Owner}
use Rattle.vb_meaning.specs.Meaning as meaning
use Rattle.vb_meaning.specs.State.{Does, State}
use Rattle.vb_meaning.specs.Step.{Step, Returns, Ends}
use Rattle.act_laws.specs.Entries.{AreOf, EntersEach, Noted, Notes, beside_notes, ends_by, entering, is_among}
use Rattle.act_laws.specs.Entries.{noted_entry, noted_levels, running_again, said_beside}
use Rattle.act_laws.specs.Objects.{Account, IsEnding, Kept, account_at, account_of}
use Rattle.vb_meaning.specs.Step.{state_of}
use Rattle.act_laws.proofs.Assigning.{assign_to_fits}
use Rattle.act_laws.proofs.Calling.{enter_of_fits}
use Rattle.act_laws.proofs.Entered.{HasEntered, NotesEntries}
use Rattle.act_laws.proofs.Entering.{still_enters}
use Rattle.act_laws.proofs.Expressions.{argument_of_fits, valued_fits, written_or_fits}
use Rattle.act_laws.proofs.Inside.{Inners}
use Rattle.act_laws.proofs.Joined.{Link, Alike, Joined, gives, ends, gone}
use Rattle.act_laws.proofs.Holding.{Carried, ask_holds}
use Rattle.act_laws.proofs.Keeping.{ask_keeps}
use Rattle.act_laws.proofs.Linked.{Fits, then_fits, value_fits, world_fits}
use Rattle.act_laws.proofs.Links.{ends_for}
use Rattle.act_laws.proofs.Marks.{ended_at, marked_by}
use Rattle.act_laws.proofs.Meaning.{refused_fits, statement_of_fits}
use Rattle.act_laws.proofs.Spending.{ask_spends, ticks_at}
use Rattle.act_laws.proofs.Statements.{call_of_fits}
use Rattle.act_laws.proofs.Telling.{Telling, Tells, Told}
use Rattle.act_laws.proofs.Wantless.{deep_wantless}

-- what was entered, where others are said to be run
enters_again : {program : Program} {before after : World} {noted notes : Notes} (running : List ℕ)
    → EntersEach program before noted after notes
    → EntersEach program before noted after (record notes { running = running })
enters_again running enters = record {
  grows = enters.grows;
  not_yet = enters.not_yet;
  no_more = enters.no_more;
  once = enters.once;
  made = enters.made;
  classes = enters.classes;
}

-- an object that is ending, as what is found of it
ends_found : (found : Option Object) (running : Bool) → (ends_now found ≡ true → running ≡ true) → (object : ℕ)
    → (if ends_now found then (if running then None else Some object) else None) ≡ None
ends_found found running there object = by (ends_now found) refl
  where
    by : (now : Bool) → ends_now found ≡ now
        → (if now then (if running then None else Some object) else None) ≡ None
    by false is = refl
    by true is = ap (λ b. if b then None else Some object) (there is)

-- an object that is found ending is marked so
marked_as : {F : Type 0} (number : ℕ) (s : State F) (thing : Object)
    → numbered number s.world.store.objects ≡ Some thing
    → thing.ending ≡ true → IsEnding number (account_at s)
marked_as number s thing is now = marked_by s.world.store.objects number
    ∙ ap (λ found. option_map (λ (object : Object). object.ending) found) is ∙ ap (λ (b : Bool). Some b) now

module _ (E : Type 0) (host : Host E) (program : Program) where
  abbrev pub telling_of : Telling (Noted E)
  telling_of = record { notes = λ env. env.1; program = program }

  abbrev pub beside : Link
  beside = record {
    E = E;
    F = Noted E;
    host = host;
    other = beside_notes host;
    now = λ env replies other others. (other.0 ≡ env) × (others ≡ replies);
    both_want = λ env replies other others. (other.0 ≡ env) × (others ≡ replies);
    both_lack = λ env replies other others. (other.0 ≡ env) × (others ≡ replies);
    past = λ call other others. ⊥;
    tells = Unit {0};
    telling = λ noting. telling_of;
  }

  -- ---- questions

  heard_beside : (member : Member) (arguments : List Value) (world : World) (ticks : ℕ) (replies : List AppReply)
      (said : Said E)
      (notes : Notes) → Alike beside (heard host member arguments world ticks replies said)
      (heard (beside_notes host) member arguments world ticks replies (said_beside notes said))
  heard_beside member arguments world ticks replies (Ok (given.Value value, env)) notes =
      gives value world ticks env replies (env, notes) replies (refl, refl)
  heard_beside member arguments world ticks replies (Ok (given.Names names, env)) notes =
      gives (array_of (name_values names)) world ticks env replies (env, notes) replies (refl, refl)
  heard_beside member arguments world ticks [] (Ok (given.Call call, env)) notes =
      ends (stop.Wants call) world ticks env [] (env, notes) [] (refl, refl)
  heard_beside member arguments world ticks (reply ∷ replies) (Ok (given.Call call, env)) notes =
      heard_beside member arguments world ticks replies (host.answered member arguments reply env) notes
  heard_beside member arguments world ticks replies (Err (reason, env)) notes =
      ends_for beside reason world ticks env replies (env, notes) replies (refl, refl) (λ is. (refl, refl))

  asks_joined : (member : Member) (arguments : List Value)
      → Joined beside (ask host member arguments) (ask (beside_notes host) member arguments)
  unfolding ask
  asks_joined member arguments = record {
    alike = λ world ticks env replies other others now.
        subst (λ found. Alike beside
        (heard host member arguments world ticks replies (host.asked member arguments found))
        (heard (beside_notes host) member arguments world ticks others
        (said_beside other.1 (host.asked member arguments other.0))))
        now.0 (subst (λ left. Alike beside
        (heard host member arguments world ticks replies (host.asked member arguments other.0))
        (heard (beside_notes host) member arguments world ticks left
        (said_beside other.1 (host.asked member arguments other.0))))
        (sym now.1) (heard_beside member arguments world ticks replies (host.asked member arguments other.0) other.1));
    goes_on = λ call world ticks other others past. absurd past;
  }

  same_told : (s after : State (Noted E)) → after.world ≡ s.world → after.env.1 ≡ s.env.1 → Told telling_of s after
  same_told s after world notes = record {
    enters = subst (λ found. EntersEach program s.world s.env.1 found after.env.1) (sym world)
        (subst (λ found. EntersEach program s.world s.env.1 s.world found) (sym notes)
        (still_enters program s.world s.env.1));
    running = ap (λ (found : Notes). found.running) notes;
  }

  heard_told : (s : State (Noted E)) (member : Member) (arguments : List Value) (replies : List AppReply)
      (said : Said E) → Told telling_of s
      (state_of (heard (beside_notes host) member arguments s.world s.ticks replies (said_beside s.env.1 said)))
  heard_told s member arguments replies (Ok (given.Value value, env)) = same_told s _ refl refl
  heard_told s member arguments replies (Ok (given.Names names, env)) = same_told s _ refl refl
  heard_told s member arguments [] (Ok (given.Call call, env)) = same_told s _ refl refl
  heard_told s member arguments (reply ∷ replies) (Ok (given.Call call, env)) =
      heard_told s member arguments replies (host.answered member arguments reply env)
  heard_told s member arguments replies (Err (reason, env)) = same_told s _ refl refl

  asks_told : (member : Member) (arguments : List Value) → Tells telling_of (ask (beside_notes host) member arguments)
  unfolding ask
  asks_told member arguments s right =
      heard_told s member arguments s.replies (host.asked member arguments s.env.0)

  pub asks_beside : (member : Member) (arguments : List Value)
      → Fits beside (ask host member arguments) (ask (beside_notes host) member arguments)
  asks_beside member arguments = record {
    joined = asks_joined member arguments;
    keeps = ask_keeps (beside_notes host) member arguments;
    spends = ask_spends (beside_notes host) member arguments;
    tells = λ noting. asks_told member arguments;
    holds = ask_holds (beside_notes host) member arguments;
  }

  -- ---- a procedure that is entered

  again_alike : {A : Type 0} (running : List ℕ) (first : Step (State E) A) (second : Step (State (Noted E)) A)
      → Alike beside first second → Alike beside first (running_again running second)
  again_alike running _ _ (gives value world ticks env replies other others now) =
      gives value world ticks env replies (other.0, record other.1 { running = running }) others now
  again_alike running _ _ (ends (stop.Error what line) world ticks env replies other others now) =
      ends (stop.Error what line) world ticks env replies (other.0, record other.1 { running = running }) others now
  again_alike running _ _ (ends (stop.Limit kind line) world ticks env replies other others now) =
      ends (stop.Limit kind line) world ticks env replies (other.0, record other.1 { running = running }) others now
  again_alike running _ _ (ends (stop.Wants call) world ticks env replies other others now) =
      ends (stop.Wants call) world ticks env replies (other.0, record other.1 { running = running }) others now
  again_alike running _ _ (ends stop.Page world ticks env replies other others now) =
      ends stop.Page world ticks env replies (other.0, record other.1 { running = running }) others now
  again_alike running _ _ (ends stop.Memory world ticks env replies other others now) =
      ends stop.Memory world ticks env replies (other.0, record other.1 { running = running }) others now
  again_alike running _ second (gone call s _ past) = absurd past

  again_kept : {A : Type 0} (running : List ℕ) (before : Account) (step : Step (State (Noted E)) A)
      → Kept account_at before step → Kept account_at before (running_again running step)
  again_kept running before (Returns value s) kept = kept
  again_kept running before (Ends why s) kept = kept

  again_ticks : {A : Type 0} (running : List ℕ) (step : Step (State (Noted E)) A)
      → ticks_at (state_of (running_again running step)) ≡ ticks_at (state_of step)
  again_ticks running (Returns value s) = refl
  again_ticks running (Ends why s) = refl

  again_carried : {A : Type 0} (running : List ℕ) (before : World) (step : Step (State (Noted E)) A)
      → Carried before (state_of step).world → Carried before (state_of (running_again running step)).world
  again_carried running before (Returns value s) carried = carried
  again_carried running before (Ends why s) carried = carried

  again_entered : {A : Type 0} (object : ℕ) (found : Option Procedure) (s from : State (Noted E))
      (step : Step (State (Noted E)) A)
      → EntersEach program s.world from.env.1 (state_of step).world (state_of step).env.1
      → (after : State (Noted E)) → state_of (running_again s.env.1.running step) ≡ after
      → EntersEach program s.world from.env.1 after.world after.env.1 × (after.env.1.running ≡ s.env.1.running)
  again_entered object found s from (Returns value u) enters after is =
      subst (λ (state : State (Noted E)). EntersEach program s.world from.env.1 state.world state.env.1
      × (state.env.1.running ≡ s.env.1.running)) is (enters_again s.env.1.running enters, refl)
  again_entered object found s from (Ends why u) enters after is =
      subst (λ (state : State (Noted E)). EntersEach program s.world from.env.1 state.world state.env.1
      × (state.env.1.running ≡ s.env.1.running)) is (enters_again s.env.1.running enters, refl)

  module _ (first : Owner → Procedure → List Argument → Does E Value)
      (second : Owner → Procedure → List Argument → Does (Noted E) Value)
      (fits : (owner : Owner) (procedure : Procedure) (arguments : List Argument)
      → Fits beside (first owner procedure arguments) (second owner procedure arguments)) where
    -- the state in which a procedure is entered, with this noted
    abbrev noting_in : Option ℕ → Procedure → State (Noted E) → State (Noted E)
    noting_in note procedure s = record s { env = (s.env.0, noted_entry note procedure s.env.1) }

    entering_joined : (owner : Owner) (procedure : Procedure) (arguments : List Argument)
        → Joined beside (first owner procedure arguments) (entering second owner procedure arguments)
    entering_joined owner procedure arguments = record {
      alike = λ world ticks env replies other others now. again_alike other.1.running _ _
          ((fits owner procedure arguments).joined.alike world ticks env replies
          (other.0, noted_entry (ends_by owner world other.1) procedure other.1) others now);
      goes_on = λ call world ticks other others past. absurd past;
    }

    -- in a state whose notes are right no procedure is entered as a terminator
    not_noted : (owner : Owner) (s : State (Noted E)) → AreOf s.world s.env.1 → ends_by owner s.world s.env.1 ≡ None
    not_noted None s right = refl
    not_noted (Some (object, class)) s right = ends_found (numbered object.0 s.world.store.objects)
        (is_among object.0 s.env.1.running)
        (λ now. right.ending object.0 (ending_by (numbered object.0 s.world.store.objects) refl now)) object.0
      where
        ending_by : (found : Option Object) → numbered object.0 s.world.store.objects ≡ found → ends_now found ≡ true
            → IsEnding object.0 (account_of s.world)
        ending_by None is now = absurd (cc)
        ending_by (Some thing) is now = marked_as object.0 s thing is now

    entering_told : (owner : Owner) (procedure : Procedure) (arguments : List Argument)
        → Tells telling_of (entering second owner procedure arguments)
    entering_told owner procedure arguments s right =
        subst (λ note. Told telling_of s (state_of (running_again s.env.1.running
        (second owner procedure arguments (noting_in note procedure s))))) (sym (not_noted owner s right))
        (let told = (fits owner procedure arguments).tells tt s right in
        let parts = again_entered 0 None s s (second owner procedure arguments s) told.enters _ refl in
        record { enters = parts.0; running = parts.1 })

    pub entering_fits : (owner : Owner) (procedure : Procedure) (arguments : List Argument)
        → Fits beside (first owner procedure arguments) (entering second owner procedure arguments)
    entering_fits owner procedure arguments = record {
      joined = entering_joined owner procedure arguments;
      keeps = λ s right. again_kept s.env.1.running (account_at s) _ ((fits owner procedure arguments).keeps
          (noting_in (ends_by owner s.world s.env.1) procedure s) right);
      spends = λ s. subst (λ left. left ≤ ticks_at s) (sym (again_ticks s.env.1.running
          (second owner procedure arguments (noting_in (ends_by owner s.world s.env.1) procedure s))))
          ((fits owner procedure arguments).spends (noting_in (ends_by owner s.world s.env.1) procedure s));
      tells = λ noting. entering_told owner procedure arguments;
      holds = λ s. again_carried {A = Value} s.env.1.running s.world
          (second owner procedure arguments (noting_in (ends_by owner s.world s.env.1) procedure s)) ((fits owner procedure arguments).holds (noting_in (ends_by owner s.world s.env.1) procedure s));
    }

    pub entering_notes : NotesEntries telling_of (entering second)
    entering_notes object class procedure s is apart right =
        let owner : Owner = Some (object_of object, class) in
        let now : ends_now (numbered object s.world.store.objects) ≡ true =
        ended_at s.world.store object s.world.finished (numbered object s.world.store.objects) refl is in
        let note : ends_by owner s.world s.env.1 ≡ Some object = rw now (rw apart refl) in
        subst (λ note. HasEntered telling_of object (Some procedure) s (state_of (running_again s.env.1.running
        (second owner procedure [] (noting_in note procedure s))))) (sym note)
        (let from = noting_in (Some object) procedure s in
        let told = (fits owner procedure []).tells tt from right in
        let parts = again_entered object (Some procedure) s from (second owner procedure [] from) told.enters _ refl in
        record { enters = parts.0; running = parts.1 })

  -- ---- levels

  -- the constructs of the program, with the notes and without
  pub record Levels (levels : ℕ) : Type 0 where
    pub value : (x : Expression)
        → Fits beside (meaning.value E host program levels x) ((noted_levels E host program levels).value x)
    pub argument : (x : Expression)
        → Fits beside (meaning.argument E host program levels x) ((noted_levels E host program levels).argument x)
    pub assign : (how : Assigned) (path : Path) (found : Value)
        → Fits beside (meaning.assign E host program levels how path found)
        ((noted_levels E host program levels).assign how path found)
    pub call : (path : Path)
        → Fits beside (meaning.call E host program levels path) ((noted_levels E host program levels).call path)
    pub statement : (x : Statement)
        → Fits beside (meaning.statement E host program levels x) ((noted_levels E host program levels).statement x)
    pub enter : (owner : Owner) (procedure : Procedure) (arguments : List Argument)
        → Fits beside (meaning.enter E host program levels owner procedure arguments)
        ((noted_levels E host program levels).enter owner procedure arguments)
    pub notes : NotesEntries telling_of (noted_levels E host program levels).enter

  abbrev pub inners : (levels : ℕ) → Levels levels → Inners beside
  inners levels known = record {
    program = program;
    value = meaning.value E host program levels;
    argument = meaning.argument E host program levels;
    assign = meaning.assign E host program levels;
    call = meaning.call E host program levels;
    statement = meaning.statement E host program levels;
    enter = meaning.enter E host program levels;
    other_value = (noted_levels E host program levels).value;
    other_argument = (noted_levels E host program levels).argument;
    other_assign = (noted_levels E host program levels).assign;
    other_call = (noted_levels E host program levels).call;
    other_statement = (noted_levels E host program levels).statement;
    other_enter = (noted_levels E host program levels).enter;
    value_fits = known.value;
    argument_fits = known.argument;
    assign_fits = known.assign;
    call_fits = known.call;
    statement_fits = known.statement;
    enter_fits = known.enter;
    same_program = λ noting. refl;
    enters = λ noting. known.notes;
    asks = asks_beside;
  }

  no_level : Levels zero
  unfolding meaning.value meaning.argument meaning.assign meaning.call meaning.statement meaning.enter
  no_level = record {
    value = λ x. written_or_fits program (out-Expression (bare x)) (world_fits beside deep_wantless);
    argument = λ x. then_fits (written_or_fits program (out-Expression (bare x)) (world_fits beside deep_wantless))
        (λ found. value_fits beside (OfValue found));
    assign = λ how path found. world_fits beside deep_wantless;
    call = λ path. world_fits beside deep_wantless;
    statement = λ x. refused_fits beside x.line (out-StatementKind x.kind);
    enter = entering_fits _ _ (λ owner procedure arguments. world_fits beside deep_wantless);
    notes = entering_notes _ _ (λ owner procedure arguments. world_fits beside deep_wantless);
  }

  one_more : (levels : ℕ) → Levels levels → Levels (suc levels)
  unfolding meaning.value meaning.argument meaning.assign meaning.call meaning.statement meaning.enter
  one_more levels known = record {
    value = valued_fits beside (inners levels known);
    argument = argument_of_fits beside (inners levels known);
    assign = λ how. assign_to_fits beside (inners levels known) how;
    call = call_of_fits beside (inners levels known);
    statement = statement_of_fits beside (inners levels known);
    enter = entering_fits _ _ (enter_of_fits beside (inners levels known));
    notes = entering_notes _ _ (enter_of_fits beside (inners levels known));
  }

  pub each_level : (levels : ℕ) → Levels levels
  each_level zero = no_level
  each_level (suc levels) = one_more levels (each_level levels)

  -- the constructs of the program, of which so many more may be begun
  abbrev pub levels_noted : (levels : ℕ) → Inners beside
  levels_noted levels = inners levels (each_level levels)
