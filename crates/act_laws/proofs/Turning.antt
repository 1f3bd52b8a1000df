-- What is made of steps, in two environments side by side: their lines, and what On Error makes of an error.
use Rattle.std.proofs.Common.{ℕ, List, Bool, true, false, if◌then◌else◌, Option, Some, None, refl}
use Rattle.vb_value.specs.declared.application.AppCall.{AppCall}
use Rattle.vb_value.specs.declared.application.AppReply.{AppReply}
use Rattle.vb_value.specs.declared.value.Value.{Value}
use Rattle.vb_meaning.specs.declared.cause.Cause.{Cause}
use Rattle.vb_meaning.specs.declared.stop.Stop.TheVariants as stop
use Rattle.vb_meaning.specs.World.{World}
use Rattle.vb_meaning.specs.Errors.{in_line, resumed, with_err, raised_by}
use Rattle.vb_meaning.specs.Inner.{Inner}
use Rattle.vb_meaning.specs.Releases.{terminated, ended, stopped}
use Rattle.vb_meaning.specs.State.{State}
use Rattle.vb_meaning.specs.Statements.{out_of_with, with_subjects}
use Rattle.vb_meaning.specs.Step.{Step, Returns, Ends}
use Rattle.act_laws.proofs.Joined.{Link, Alike, gives, ends, gone, Past, JoinedTurn}
use Rattle.act_laws.proofs.Holding.{HoldsOn, carried_still, line_holds, resumed_holds}
use Rattle.act_laws.proofs.Keeping.{kept_onward, line_keeps, resumed_keeps}
use Rattle.act_laws.proofs.Telling.{TellsOn, changed_told, line_tells, resumed_tells}
use Rattle.act_laws.proofs.Spending.{SpendsOn, line_spends, no_less, resumed_spends, ticks_at}
use Rattle.act_laws.proofs.Linked.{Turns}
use Rattle.act_laws.specs.Objects.{Account, Kept, account_at}

-- a line
pub line_joined : {A : Type 0} (l : Link) (line : ℕ) → JoinedTurn {A = A} l (in_line line) (in_line line)
line_joined {A} l line = record { alike = alike; goes_on = goes_on }
  where
    goes_on : (call : AppCall) (second : Step (State l.F) A) → Past l call second → Past l call (in_line line second)
    goes_on call (Returns value s) past = past
    goes_on call (Ends why s) past = past

    alike : (first : Step (State l.E) A) (second : Step (State l.F) A) → Alike l first second
        → Alike l (in_line line first) (in_line line second)
    alike _ _ (gives value world ticks env replies other_env others now) =
        gives value world ticks env replies other_env others now
    alike _ _ (ends (stop.Error what None) world ticks env replies other_env others now) =
        ends (stop.Error what (Some line)) world ticks env replies other_env others now
    alike _ _ (ends (stop.Error what (Some at)) world ticks env replies other_env others now) =
        ends (stop.Error what (Some at)) world ticks env replies other_env others now
    alike _ _ (ends (stop.Limit kind None) world ticks env replies other_env others now) =
        ends (stop.Limit kind (Some line)) world ticks env replies other_env others now
    alike _ _ (ends (stop.Limit kind (Some at)) world ticks env replies other_env others now) =
        ends (stop.Limit kind (Some at)) world ticks env replies other_env others now
    alike _ _ (ends (stop.Wants call) world ticks env replies other_env others want) =
        ends (stop.Wants call) world ticks env replies other_env others want
    alike _ _ (ends stop.Page world ticks env replies other_env others now) =
        ends stop.Page world ticks env replies other_env others now
    alike _ _ (ends stop.Memory world ticks env replies other_env others now) =
        ends stop.Memory world ticks env replies other_env others now
    alike _ second (gone call s _ past) = gone call s (in_line line second) (goes_on call second past)

pub line_turns : {A : Type 0} (l : Link) (line : ℕ) → Turns {A = A} l (in_line line) (in_line line)
line_turns l line = record {
  joined = line_joined l line;
  keeps = line_keeps account_at line;
  spends = line_spends ticks_at line;
  tells = λ noting. line_tells (l.telling noting) line;
  holds = line_holds line;
}

-- On Error
resumed_joined : {A : Type 0} (l : Link) (instead : A) → JoinedTurn {A = A} l (resumed instead) (resumed instead)
resumed_joined {A} l instead = record { alike = alike; goes_on = goes_on }
  where
    past_error : (call : AppCall) (what : Cause) (line : Option ℕ) (s : State l.F) (resumes : Bool)
        → l.past call s.env s.replies
        → Past l call (if resumes then Returns instead (record s { world = with_err (raised_by what) s.world })
        else Ends (stop.Error what line) s)
    past_error call what line s true past = past
    past_error call what line s false past = past

    goes_on : (call : AppCall) (second : Step (State l.F) A) → Past l call second
        → Past l call (resumed instead second)
    goes_on call (Returns value s) past = past
    goes_on call (Ends (stop.Error what line) s) past = past_error call what line s s.world.frame.resumes past
    goes_on call (Ends (stop.Limit kind line) s) past = past
    goes_on call (Ends stop.Page s) past = past
    goes_on call (Ends (stop.Wants other) s) past = past
    goes_on call (Ends stop.Memory s) past = past

    errs : (what : Cause) (line : Option ℕ) (world : World) (ticks : ℕ) (env : l.E) (replies : List AppReply)
        (other_env : l.F)
        (others : List AppReply) (resumes : Bool) → l.now env replies other_env others
        → Alike l
        (if resumes
        then Returns instead
        (record { world = with_err (raised_by what) world; ticks = ticks; env = env; replies = replies })
        else Ends (stop.Error what line) (record { world = world; ticks = ticks; env = env; replies = replies }))
        (if resumes
        then Returns instead
        (record { world = with_err (raised_by what) world; ticks = ticks; env = other_env; replies = others })
        else Ends (stop.Error what line) (record { world = world; ticks = ticks; env = other_env; replies = others }))
    errs what line world ticks env replies other_env others true now =
        gives instead (with_err (raised_by what) world) ticks env replies other_env others now
    errs what line world ticks env replies other_env others false now =
        ends (stop.Error what line) world ticks env replies other_env others now

    alike : (first : Step (State l.E) A) (second : Step (State l.F) A) → Alike l first second
        → Alike l (resumed instead first) (resumed instead second)
    alike _ _ (gives value world ticks env replies other_env others now) =
        gives value world ticks env replies other_env others now
    alike _ _ (ends (stop.Error what line) world ticks env replies other_env others now) =
        errs what line world ticks env replies other_env others world.frame.resumes now
    alike _ _ (ends (stop.Limit kind line) world ticks env replies other_env others now) =
        ends (stop.Limit kind line) world ticks env replies other_env others now
    alike _ _ (ends (stop.Wants call) world ticks env replies other_env others want) =
        ends (stop.Wants call) world ticks env replies other_env others want
    alike _ _ (ends stop.Page world ticks env replies other_env others now) =
        ends stop.Page world ticks env replies other_env others now
    alike _ _ (ends stop.Memory world ticks env replies other_env others now) =
        ends stop.Memory world ticks env replies other_env others now
    alike _ second (gone call s _ past) = gone call s (resumed instead second) (goes_on call second past)

pub resumed_turns : {A : Type 0} (l : Link) (instead : A) → Turns {A = A} l (resumed instead) (resumed instead)
resumed_turns l instead = record {
  joined = resumed_joined l instead;
  keeps = resumed_keeps instead;
  spends = resumed_spends instead;
  tells = λ noting. resumed_tells (l.telling noting) instead;
  holds = resumed_holds instead;
}

-- the end of a terminator
pub terminated_joined : (l : Link) (object : ℕ) (before : World)
    → JoinedTurn l (terminated l.E object before) (terminated l.F object before)
terminated_joined l object before = record { alike = alike; goes_on = goes_on }
  where
    past_stop : (call : AppCall) (page_ended : Bool) (s : State l.F) → l.past call s.env s.replies
        → Past l call (stopped l.F page_ended s)
    past_stop call true s past = past
    past_stop call false s past = past

    goes_on : (call : AppCall) (second : Step (State l.F) Value) → Past l call second
        → Past l call (terminated l.F object before second)
    goes_on call (Returns value s) past = past
    goes_on call (Ends (stop.Error what line) s) past = past
    goes_on call (Ends (stop.Limit kind line) s) past = past
    goes_on call (Ends stop.Page s) past =
        past_stop call before.page_ended (record s { world = ended object before s.world }) past
    goes_on call (Ends (stop.Wants other) s) past = past
    goes_on call (Ends stop.Memory s) past = past

    stops : (page_ended : Bool) (world : World) (ticks : ℕ) (env : l.E) (replies : List AppReply) (other_env : l.F)
        (others : List AppReply) → l.now env replies other_env others
        → Alike l (stopped l.E page_ended (record { world = world; ticks = ticks; env = env; replies = replies }))
        (stopped l.F page_ended (record { world = world; ticks = ticks; env = other_env; replies = others }))
    stops true world ticks env replies other_env others now = gives tt world ticks env replies other_env others now
    stops false world ticks env replies other_env others now =
        ends stop.Page world ticks env replies other_env others now

    alike : (first : Step (State l.E) Value) (second : Step (State l.F) Value) → Alike l first second
        → Alike l (terminated l.E object before first) (terminated l.F object before second)
    alike _ _ (gives value world ticks env replies other_env others now) =
        gives tt (ended object before world) ticks env replies other_env others now
    alike _ _ (ends (stop.Error what line) world ticks env replies other_env others now) =
        gives tt (ended object before world) ticks env replies other_env others now
    alike _ _ (ends (stop.Limit kind line) world ticks env replies other_env others now) =
        ends (stop.Limit kind line) world ticks env replies other_env others now
    alike _ _ (ends (stop.Wants call) world ticks env replies other_env others want) =
        ends (stop.Wants call) world ticks env replies other_env others want
    alike _ _ (ends stop.Page world ticks env replies other_env others now) =
        stops before.page_ended (ended object before world) ticks env replies other_env others now
    alike _ _ (ends stop.Memory world ticks env replies other_env others now) =
        ends stop.Memory world ticks env replies other_env others now
    alike _ second (gone call s _ past) =
        gone call s (terminated l.F object before second) (goes_on call second past)

-- the end of a With
with_joined : {A : Type 0} (l : Link) (m : Inner l.E) (other : Inner l.F) (subjects : List Value)
    → JoinedTurn {A = A} l (out_of_with l.E m subjects) (out_of_with l.F other subjects)
with_joined {A} l m other subjects = record { alike = alike; goes_on = goes_on }
  where
    goes_on : (call : AppCall) (second : Step (State l.F) A) → Past l call second
        → Past l call (out_of_with l.F other subjects second)
    goes_on call (Returns value s) past = past
    goes_on call (Ends why s) past = past

    alike : (first : Step (State l.E) A) (second : Step (State l.F) A) → Alike l first second
        → Alike l (out_of_with l.E m subjects first) (out_of_with l.F other subjects second)
    alike _ _ (gives value world ticks env replies other_env others now) =
        gives value (with_subjects l.E m subjects world) ticks env replies other_env others now
    alike _ _ (ends why world ticks env replies other_env others same) =
        ends why (with_subjects l.E m subjects world) ticks env replies other_env others same
    alike _ second (gone call s _ past) = gone call (record s { world = with_subjects l.E m subjects s.world })
        (out_of_with l.F other subjects second) (goes_on call second past)

pub with_turns : {A : Type 0} (l : Link) (m : Inner l.E) (other : Inner l.F) (subjects : List Value)
    → Turns {A = A} l (out_of_with l.E m subjects) (out_of_with l.F other subjects)
with_turns {A} l m other subjects =
    record { joined = with_joined l m other subjects; keeps = keeps; spends = spends; tells = tells; holds = holds }
  where
    keeps : (before : Account) (step : Step (State l.F) A) → Kept account_at before step
        → Kept account_at before (out_of_with l.F other subjects step)
    keeps before (Returns value s) kept = kept
    keeps before (Ends why s) kept = kept

    holds : HoldsOn {E = l.F} {A = A} {B = A} (out_of_with l.F other subjects)
    holds (Returns value s) = carried_still s.world
    holds (Ends why s) = carried_still s.world

    spends : SpendsOn {A = A} ticks_at (out_of_with l.F other subjects)
    spends (Returns value s) = no_less (ticks_at s)
    spends (Ends why s) = no_less (ticks_at s)

    tells : (noting : l.tells) → TellsOn (l.telling noting) {A = A} (out_of_with l.F other subjects)
    tells noting s (Returns value after) right kept before = changed_told (l.telling noting) s after
        (with_subjects l.F other subjects after.world) right.adds_up kept.onward refl before
    tells noting s (Ends why after) right kept before = changed_told (l.telling noting) s after
        (with_subjects l.F other subjects after.world) right.adds_up
        (kept_onward {A = A} account_at (account_at s) (Ends why after) kept) refl before
