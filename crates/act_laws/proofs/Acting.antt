-- An act, in two environments side by side.
use Rattle.std.proofs.Common.{ℕ, List, [], Option, Some, None, slice_get}
use Rattle.vb_value.specs.declared.application.AppCall.{AppCall}
use Rattle.vb_value.specs.declared.application.AppReply.{AppReply}
use Rattle.vb_value.specs.declared.value.Value.{Value}
use Rattle.vb_value.specs.Errors.{undefined_variable}
use Rattle.vb_syntax.specs.declared.act.Act.{Act}
use Rattle.vb_syntax.specs.declared.act.Act.TheVariants as act
use Rattle.vb_syntax.specs.declared.act.ActDone.{ActDone}
use Rattle.vb_syntax.specs.declared.act.ActEnd.{ActEnd}
use Rattle.vb_syntax.specs.declared.act.ActEnd.TheVariants as end
use Rattle.vb_syntax.specs.declared.member.Member.{Member}
use Rattle.vb_syntax.specs.declared.program.Program.{Program}
use Rattle.vb_syntax.specs.declared.program.unit.Procedure.{Procedure}
use Rattle.vb_meaning.specs.declared.plain_end.PlainEnd.{PlainEnd}
use Rattle.vb_meaning.specs.declared.plain_end.PlainEnd.TheVariants.{Wants, Ends as Ended}
use Rattle.vb_meaning.specs.declared.stop.Stop.TheVariants as stop
use Rattle.vb_meaning.specs.World.{World}
use Rattle.vb_meaning.specs.Acts as acts
use Rattle.vb_meaning.specs.Asking.{ask}
use Rattle.vb_meaning.specs.Errors.{raised_by}
use Rattle.vb_meaning.specs.Meaning.{most_levels}
use Rattle.vb_meaning.specs.Releases.{settle_last, end_all}
use Rattle.vb_meaning.specs.State.{State, on_world}
use Rattle.vb_meaning.specs.Step.{Step, Returns, Ends, ◌>>◌}
use Rattle.act_laws.proofs.Calling.{block_fits}
use Rattle.act_laws.proofs.Inside.{Inners, one, two, Same}
use Rattle.act_laws.proofs.Joined.{Link, Alike, Joined, Past, gives, ends, gone, then_joined}
use Rattle.act_laws.proofs.Linked.{Fits, turned, then_fits, value_fits}
use Rattle.vb_meaning.specs.Step.{state_of}
use Rattle.act_laws.proofs.Holding.{ask_holds}
use Rattle.act_laws.proofs.Keeping.{ask_keeps}
use Rattle.act_laws.proofs.Spending.{ask_spends}
use Rattle.act_laws.proofs.Linked.{fails_fit, world_fits}
use Rattle.act_laws.proofs.Meaning.{inners, each_level}
use Rattle.act_laws.proofs.Releasing.{settle_last_joined, end_all_joined}
use Rattle.act_laws.proofs.Turning.{line_turns}
use Rattle.act_laws.proofs.WantlessScopes.{page_begins_wantless}

-- what an act says of itself that ended so in this world
abbrev done_of : ActEnd → World → ActDone
done_of how world = record { end = how; made = world.store.objects_made; finished = world.finished }

-- how an act ends in the one, and how in the other
pub data ActsAlike (l : Link) : Option PlainEnd × l.E → Option PlainEnd × l.F → Type 0 where
  both_end : (done : ActDone) (env : l.E) (replies : List AppReply) (other_env : l.F) (others : List AppReply)
      → l.now env replies other_env others → ActsAlike l (Some (Ended done), env) (Some (Ended done), other_env)
  both_lack : (env : l.E) (replies : List AppReply) (other_env : l.F) (others : List AppReply)
      → l.both_lack env replies other_env others → ActsAlike l (None, env) (None, other_env)
  both_want : (call : AppCall) (env : l.E) (replies : List AppReply) (other_env : l.F) (others : List AppReply)
      → l.both_want env replies other_env others
      → ActsAlike l (Some (Wants call), env) (Some (Wants call), other_env)
  one_wants : (call : AppCall) (env : l.E) (other : Option PlainEnd × l.F) (others : List AppReply)
      → l.past call other.1 others → ActsAlike l (Some (Wants call), env) other

module _ (l : Link) (i : Inners l) where
  -- ---- the page's end

  closed_past : (how : ActEnd) (call : AppCall) (second : Step (State l.F) (Unit {0})) → Past l call second
      → l.past call (acts.closed l.F (two i) how second).1 (state_of second).replies
  closed_past how call (Returns done s) past = past
  closed_past how call (Ends (stop.Limit kind line) s) past = past
  closed_past how call (Ends (stop.Error what line) s) past = past
  closed_past how call (Ends stop.Page s) past = past
  closed_past how call (Ends (stop.Wants other) s) past = past
  closed_past how call (Ends stop.Memory s) past = past

  closed_alike : (how : ActEnd) (first : Step (State l.E) (Unit {0})) (second : Step (State l.F) (Unit {0}))
      → Alike l first second
      → ActsAlike l (acts.closed l.E (one i) how first) (acts.closed l.F (two i) how second)
  closed_alike how _ _ (gives done world ticks env replies other_env others now) =
      both_end (done_of how world) env replies other_env others now
  closed_alike how _ _ (ends (stop.Limit kind line) world ticks env replies other_env others now) =
      both_end (done_of (end.Limit kind (acts.line_or_none line)) world) env replies other_env others now
  closed_alike how _ _ (ends (stop.Error what line) world ticks env replies other_env others now) =
      both_end (done_of (acts.error_end (raised_by what) (acts.line_or_none line)) world) env replies other_env others now
  closed_alike how _ _ (ends stop.Page world ticks env replies other_env others now) =
      both_end (done_of end.Stopped world) env replies other_env others now
  closed_alike how _ _ (ends (stop.Wants call) world ticks env replies other_env others want) =
      both_want call env replies other_env others want
  closed_alike how _ _ (ends stop.Memory world ticks env replies other_env others now) =
      both_lack env replies other_env others now
  closed_alike how _ second (gone call s _ past) = one_wants call s.env (acts.closed l.F (two i) how second)
      (state_of second).replies (closed_past how call second past)

  ending_joined : Joined l (settle_last l.E (one i) >> end_all l.E (one i))
      (settle_last l.F (two i) >> end_all l.F (two i))
  ending_joined = then_joined (settle_last_joined l i) (λ done. end_all_joined l i)

  page_alike : (how : ActEnd) (world : World) (ticks : ℕ) (env : l.E) (replies : List AppReply) (other_env : l.F)
      (others : List AppReply) → l.now env replies other_env others
      → ActsAlike l
      (acts.page_ends l.E (one i) how (record { world = world; ticks = ticks; env = env; replies = replies }))
      (acts.page_ends l.F (two i) how (record { world = world; ticks = ticks; env = other_env; replies = others }))
  page_alike how world ticks env replies other_env others now =
      closed_alike how _ _ (ending_joined.alike (acts.page_left world) ticks env replies other_env others now)

  -- ---- the act

  page_past : (how : ActEnd) (call : AppCall) (s : State l.F) → l.past call s.env s.replies
      → (others : List AppReply) × l.past call (acts.page_ends l.F (two i) how s).1 others
  page_past how call s past =
      let after = (settle_last l.F (two i) >> end_all l.F (two i)) (record s { world = acts.page_left s.world }) in (
        (state_of after).replies,
        closed_past how call after
            (ending_joined.goes_on call (acts.page_left s.world) s.ticks s.env s.replies past),
      )

  act_past : (call : AppCall) (second : Step (State l.F) (Unit {0})) → Past l call second
      → (others : List AppReply) × l.past call (acts.ends_act l.F (two i) second).1 others
  act_past call (Returns done s) past = page_past end.Done call s past
  act_past call (Ends stop.Page s) past = page_past end.Stopped call s past
  act_past call (Ends (stop.Error what line) s) past =
      page_past (acts.error_end (raised_by what) (acts.line_or_none line)) call s past
  act_past call (Ends (stop.Limit kind line) s) past = (s.replies, past)
  act_past call (Ends (stop.Wants other) s) past = (s.replies, past)
  act_past call (Ends stop.Memory s) past = (s.replies, past)

  ends_alike : (first : Step (State l.E) (Unit {0})) (second : Step (State l.F) (Unit {0})) → Alike l first second
      → ActsAlike l (acts.ends_act l.E (one i) first) (acts.ends_act l.F (two i) second)
  ends_alike _ _ (gives done world ticks env replies other_env others now) =
      page_alike end.Done world ticks env replies other_env others now
  ends_alike _ _ (ends stop.Page world ticks env replies other_env others now) =
      page_alike end.Stopped world ticks env replies other_env others now
  ends_alike _ _ (ends (stop.Error what line) world ticks env replies other_env others now) =
      page_alike (acts.error_end (raised_by what) (acts.line_or_none line)) world ticks env replies other_env others now
  ends_alike _ _ (ends (stop.Limit kind line) world ticks env replies other_env others now) =
      both_end (done_of (end.Limit kind (acts.line_or_none line)) world) env replies other_env others now
  ends_alike _ _ (ends (stop.Wants call) world ticks env replies other_env others want) =
      both_want call env replies other_env others want
  ends_alike _ _ (ends stop.Memory world ticks env replies other_env others now) =
      both_lack env replies other_env others now
  ends_alike _ second (gone call s _ past) =
      let after = act_past call second past in
      one_wants call s.env (acts.ends_act l.F (two i) second) after.0 after.1

  event_fits : (found : Option Procedure) → Same l i (λ E m. acts.event E m found)
  event_fits (Some procedure) = then_fits (turned (line_turns l procedure.line) (i.enter_fits None procedure []))
      (λ value. value_fits l tt)
  event_fits None = fails_fit l undefined_variable

  part_fits : (which : Act) → Same l i (λ E m. acts.part E m which)
  part_fits act.Body = then_fits (block_fits l i i.program.unit.body) (λ done. value_fits l tt)
  part_fits (act.Proc number) = event_fits (slice_get i.program.unit.procedures number)

  -- all of an act before the page's end
  pub runs_fits : (which : Act) → Same l i (λ E m. on_world (acts.page_begins m.program.unit) >> acts.part E m which)
  runs_fits which = then_fits (world_fits l (page_begins_wantless i.program.unit)) (λ done. part_fits which)

  pub act_alike : (which : Act) (world : World) (ticks : ℕ) (env : l.E) (replies : List AppReply) (other_env : l.F)
      (others : List AppReply) → l.now env replies other_env others
      → ActsAlike l
      (acts.act_in l.E (one i) which (record { world = world; ticks = ticks; env = env; replies = replies }))
      (acts.act_in l.F (two i) which (record { world = world; ticks = ticks; env = other_env; replies = others }))
  act_alike which world ticks env replies other_env others now =
      ends_alike _ _ ((runs_fits which).joined.alike world ticks env replies other_env others now)

-- a question in the one and in the other
pub asks_fit : (l : Link) → (l.tells → ⊥) → ((member : Member) (arguments : List Value)
    → Joined l (ask l.host member arguments) (ask l.other member arguments))
    → (member : Member) (arguments : List Value)
    → Fits l (ask l.host member arguments) (ask l.other member arguments)
asks_fit l silent asks member arguments = record {
  joined = asks member arguments;
  keeps = ask_keeps l.other member arguments;
  spends = ask_spends l.other member arguments;
  tells = λ noting. absurd (silent noting);
  holds = ask_holds l.other member arguments;
}

-- an act in the one is as in the other
pub acts_alike : (l : Link) → (l.tells → ⊥) → ((member : Member) (arguments : List Value)
    → Joined l (ask l.host member arguments) (ask l.other member arguments))
    → (program : Program) (which : Act) (env : l.E) (replies : List AppReply) (other_env : l.F)
    (others : List AppReply) → l.now env replies other_env others
    → ActsAlike l (acts.act_of l.E l.host program which env replies)
    (acts.act_of l.F l.other program which other_env others)
unfolding acts.act_of
acts_alike l silent asks program which env replies other_env others now =
    act_alike l (inners l silent (asks_fit l silent asks) program most_levels
    (each_level l silent (asks_fit l silent asks) program most_levels)) which acts.fresh_world
    acts.most_ticks env replies other_env others now
