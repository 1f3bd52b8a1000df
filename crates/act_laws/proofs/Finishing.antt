-- An act whose objects have all ended.
use Rattle.std.proofs.Common.{ℕ, ◌≡◌, ◌≤◌, List, [], length, Some, refl, sym, subst, ap, arith}
use Rattle.vb_value.specs.declared.value.Value.{Value}
use Rattle.vb_syntax.specs.declared.act.ActDone.{ActDone}
use Rattle.vb_syntax.specs.declared.act.ActEnd.{ActEnd}
use Rattle.vb_syntax.specs.declared.act.ActEnd.TheVariants as end
use Rattle.vb_syntax.specs.declared.member.Member.{Member}
use Rattle.vb_syntax.specs.declared.program.Program.{Program}
use Rattle.vb_syntax.specs.declared.program.unit.Procedure.{Procedure}
use Rattle.vb_heap.specs.Held.{let_go_to}
use Rattle.vb_meaning.specs.declared.plain_end.PlainEnd.TheVariants.{Ends as Ended}
use Rattle.vb_meaning.specs.declared.reached.Argument.{Argument}
use Rattle.vb_meaning.specs.declared.stop.Stop.TheVariants as stop
use Rattle.vb_meaning.specs.Acts as acts
use Rattle.vb_meaning.specs.Asking.{Host, ask}
use Rattle.vb_meaning.specs.Errors.{raised_by}
use Rattle.vb_meaning.specs.Inner.{Inner, Owner}
use Rattle.vb_meaning.specs.Meaning.{inside, most_levels}
use Rattle.vb_meaning.specs.Releases.{end_all, in_world, settle_last}
use Rattle.vb_meaning.specs.State.{State, on_world}
use Rattle.vb_meaning.specs.Step.{Step, Returns, Ends, ◌>>◌}
use Rattle.act_laws.specs.Laws.{ObjectsEnd}
use Rattle.act_laws.specs.Objects.{Account, AddsUp, IsEnding, Kept, Settled, account_at, account_of}
use Rattle.act_laws.specs.Terminators.{HaveEnded}
use Rattle.act_laws.proofs.Acting.{asks_fit, runs_fits}
use Rattle.act_laws.proofs.Coming.{Comes}
use Rattle.act_laws.proofs.Ending.{IsEmptied, page_comes}
use Rattle.act_laws.proofs.Inside.{Inners}
use Rattle.act_laws.proofs.Joined.{Joined, Link}
use Rattle.act_laws.proofs.Keeping.{Keeps}
use Rattle.act_laws.proofs.Marks.{emptied_still}
use Rattle.act_laws.proofs.Meaning.{each_level, inners}

-- ---- one environment

-- Beside itself an environment needs nothing in common with another.
abbrev pub alone : (E : Type 0) → Host E → Link
alone E host = record {
  E = E;
  F = E;
  host = host;
  other = host;
  now = λ env replies other others. ⊥;
  both_want = λ env replies other others. ⊥;
  both_lack = λ env replies other others. ⊥;
  past = λ call other others. Unit {0};
  tells = ⊥;
  telling = λ none. absurd none;
}

pub asks_alone : (E : Type 0) (host : Host E) (member : Member) (arguments : List Value)
    → Joined (alone E host) (ask host member arguments) (ask host member arguments)
asks_alone E host member arguments = record {
  alike = λ world ticks env replies other others now. absurd now;
  goes_on = λ call world ticks other others past. tt;
}

-- the constructs of a program, of which so many more may be begun
abbrev pub levels_alone : (E : Type 0) (host : Host E) (program : Program) (levels : ℕ) → Inners (alone E host)
levels_alone E host program levels =
    let asks = asks_fit (alone E host) (λ none. none) (asks_alone E host) in
    inners (alone E host) (λ none. none) asks program levels
    (each_level (alone E host) (λ none. none) asks program levels)

-- ---- how many have ended

pub fresh_adds_up : AddsUp (account_of acts.fresh_world)
fresh_adds_up = record { differ = tt; below = tt; count = refl; most = omega arith }

all_ended : (how : ActEnd) (made finished : ℕ) → finished ≡ made → HaveEnded how made finished
all_ended end.Done made finished is = is
all_ended end.Stopped made finished is = is
all_ended (end.Error number source description line) made finished is = is
all_ended (end.Limit kind line) made finished is = omega (arith, is)

-- an account that adds up, without objects
none_left : (account : Account) → AddsUp account → account.objects ≡ [] → account.finished ≡ account.made
none_left account right none =
    let length_is : length account.objects ≡ 0 = ap length none in omega (arith, right.count, length_is)

no_more : (account : Account) → AddsUp account → account.finished ≤ account.made
no_more account right = omega (arith, right.count)

told : (how : ActEnd) (made finished : ℕ) → HaveEnded how made finished → (done : ActDone)
    → Some (Ended (record { end = how; made = made; finished = finished })) ≡ Some (Ended done)
    → HaveEnded done.end done.made done.finished
told how made finished holds done is =
    let same : record { end = how; made = made; finished = finished } ≡ done = cc in
    subst (λ (found : ActDone). HaveEnded found.end found.made found.finished) same holds

module _ (E : Type 0) (m : Inner E)
    (enter : (owner : Owner) (procedure : Procedure) (arguments : List Argument)
    → Keeps account_at (m.enter owner procedure arguments)) where
  closed_tells : (how : ActEnd) (before : Account) → ((number : ℕ) → IsEnding number before → ⊥)
      → (step : Step (State E) (Unit {0})) → Comes ⊥ IsEmptied before step → (done : ActDone)
      → (acts.closed E m how step).0 ≡ Some (Ended done) → HaveEnded done.end done.made done.finished
  closed_tells how before none (Returns left s) comes = told how s.world.store.objects_made s.world.finished
      (all_ended how s.world.store.objects_made s.world.finished
      (none_left (account_at s) comes.0.onward.adds_up
      (comes.1 (λ number ends. none number (comes.0.stood number ends)))))
  closed_tells how before none (Ends (stop.Limit kind line) s) comes =
      told (end.Limit kind (acts.line_or_none line)) s.world.store.objects_made s.world.finished
      (no_more (account_at s) comes.adds_up)
  closed_tells how before none (Ends (stop.Error what line) s) comes = absurd comes
  closed_tells how before none (Ends stop.Page s) comes = absurd comes.0
  closed_tells how before none (Ends (stop.Wants call) s) comes = λ done is. absurd (cc)
  closed_tells how before none (Ends stop.Memory s) comes = λ done is. absurd (cc)

  page_tells : (how : ActEnd) (before : Account) → ((number : ℕ) → IsEnding number before → ⊥) → (s : State E)
      → Settled before (account_at s) → (done : ActDone)
      → (acts.page_ends E m how s).0 ≡ Some (Ended done) → HaveEnded done.end done.made done.finished
  page_tells how before none s settled =
      let t = in_world E (acts.page_left s.world) s in
      let same : account_at t ≡ account_at s =
      ap (λ seen. seen.0) (emptied_still s.world.page (let_go_to 0 s.world.store) s.world.finished) in
      let still : Settled before (account_at t) = subst (λ account. Settled before account) (sym same) settled in
      closed_tells how (account_at t) (λ number ends. none number (still.stood number ends))
      ((settle_last E m >> end_all E m) t) (page_comes E m enter t still.onward.adds_up)

  ends_tell : (before : Account) → ((number : ℕ) → IsEnding number before → ⊥) → (step : Step (State E) (Unit {0}))
      → Kept account_at before step → (done : ActDone)
      → (acts.ends_act E m step).0 ≡ Some (Ended done) → HaveEnded done.end done.made done.finished
  ends_tell before none (Returns left s) kept = page_tells end.Done before none s kept
  ends_tell before none (Ends stop.Page s) kept = page_tells end.Stopped before none s kept
  ends_tell before none (Ends (stop.Error what line) s) kept =
      page_tells (acts.error_end (raised_by what) (acts.line_or_none line)) before none s kept
  ends_tell before none (Ends (stop.Limit kind line) s) kept =
      told (end.Limit kind (acts.line_or_none line)) s.world.store.objects_made s.world.finished
      (no_more (account_at s) kept.adds_up)
  ends_tell before none (Ends (stop.Wants call) s) kept = λ done is. absurd (cc)
  ends_tell before none (Ends stop.Memory s) kept = λ done is. absurd (cc)

pub objects_ended : (E : Type 0) → ObjectsEnd E
unfolding acts.act_of
objects_ended E host program which env replies =
    let s : State E = record { world = acts.fresh_world; ticks = acts.most_ticks; env = env; replies = replies } in
    let i = levels_alone E host program most_levels in
    let m = inside E host program most_levels in
    ends_tell E m (λ owner procedure arguments. (i.enter_fits owner procedure arguments).keeps)
    (account_at s) (λ number ends. absurd (cc))
    ((on_world (acts.page_begins program.unit) >> acts.part E m which) s)
    ((runs_fits (alone E host) i which).keeps s fresh_adds_up)
