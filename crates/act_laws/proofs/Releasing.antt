-- Release points and the page's end, in two environments side by side.
use Rattle.std.proofs.Common.{ℕ, zero, suc, ◌-◌, [], Option, Some, None}
use Rattle.vb_value.specs.declared.application.AppCall.{AppCall}
use Rattle.vb_value.specs.declared.value.Value.{Empty}
use Rattle.vb_syntax.specs.declared.program.unit.Procedure.{Procedure}
use Rattle.vb_heap.specs.Limits.{most_objects}
use Rattle.vb_heap.specs.Releases.{oldest_loose, oldest_live, with_ending, object_of}
use Rattle.vb_meaning.specs.declared.stop.Stop.TheVariants as stop
use Rattle.vb_meaning.specs.World.{World}
use Rattle.vb_meaning.specs.Errors.{in_line}
use Rattle.vb_meaning.specs.Inner.{Inner}
use Rattle.vb_meaning.specs.Objects.{class_at}
use Rattle.vb_meaning.specs.Places.{held_so_far, let_go}
use Rattle.vb_meaning.specs.Releases as releases
use Rattle.vb_meaning.specs.State.{State, Does, with_store}
use Rattle.vb_meaning.specs.Step.{Step, Returns, Ends, and_then, ◌>>◌, pure, ends as step_ends}
use Rattle.vb_meaning.specs.Stored.{class_number}
use Rattle.act_laws.proofs.Inside.{Inners, one, two, Same}
use Rattle.act_laws.specs.Objects.{Account, Kept, account_at}
use Rattle.act_laws.proofs.Ending.{settle_keeps}
use Rattle.act_laws.proofs.Joined.{Link, Alike, Joined, JoinedTurn, Past, gives, ends, gone, turn_joined, then_joined}
use Rattle.act_laws.proofs.Joined.{moved_joined, seeing_joined, value_joined}
use Rattle.act_laws.proofs.Keeping.{kept_from}
use Rattle.act_laws.proofs.HeldReleases.{release_holds, settle_holds}
use Rattle.act_laws.proofs.Linked.{Fits, then_fits, value_fits, error_fits}
use Rattle.act_laws.proofs.Spending.{ticks_at, turned_spends}
use Rattle.act_laws.proofs.Entered.{release_tells, settle_tells}
use Rattle.act_laws.proofs.Ticking.{release_spends, settle_spends}
use Rattle.act_laws.proofs.Turning.{line_joined, terminated_joined}

module _ (l : Link) (i : Inners l) where
  -- a rule does in the one what it does in the other
  abbrev Both : {A : Type 0} → ((E : Type 0) → Inner E → Does E A) → Type 0
  Both rule = Joined l (rule l.E (one i)) (rule l.F (two i))

  -- a rule as the world has it
  seen_joined : {A : Type 0} (rule : (E : Type 0) → Inner E → World → Does E A) → ((world : World)
      → Both (λ E m. rule E m world)) → Both (λ E m s. rule E m s.world s)
  seen_joined rule each = seeing_joined (rule l.E (one i)) (rule l.F (two i)) each

  terminator_joined : (object : ℕ) (class : Option ℕ) (found : Option Procedure)
      → Both (λ E m. releases.terminator E m object class found)
  terminator_joined object (Some class) (Some procedure) =
      (i.enter_fits (Some (object_of object, class)) procedure []).joined
  terminator_joined object _ _ = value_joined l Empty

  terminate_joined : (object : ℕ) → Both (λ E m. releases.terminate E m object)
  unfolding releases.terminate
  terminate_joined object = seen_joined
      (λ E m world s. releases.terminated E object world
      (releases.terminator_of E m object (class_number object world.store)
      (releases.in_world E (releases.terminating s.world) s)))
      (λ world. let class = class_number object world.store in
      turn_joined (terminated_joined l object world) (moved_joined releases.terminating
      (terminator_joined object class (releases.terminator_in (class_at i.program class)))))

  -- ---- a release point

  released_one_joined : {first : Does l.E (Unit {0})} {second : Does l.F (Unit {0})} (found : Option ℕ)
      → Joined l first second
      → Joined l (releases.released_one l.E (one i) first found) (releases.released_one l.F (two i) second found)
  released_one_joined (Some object) fit =
      moved_joined (with_store (with_ending (Some object))) (then_joined (terminate_joined object) (λ done. fit))
  released_one_joined None fit = value_joined l tt

  settle_times_joined : (times : ℕ) → Both (λ E m. releases.settle_times E m times)
  settle_times_joined zero = value_joined l tt
  settle_times_joined (suc more) = seen_joined
      (λ E m world. releases.released_one E m (releases.settle_times E m more) (oldest_loose world.store))
      (λ world. released_one_joined (oldest_loose world.store) (settle_times_joined more))

  settle_joined : Both (λ E m. releases.settle E m)
  unfolding releases.settle
  settle_joined = seen_joined (λ E m world. releases.settle_times E m (most_objects - world.finished))
      (λ world. settle_times_joined (most_objects - world.finished))

  pub settle_fits : Same l i (λ E m. releases.settle E m)
  settle_fits = record {
    joined = settle_joined;
    keeps = settle_keeps l.F (two i) (λ owner procedure arguments. (i.enter_fits owner procedure arguments).keeps);
    spends = settle_spends l.F (two i) (λ owner procedure arguments. (i.enter_fits owner procedure arguments).spends);
    tells = λ noting. settle_tells (l.telling noting) (two i) (i.same_program noting)
        (λ owner procedure arguments. (i.enter_fits owner procedure arguments).keeps) (i.enters noting);
    holds = settle_holds l.F (two i) (λ owner procedure arguments. (i.enter_fits owner procedure arguments).holds);
  }

  release_joined : {A : Type 0} (mark : ℕ)
      → JoinedTurn {A = A} l (releases.release l.E (one i) mark) (releases.release l.F (two i) mark)
  release_joined {A} mark = record { alike = alike; goes_on = goes_on }
    where
      goes_on : (call : AppCall) (second : Step (State l.F) A) → Past l call second
          → Past l call (releases.release l.F (two i) mark second)
      goes_on call (Returns value s) past = (then_fits settle_fits (λ done. value_fits l value)).joined.goes_on
          call (let_go mark s.world) s.ticks s.env s.replies past
      goes_on call (Ends (stop.Error what line) s) past =
          (then_fits settle_fits (λ done. error_fits {A = A} l what line)).joined.goes_on
          call (let_go mark s.world) s.ticks s.env s.replies past
      goes_on call (Ends (stop.Limit kind line) s) past = past
      goes_on call (Ends stop.Page s) past = past
      goes_on call (Ends (stop.Wants other) s) past = past
      goes_on call (Ends stop.Memory s) past = past

      alike : (first : Step (State l.E) A) (second : Step (State l.F) A) → Alike l first second
          → Alike l (releases.release l.E (one i) mark first) (releases.release l.F (two i) mark second)
      alike _ _ (gives value world ticks env replies other_env others now) =
          (then_fits settle_fits (λ done. value_fits l value)).joined.alike
          (let_go mark world) ticks env replies other_env others now
      alike _ _ (ends (stop.Error what line) world ticks env replies other_env others now) =
          (then_fits settle_fits (λ done. error_fits {A = A} l what line)).joined.alike
          (let_go mark world) ticks env replies other_env others now
      alike _ _ (ends (stop.Limit kind line) world ticks env replies other_env others now) =
          ends (stop.Limit kind line) world ticks env replies other_env others now
      alike _ _ (ends (stop.Wants call) world ticks env replies other_env others want) =
          ends (stop.Wants call) world ticks env replies other_env others want
      alike _ _ (ends stop.Page world ticks env replies other_env others now) =
          ends stop.Page world ticks env replies other_env others now
      alike _ _ (ends stop.Memory world ticks env replies other_env others now) =
          ends stop.Memory world ticks env replies other_env others now
      alike _ second (gone call s _ past) =
          gone call s (releases.release l.F (two i) mark second) (goes_on call second past)

  -- what is done, and a release point behind it, as the end of a statement or of a head
  pub release_fits : {A : Type 0} {first : Does l.E A} {second : Does l.F A} → Fits l first second
      → Fits l (λ s. releases.release l.E (one i) (held_so_far s.world) (first s))
      (λ s. releases.release l.F (two i) (held_so_far s.world) (second s))
  release_fits {A} {first} {second} fit = record {
    joined = seeing_joined (λ world s. releases.release l.E (one i) (held_so_far world) (first s))
        (λ world s. releases.release l.F (two i) (held_so_far world) (second s))
        (λ world. turn_joined (release_joined (held_so_far world)) fit.joined);
    keeps = λ s right. keeps (held_so_far s.world) (account_at s) (second s) (fit.keeps s right);
    spends = λ s. turned_spends ticks_at (releases.release l.F (two i) (held_so_far s.world)) second
        (release_spends l.F (two i) (λ owner procedure arguments. (i.enter_fits owner procedure arguments).spends)
        (held_so_far s.world)) fit.spends s;
    tells = λ noting s right. release_tells (l.telling noting) (two i) (i.same_program noting)
        (λ owner procedure arguments. (i.enter_fits owner procedure arguments).keeps) (i.enters noting)
        (held_so_far s.world) s (second s) right (fit.keeps s right.adds_up) (fit.tells noting s right);
    holds = λ s. release_holds l.F (two i)
        (λ owner procedure arguments. (i.enter_fits owner procedure arguments).holds) s.world (second s) (fit.holds s);
  }
    where
      keeps : (mark : ℕ) (before : Account) (step : Step (State l.F) A) → Kept account_at before step
          → Kept account_at before (releases.release l.F (two i) mark step)
      keeps mark before (Returns value s) kept =
          let t = releases.in_world l.F (let_go mark s.world) s in
          kept_from account_at kept ((releases.settle l.F (two i) >> pure value) t)
          ((then_fits settle_fits (λ done. value_fits l value)).keeps t kept.onward.adds_up)
      keeps mark before (Ends (stop.Error what line) s) kept =
          let t = releases.in_world l.F (let_go mark s.world) s in
          kept_from account_at kept ((releases.settle l.F (two i) >> step_ends (stop.Error what line)) t)
          ((then_fits settle_fits (λ done. error_fits {A = A} l what line)).keeps t kept.onward.adds_up)
      keeps mark before (Ends stop.Page s) kept = kept
      keeps mark before (Ends (stop.Limit kind line) s) kept = kept
      keeps mark before (Ends (stop.Wants call) s) kept = kept
      keeps mark before (Ends stop.Memory s) kept = kept

  -- ---- the page's end

  end_one_joined : {first : Does l.E (Unit {0})} {second : Does l.F (Unit {0})} (found : Option ℕ)
      → Joined l first second
      → Joined l (releases.end_one l.E (one i) first found) (releases.end_one l.F (two i) second found)
  end_one_joined {first} {second} (Some object) fit = seeing_joined
      (λ world s. and_then (in_line (releases.line_of l.E (one i) object world) (releases.terminate l.E (one i) object
      (releases.in_world l.E (ends_last s.world) s))) (λ done. first))
      (λ world s. and_then (in_line (releases.line_of l.F (two i) object world) (releases.terminate l.F (two i) object
      (releases.in_world l.F (ends_last s.world) s))) (λ done. second))
      (λ world. then_joined (turn_joined (line_joined l (releases.line_of l.E (one i) object world))
      (moved_joined ends_last (terminate_joined object))) (λ done. fit))
    where
      ends_last : World → World
      ends_last world = releases.behind_page (with_store (with_ending (Some object)) world)
  end_one_joined None fit = value_joined l tt

  settle_last_times_joined : (times : ℕ) → Both (λ E m. releases.settle_last_times E m times)
  settle_last_times_joined zero = value_joined l tt
  settle_last_times_joined (suc more) = seen_joined
      (λ E m world. releases.end_one E m (releases.settle_last_times E m more) (oldest_loose world.store))
      (λ world. end_one_joined (oldest_loose world.store) (settle_last_times_joined more))

  pub settle_last_joined : Both (λ E m. releases.settle_last E m)
  unfolding releases.settle_last
  settle_last_joined = seen_joined (λ E m world. releases.settle_last_times E m (most_objects - world.finished))
      (λ world. settle_last_times_joined (most_objects - world.finished))

  end_times_joined : (times : ℕ) → Both (λ E m. releases.end_times E m times)
  end_times_joined zero = value_joined l tt
  end_times_joined (suc more) = seen_joined
      (λ E m world. releases.end_one E m (releases.settle_last E m >> releases.end_times E m more)
      (oldest_live world.store))
      (λ world. end_one_joined (oldest_live world.store)
      (then_joined settle_last_joined (λ done. end_times_joined more)))

  pub end_all_joined : Both (λ E m. releases.end_all E m)
  unfolding releases.end_all
  end_all_joined = seen_joined (λ E m world. releases.end_times E m (most_objects - world.finished))
      (λ world. end_times_joined (most_objects - world.finished))
