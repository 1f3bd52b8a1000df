-- An environment beside itself with its calls noted: with the same replies, and with more replies.
use Rattle.std.proofs.Common.{ℕ, ◌+◌, ◌≡◌, List, [], ◌∷◌, ◌++◌, length, slice_get, Some, None, Ok, Err}
use Rattle.std.proofs.Common.{refl, sym, subst, arith, length-append}
use Rattle.vb_value.specs.declared.application.AppCall.{AppCall}
use Rattle.vb_value.specs.declared.application.AppReply.{AppReply}
use Rattle.vb_value.specs.declared.value.Value.{Value}
use Rattle.vb_syntax.specs.declared.act.AskStop.{AskStop}
use Rattle.vb_syntax.specs.declared.act.AskStop.TheVariants as why
use Rattle.vb_syntax.specs.declared.act.Given.TheVariants as given
use Rattle.vb_syntax.specs.declared.member.Member.{Member}
use Rattle.vb_heap.specs.DictionaryCalls.{array_of}
use Rattle.vb_meaning.specs.declared.stop.Stop.TheVariants as stop
use Rattle.vb_meaning.specs.World.{World}
use Rattle.vb_meaning.specs.Asking.{Host, Said, ask, heard, name_values}
use Rattle.vb_meaning.specs.State.{State}
use Rattle.vb_meaning.specs.Step.{Step, Ends}
use Rattle.vb_meaning.specs.Stops.{ask_stop}
use Rattle.act_laws.specs.Calls.{Noting, noted, noting}
use Rattle.act_laws.proofs.Getting.{get_last, get_kept}
use Rattle.act_laws.proofs.Joined.{Link, Joined, Alike, Past, gives, ends, gone}

one_more_noted : (calls : List AppCall) (call : AppCall) (n : ℕ) → length calls ≡ n
    → length (calls ++ call ∷ []) ≡ n + 1
one_more_noted calls call n is = grind (arith, length-append)

-- ---- why an environment gave nothing

abbrev pub ended_for : {E : Type 0} → AskStop → World → ℕ → E → List AppReply → Step (State E) Value
ended_for reason world ticks env replies =
    Ends (ask_stop reason) (record { world = world; ticks = ticks; env = env; replies = replies })

pub ends_for : (l : Link) (reason : AskStop) (world : World) (ticks : ℕ) (env : l.E) (replies : List AppReply)
    (other_env : l.F)
    (others : List AppReply) → l.now env replies other_env others
    → (reason ≡ why.Memory → l.both_lack env replies other_env others)
    → Alike l (ended_for reason world ticks env replies) (ended_for reason world ticks other_env others)
ends_for l (why.Error number) world ticks env replies other_env others now lack =
    ends (ask_stop (why.Error number)) world ticks env replies other_env others now
ends_for l why.PageStop world ticks env replies other_env others now lack =
    ends stop.Page world ticks env replies other_env others now
ends_for l (why.Limit kind) world ticks env replies other_env others now lack =
    ends (stop.Limit kind None) world ticks env replies other_env others now
ends_for l why.Memory world ticks env replies other_env others now lack =
    ends stop.Memory world ticks env replies other_env others (lack refl)

module _ (E : Type 0) (host : Host E) (n : ℕ) where
  -- ---- with the same replies

  abbrev pub the_same : Link
  the_same = record {
    E = E;
    F = Noting E;
    host = host;
    other = noting host;
    now = λ env replies other others.
        (other.0 ≡ env) × (others ≡ replies) × (length other.1 + length replies ≡ n);
    both_want = λ env replies other others. (other.0 ≡ env) × (length other.1 ≡ n + 1);
    both_lack = λ env replies other others.
        (other.0 ≡ env) × (others ≡ replies) × (length other.1 + length replies ≡ n);
    past = λ call other others. ⊥;
    tells = ⊥;
    telling = λ none. absurd none;
  }

  heard_same : (member : Member) (arguments : List Value) (world : World) (ticks : ℕ) (replies : List AppReply)
      (said : Said E)
      (calls : List AppCall) → length calls + length replies ≡ n
      → Alike the_same (heard host member arguments world ticks replies said)
      (heard (noting host) member arguments world ticks replies (noted calls said))
  heard_same member arguments world ticks replies (Ok (given.Value value, env)) calls count =
      gives value world ticks env replies (env, calls) replies (refl, refl, count)
  heard_same member arguments world ticks replies (Ok (given.Names names, env)) calls count =
      gives (array_of (name_values names)) world ticks env replies (env, calls) replies (refl, refl, count)
  heard_same member arguments world ticks [] (Ok (given.Call call, env)) calls count =
      ends (stop.Wants call) world ticks env [] (env, calls ++ call ∷ []) []
      (refl, one_more_noted calls call n (omega (arith, count)))
  heard_same member arguments world ticks (reply ∷ replies) (Ok (given.Call call, env)) calls count =
      heard_same member arguments world ticks replies (host.answered member arguments reply env) (calls ++ call ∷ [])
      (let one = one_more_noted calls call (length calls) refl in omega (arith, count, one))
  heard_same member arguments world ticks replies (Err (reason, env)) calls count =
      ends_for the_same reason world ticks env replies (env, calls) replies (refl, refl, count)
      (λ is. (refl, refl, count))

  pub asks_same : (member : Member) (arguments : List Value)
      → Joined the_same (ask host member arguments) (ask (noting host) member arguments)
  unfolding ask
  asks_same member arguments = record {
    alike = λ world ticks env replies other others now.
        subst (λ found. Alike the_same
        (heard host member arguments world ticks replies (host.asked member arguments found))
        (heard (noting host) member arguments world ticks others (noted other.1 (host.asked member arguments other.0))))
        now.0 (subst (λ left. Alike the_same
        (heard host member arguments world ticks replies (host.asked member arguments other.0))
        (heard (noting host) member arguments world ticks left (noted other.1 (host.asked member arguments other.0))))
        (sym now.1) (heard_same member arguments world ticks replies (host.asked member arguments other.0) other.1
        now.2));
    goes_on = λ call world ticks other others past. absurd past;
  }

  -- ---- with more replies

  module _ (more : List AppReply) where
    abbrev pub the_first : Link
    the_first = record {
      E = E;
      F = Noting E;
      host = host;
      other = noting host;
      now = λ env replies other others.
          (other.0 ≡ env) × (others ≡ replies ++ more) × (length other.1 + length replies ≡ n);
      both_want = λ env replies other others. ⊥;
      both_lack = λ env replies other others.
          (other.0 ≡ env) × (others ≡ replies ++ more) × (length other.1 + length replies ≡ n);
      past = λ call other others. slice_get other.1 n ≡ Some call;
      tells = ⊥;
      telling = λ none. absurd none;
    }

    heard_on : (call : AppCall) (member : Member) (arguments : List Value) (world : World) (ticks : ℕ)
        (others : List AppReply) (said : Said E) (calls : List AppCall) → slice_get calls n ≡ Some call
        → Past the_first call (heard (noting host) member arguments world ticks others (noted calls said))
    heard_on call member arguments world ticks others (Ok (given.Value value, env)) calls is = is
    heard_on call member arguments world ticks others (Ok (given.Names names, env)) calls is = is
    heard_on call member arguments world ticks [] (Ok (given.Call next, env)) calls is = get_kept calls call next n is
    heard_on call member arguments world ticks (reply ∷ others) (Ok (given.Call next, env)) calls is =
        heard_on call member arguments world ticks others (host.answered member arguments reply env)
        (calls ++ next ∷ []) (get_kept calls call next n is)
    heard_on call member arguments world ticks others (Err (reason, env)) calls is = is

    heard_call : (call : AppCall) (member : Member) (arguments : List Value) (world : World) (ticks : ℕ)
        (others : List AppReply) (env : E) (calls : List AppCall) → length calls ≡ n → Past the_first call
        (heard (noting host) member arguments world ticks others (noted calls (Ok (given.Call call, env))))
    heard_call call member arguments world ticks [] env calls is = get_last calls call n is
    heard_call call member arguments world ticks (reply ∷ others) env calls is =
        heard_on call member arguments world ticks others (host.answered member arguments reply env)
        (calls ++ call ∷ []) (get_last calls call n is)

    heard_first : (member : Member) (arguments : List Value) (world : World) (ticks : ℕ) (replies : List AppReply)
        (said : Said E) (calls : List AppCall) → length calls + length replies ≡ n
        → Alike the_first (heard host member arguments world ticks replies said)
        (heard (noting host) member arguments world ticks (replies ++ more) (noted calls said))
    heard_first member arguments world ticks replies (Ok (given.Value value, env)) calls count =
        gives value world ticks env replies (env, calls) (replies ++ more) (refl, refl, count)
    heard_first member arguments world ticks replies (Ok (given.Names names, env)) calls count =
        gives (array_of (name_values names)) world ticks env replies (env, calls) (replies ++ more) (refl, refl, count)
    heard_first member arguments world ticks [] (Ok (given.Call call, env)) calls count =
        gone call (record { world = world; ticks = ticks; env = env; replies = [] })
        (heard (noting host) member arguments world ticks more (noted calls (Ok (given.Call call, env))))
        (heard_call call member arguments world ticks more env calls (omega (arith, count)))
    heard_first member arguments world ticks (reply ∷ replies) (Ok (given.Call call, env)) calls count =
        heard_first member arguments world ticks replies (host.answered member arguments reply env) (calls ++ call ∷ [])
        (let one = one_more_noted calls call (length calls) refl in omega (arith, count, one))
    heard_first member arguments world ticks replies (Err (reason, env)) calls count =
        ends_for the_first reason world ticks env replies (env, calls) (replies ++ more) (refl, refl, count)
        (λ is. (refl, refl, count))

    pub asks_first : (member : Member) (arguments : List Value)
        → Joined the_first (ask host member arguments) (ask (noting host) member arguments)
    unfolding ask
    asks_first member arguments = record {
      alike = λ world ticks env replies other others now.
          subst (λ found. Alike the_first
          (heard host member arguments world ticks replies (host.asked member arguments found))
          (heard (noting host) member arguments world ticks others
          (noted other.1 (host.asked member arguments other.0))))
          now.0 (subst (λ left. Alike the_first
          (heard host member arguments world ticks replies (host.asked member arguments other.0))
          (heard (noting host) member arguments world ticks left (noted other.1 (host.asked member arguments other.0))))
          (sym now.1)
          (heard_first member arguments world ticks replies (host.asked member arguments other.0) other.1 now.2));
      goes_on = λ call world ticks other others past.
          heard_on call member arguments world ticks others (host.asked member arguments other.0) other.1 past;
    }
