-- An environment beside itself: an act wants only calls that the environment wants.
use Rattle.std.proofs.Common.{ℕ, ◌≡◌, Bool, IsTrue, List, [], ◌∷◌, Option, Some, Ok, Err, refl, sym, subst}
use Rattle.vb_value.specs.declared.application.AppCall.{AppCall}
use Rattle.vb_value.specs.declared.application.AppReply.{AppReply}
use Rattle.vb_value.specs.declared.value.Value.{Value}
use Rattle.vb_syntax.specs.declared.act.Given.TheVariants as given
use Rattle.vb_syntax.specs.declared.member.Member.{Member}
use Rattle.vb_heap.specs.DictionaryCalls.{array_of}
use Rattle.vb_meaning.specs.declared.plain_end.PlainEnd.{PlainEnd}
use Rattle.vb_meaning.specs.World.{World}
use Rattle.vb_meaning.specs.Acts.{act_of}
use Rattle.vb_meaning.specs.Asking.{Host, Said, ask, heard, name_values}
use Rattle.act_laws.specs.Calls.{WantsOnly, wanted}
use Rattle.act_laws.specs.Laws.{OnlyObjectsWant}
use Rattle.act_laws.proofs.Acting.{ActsAlike, both_end, both_lack, both_want, one_wants, acts_alike}
use Rattle.act_laws.proofs.Joined.{Link, Joined, Alike, gives, gone}
use Rattle.act_laws.proofs.Links.{ends_for}

module _ (E : Type 0) (host : Host E) (test : AppCall → Bool)
    (asked : (member : Member) (arguments : List Value) (env : E) → WantsOnly test (host.asked member arguments env))
    (answered : (member : Member) (arguments : List Value) (reply : AppReply) (env : E)
    → WantsOnly test (host.answered member arguments reply env)) where
  abbrev beside_itself : Link
  beside_itself = record {
    E = E;
    F = E;
    host = host;
    other = host;
    now = λ env replies other others. (other ≡ env) × (others ≡ replies);
    both_want = λ env replies other others. ⊥;
    both_lack = λ env replies other others. Unit {0};
    past = λ call other others. IsTrue (test call);
    tells = ⊥;
    telling = λ none. absurd none;
  }

  heard_alike : (member : Member) (arguments : List Value) (world : World) (ticks : ℕ) (replies : List AppReply)
      (said : Said E)
      → WantsOnly test said → Alike beside_itself (heard host member arguments world ticks replies said)
      (heard host member arguments world ticks replies said)
  heard_alike member arguments world ticks replies (Ok (given.Value value, env)) only =
      gives value world ticks env replies env replies (refl, refl)
  heard_alike member arguments world ticks replies (Ok (given.Names names, env)) only =
      gives (array_of (name_values names)) world ticks env replies env replies (refl, refl)
  heard_alike member arguments world ticks [] (Ok (given.Call call, env)) only =
      gone call (record { world = world; ticks = ticks; env = env; replies = [] })
      (heard host member arguments world ticks [] (Ok (given.Call call, env))) only
  heard_alike member arguments world ticks (reply ∷ replies) (Ok (given.Call call, env)) only =
      heard_alike member arguments world ticks replies (host.answered member arguments reply env)
      (answered member arguments reply env)
  heard_alike member arguments world ticks replies (Err (reason, env)) only =
      ends_for beside_itself reason world ticks env replies env replies (refl, refl) (λ is. tt)

  asks_alike : (member : Member) (arguments : List Value)
      → Joined beside_itself (ask host member arguments) (ask host member arguments)
  unfolding ask
  asks_alike member arguments = record {
    alike = λ world ticks env replies other others now.
        subst (λ found. Alike beside_itself
        (heard host member arguments world ticks replies (host.asked member arguments found))
        (heard host member arguments world ticks others (host.asked member arguments other)))
        now.0 (subst (λ left. Alike beside_itself
        (heard host member arguments world ticks replies (host.asked member arguments other))
        (heard host member arguments world ticks left (host.asked member arguments other)))
        (sym now.1) (heard_alike member arguments world ticks replies (host.asked member arguments other)
        (asked member arguments other)));
    goes_on = λ call world ticks other others past. past;
  }

  passes : (first : Option PlainEnd × E) (second : Option PlainEnd × E) → ActsAlike beside_itself first second
      → (call : AppCall) → wanted first.0 ≡ Some call → IsTrue (test call)
  passes _ _ (both_end done env replies other others now) call is = absurd (cc)
  passes _ _ (both_lack env replies other others now) call is = absurd (cc)
  passes _ _ (both_want other_call env replies other others now) call is = absurd now
  passes _ _ (one_wants found env other others past) call is =
      let same : found ≡ call = cc in subst (λ x. IsTrue (test x)) same past

pub objects_alone : (E : Type 0) → OnlyObjectsWant E
objects_alone E host test asked answered program which env replies call =
    passes E host test asked answered (act_of E host program which env replies)
    (act_of E host program which env replies)
    (acts_alike (beside_itself E host test asked answered) (λ none. none) (asks_alike E host test asked answered)
    program which env replies env replies (refl, refl)) call
