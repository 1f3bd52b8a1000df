-- An environment beside itself: memory runs out in an act only where it does for its objects.
use Rattle.std.proofs.Common.{ℕ, ◌≡◌, ◌≢◌, List, [], ◌∷◌, Option, None, Ok, Err, refl, ap, subst, sym}
use Rattle.vb_value.specs.declared.application.AppReply.{AppReply}
use Rattle.vb_value.specs.declared.value.Value.{Value}
use Rattle.vb_syntax.specs.declared.act.AskStop.TheVariants as why
use Rattle.vb_syntax.specs.declared.act.Given.TheVariants as given
use Rattle.vb_syntax.specs.declared.member.Member.{Member}
use Rattle.vb_heap.specs.DictionaryCalls.{array_of}
use Rattle.vb_meaning.specs.declared.plain_end.PlainEnd.{PlainEnd}
use Rattle.vb_meaning.specs.declared.stop.Stop.TheVariants as stop
use Rattle.vb_meaning.specs.World.{World}
use Rattle.vb_meaning.specs.Acts.{act_of}
use Rattle.vb_meaning.specs.Asking.{Host, Said, ask, heard, name_values}
use Rattle.act_laws.specs.Laws.{OnlyObjectsLack}
use Rattle.act_laws.proofs.Acting.{ActsAlike, both_end, both_lack, both_want, one_wants, acts_alike}
use Rattle.act_laws.proofs.Joined.{Link, Joined, Alike, gives, ends}
use Rattle.act_laws.proofs.Links.{ends_for}

-- memory does not run out for the objects that are asked
abbrev Remembers : {E : Type 0} → Said E → Type 0
Remembers {E} said = (after : E) → said ≢ Err (why.Memory, after)

module _ (E : Type 0) (host : Host E)
    (asked : (member : Member) (arguments : List Value) (env : E) → Remembers (host.asked member arguments env))
    (answered : (member : Member) (arguments : List Value) (reply : AppReply) (env : E)
    → Remembers (host.answered member arguments reply env)) where
  abbrev beside_itself : Link
  beside_itself = record {
    E = E;
    F = E;
    host = host;
    other = host;
    now = λ env replies other others. (other ≡ env) × (others ≡ replies);
    both_want = λ env replies other others. Unit {0};
    both_lack = λ env replies other others. ⊥;
    past = λ call other others. ⊥;
    tells = ⊥;
    telling = λ none. absurd none;
  }

  heard_alike : (member : Member) (arguments : List Value) (world : World) (ticks : ℕ) (replies : List AppReply)
      (said : Said E)
      → Remembers said → Alike beside_itself (heard host member arguments world ticks replies said)
      (heard host member arguments world ticks replies said)
  heard_alike member arguments world ticks replies (Ok (given.Value value, env)) remembers =
      gives value world ticks env replies env replies (refl, refl)
  heard_alike member arguments world ticks replies (Ok (given.Names names, env)) remembers =
      gives (array_of (name_values names)) world ticks env replies env replies (refl, refl)
  heard_alike member arguments world ticks [] (Ok (given.Call call, env)) remembers =
      ends (stop.Wants call) world ticks env [] env [] tt
  heard_alike member arguments world ticks (reply ∷ replies) (Ok (given.Call call, env)) remembers =
      heard_alike member arguments world ticks replies (host.answered member arguments reply env)
      (answered member arguments reply env)
  heard_alike member arguments world ticks replies (Err (reason, env)) remembers =
      ends_for beside_itself reason world ticks env replies env replies (refl, refl)
      (λ is. remembers env (ap (λ found. Err (found, env)) is))

  asks_alike : (member : Member) (arguments : List Value)
      → Joined beside_itself (ask host member arguments) (ask host member arguments)
  unfolding ask
  asks_alike member arguments = record {
    alike = λ world ticks env replies other others now.
        subst (λ found. Alike beside_itself
        (heard host member arguments world ticks replies (host.asked member arguments found))
        (heard host member arguments world ticks others (host.asked member arguments other)))
        now.0 (subst (λ left. Alike beside_itself
        (heard host member arguments world ticks replies (host.asked member arguments other))
        (heard host member arguments world ticks left (host.asked member arguments other)))
        (sym now.1) (heard_alike member arguments world ticks replies (host.asked member arguments other)
        (asked member arguments other)));
    goes_on = λ call world ticks other others past. absurd past;
  }

  there : (first : Option PlainEnd × E) (second : Option PlainEnd × E) → ActsAlike beside_itself first second
      → first.0 ≢ None
  there _ _ (both_end done env replies other others now) = λ is. absurd (cc)
  there _ _ (both_lack env replies other others never) = λ is. never
  there _ _ (both_want call env replies other others now) = λ is. absurd (cc)
  there _ _ (one_wants call env other others past) = λ is. past

pub objects_lack : (E : Type 0) → OnlyObjectsLack E
objects_lack E host asked answered program which env replies =
    there E host asked answered (act_of E host program which env replies) (act_of E host program which env replies)
    (acts_alike (beside_itself E host asked answered) (λ none. none) (asks_alike E host asked answered) program which
    env replies env replies (refl, refl))
