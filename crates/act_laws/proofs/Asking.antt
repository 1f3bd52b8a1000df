-- An environment beside itself: what each question keeps true of it, an act keeps.
use Rattle.std.proofs.Common.{ℕ, ◌≡◌, Bool, IsTrue, List, [], ◌∷◌, Option, Ok, Err, refl, sym, subst}
use Rattle.vb_value.specs.declared.application.AppReply.{AppReply}
use Rattle.vb_value.specs.declared.value.Value.{Value}
use Rattle.vb_syntax.specs.declared.act.Act.{Act}
use Rattle.vb_syntax.specs.declared.act.Given.TheVariants as given
use Rattle.vb_syntax.specs.declared.member.Member.{Member}
use Rattle.vb_syntax.specs.declared.program.Program.{Program}
use Rattle.vb_heap.specs.DictionaryCalls.{array_of}
use Rattle.vb_meaning.specs.declared.plain_end.PlainEnd.{PlainEnd}
use Rattle.vb_meaning.specs.declared.stop.Stop.TheVariants as stop
use Rattle.vb_meaning.specs.World.{World}
use Rattle.vb_meaning.specs.Acts.{act_of}
use Rattle.vb_meaning.specs.Asking.{Host, Said, ask, heard, name_values}
use Rattle.act_laws.specs.Calls.{LeavesOnly}
use Rattle.act_laws.specs.Laws.{OnlyAskingChanges}
use Rattle.act_laws.proofs.Acting.{ActsAlike, both_end, both_lack, both_want, one_wants, acts_alike}
use Rattle.act_laws.proofs.Joined.{Link, Joined, Alike, gives, ends}
use Rattle.act_laws.proofs.Links.{ends_for}

-- what is true of the objects after a question
abbrev pub Leaves : {E : Type 0} → (E → Type 0) → Said E → Type 0
Leaves holds (Ok (what, env)) = holds env
Leaves holds (Err (why, env)) = holds env

module _ (E : Type 0) (host : Host E) (Holds : E → Type 0)
    (asked : (member : Member) (arguments : List Value) (env : E) → Holds env
    → Leaves Holds (host.asked member arguments env))
    (answered : (member : Member) (arguments : List Value) (reply : AppReply) (env : E) → Holds env
    → Leaves Holds (host.answered member arguments reply env)) where
  abbrev beside_itself : Link
  beside_itself = record {
    E = E;
    F = E;
    host = host;
    other = host;
    now = λ env replies other others. (other ≡ env) × (others ≡ replies) × Holds env;
    both_want = λ env replies other others. Holds env;
    both_lack = λ env replies other others. Holds env;
    past = λ call other others. ⊥;
    tells = ⊥;
    telling = λ none. absurd none;
  }

  heard_alike : (member : Member) (arguments : List Value) (world : World) (ticks : ℕ) (replies : List AppReply)
      (said : Said E)
      → Leaves Holds said → Alike beside_itself (heard host member arguments world ticks replies said)
      (heard host member arguments world ticks replies said)
  heard_alike member arguments world ticks replies (Ok (given.Value value, env)) holds =
      gives value world ticks env replies env replies (refl, refl, holds)
  heard_alike member arguments world ticks replies (Ok (given.Names names, env)) holds =
      gives (array_of (name_values names)) world ticks env replies env replies (refl, refl, holds)
  heard_alike member arguments world ticks [] (Ok (given.Call call, env)) holds =
      ends (stop.Wants call) world ticks env [] env [] holds
  heard_alike member arguments world ticks (reply ∷ replies) (Ok (given.Call call, env)) holds =
      heard_alike member arguments world ticks replies (host.answered member arguments reply env)
      (answered member arguments reply env holds)
  heard_alike member arguments world ticks replies (Err (reason, env)) holds =
      ends_for beside_itself reason world ticks env replies env replies (refl, refl, holds) (λ is. holds)

  asks_alike : (member : Member) (arguments : List Value)
      → Joined beside_itself (ask host member arguments) (ask host member arguments)
  unfolding ask
  asks_alike member arguments = record {
    alike = λ world ticks env replies other others now.
        let holds : Holds other = subst (λ found. Holds found) (sym now.0) now.2 in
        subst (λ found. Alike beside_itself
        (heard host member arguments world ticks replies (host.asked member arguments found))
        (heard host member arguments world ticks others (host.asked member arguments other)))
        now.0 (subst (λ left. Alike beside_itself
        (heard host member arguments world ticks replies (host.asked member arguments other))
        (heard host member arguments world ticks left (host.asked member arguments other)))
        (sym now.1) (heard_alike member arguments world ticks replies (host.asked member arguments other)
        (asked member arguments other holds)));
    goes_on = λ call world ticks other others past. absurd past;
  }

  holds_after : (first : Option PlainEnd × E) (second : Option PlainEnd × E) → ActsAlike beside_itself first second
      → Holds first.1
  holds_after _ _ (both_end done env replies other others now) = now.2
  holds_after _ _ (both_lack env replies other others holds) = holds
  holds_after _ _ (both_want call env replies other others holds) = holds
  holds_after _ _ (one_wants call env other others past) = absurd past

-- what each question keeps true of an environment, an act keeps
pub asking_keeps : (E : Type 0) (host : Host E) (Holds : E → Type 0)
    → ((member : Member) (arguments : List Value) (env : E) → Holds env
    → Leaves Holds (host.asked member arguments env))
    → ((member : Member) (arguments : List Value) (reply : AppReply) (env : E) → Holds env
    → Leaves Holds (host.answered member arguments reply env))
    → (program : Program) (which : Act) (env : E) (replies : List AppReply) → Holds env
    → Holds (act_of E host program which env replies).1
asking_keeps E host Holds asked answered program which env replies holds =
    holds_after E host Holds asked answered (act_of E host program which env replies)
    (act_of E host program which env replies)
    (acts_alike (beside_itself E host Holds asked answered) (λ none. none) (asks_alike E host Holds asked answered)
    program which env replies env replies (refl, refl, holds))

left : {E : Type 0} (test : E → Bool) (said : Said E) → LeavesOnly test said
    → Leaves (λ env. IsTrue (test env)) said
left test (Ok (what, env)) holds = holds
left test (Err (why, env)) holds = holds

pub asking_alone : (E : Type 0) → OnlyAskingChanges E
asking_alone E host test asked answered = asking_keeps E host (λ env. IsTrue (test env))
    (λ member arguments env holds. left test (host.asked member arguments env) (asked member arguments env holds))
    (λ member arguments reply env holds.
    left test (host.answered member arguments reply env) (answered member arguments reply env holds))
