-- What the meaning sees of the evaluator's data.
use Rattle.std.specs.Prelude.{List}
use Rattle.vb_value.specs.declared.application.AppReply.{AppReply}
use Rattle.vb_value.specs.declared.value.Value.{Value}
use Rattle.vb_syntax.specs.declared.member.Member.{Member}
use Rattle.vb_meaning.specs.Asking.{Host, Said}
use Rattle.vb_meaning.specs.State.{State}
use Rattle.vb_meaning.specs.Shown.{shown}
use Rattle.vb_objects.specs.declared.playing.Playing.{Playing}

-- the state of an act
abbrev pub seen : {E : Type 0} → Playing → E → State E
seen playing env =
    record { world = shown playing.world; ticks = playing.ticks; env = env; replies = playing.replies.now }

-- what an environment does
abbrev pub host : {E : Type 0} → (Member → List Value → E → Said E) → (Member → List Value → AppReply → E → Said E) → Host E
host asked answered = record { asked = asked; answered = answered }
