-- What an act asks of the objects that the page is given, and of the Application object through them.
use Rattle.std.specs.Prelude.{ℕ, List, [], ◌∷◌, map, Option, Some, None, Result, Ok, Err}
use Rattle.vb_value.specs.declared.application.AppReply.{AppReply}
use Rattle.vb_value.specs.declared.value.Value.{Value, Str}
use Rattle.vb_syntax.specs.declared.act.AskStop.{AskStop}
use Rattle.vb_syntax.specs.declared.act.Given.{Given}
use Rattle.vb_syntax.specs.declared.act.Given.TheVariants as given
use Rattle.vb_syntax.specs.declared.member.Member.{Member}
use Rattle.vb_heap.specs.DictionaryCalls.{array_of}
use Rattle.vb_meaning.specs.declared.answer.Answer.{Answer}
use Rattle.vb_meaning.specs.declared.answer.Answer.TheVariants as answer
use Rattle.vb_meaning.specs.declared.stop.Stop.TheVariants as stop
use Rattle.vb_meaning.specs.World.{World}
use Rattle.vb_meaning.specs.State.{State, Does}
use Rattle.vb_meaning.specs.Stops.{ask_stop}
use Rattle.vb_meaning.specs.Step.{Step, Returns, Ends, Run}

-- what an environment says to one question: what it gives or why it stops, and what it is then
abbrev pub Said : Type 0 → Type 0
Said E = Result (Given × E) (AskStop × E)

-- what an environment does: when it is asked, and when a call that it wanted has its reply
pub record Host (E : Type 0) : Type 0 where
  pub asked : Member → List Value → E → Said E
  pub answered : Member → List Value → AppReply → E → Said E

-- the texts of names
abbrev pub name_values : List (List ℕ) → List Value
name_values names = map Str names

-- what comes of what an environment said; a list of names is given as an array of them
abbrev pub answer_of : {E : Type 0} → Said E → Step E Answer
answer_of (Ok (given.Value value, env)) = Returns (answer.Value value) env
answer_of (Ok (given.Names names, env)) = Returns (answer.Value (array_of (name_values names))) env
answer_of (Ok (given.Call call, env)) = Returns (answer.Call call) env
answer_of (Err (reason, env)) = Ends (ask_stop reason) env

-- what an environment says when a member is asked, or when the call that it wanted has this reply
abbrev pub said : {E : Type 0} → Host E → Member → List Value → Option AppReply → E → Said E
said host member arguments None env = host.asked member arguments env
said host member arguments (Some reply) env = host.answered member arguments reply env

-- one question: a member is asked, or goes on with the reply to the call that it wanted
abbrev pub question : {E : Type 0} → Host E → Member → List Value → Option AppReply → Run E Answer
question host member arguments reply env = answer_of (said host member arguments reply env)

-- What a question comes to with the replies that are left. A call that it wants takes the next of them, and the next
-- question goes on with that; without one the act wants that call.
abbrev pub replied : {E : Type 0} → Host E → Member → List Value → World → ℕ → List AppReply → Step E Answer
    → Step (State E) Value
replied host member arguments world ticks replies (Returns (answer.Value value) env) =
    Returns value (record { world = world; ticks = ticks; env = env; replies = replies })
replied host member arguments world ticks [] (Returns (answer.Call call) env) =
    Ends (stop.Wants call) (record { world = world; ticks = ticks; env = env; replies = [] })
replied host member arguments world ticks (reply ∷ replies) (Returns (answer.Call call) env) =
    replied host member arguments world ticks replies (question host member arguments (Some reply) env)
replied host member arguments world ticks replies (Ends why env) =
    Ends why (record { world = world; ticks = ticks; env = env; replies = replies })

-- the same by what an environment said
abbrev pub heard : {E : Type 0} → Host E → Member → List Value → World → ℕ → List AppReply → Said E
    → Step (State E) Value
heard host member arguments world ticks replies told =
    replied host member arguments world ticks replies (answer_of told)

-- a member of the page's objects with these arguments
unfoldable pub ask : {E : Type 0} → Host E → Member → List Value → Does E Value
ask host member arguments s =
    heard host member arguments s.world s.ticks s.replies (host.asked member arguments s.env)
