-- A run may go to another thread: part by part, since no search finds it of a whole run.
use Rattle.asp_job.specs.contracts.answer.Answer as Answer
use Rattle.asp_job.specs.contracts.answer.Finished as Finished
use Rattle.asp_job.specs.contracts.job.Job as Job
use Rattle.asp_job.specs.contracts.session.Named as Named
use Rattle.asp_job.specs.contracts.session.SessionState as State
use Rattle.asp_objects.specs.contracts.session.HeldSession as Session
use Rattle.asp_run.specs.contracts.run.At as At
use Rattle.asp_run.specs.contracts.run.PlainRun as Run
use Rattle.std.proofs.Crossing.{crosses}
use Rattle.vb_value.proofs.value.Value.TheLaws.TheKnot as values
use Rattle.vb_value.specs.contracts.application.AppReply as Reply
use Rattle.vb_value.specs.contracts.list.List as List
use Rattle.vb_value.specs.contracts.session.Pair as Pair
use Rattle.vb_value.specs.contracts.session.SessDict as SessDict
use Rattle.vb_value.specs.contracts.value.Value as Value
use denote.Param.Send.{IsSend, sendable, struct_send}
use denote.Param.SendFields.{as_row_send, declared_send, variants_send}
use denote.RattleType.{RattleType}
use denote.Struct.Declared.{shape}

list : (A : RattleType) → IsSend A → IsSend (List.the_row A)
list A send = search (sendable, crosses) depth 40 fits 20000

value_in : IsSend (Value.the_field).row
value_in = values.send-Value (search (sendable, crosses)) (search (sendable, crosses)) (search (sendable, crosses))
    (search (sendable, crosses)) (search (sendable, crosses) depth 40 fits 20000) (search (sendable, crosses))
    (search (sendable, crosses) depth 40 fits 20000) list

value : IsSend Value.the_row
value = as_row_send Value.the_field value_in

named : IsSend Named.the_row
named = declared_send Named.the_type (search (value, list, sendable, crosses) depth 100 fits 100000)

pair : IsSend Pair.the_row
pair = declared_send Pair.the_type (search (value, sendable, crosses) depth 40 fits 20000)

dictionary : IsSend SessDict.the_row
dictionary = declared_send SessDict.the_type (search (pair, list, sendable, crosses) depth 40 fits 20000)

state_in : IsSend (State.the_field).row
state_in = struct_send (shape State.the_type) (
  search (sendable, crosses),
  (
    search (sendable, crosses),
    (
      search (named, list, sendable, crosses) depth 40 fits 20000,
      (
        search (dictionary, list, sendable, crosses) depth 40 fits 20000,
        tt,
      ),
    ),
  ),
)

state : IsSend State.the_row
state = as_row_send State.the_field state_in

session : IsSend Session.the_row
session = search (state_in, sendable, crosses) depth 100 fits 100000

reply : IsSend Reply.the_row
reply = variants_send Reply.enum (search (value, list, sendable, crosses) depth 100 fits 100000)

answer : IsSend Answer.the_row
answer = declared_send Answer.the_type (search (list, sendable, crosses) depth 100 fits 100000)

finished : IsSend Finished.the_row
finished = declared_send Finished.the_type (search (answer, state, sendable, crosses) depth 100 fits 100000)

job : IsSend Job.the_row
job = search (sendable, crosses) depth 100 fits 100000

at : IsSend At.the_row
at = variants_send At.enum (search (finished, sendable, crosses) depth 100 fits 100000)

pub run : IsSend Run.the_row
run = declared_send Run.the_type (search (job, session, reply, list, at, sendable, crosses) depth 100 fits 100000)
