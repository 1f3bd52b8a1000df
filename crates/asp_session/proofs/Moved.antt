-- Session keys may go to another thread: part by part, since no search finds it of all of them.
use Rattle.asp_job.specs.contracts.session.Named as Named
use Rattle.asp_job.specs.contracts.session.SessionState as State
use Rattle.asp_session.specs.contracts.key.KeyState as KeyState
use Rattle.asp_session.specs.contracts.sessions.Sessions as Sessions
use Rattle.std.proofs.Crossing.{crosses}
use Rattle.vb_value.proofs.value.Value.TheLaws.TheKnot as values
use Rattle.vb_value.specs.contracts.list.List as List
use Rattle.vb_value.specs.contracts.session.Pair as Pair
use Rattle.vb_value.specs.contracts.session.SessDict as SessDict
use Rattle.vb_value.specs.contracts.value.Value as Value
use denote.Param.Send.{IsSend, sendable}
use denote.Param.SendFields.{as_row_send, declared_send}
use denote.RattleType.{RattleType}

pub list : (A : RattleType) → IsSend A → IsSend (List.the_row A)
list A send = search (sendable, crosses) depth 40 fits 20000

value_in : IsSend (Value.the_field).row
value_in = values.send-Value (search (sendable, crosses)) (search (sendable, crosses)) (search (sendable, crosses))
    (search (sendable, crosses)) (search (sendable, crosses) depth 40 fits 20000) (search (sendable, crosses))
    (search (sendable, crosses) depth 40 fits 20000) list

pub value : IsSend Value.the_row
value = as_row_send Value.the_field value_in

named : IsSend Named.the_row
named = declared_send Named.the_type (search (value, list, sendable, crosses) depth 100 fits 100000)

pair : IsSend Pair.the_row
pair = declared_send Pair.the_type (search (value, sendable, crosses) depth 40 fits 20000)

dictionary : IsSend SessDict.the_row
dictionary = declared_send SessDict.the_type (search (pair, list, sendable, crosses) depth 40 fits 20000)

state : IsSend State.the_row
state = declared_send State.the_type (search (named, dictionary, list, sendable, crosses) depth 100 fits 100000)

key_state : IsSend KeyState.the_row
key_state = declared_send KeyState.the_type (search (state, sendable, crosses) depth 100 fits 100000)

pub sessions : IsSend Sessions.the_row
sessions = search (key_state, sendable, crosses) depth 100 fits 100000
