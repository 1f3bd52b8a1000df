-- A run of words may go to another thread: part by part, since no search finds it of a whole run.
use Rattle.asp_job.specs.contracts.answer.Answer as Answer
use Rattle.asp_job.specs.contracts.answer.Finished as Finished
use Rattle.asp_job.specs.contracts.session.Named as Named
use Rattle.asp_job.specs.contracts.session.SessionState as State
use Rattle.asp_session.proofs.Moved.{list, value}
use Rattle.std.proofs.Crossing.{crosses}
use Rattle.vb_value.specs.contracts.session.Pair as Pair
use Rattle.vb_value.specs.contracts.session.SessDict as SessDict
use Rattle.word_runs.specs.contracts.run.At as At
use Rattle.word_runs.specs.contracts.run.Page as Page
use Rattle.word_runs.specs.contracts.run.WordRun as Run
use denote.Param.Send.{IsSend, sendable}
use denote.Param.SendFields.{declared_send, variants_send}

named : IsSend Named.the_row
named = declared_send Named.the_type (search (value, list, sendable, crosses) depth 100 fits 100000)

pair : IsSend Pair.the_row
pair = declared_send Pair.the_type (search (value, sendable, crosses) depth 40 fits 20000)

dictionary : IsSend SessDict.the_row
dictionary = declared_send SessDict.the_type (search (pair, list, sendable, crosses) depth 40 fits 20000)

state : IsSend State.the_row
state = declared_send State.the_type (search (named, dictionary, list, sendable, crosses) depth 100 fits 100000)

answer : IsSend Answer.the_row
answer = declared_send Answer.the_type (search (list, sendable, crosses) depth 100 fits 100000)

finished : IsSend Finished.the_row
finished = declared_send Finished.the_type (search (answer, state, sendable, crosses) depth 100 fits 100000)

at : IsSend At.the_row
at = variants_send At.enum (search (finished, sendable, crosses) depth 100 fits 100000)

page : IsSend Page.the_row
page = declared_send Page.the_type (search (list, sendable, crosses) depth 100 fits 100000)

pub run : IsSend Run.the_row
run = declared_send Run.the_type (search (page, state, list, at, sendable, crosses) depth 100 fits 100000)
