-- What a core keeps may go to another thread: part by part, since no search finds it of all of it.
use Rattle.asp_app.specs.contracts.application.Application as Application
use Rattle.asp_journal.specs.contracts.journal.Journal as Journal
use Rattle.asp_job.specs.contracts.answer.Answer as Answer
use Rattle.asp_job.specs.contracts.entry.Entry as Entry
use Rattle.asp_job.specs.contracts.entry.What as What
use Rattle.asp_job.specs.contracts.job.Job as Job
use Rattle.asp_session.proofs.Moved.{list, sessions, value}
use Rattle.asp_core.specs.contracts.book.Book as Book
use Rattle.asp_core.specs.contracts.tables.Tables as Tables
use Rattle.std.proofs.Crossing.{crosses}
use Rattle.vb_value.specs.contracts.application.AppCall as Call
use Rattle.vb_value.specs.contracts.application.AppReply as Reply
use denote.Param.Send.{IsSend, sendable}
use denote.Param.SendFields.{declared_send, variants_send}

call : IsSend Call.the_row
call = variants_send Call.enum (search (value, list, sendable, crosses) depth 100 fits 100000)

reply : IsSend Reply.the_row
reply = variants_send Reply.enum (search (value, list, sendable, crosses) depth 100 fits 100000)

job : IsSend Job.the_row
job = search (sendable, crosses) depth 100 fits 100000

what : IsSend What.the_row
what = variants_send What.enum (search (call, reply, job, list, sendable, crosses) depth 100 fits 100000)

entry : IsSend Entry.the_row
entry = declared_send Entry.the_type (search (what, sendable, crosses) depth 100 fits 100000)

journal : IsSend Journal.the_row
journal = search (entry, sendable, crosses) depth 100 fits 100000

application : IsSend Application.the_row
application = search (value, list, sendable, crosses) depth 100 fits 100000

answer : IsSend Answer.the_row
answer = declared_send Answer.the_type (search (list, sendable, crosses) depth 100 fits 100000)

book : IsSend Book.the_row
book = search (journal, answer, sendable, crosses) depth 100 fits 100000

pub tables : IsSend Tables.the_row
tables = declared_send Tables.the_type (search (book, sessions, application, sendable, crosses) depth 100 fits 100000)
