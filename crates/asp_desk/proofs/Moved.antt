-- What a hand carries may go to another thread: part by part, since no search finds it of a whole.
use denote.Param.Send.{IsSend, sendable, view_send}
use denote.Param.SendFields.{declared_send, variants_send}
use denote.RattleType.{RattleType}
use Rattle.std.proofs.Crossing.{crosses}
use Rattle.vb_value.specs.contracts.application.AppCall as Call
use Rattle.asp_job.specs.contracts.answer.Answer as Answer
use Rattle.asp_job.specs.declared.runner.Runner as runner
use Rattle.asp_session.proofs.Moved.{list, value}
use Rattle.asp_core.proofs.Moving.{tables}
use Rattle.asp_core.specs.contracts.run.Progress as Progress
use Rattle.asp_core.specs.contracts.run.Run as Run
use Rattle.asp_core.specs.contracts.run.Run.TheInside as Inside
use Rattle.asp_core.specs.contracts.run.StandIns as StandIns
use Rattle.asp_desk.specs.contracts.stands.Placed as Placed

call : IsSend Call.the_row
call = variants_send Call.enum (search (value, list, sendable, crosses) depth 100 fits 100000)

progress : IsSend Progress.the_row
progress = variants_send Progress.enum (search (call, sendable, crosses) depth 40 fits 20000)

answer : IsSend Answer.the_row
answer = declared_send Answer.the_type (search (list, sendable, crosses) depth 100 fits 100000)

stand_ins : IsSend StandIns.the_row
stand_ins = declared_send StandIns.the_type (search (answer, sendable, crosses) depth 40 fits 20000)

module _ (R Site Store State : RattleType) (g : runner.Ghosts R.Denot Site.Denot Store.Denot State.Denot) where
  pub placed : IsSend (Placed.the_row R Site Store State g)
  placed = search (tables, sendable, crosses) depth 60 fits 100000

  pub run : IsSend State → IsSend (Run.the_row R Site Store State g)
  run state = view_send _ _ _ _ _ (declared_send (Inside.the_type R Site Store State g)
      (search (progress, stand_ins, state, sendable, crosses) depth 60 fits 100000))
