-- Threads may share a host: part by part, since no search finds it of a whole.
use denote.Param.Send.{IsSend, IsSync, sendable, view_sync, whole-keyless}
use denote.Param.SendFields.{as_row_sync, declared_sync}
use denote.RattleType.{RattleType}
use denote.Struct.Tuple.{Tuple}
use Rattle.std.proofs.Common.{[], ◌∷◌}
use Rattle.std.proofs.Crossing.{Arc-sync, Vec-sync, crosses}
use Rattle.std.proofs.option.Option.TheSendSync as options
use Rattle.std.specs.contracts.option.Option as Option
use Rattle.atomic_table.proofs.shared.Seat.TheSendSync.{the_send}
use Rattle.atomic_table.specs.contracts.shared.Seat as Seat
use Rattle.turn_desk.proofs.desk.Desk.TheSendSync as desks
use Rattle.turn_desk.specs.contracts.desk.Desk as Desk
use Rattle.turn_desk.specs.contracts.lane.Lane as Lane
use Rattle.turn_desk.specs.contracts.lane.Lane.TheInside as LaneInside
use Rattle.turn_desk.specs.contracts.view.View as View
use Rattle.turn_desk.specs.declared.stands.Stands as stands
use Rattle.asp_core.specs.contracts.setting.Setting as settings
use Rattle.asp_core.specs.declared.setting.Setting.{Setting}
use Rattle.asp_desk.specs.contracts.bell.Bell as Bell
use Rattle.asp_desk.specs.contracts.host.HostOf as Host
use Rattle.asp_desk.specs.contracts.host.HostOf.TheInside as Inside

seat : (S V : RattleType) → IsSend S → IsSync (Seat.the_row S V)
seat S V state = record { shared = λ d b o κ q. whole-keyless _ _ ((the_send S V state).owned) q d b o }

module _ (S E F : RattleType) (g : stands.Ghosts S.Denot E.Denot F.Denot) where
  lane : IsSend S → IsSync (Lane.the_row S E F g)
  lane state = view_sync _ _ _ _ _ (declared_sync (LaneInside.the_type S E F g) (
    search sendable,
    (
      as_row_sync (Seat.the_field (Option.the_row S) (View.the_row E F)) (seat (Option.the_row S) (View.the_row E F)
          (options.the_send S state)),
      tt,
    ),
  ))

  desk : IsSend S → IsSync (Desk.the_row S E F g)
  desk state = search (desks.the_sync, state, sendable, crosses) depth 40 fits 20000

bell_sends : IsSend Bell.the_row
bell_sends = search (sendable, crosses) depth 40 fits 20000

bell : IsSync Bell.the_row
bell = search (sendable, crosses) depth 40 fits 20000

setting : IsSync settings.the_row
setting = declared_sync settings.the_type (search (sendable, crosses) depth 40 fits 20000)

module _ (S R T E : RattleType) (g : stands.Ghosts S.Denot E.Denot (R.Denot × T.Denot × Setting)) where
  abbrev Fixed : RattleType
  Fixed = Tuple (R ∷ T ∷ settings.the_row ∷ [])

  pub host : IsSend S → IsSync R → IsSync T → IsSync (Host.the_row S R T E g)
  host state runner site =
      let table : IsSync (Desk.the_row S E Fixed g) = desk S E Fixed g state in
      let room : IsSync (Lane.the_row S E Fixed g) = lane S E Fixed g state in
      view_sync _ _ _ _ _ (declared_sync (Inside.the_type S R T E g) (
        table,
        (
          search (runner, sendable),
          (
            search (site, sendable),
            (setting, (search sendable, (Vec-sync (Lane.the_row S E Fixed g) room, (Arc-sync Bell.the_row bell_sends bell, tt)))),
          ),
        ),
      ))
