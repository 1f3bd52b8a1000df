-- What a call of the Application object leaves of a core.
use Rattle.std.specs.Prelude.{◌≡◌, ℕ, ◌<◌, ◌∷◌, Bool, true, false, List, [], Option, Some, None}
use Rattle.vb_value.specs.declared.application.AppCall.{AppCall}
use Rattle.vb_value.specs.declared.application.AppCall.TheVariants as call
use Rattle.vb_value.specs.declared.application.AppReply.{AppReply}
use Rattle.vb_value.specs.declared.application.AppReply.TheVariants as reply
use Rattle.asp_job.specs.declared.entry.Entry.{Entry}
use Rattle.asp_job.specs.declared.entry.What.TheVariants.{App}
use Rattle.asp_job.specs.Application.{apply, blocker_of}
use Rattle.asp_job.specs.Calls.{IsAppCall, IsReply}
use Rattle.asp_job.specs.History.{with_lane}
use Rattle.asp_job.specs.Told.{Told, heard}
use Rattle.asp_app.specs.View.{AppView, with_state}
use Rattle.asp_journal.specs.declared.full.Full.{Full}
use Rattle.asp_core.specs.declared.run.Progress.TheVariants as progress
use Rattle.asp_core.specs.Book.{BookView, Grows, past_in}
use Rattle.asp_core.specs.Kernel.{RunView, IsWithin, IsTooMuch, wanted_by}

-- whether the call leaves the object as it is
abbrev pub is_read : AppCall → Bool
is_read (call.Get name) = true
is_read call.Count = true
is_read (call.KeyAt place) = true
is_read call.Names = true
is_read _ = false

-- a reply that weighs nothing
abbrev pub IsShort : AppReply → Type 0
IsShort reply.Done = Unit {0}
IsShort reply.Full = Unit {0}
IsShort _ = ⊥

-- The call is let through, the reply and the object after it are those of the call, and its entry fits with the room
-- that was made. The reply is there twice.
pub record IsReplied (book : BookView) (lane run : ℕ) (call : AppCall) (held then_held : AppView)
    (replies : AppReply × AppReply) : Type 0 where
  pub free : blocker_of held.strict held.state run call ≡ None
  pub reply_is : replies.0 ≡ (apply held.state run call).1
  pub copy_is : replies.1 ≡ replies.0
  pub held_is : then_held ≡ with_state held (apply held.state run call).0
  pub within : IsWithin (with_lane lane (App run call replies.0) ∷ past_in book)
  pub room : 0 < book.room
  pub may : IsReply replies.0

-- the run that keeps the call out that a run wants
abbrev pub blocker_by : {State : Type 0} → AppView → RunView State → Option ℕ
blocker_by held run = elim (wanted_by run.progress) [
  | Some call ↦ blocker_of held.strict held.state run.number call
  | None ↦ None
]

-- The call that the run wants is let through, and its entry is added with the room that was made. The object is as
-- after the call, and the run was told the reply.
pub record HasCalled {Site State : Type 0} (stands : Site → State → Told → ℕ → Type 0) (lane : ℕ) (old : BookView)
    (held : AppView) (run : RunView State) (new : BookView) (then_held : AppView) (then_run : RunView State) : Type 0
  where
    pub call : AppCall
    pub wanted : wanted_by run.progress ≡ Some call
    pub asks : IsAppCall call
    pub replied : IsReply (apply held.state run.number call).1
    pub free : blocker_of held.strict held.state run.number call ≡ None
    pub grows : Grows old (with_lane lane (App run.number call (apply held.state run.number call).1) ∷ []) new
    pub held_is : then_held ≡ with_state held (apply held.state run.number call).0
    pub number_is : then_run.number ≡ run.number
    pub stand_ins_are : then_run.stand_ins ≡ run.stand_ins
    pub progress_is : then_run.progress ≡ progress.Going
    pub heard_so : (site : Site) (t : Told) (spent : ℕ) → stands site run.state t spent →
        stands site then_run.state (heard t (apply held.state run.number call).1) spent

-- the call that the run wants is let through, and with its entry there would be too much
pub record IsCallTooMuch {State : Type 0} (past : List Entry) (lane : ℕ) (held : AppView) (run : RunView State)
    (full : Full) : Type 0 where
  pub call : AppCall
  pub wanted : wanted_by run.progress ≡ Some call
  pub free : blocker_of held.strict held.state run.number call ≡ None
  pub much :
      IsTooMuch (with_lane lane (App run.number call (apply held.state run.number call).1) ∷ past) full
