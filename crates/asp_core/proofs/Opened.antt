-- What a run begins with is what the journal says.
use Rattle.std.proofs.Common.{◌≡◌, ℕ, ◌+◌, ◌<◌, ◌≤◌, ◌&&◌, ◌^◌, Bool, true, false, not}
use Rattle.std.proofs.Common.{if◌then◌else◌, List, [], ◌∷◌, Option, Some, None}
use Rattle.std.proofs.Common.{is_some, refl, ap, sym, ◌∙◌, arith}
use Rattle.std.proofs.Common.{append-nil}
use Rattle.std.proofs.lemmas.List.Elements.{All-nil}
use Rattle.asp_core.specs.Kernel.{IsSessionIn, rules_by}
use Rattle.asp_core.specs.Opening.{IsNumberOf}
use Rattle.asp_core.specs.Opening.{cookie_if, serial_if, session_if}
use Rattle.asp_core.specs.Sessions.{IsAccountOf, sessions_in}
use Rattle.asp_core.specs.declared.opening.SessionNumber.{SessionNumber}
use Rattle.asp_job.specs.Journal.{AreRight, begin_entry}
use Rattle.asp_job.specs.Keys.{Given, began_with, given, letters_of, new_session, opened, opens, serial_by, session_of}
use Rattle.asp_job.specs.Keys.{told}
use Rattle.asp_job.specs.Rules.{Rules}
use Rattle.asp_job.specs.Runs.{Draw, draw_of, is_fresh, job_of, key_of, replies_of, stage_of}
use Rattle.asp_job.specs.Session.{IsSession}
use Rattle.asp_job.specs.Told.{Meaning, begun}
use Rattle.asp_job.specs.Turns.{may_begin, serial_of}
use Rattle.asp_job.specs.declared.entry.Entry.{Entry}
use Rattle.asp_job.specs.declared.entry.Stage.TheVariants.{Waiting}
use Rattle.asp_job.specs.declared.session.SessionState.{SessionState}
use Rattle.asp_journal.proofs.Others.{own_number}
use Rattle.asp_session.specs.Account.{Account}
use Rattle.asp_core.proofs.Growing.{account_tells}
use Rattle.asp_core.proofs.Right.{is_begun, may_begin_waits, no_replies}
use Rattle.asp_core.specs.declared.setting.Setting.{Setting}

-- ---- the session of a run

new_valid : (serial : ℕ) → 1 ≤ serial → serial < 2 ^ 31 → IsSession (new_session serial)
new_valid serial low high = record {
  counted = low;
  few = high;
  lasts = omega arith;
  ends = omega arith;
  entries = All-nil _;
  differ = λ i j d less within. absurd (omega arith);
  light = omega arith;
  bare = refl;
}

pub session_valid : (a : Bool) (s : Option SessionState) (count : ℕ) → IsSessionIn s → count + 1 < 2 ^ 31 →
    let b = a && not (is_some s) in IsSessionIn (session_if b s (serial_if count b s))
session_valid true None count v few = new_valid (count + 1) (omega arith) few
session_valid false None count v few = tt
session_valid true (Some s) count v few = v
session_valid false (Some s) count v few = v

pub serial_right : (count : ℕ) (draw : Draw) (s : Option SessionState) →
    serial_by count draw s ≡ serial_if count (opens draw s) s
serial_right count draw None = refl
serial_right count draw (Some s) = refl

-- ---- what the run is told

abbrev given_if : Bool → Option SessionState → ℕ → Given
given_if b s serial =
    if b then record { session = Some (new_session serial); is_new = true } else record { session = s; is_new = false }

given_parts : (b : Bool) (s : Option SessionState) (serial : ℕ) →
    ((given_if b s serial).session ≡ session_if b s serial) × ((given_if b s serial).is_new ≡ b)
given_parts true s serial = (refl, refl)
given_parts false s serial = (refl, refl)

-- the number of the session is what the journal says
pub number_right : (m : Rules) (past : List Entry) (account : Account) (run : ℕ) (number : SessionNumber) →
    IsAccountOf m past account →
    IsNumberOf (draw_of past run) (sessions_in account (key_of past run)) account.opened number →
    (number.serial ≡ serial_of m past run)
    × (number.is_new ≡ opens (draw_of past run) (session_of m past (key_of past run)))
number_right m past account run number of is =
    let draw = draw_of past run in
    let counted : account.opened ≡ opened m past = ap (λ (a : Account). a.opened) of.account_is in
    let at : sessions_in account (key_of past run) ≡ session_of m past (key_of past run) =
    ap (λ f. f (key_of past run)) (account_tells m past account of).1 in (
      is.serial_is ∙ ap (serial_by account.opened draw) at
          ∙ ap (λ n. serial_by n draw (session_of m past (key_of past run))) counted,
      is.new_is ∙ ap (opens draw) at,
    )

-- what a run is told as it begins
begun_told : (m : Rules) (past : List Entry) (lane run : ℕ) → AreRight m past → may_begin past run ≡ true →
    let start = given (draw_of past run) (session_of m past (key_of past run)) (serial_of m past run) in
    told m (begin_entry m past lane run ∷ past) run
    ≡ begun (job_of past run) start.session start.is_new (letters_of m (draw_of past run))
begun_told m past lane run right may =
    let own = own_number run in
    let start = given (draw_of past run) (session_of m past (key_of past run)) (serial_of m past run) in
    let new = begin_entry m past lane run ∷ past in
    let began : began_with m new run ≡ start = rw (own, began_with) refl in
    let waits : stage_of past run ≡ Waiting = may_begin_waits past run may in
    let replies : replies_of new run ≡ [] =
    append-nil (replies_of past run) ∙ no_replies m past right run (ap is_begun waits) in
    cc (ap (λ b. b.session) began, ap (λ b. b.is_new) began, replies)

-- so it is told what the code gives it
pub told_right : (m : Meaning) (setting : Setting) (past : List Entry) (account : Account) (lane run : ℕ)
    (number : SessionNumber) → let rules = rules_by m setting in IsAccountOf rules past account →
    may_begin past run ≡ true →
    IsNumberOf (draw_of past run) (sessions_in account (key_of past run)) account.opened number →
    begun (job_of past run) (session_if number.is_new (sessions_in account (key_of past run)) number.serial)
    number.is_new (cookie_if setting.seed (is_fresh past run) (key_of past run))
    ≡ told rules (begin_entry rules past lane run ∷ past) run
told_right m setting past account lane run number of may is =
    let rules = rules_by m setting in
    let draw = draw_of past run in
    let job = job_of past run in
    let letters = letters_of rules draw in
    let s = session_of rules past (key_of past run) in
    let serial = serial_of rules past run in
    let is_right = number_right rules past account run number of is in
    let parts = given_parts (opens draw s) s serial in
    let at : sessions_in account (key_of past run) ≡ s =
    ap (λ f. f (key_of past run)) (account_tells rules past account of).1 in
    ap (λ x. begun job (session_if number.is_new x number.serial) number.is_new letters) at
    ∙ ap (λ n. begun job (session_if number.is_new s n) number.is_new letters) is_right.0
    ∙ ap (λ b. begun job (session_if b s serial) b letters) is_right.1
    ∙ ap (λ x. begun job x (opens draw s) letters) (sym parts.0)
    ∙ ap (λ b. begun job (given draw s serial).session b letters) (sym parts.1)
    ∙ sym (begun_told rules past lane run of.journal.entries may)
