-- What is kept after an event that may have been refused.
use Rattle.std.proofs.Common.{◌≡◌, List, Result, Ok, Err, IfOk, OnOk, OnErr, Option, subst, sym, ◌∙◌}
use Rattle.asp_job.specs.declared.answer.Fail.{Fail}
use Rattle.asp_job.specs.declared.entry.Entry.{Entry}
use Rattle.asp_session.specs.Account.{Account}
use Rattle.asp_app.specs.View.{AppView}
use Rattle.asp_job.specs.Rules.{Rules}
use Rattle.asp_core.specs.Book.{BookView, Grows, IsSound, past_in}
use Rattle.asp_core.specs.Kernel.{CoreView, IsKept}
use Rattle.asp_core.specs.Start.{start_fail}
use Rattle.asp_core.specs.declared.setting.Setting.{Setting}

-- what a core keeps where its journal grew and its answers stayed
pub sound_grown : (m : Rules) (old new : BookView) (more : List Entry) (account : Account) (held : AppView)
    (fail : Option Fail) → Grows old more new → IsKept m (past_in new) account held old.answers
    → start_fail m (past_in new) ≡ start_fail m (past_in old) → fail ≡ start_fail m (past_in old)
    → IsSound m (past_in new) account held new.answers fail
sound_grown m old new more account held fail grows kept same is =
    (subst (IsKept m (past_in new) account held) (sym grows.0.1) kept, grows.1, is ∙ sym same)

-- what it keeps where the call may have been refused
pub sound_either : {T E : Type 0} → (result : Result T E) (m : Rules) (old new : BookView)
    (account then_account : Account) (held then_held : AppView) (fail : Option Fail)
    → IsSound m (past_in old) account held old.answers fail
    → OnOk result (IsSound m (past_in new) then_account then_held new.answers fail)
    → OnErr result (((new.items ≡ old.items) × (new.answers ≡ old.answers)) × (then_account ≡ account)
    × (then_held ≡ held)) → IsSound m (past_in new) then_account then_held new.answers fail
sound_either (Ok done) m old new account then_account held then_held fail sound then_sound same = then_sound
sound_either (Err stop) m old new account then_account held then_held fail sound then_sound same =
    rw (same.0.0, same.0.1, same.1, same.2) sound

-- a fact of what was done becomes another
pub on_ok : {T E : Type 0} → (result : Result T E) (P Q : Type 0) → (P → Q) → OnOk result P → OnOk result Q
on_ok (Ok done) P Q f p = f p
on_ok (Err stop) P Q f p = tt

-- two of them become one
pub on_both : {T E : Type 0} → (result : Result T E) (P Q S : Type 0) → (P → Q → S) → OnOk result P → OnOk result Q
    → OnOk result S
on_both (Ok done) P Q S f p q = f p q
on_both (Err stop) P Q S f p q = tt

-- a fact of a refusal becomes another
pub on_err : {T E : Type 0} → (result : Result T E) (P Q : Type 0) → (P → Q) → OnErr result P → OnErr result Q
on_err (Ok done) P Q f p = tt
on_err (Err stop) P Q f p = f p

-- what is seen of a core
abbrev pub view_of : {R Site : Type 0} → R → Site → Setting → List Entry → CoreView R Site
view_of runner site setting journal = record { journal = journal; runner = runner; site = site; setting = setting }

-- a fact of what was given becomes another
pub on_each : {T E : Type 0} → (result : Result T E) (P Q : T → Type 0) → ((x : T) → P x → Q x) → IfOk result P
    → IfOk result Q
on_each (Ok given) P Q f p = f given p
on_each (Err stop) P Q f p = tt
