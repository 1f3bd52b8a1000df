-- Memory does not run out for Session and Application.
use Rattle.std.proofs.Common.{ℤ, pos, negsuc, nat_le, Bool, true, false, ◌&&◌}
use Rattle.std.proofs.Common.{if◌then◌else◌, List, [], ◌∷◌, Option, Some, None, Ok, Err}
use Rattle.vb_value.specs.declared.application.AppReply.{AppReply}
use Rattle.vb_value.specs.declared.application.AppReply.TheVariants as reply
use Rattle.vb_value.specs.declared.limit.LimitKind.TheVariants as limit
use Rattle.vb_value.specs.declared.value.Value.{Value, Int, Long, Cur}
use Rattle.vb_syntax.specs.declared.act.AskStop.TheVariants as why
use Rattle.vb_syntax.specs.declared.member.ContentsPart.{ContentsPart}
use Rattle.vb_syntax.specs.declared.member.ContentsPart.TheVariants as contents
use Rattle.vb_syntax.specs.declared.member.Member.{Member}
use Rattle.vb_syntax.specs.declared.member.Member.TheVariants as member
use Rattle.asp_job.specs.declared.session.Named.{Named}
use Rattle.asp_job.specs.declared.session.SessionState.{SessionState}
use Rattle.asp_objects.specs.declared.choosing.Chosen.{Chosen}
use Rattle.asp_objects.specs.declared.choosing.Chosen.TheVariants as which
use Rattle.asp_objects.specs.declared.objects.PageObjects.{PageObjects}
use Rattle.asp_objects.specs.ApplicationMembers as application
use Rattle.asp_objects.specs.Choosing.{chosen, is_shared, named, shared}
use Rattle.asp_objects.specs.Entries.{is_full, with_value}
use Rattle.asp_objects.specs.Given as answers
use Rattle.asp_objects.specs.Said.{SaidOf, became}
use Rattle.asp_objects.specs.SessionMembers as sessions
use Rattle.asp_objects.proofs.Fine.{Fine, FineSaid, before_fine, count_fine, either_fine, item_fine, long_fine}
use Rattle.asp_objects.proofs.Fine.{text_fine, then_fine, told_fine, using_fine}

-- ---- which entry, and which values

pub place_fine : (value : Value) → Fine (answers.and_then (answers.long_in value) (λ place. Ok (which.Place place)))
place_fine value = then_fine (answers.long_in value) _ (long_fine value) (λ place. tt)

pub name_fine : (key : Value) → Fine (named key)
name_fine key = then_fine (answers.text_in key) _ (text_fine key) (λ name. tt)

pub chosen_fine : (key : Value) → Fine (chosen key)
chosen_fine (Int n) = place_fine (Int n)
chosen_fine (Long n) = place_fine (Long n)
chosen_fine (Cur n) = place_fine (Cur n)
chosen_fine key = name_fine key

pub shared_fine : (value : Value) → Fine (shared value)
shared_fine value = either_fine (is_shared value) _ _ tt tt

-- ---- Session

pub there_named_fine : (entry : Option Named) → Fine (sessions.name_there entry)
there_named_fine (Some entry) = tt
there_named_fine None = tt

pub name_in_fine : (entries : List Named) (meant : Chosen) → Fine (sessions.name_in entries meant)
name_in_fine entries (which.Name name) = tt
name_in_fine entries (which.Place place) =
    then_fine (answers.before_place place) _ (before_fine place) (λ before. there_named_fine _)

pub name_of_fine : (entries : List Named) (key : Value) → Fine (sessions.name_of entries key)
name_of_fine entries key = then_fine (chosen key) _ (chosen_fine key) (name_in_fine entries)

pub filled_fine : (entries : List Named) (session : SessionState) → FineSaid (sessions.filled entries session)
filled_fine entries session = go (is_full entries)
  where
    go : (full : Bool) → FineSaid {E = SessionState} (if full then Err (why.Limit limit.Session, session)
        else became (sessions.with_values entries session))
    go true = tt
    go false = tt

pub item_written_fine : (key what : Value) (session : SessionState) → FineSaid (sessions.item_written key what session)
item_written_fine key what session = using_fine (chosen key) _ session (chosen_fine key) (λ meant.
    using_fine (shared what) _ session (shared_fine what) (λ kept.
    using_fine (sessions.name_in session.values meant) _ session (name_in_fine session.values meant) (λ name.
    filled_fine (with_value name kept session.values) session)))

pub read_fine : (what : ContentsPart) (arguments : List Value) (session : SessionState)
    → Fine (sessions.contents_read what arguments session)
unfolding sessions.contents_read
read_fine contents.Item (key ∷ []) session =
    then_fine (sessions.name_of session.values key) _ (name_of_fine session.values key) (λ name. tt)
read_fine contents.Count [] session = count_fine _
read_fine contents.Key (index ∷ []) session = then_fine (answers.long_in index) _ (long_fine index) (item_fine _)
read_fine contents.Names [] session = tt
read_fine _ _ session = tt

pub contents_fine : (what : ContentsPart) (arguments : List Value) (session : SessionState)
    → FineSaid (sessions.contents what arguments session)
unfolding sessions.contents
contents_fine contents.Item (key ∷ what ∷ []) session = item_written_fine key what session
contents_fine contents.Remove (key ∷ []) session = using_fine (sessions.name_of session.values key) _ session
    (name_of_fine session.values key) (λ name. tt)
contents_fine contents.RemoveAll [] session = tt
contents_fine what arguments session = told_fine _ session (read_fine what arguments session)

pub minutes_fine : (number : ℤ) → Fine (sessions.minutes number)
minutes_fine (pos n) = either_fine (nat_le 1 n && nat_le n 1440) _ _ tt tt
minutes_fine (negsuc n) = tt

pub session_timeout_fine : (arguments : List Value) (session : SessionState)
    → FineSaid (sessions.timeout arguments session)
session_timeout_fine [] session = tt
session_timeout_fine (number ∷ []) session =
    using_fine (answers.and_then (answers.long_in number) sessions.minutes) _ session
    (then_fine (answers.long_in number) _ (long_fine number) minutes_fine) (λ minutes. tt)
session_timeout_fine (number ∷ more ∷ others) session = tt

pub lifted_fine : (said : SaidOf SessionState) (objects : PageObjects) → FineSaid said
    → FineSaid (sessions.lifted said objects)
lifted_fine (Ok said) objects fine = tt
lifted_fine (Err (why.Error number, session)) objects fine = tt
lifted_fine (Err (why.PageStop, session)) objects fine = tt
lifted_fine (Err (why.Limit kind, session)) objects fine = tt
lifted_fine (Err (why.Memory, session)) objects fine = fine

pub session_fine : (found : Option SessionState) (next : SessionState → SaidOf SessionState) (objects : PageObjects)
    → ((session : SessionState) → FineSaid (next session)) → FineSaid (sessions.session_in found next objects)
session_fine (Some session) next objects fine = lifted_fine (next session) objects (fine session)
session_fine None next objects fine = tt

pub abandoned_fine : (found : Option SessionState) (objects : PageObjects)
    → FineSaid (sessions.abandoned_in found objects)
abandoned_fine (Some session) objects = tt
abandoned_fine None objects = tt

-- ---- Application

pub wanted_fine : (what : ContentsPart) (arguments : List Value) → Fine (application.contents_asked what arguments)
unfolding application.contents_asked
wanted_fine contents.Item (key ∷ []) = then_fine (chosen key) _ (chosen_fine key) (λ meant. tt)
wanted_fine contents.Item (key ∷ what ∷ []) = then_fine (chosen key) _ (chosen_fine key) (λ meant.
    then_fine (shared what) _ (shared_fine what) (λ kept. tt))
wanted_fine contents.Count [] = tt
wanted_fine contents.Key (index ∷ []) = then_fine (answers.long_in index) _ (long_fine index) (λ place. tt)
wanted_fine contents.Remove (key ∷ []) = then_fine (chosen key) _ (chosen_fine key) (λ meant. tt)
wanted_fine contents.RemoveAll [] = tt
wanted_fine contents.Names [] = tt
wanted_fine _ _ = tt

pub closed_fine : (found : AppReply) → Fine (application.closed found)
closed_fine reply.Done = tt
closed_fine reply.NoName = tt
closed_fine reply.Full = tt
closed_fine _ = tt

pub read_answer_fine : (found : AppReply) → Fine (application.read_answer found)
read_answer_fine (reply.Value what) = tt
read_answer_fine (reply.Name name) = tt
read_answer_fine other = closed_fine other

pub written_answer_fine : (what : Value) (found : AppReply) → Fine (application.written_answer what found)
written_answer_fine what (reply.Name name) = then_fine (shared what) _ (shared_fine what) (λ kept. tt)
written_answer_fine what other = closed_fine other

pub removed_answer_fine : (found : AppReply) → Fine (application.removed_answer found)
removed_answer_fine (reply.Name name) = tt
removed_answer_fine other = closed_fine other

pub count_answer_fine : (found : AppReply) → Fine (application.count_answer found)
count_answer_fine (reply.Number number) = tt
count_answer_fine other = closed_fine other

pub key_answer_fine : (found : AppReply) → Fine (application.key_answer found)
key_answer_fine (reply.Name name) = tt
key_answer_fine other = closed_fine other

pub names_answer_fine : (found : AppReply) → Fine (application.names_answer found)
names_answer_fine (reply.Names names) = tt
names_answer_fine other = closed_fine other

pub contents_answered_fine : (what : ContentsPart) (arguments : List Value) (found : AppReply)
    → Fine (application.contents_answered what arguments found)
unfolding application.contents_answered
contents_answered_fine contents.Item (key ∷ []) found = read_answer_fine found
contents_answered_fine contents.Item (key ∷ what ∷ []) found = written_answer_fine what found
contents_answered_fine contents.Count [] found = count_answer_fine found
contents_answered_fine contents.Key (index ∷ []) found = key_answer_fine found
contents_answered_fine contents.Remove (key ∷ []) found = removed_answer_fine found
contents_answered_fine contents.RemoveAll [] found = closed_fine found
contents_answered_fine contents.Names [] found = names_answer_fine found
contents_answered_fine _ _ found = tt

pub reply_fine : (asked : Member) (arguments : List Value) (found : AppReply)
    → Fine (application.reply_answer asked arguments found)
reply_fine (member.ApplicationContents what) arguments found = contents_answered_fine what arguments found
reply_fine member.ApplicationLock arguments found = closed_fine found
reply_fine member.ApplicationUnlock arguments found = closed_fine found
reply_fine _ arguments found = tt
