-- The members of Session (ASP 3.0, "Session Object"). A value that may not be kept is a Type mismatch, and a place
-- without an entry Subscript out of range. An entry by which the session would weigh too much is the limit Session.
use Rattle.std.specs.Prelude.{ℕ, nat_le, ℤ, pos, negsuc, true, ◌&&◌, if◌then◌else◌, List, [], ◌∷◌, length, slice_get}
use Rattle.std.specs.Prelude.{Option, Some, None, Result, Ok, Err}
use Rattle.vb_value.specs.declared.limit.LimitKind.TheVariants as limit
use Rattle.vb_value.specs.declared.value.Value.{Value, Long}
use Rattle.vb_value.specs.Errors.{object_required, invalid_call, out_of_range}
use Rattle.vb_syntax.specs.declared.act.AskStop.{AskStop}
use Rattle.vb_syntax.specs.declared.act.AskStop.TheVariants as why
use Rattle.vb_syntax.specs.declared.act.Given.TheVariants as given
use Rattle.vb_syntax.specs.declared.member.ContentsPart.{ContentsPart}
use Rattle.vb_syntax.specs.declared.member.ContentsPart.TheVariants as part
use Rattle.asp_job.specs.declared.session.Named.{Named}
use Rattle.asp_job.specs.declared.session.SessionState.{SessionState}
use Rattle.asp_objects.specs.declared.choosing.Chosen.{Chosen}
use Rattle.asp_objects.specs.declared.choosing.Chosen.TheVariants as which
use Rattle.asp_objects.specs.declared.objects.PageObjects.{PageObjects}
use Rattle.asp_objects.specs.Choosing.{chosen, shared}
use Rattle.asp_objects.specs.Entries.{value_under, with_value, without, names_of, is_full}
use Rattle.asp_objects.specs.Given.{Answer, failed, and_then, long_in, before_place, value, count, item_at}
use Rattle.asp_objects.specs.Said.{Said, SaidOf, told, using_it, became}

-- ---- entries

-- the name of an entry, which has to be there
abbrev pub name_there : Option Named → Result (List ℕ) AskStop
name_there (Some entry) = Ok entry.name
name_there None = failed out_of_range

-- the name of the entry that is meant
abbrev pub name_in : List Named → Chosen → Result (List ℕ) AskStop
name_in entries (which.Name name) = Ok name
name_in entries (which.Place place) =
    and_then (before_place place) (λ before. name_there (slice_get entries before))

abbrev pub name_of : List Named → Value → Result (List ℕ) AskStop
name_of entries key = and_then (chosen key) (name_in entries)

-- an entry that is read
abbrev pub item_read : Value → SessionState → Answer
item_read key session = and_then (name_of session.values key) (λ name. value (value_under name session.values))

-- the session with other entries
abbrev pub with_values : List Named → SessionState → SessionState
with_values entries session = record session { values = entries }

-- the session with these entries, unless they weigh too much: then nothing changes
abbrev pub filled : List Named → SessionState → SaidOf SessionState
filled entries session =
    if is_full entries then Err (why.Limit limit.Session, session) else became (with_values entries session)

-- an entry that is written
abbrev pub stored : List ℕ → Value → SessionState → SaidOf SessionState
stored name what session = filled (with_value name what session.values) session

abbrev pub item_written : Value → Value → SessionState → SaidOf SessionState
item_written key what session = using_it (chosen key) (λ which. using_it (shared what) (λ kept.
    using_it (name_in session.values which) (λ name. stored name kept))) session

-- an entry that is taken away
abbrev pub removed : Value → SessionState → SaidOf SessionState
removed key session = using_it (name_of session.values key) (λ name session.
    became (with_values (without name session.values) session)) session

-- the names of its entries
abbrev pub names_in : SessionState → List (List ℕ)
names_in session = names_of session.values

-- what Contents answers that changes nothing
unfoldable pub contents_read : ContentsPart → List Value → SessionState → Answer
contents_read part.Item (key ∷ []) session = item_read key session
contents_read part.Count [] session = count (length session.values)
contents_read part.Key (index ∷ []) session = and_then (long_in index) (item_at (names_in session))
contents_read part.Names [] session = Ok (given.Names (names_in session))
contents_read _ _ session = failed object_required

-- What Contents answers. A value behind the arguments of an item is written.
unfoldable pub contents : ContentsPart → List Value → SessionState → SaidOf SessionState
contents part.Item (key ∷ what ∷ []) session = item_written key what session
contents part.Remove (key ∷ []) session = removed key session
contents part.RemoveAll [] session = became (with_values [] session)
contents part arguments session = told (contents_read part arguments session) session

-- ---- the session itself

-- SessionID
abbrev pub serial : SessionState → SaidOf SessionState
serial session = told (value (Long (pos session.serial))) session

-- a number of minutes: from 1 to 1,440
abbrev pub minutes : ℤ → Result ℕ AskStop
minutes (pos n) = if nat_le 1 n && nat_le n 1440 then Ok n else failed invalid_call
minutes (negsuc n) = failed invalid_call

abbrev pub lasting : ℕ → SessionState → SaidOf SessionState
lasting minutes session = became (record session { timeout = minutes })

-- Timeout is read, or set
abbrev pub timeout : List Value → SessionState → SaidOf SessionState
timeout [] session = told (value (Long (pos session.timeout))) session
timeout (number ∷ []) session = using_it (and_then (long_in number) minutes) lasting session
timeout _ session = told (failed object_required) session

-- ---- in a page's objects

abbrev pub with_session : SessionState → PageObjects → PageObjects
with_session changed objects = record objects { session = Some changed }

-- what the session says, as what the objects say
abbrev pub lifted : SaidOf SessionState → PageObjects → Said
lifted (Ok (what, session)) objects = Ok (what, with_session session objects)
lifted (Err (stop, session)) objects = Err (stop, with_session session objects)

abbrev pub session_in : Option SessionState → (SessionState → SaidOf SessionState) → PageObjects → Said
session_in (Some session) next objects = lifted (next session) objects
session_in None next objects = told (failed object_required) objects

-- what the session is asked; Object required where there is none
abbrev pub session_asked : (SessionState → SaidOf SessionState) → PageObjects → Said
session_asked next objects = session_in objects.session next objects

abbrev pub abandoned_in : Option SessionState → PageObjects → Said
abandoned_in (Some session) objects = became (record objects { is_abandoned = true })
abandoned_in None objects = told (failed object_required) objects

-- Abandon: the session ends behind the page, and stays until then
abbrev pub abandoned : PageObjects → Said
abandoned objects = abandoned_in objects.session objects
