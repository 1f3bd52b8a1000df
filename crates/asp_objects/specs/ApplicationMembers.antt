-- The members of Application (ASP 3.0, "Application Object"). Each asks for a call of it, and says what its reply gives.
-- By a place an entry is found first by its name: where none is, that is Subscript out of range. A value that may not be
-- kept is a Type mismatch, and a write for which there is no room the limit Application.
use Rattle.std.specs.Prelude.{ℕ, List, [], ◌∷◌, Ok, Err}
use Rattle.vb_value.specs.declared.application.AppCall.{AppCall}
use Rattle.vb_value.specs.declared.application.AppCall.TheVariants as call
use Rattle.vb_value.specs.declared.application.AppReply.{AppReply}
use Rattle.vb_value.specs.declared.application.AppReply.TheVariants as reply
use Rattle.vb_value.specs.declared.limit.LimitKind.TheVariants as limit
use Rattle.vb_value.specs.declared.value.Value.{Value, Empty, Long, Str}
use Rattle.vb_value.specs.Errors.{object_required, out_of_range}
use Rattle.vb_syntax.specs.declared.act.AskStop.TheVariants as why
use Rattle.vb_syntax.specs.declared.act.Given.TheVariants as given
use Rattle.vb_syntax.specs.declared.member.ContentsPart.{ContentsPart}
use Rattle.vb_syntax.specs.declared.member.ContentsPart.TheVariants as part
use Rattle.vb_syntax.specs.declared.member.Member.{Member}
use Rattle.vb_syntax.specs.declared.member.Member.TheVariants as member
use Rattle.asp_objects.specs.declared.choosing.Chosen.{Chosen}
use Rattle.asp_objects.specs.declared.choosing.Chosen.TheVariants as which
use Rattle.asp_objects.specs.Choosing.{chosen, shared}
use Rattle.asp_objects.specs.Given.{Answer, failed, and_then, long_in, value}

-- ---- calls

-- the call is wanted
abbrev pub wants : AppCall → Answer
wants call = Ok (given.Call call)

-- the first call by which an entry is read, written or taken away
abbrev pub get_call : Chosen → AppCall
get_call (which.Name name) = call.Get name
get_call (which.Place place) = call.KeyAt place

abbrev pub put_call : Value → Chosen → AppCall
put_call what (which.Name name) = call.Put name what
put_call what (which.Place place) = call.KeyAt place

abbrev pub remove_call : Chosen → AppCall
remove_call (which.Name name) = call.Remove name
remove_call (which.Place place) = call.KeyAt place

-- What Contents wants. A value behind the arguments of an item is written.
unfoldable pub contents_asked : ContentsPart → List Value → Answer
contents_asked part.Item (key ∷ []) = and_then (chosen key) (λ chosen. wants (get_call chosen))
contents_asked part.Item (key ∷ what ∷ []) =
    and_then (chosen key) (λ chosen. and_then (shared what) (λ kept. wants (put_call kept chosen)))
contents_asked part.Count [] = wants call.Count
contents_asked part.Key (index ∷ []) = and_then (long_in index) (λ place. wants (call.KeyAt place))
contents_asked part.Remove (key ∷ []) = and_then (chosen key) (λ chosen. wants (remove_call chosen))
contents_asked part.RemoveAll [] = wants call.RemoveAll
contents_asked part.Names [] = wants call.Names
contents_asked _ _ = failed object_required

-- ---- replies

-- what a reply gives that is no entry, no number and no names
abbrev pub closed : AppReply → Answer
closed reply.Done = value Empty
closed reply.NoName = failed out_of_range
closed reply.Full = Err (why.Limit limit.Application)
closed _ = failed object_required

-- what an item gives that is read, written or taken away: by a place its name comes first
abbrev pub read_answer : AppReply → Answer
read_answer (reply.Value what) = value what
read_answer (reply.Name name) = wants (call.Get name)
read_answer other = closed other

abbrev pub written_answer : Value → AppReply → Answer
written_answer what (reply.Name name) = and_then (shared what) (λ kept. wants (call.Put name kept))
written_answer what other = closed other

abbrev pub removed_answer : AppReply → Answer
removed_answer (reply.Name name) = wants (call.Remove name)
removed_answer other = closed other

abbrev pub count_answer : AppReply → Answer
count_answer (reply.Number number) = value (Long number)
count_answer other = closed other

abbrev pub key_answer : AppReply → Answer
key_answer (reply.Name name) = value (Str name)
key_answer other = closed other

abbrev pub names_answer : AppReply → Answer
names_answer (reply.Names names) = Ok (given.Names names)
names_answer other = closed other

-- what Contents says once a call has its reply
unfoldable pub contents_answered : ContentsPart → List Value → AppReply → Answer
contents_answered part.Item (key ∷ []) reply = read_answer reply
contents_answered part.Item (key ∷ what ∷ []) reply = written_answer what reply
contents_answered part.Count [] reply = count_answer reply
contents_answered part.Key (index ∷ []) reply = key_answer reply
contents_answered part.Remove (key ∷ []) reply = removed_answer reply
contents_answered part.RemoveAll [] reply = closed reply
contents_answered part.Names [] reply = names_answer reply
contents_answered _ _ reply = failed object_required

-- what a member says once a call has its reply
abbrev pub reply_answer : Member → List Value → AppReply → Answer
reply_answer (member.ApplicationContents part) arguments reply = contents_answered part arguments reply
reply_answer member.ApplicationLock arguments reply = closed reply
reply_answer member.ApplicationUnlock arguments reply = closed reply
reply_answer _ arguments reply = failed object_required
