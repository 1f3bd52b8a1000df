-- Memory does not run out for Response.
use Rattle.std.proofs.Common.{ℕ, nat_lt, Bool, true, false, not, ◌&&◌, ◌||◌}
use Rattle.std.proofs.Common.{if◌then◌else◌, List, [], ◌∷◌, is_some, Ok, Err}
use Rattle.vb_value.specs.declared.value.Value.{Value, Null}
use Rattle.vb_value.specs.declared.limit.LimitKind.TheVariants.{Body}
use Rattle.asp_response.specs.declared.cookie.CookiePart.{CookiePart}
use Rattle.asp_response.specs.declared.stop.DraftStop.TheVariants as stop
use Rattle.asp_response.specs.View.{Draft}
use Rattle.asp_response.specs.Draft as draft
use Rattle.asp_response.specs.Head.{is_reserved, is_token, is_value, status_in}
use Rattle.asp_response.specs.HeadSize.{head_size, head_within}
use Rattle.asp_objects.specs.declared.head.HeadPart.{HeadPart}
use Rattle.asp_objects.specs.declared.head.HeadPart.TheVariants as head
use Rattle.asp_objects.specs.declared.objects.PageObjects.{PageObjects}
use Rattle.asp_objects.specs.Given as answers
use Rattle.asp_objects.specs.ResponseMembers as response
use Rattle.asp_objects.specs.Said.{drafted, stopping}
use Rattle.asp_objects.proofs.Fine.{Fine, FineSaid, text_fine, truth_fine, using_fine}

-- a call on the draft that is done, or refused for another reason than that memory ran out
abbrev pub IsDone : draft.Done → Type 0
IsDone (Ok done) = Unit {0}
IsDone (Err (stop.Error number)) = Unit {0}
IsDone (Err (stop.Limit kind)) = Unit {0}
IsDone (Err stop.Memory) = ⊥

pub either_done : (test : Bool) (first second : draft.Done) → IsDone first → IsDone second
    → IsDone (if test then first else second)
either_done true first second one other = one
either_done false first second one other = other

pub body_done : (count : ℕ) → IsDone (draft.body_answer count)
body_done count = either_done (nat_lt 4194304 count) _ _ tt tt

pub write_done : (text : List ℕ) (said : Draft) → IsDone (draft.write_answer text said)
write_done text said = either_done (is_some said.location) _ _ tt (body_done _)

both_done : (first second : draft.Done) → IsDone first → IsDone second → IsDone (draft.both first second)
both_done (Ok done) second one other = other
both_done (Err (stop.Error number)) second one other = tt
both_done (Err (stop.Limit kind)) second one other = tt
both_done (Err stop.Memory) second one other = one

size_done : (size : ℕ) → IsDone (draft.done (head_within size))
size_done size = go (nat_lt 65536 size)
  where
    go : (past : Bool) → IsDone (draft.done (if past then Err (stop.Limit Body) else Ok size))
    go true = tt
    go false = tt

pub head_done : (fits : Bool) (changed said : Draft) → IsDone (draft.head_answer fits changed said)
head_done fits changed said = both_done (draft.change_answer fits said.sent) (draft.done (head_within (head_size changed)))
    (either_done (not fits) _ _ tt (either_done said.sent _ _ tt tt)) (size_done (head_size changed))

pub redirect_done : (url : List ℕ) (said : Draft) → IsDone (draft.redirect_answer url said)
redirect_done url said =
    both_done (draft.head_answer (is_value url) (draft.redirected url said) said) _
    (head_done (is_value url) (draft.redirected url said) said) (body_done _)

pub drafted_fine : (done : draft.Done) (changed objects : PageObjects) → IsDone done
    → FineSaid (drafted done changed objects)
drafted_fine (Ok done) changed objects fine = tt
drafted_fine (Err (stop.Error number)) changed objects fine = tt
drafted_fine (Err (stop.Limit kind)) changed objects fine = tt
drafted_fine (Err stop.Memory) changed objects fine = fine

pub stopping_fine : (done : draft.Done) (changed objects : PageObjects) → IsDone done
    → FineSaid (stopping done changed objects)
stopping_fine (Ok done) changed objects fine = tt
stopping_fine (Err (stop.Error number)) changed objects fine = tt
stopping_fine (Err (stop.Limit kind)) changed objects fine = tt
stopping_fine (Err stop.Memory) changed objects fine = fine

pub written_fine : (what : Value) → Fine (response.written_text what)
written_fine Null = tt
written_fine what = text_fine what

pub write_fine : (arguments : List Value) (objects : PageObjects) → FineSaid (response.write_asked arguments objects)
write_fine (what ∷ []) objects = using_fine (response.written_text what) _ objects (written_fine what)
    (λ text. drafted_fine _ _ objects (write_done text objects.draft))
write_fine [] objects = tt
write_fine (what ∷ more ∷ others) objects = tt

pub redirect_fine : (arguments : List Value) (objects : PageObjects)
    → FineSaid (response.redirect_asked arguments objects)
redirect_fine (url ∷ []) objects = using_fine (answers.text_in url) _ objects (text_fine url)
    (λ text. stopping_fine _ _ objects (redirect_done text objects.draft))
redirect_fine [] objects = tt
redirect_fine (url ∷ more ∷ others) objects = tt

pub buffer_fine : (arguments : List Value) (objects : PageObjects) → FineSaid (response.buffer_asked arguments objects)
buffer_fine [] objects = tt
buffer_fine (on ∷ []) objects = using_fine (answers.truth_in on) _ objects (truth_fine on) (λ truth. tt)
buffer_fine (on ∷ more ∷ others) objects = tt

pub set_fine : (of : HeadPart) (text : List ℕ) (objects : PageObjects) → FineSaid (response.head_set of text objects)
set_fine head.ContentType text objects =
    let changed = draft.with_content_type text objects.draft in
    drafted_fine _ (record objects { draft = changed; content_type = text }) objects
    (head_done (is_value text) changed objects.draft)
set_fine head.Charset text objects =
    let changed = draft.with_charset text objects.draft in
    drafted_fine _ (record objects { draft = changed; charset = text }) objects
    (head_done (is_value text) changed objects.draft)
set_fine head.Status text objects =
    let changed = draft.with_status text objects.draft in
    drafted_fine _ (record objects { draft = changed; status = text }) objects
    (head_done (is_some (status_in text)) changed objects.draft)
set_fine head.CacheControl text objects =
    let changed = draft.with_cache text objects.draft in
    drafted_fine _ (record objects { draft = changed; cache = text }) objects
    (head_done (is_value text) changed objects.draft)

pub head_fine : (of : HeadPart) (arguments : List Value) (objects : PageObjects)
    → FineSaid (response.head_asked of arguments objects)
head_fine of [] objects = tt
head_fine of (text ∷ []) objects =
    using_fine (answers.text_in text) _ objects (text_fine text) (λ found. set_fine of found objects)
head_fine of (text ∷ more ∷ others) objects = tt

pub field_fine : (name text : List ℕ) (objects : PageObjects) → FineSaid (response.with_header name text objects)
field_fine name text objects =
    let changed = draft.with_header name text objects.draft in
    drafted_fine _ (response.with_draft changed objects) objects
    (head_done (is_token name && not (is_reserved name) && is_value text) changed objects.draft)

pub header_fine : (arguments : List Value) (objects : PageObjects) → FineSaid (response.header_asked arguments objects)
header_fine (name ∷ text ∷ []) objects = using_fine (answers.text_in name) _ objects (text_fine name) (λ named.
    using_fine (answers.text_in text) _ objects (text_fine text) (λ found. field_fine named found objects))
header_fine [] objects = tt
header_fine (name ∷ []) objects = tt
header_fine (name ∷ text ∷ more ∷ others) objects = tt

pub cookie_text_fine : (name key text : List ℕ) (objects : PageObjects)
    → FineSaid (response.with_cookie name key text objects)
cookie_text_fine name key text objects =
    let changed = draft.with_cookie_text name key text objects.draft in
    drafted_fine _ (response.with_draft changed objects) objects (head_done true changed objects.draft)

pub cookie_part_fine : (of : CookiePart) (name text : List ℕ) (objects : PageObjects)
    → FineSaid (response.with_part of name text objects)
cookie_part_fine of name text objects =
    let changed = draft.with_cookie_part name of text objects.draft in
    drafted_fine _ (response.with_draft changed objects) objects (head_done (is_value text) changed objects.draft)

pub cookie_secure_fine : (name : List ℕ) (on : Bool) (objects : PageObjects)
    → FineSaid (response.with_secure name on objects)
cookie_secure_fine name on objects =
    let changed = draft.with_cookie_secure name on objects.draft in
    drafted_fine _ (response.with_draft changed objects) objects (head_done true changed objects.draft)

pub cookie_fine : (arguments : List Value) (objects : PageObjects) → FineSaid (response.cookie_asked arguments objects)
cookie_fine (name ∷ text ∷ []) objects = using_fine (answers.text_in name) _ objects (text_fine name) (λ named.
    using_fine (answers.text_in text) _ objects (text_fine text) (λ found. cookie_text_fine named [] found objects))
cookie_fine [] objects = tt
cookie_fine (name ∷ []) objects = tt
cookie_fine (name ∷ text ∷ more ∷ others) objects = tt

pub pair_fine : (arguments : List Value) (objects : PageObjects) → FineSaid (response.pair_asked arguments objects)
pair_fine (name ∷ key ∷ text ∷ []) objects = using_fine (answers.text_in name) _ objects (text_fine name) (λ named.
    using_fine (answers.text_in key) _ objects (text_fine key) (λ keyed.
    using_fine (answers.text_in text) _ objects (text_fine text) (λ found.
    cookie_text_fine named keyed found objects)))
pair_fine [] objects = tt
pair_fine (name ∷ []) objects = tt
pair_fine (name ∷ key ∷ []) objects = tt
pair_fine (name ∷ key ∷ text ∷ more ∷ others) objects = tt

pub part_fine : (of : CookiePart) (arguments : List Value) (objects : PageObjects)
    → FineSaid (response.part_asked of arguments objects)
part_fine of (name ∷ text ∷ []) objects = using_fine (answers.text_in name) _ objects (text_fine name) (λ named.
    using_fine (answers.text_in text) _ objects (text_fine text) (λ found. cookie_part_fine of named found objects))
part_fine of [] objects = tt
part_fine of (name ∷ []) objects = tt
part_fine of (name ∷ text ∷ more ∷ others) objects = tt

pub secure_fine : (arguments : List Value) (objects : PageObjects) → FineSaid (response.secure_asked arguments objects)
secure_fine (name ∷ on ∷ []) objects = using_fine (answers.text_in name) _ objects (text_fine name) (λ named.
    using_fine (answers.truth_in on) _ objects (truth_fine on) (λ truth. cookie_secure_fine named truth objects))
secure_fine [] objects = tt
secure_fine (name ∷ []) objects = tt
secure_fine (name ∷ on ∷ more ∷ others) objects = tt
