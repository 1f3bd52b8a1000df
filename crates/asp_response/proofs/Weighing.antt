-- The size of what a page has put into the head: at most 65,536 bytes, whatever it says.
use Rattle.std.proofs.Common.{◌≡◌, ℕ, ◌≤◌, Bool, true, false, List, [], ◌∷◌, refl, sym, ap, ◌∙◌, arith}
use Rattle.std.specs.Prelude.{◌++◌, ◌&&◌, not, length, Result, Ok, Err, cond, encode_utf8_all}
use Rattle.std.specs.Prelude.{is_some, nat_lt, take}
use Rattle.std.proofs.lemmas.Bool.{cond_both}
use Rattle.std.proofs.lemmas.Bool.Decides.{nat_tests}
use Rattle.vb_value.specs.declared.limit.LimitKind.TheVariants.{Body}
use Rattle.asp_response.specs.declared.stop.DraftStop.TheVariants as stop
use Rattle.asp_response.specs.Calls.{DraftCall, Write, Clear, Flush, Buffer, Status, ContentType, Charset, Cache, Field}
use Rattle.asp_response.specs.Calls.{Cookie, Part, Redirect, Secure, after, said_by, where_done}
use Rattle.asp_response.specs.declared.stop.DraftStop.{DraftStop}
use Rattle.asp_response.specs.Draft.{Done, body_answer, both, change_answer, done, fixed, head_answer, moved_body}
use Rattle.asp_response.specs.Draft.{redirected, settled, with_cache, with_charset, with_content_type, with_cookie_part}
use Rattle.asp_response.specs.Draft.{with_cookie_secure, with_cookie_text, with_header, with_status, write_answer, written}
use Rattle.asp_response.specs.Head.{is_reserved, is_token, is_value, status_in}
use Rattle.asp_response.specs.HeadSize.{head_size, head_within}
use Rattle.asp_response.specs.HeadSize.{cache_size, location_size, status_size, type_size}
use Rattle.asp_response.specs.View.{Draft}

-- ---- one call

-- a size that the head may have
pub room : (size head : ℕ) → Ok head ≡ head_within size → (head ≡ size) × (size ≤ 65536)
room size head told = go (nat_lt 65536 size) refl told
  where
    go : (past : Bool) → nat_lt 65536 size ≡ past → Ok head ≡ cond past (Err (stop.Limit Body)) (Ok size)
        → (head ≡ size) × (size ≤ 65536)
    go true is told = cc
    go false is told = (cc, grind (arith, nat_tests))

-- a call that fits, and what its size is answered
pub answered : (fits : Bool) (new old : Draft) (size : ℕ) (answer : Result ℕ DraftStop)
    → Ok tt ≡ change_answer fits old.sent → answer ≡ head_within size → size ≡ head_size new
    → head_answer fits new old ≡ done answer
answered fits new old size answer may within is =
    ap (λ (first : Done). both first (done (head_within (head_size new)))) (sym may)
    ∙ ap (λ (n : ℕ). done (head_within n)) (sym is) ∙ ap done (sym within)

-- ---- any calls

-- its head is as large as a head may be
record IsSmall (draft : Draft) : Type 0 where
  pub most : head_size draft ≤ 65536

either : (answer : Done) (new old : Draft) → IsSmall new → IsSmall old → IsSmall (where_done answer new old)
either (Ok done) new old changed small = changed
either (Err stop) new old changed small = small

-- a change of the head, which is done only where there is room, and whatever is asked behind it
changed : (fits sent : Bool) (last : Done) (new old : Draft) → IsSmall old
    → IsSmall (where_done (both (both (change_answer fits sent) (done (head_within (head_size new)))) last) new old)
changed false sent last new old small = small
changed true true last new old small = small
changed true false last new old small = go (nat_lt 65536 (head_size new)) refl
  where
    go : (past : Bool) → nat_lt 65536 (head_size new) ≡ past
        → IsSmall (where_done (both (done (cond past (Err (stop.Limit Body)) (Ok (head_size new)))) last) new old)
    go true is = small
    go false is = either last new old (record { most = grind (arith, nat_tests) }) small

asked : (fits sent : Bool) (new old : Draft) → IsSmall old
    → IsSmall (where_done (both (change_answer fits sent) (done (head_within (head_size new)))) new old)
asked fits sent new old small = go (both (change_answer fits sent) (done (head_within (head_size new))))
    (changed fits sent (Ok tt) new old small)
  where
    go : (answer : Done) → IsSmall (where_done (both answer (Ok tt)) new old) → IsSmall (where_done answer new old)
    go (Ok done) is = is
    go (Err refused) is = is

after_small : (call : DraftCall) (draft : Draft) → IsSmall draft → IsSmall (after call draft)
after_small (Write text) draft small = either (write_answer text draft) (written text draft) draft (written_small) small
  where
    more : Draft
    more = record draft { body = draft.body ++ encode_utf8_all text }

    written_small : IsSmall (written text draft)
    written_small = cond_both (is_some draft.location) draft (settled more) IsSmall (λ has. small)
        (λ none. cond_both more.buffer more (fixed more) IsSmall (λ on. record { most = small.most })
        (λ off. record { most = small.most }))
after_small Clear draft small =
    cond_both (is_some draft.location) draft (record draft { body = take draft.flushed draft.body }) IsSmall
    (λ has. small) (λ none. record { most = small.most })
after_small Flush draft small =
    cond_both (is_some draft.location) draft (fixed draft) IsSmall (λ has. small) (λ none. record { most = small.most })
after_small (Buffer on) draft small = record { most = small.most }
after_small (Redirect url) draft small =
    changed (is_value url) draft.sent (body_answer (length (moved_body url))) (redirected url draft) draft small
after_small (Status text) draft small =
    asked (is_some (status_in text)) draft.sent (with_status text draft) draft small
after_small (ContentType text) draft small =
    asked (is_value text) draft.sent (with_content_type text draft) draft small
after_small (Charset text) draft small = asked (is_value text) draft.sent (with_charset text draft) draft small
after_small (Cache text) draft small = asked (is_value text) draft.sent (with_cache text draft) draft small
after_small (Field name text) draft small =
    asked (is_token name && not (is_reserved name) && is_value text) draft.sent (with_header name text draft) draft small
after_small (Cookie name key text) draft small =
    asked true draft.sent (with_cookie_text name key text draft) draft small
after_small (Part name of text) draft small =
    asked (is_value text) draft.sent (with_cookie_part name of text draft) draft small
after_small (Secure name on) draft small = asked true draft.sent (with_cookie_secure name on draft) draft small

all_small : (calls : List DraftCall) → IsSmall (said_by calls)
unfolding said_by status_size type_size location_size cache_size
all_small [] = record { most = omega arith }
all_small (call ∷ earlier) = after_small call (said_by earlier) (all_small earlier)

pub said_small : (calls : List DraftCall) → head_size (said_by calls) ≤ 65536
said_small calls = (all_small calls).most
