-- Where a target is cut.
use Rattle.std.proofs.Common.{◌≡◌, ℕ, ◌+◌, ◌-◌, ◌<◌, List, [], length, take, drop, sym, ap, ◌∙◌, arith, true, false}
use Rattle.std.proofs.Common.{cond, Some, None}
use Rattle.std.specs.Prelude.{position, nat_lt, ◌&&◌}
use Rattle.std.specs.List.{position_or_len, before_first, after_first}
use Rattle.std.proofs.lemmas.Bool.Decides.{nat_tests}
use Rattle.std.proofs.lemmas.List.{take_all, length-drop}
use Rattle.std.proofs.Math.ListN.{drop_of_length-le}
use Rattle.asp_text.proofs.Places.{place_is, no_place}
use Rattle.http_front.specs.Target.{is_slash, is_question, after_host}

-- the rest of a slice, as code cuts it
rest_is : (bytes : List ℕ) (at : ℕ) → take (length bytes - at) (drop at bytes) ≡ drop at bytes
rest_is bytes at = take_all (length bytes - at) (drop at bytes) (omega (arith, length-drop at bytes))

pub host_ends : (bytes : List ℕ) (host : ℕ) → position is_slash bytes ≡ Some host → 0 < host
    → after_host bytes ≡ Some (take (length bytes - host) (drop host bytes))
host_ends bytes host found some =
    let place = place_is is_slash bytes host found in
    let test : (nat_lt 0 (position_or_len is_slash bytes) && nat_lt (position_or_len is_slash bytes) (length bytes)) ≡ true =
    grind (arith, nat_tests, place.0, place.1) in
    ap (λ t. cond t (Some (drop (position_or_len is_slash bytes) bytes)) None) test
    ∙ ap (λ k. Some (drop k bytes)) place.0 ∙ ap Some (sym (rest_is bytes host))

pub empty_host : (bytes : List ℕ) → position is_slash bytes ≡ Some 0 → after_host bytes ≡ None
empty_host bytes found =
    let place = place_is is_slash bytes 0 found in
    let test : (nat_lt 0 (position_or_len is_slash bytes) && nat_lt (position_or_len is_slash bytes) (length bytes)) ≡ false =
    grind (arith, nat_tests, place.0) in
    ap (λ t. cond t (Some (drop (position_or_len is_slash bytes) bytes)) None) test

pub no_host : (bytes : List ℕ) → position is_slash bytes ≡ None → after_host bytes ≡ None
no_host bytes none =
    let place = no_place is_slash bytes none in
    let test : (nat_lt 0 (position_or_len is_slash bytes) && nat_lt (position_or_len is_slash bytes) (length bytes)) ≡ false =
    grind (arith, nat_tests, place) in
    ap (λ t. cond t (Some (drop (position_or_len is_slash bytes) bytes)) None) test

pub cut_there : (bytes : List ℕ) (at : ℕ) → position is_question bytes ≡ Some at → take at bytes ≡ before_first is_question bytes
cut_there bytes at found = ap (λ k. take k bytes) (sym (place_is is_question bytes at found).0)

pub uncut : (bytes : List ℕ) → position is_question bytes ≡ None → bytes ≡ before_first is_question bytes
uncut bytes none =
    sym (take_all (position_or_len is_question bytes) bytes (omega (arith, no_place is_question bytes none)))

pub cut_behind : (bytes : List ℕ) (at : ℕ) → position is_question bytes ≡ Some at
    → take (length bytes - (at + 1)) (drop (at + 1) bytes) ≡ after_first is_question bytes
cut_behind bytes at found =
    rest_is bytes (at + 1) ∙ ap (λ k. drop (k + 1) bytes) (sym (place_is is_question bytes at found).0)

pub nothing_behind : (bytes : List ℕ) → position is_question bytes ≡ None → [] ≡ after_first is_question bytes
nothing_behind bytes none =
    sym (drop_of_length-le bytes {i = position_or_len is_question bytes + 1} (omega (arith, no_place is_question bytes none)))
