-- How many bytes a cookie takes in the head, by its parts.
use Rattle.std.proofs.Common.{◌≡◌, ◌≢◌, ℕ, ◌+◌, ◌<◌, Bool, true, false, List, [], ◌∷◌, ◌++◌, length, refl, sym, ap, ◌∙◌}
use Rattle.std.proofs.Common.{arith, length-append, if◌then◌else◌, ◌==◌}
use Rattle.std.specs.Prelude.{Option, Some, Result, Ok, Err, IfOk, codes, encode_utf8_all, flat_map, get_or}
use Rattle.std.specs.Prelude.{slice_index_or, slice_set, sum_by}
use Rattle.std.proofs.lemmas.Bool.Decides.{nat_tests}
use Rattle.std.proofs.lemmas.List.{get_or_default, length-set}
use Rattle.std.proofs.lemmas.List.Sums.{get_or-le-sum_by, sum_by-append, sum_by-cons, sum_by-set}
use Rattle.std.proofs.lemmas.Str.{encodes-append}
use Rattle.asp_text.specs.Url.{url_encoded}
use Rattle.vb_value.specs.declared.memory.Memory.{Memory}
use Rattle.asp_response.specs.declared.cookie.Cookie.{Cookie}
use Rattle.asp_response.specs.declared.cookie.CookiePair.{CookiePair}
use Rattle.asp_response.specs.declared.cookie.CookieValue.{CookieValue}
use Rattle.asp_response.specs.declared.cookie.CookieValue.TheVariants.{Whole}
use Rattle.asp_response.specs.declared.head_size.Change.{Change}
use Rattle.asp_response.specs.Cookies.{put_at, set_value}
use Rattle.asp_response.specs.Finish.{cookie_text, domain_text, next_pair, pair_text, pairs_text}
use Rattle.asp_response.specs.Finish.{secure_text, value_text}
use Rattle.asp_response.specs.Head.{is_value}
use Rattle.asp_response.specs.HeadSize.{Resizes, bytes_in, cookie_size, cookies_size, field_size}
use Rattle.asp_response.proofs.Printable.{printable_of, utf8_stays}

bytes_more : (one other : List ℕ) → bytes_in (one ++ other) ≡ bytes_in one + bytes_in other
bytes_more one other = ap length (encodes-append one other) ∙ length-append (encode_utf8_all one) (encode_utf8_all other)

-- a text of printable characters has a byte for each
plain : (text : List ℕ) → is_value text ≡ true → bytes_in text ≡ length text
plain text fits = ap length (utf8_stays text (printable_of text fits).each)

-- ---- pairs

pair_bytes : (pair : CookiePair)
    → bytes_in (pair_text pair) ≡ bytes_in (url_encoded pair.key) + (1 + bytes_in (url_encoded pair.text))
pair_bytes pair = omega (
  arith,
  bytes_more (url_encoded pair.key ++ codes "=") (url_encoded pair.text),
  bytes_more (url_encoded pair.key) (codes "="),
  plain (codes "=") refl,
)

abbrev next_bytes : CookiePair → ℕ
next_bytes pair = bytes_in (next_pair pair)

next_more : (pair : CookiePair) → next_bytes pair ≡ 1 + bytes_in (pair_text pair)
next_more pair = bytes_more (codes "&") (pair_text pair)
    ∙ ap (λ n. n + bytes_in (pair_text pair)) (plain (codes "&") refl)

rest_bytes : (pairs : List CookiePair) → bytes_in (flat_map next_pair pairs) ≡ sum_by next_bytes pairs
rest_bytes [] = refl
rest_bytes (pair ∷ pairs) = bytes_more (next_pair pair) (flat_map next_pair pairs)
    ∙ ap (λ n. next_bytes pair + n) (rest_bytes pairs) ∙ sym (sum_by-cons next_bytes pair pairs)

-- pairs are written with a `&` between them, which is one less than they are
pairs_bytes : (pairs : List CookiePair) → 0 < length pairs → bytes_in (pairs_text pairs) + 1 ≡ sum_by next_bytes pairs
unfolding pairs_text
pairs_bytes [] some = grind arith
pairs_bytes (pair ∷ pairs) some =
    omega (
      arith,
      bytes_more (pair_text pair) (flat_map next_pair pairs),
      rest_bytes pairs,
      next_more pair,
      sum_by-cons next_bytes pair pairs,
    )

no_bytes : bytes_in (pairs_text []) ≡ 0
unfolding pairs_text
no_bytes = refl

-- a pair more, as the first or behind others
pub pair_more : (pairs : List CookiePair) (pair : CookiePair) (first : Bool) (will : ℕ) → first ≡ (length pairs == 0)
    → will ≡ bytes_in (if first then pair_text pair else next_pair pair)
    → Resizes (bytes_in (pairs_text pairs)) (bytes_in (pairs_text (pairs ++ pair ∷ []))) 0 will
pair_more [] pair true will is told = record {
  within = omega arith;
  sum = omega (arith, pairs_bytes (pair ∷ []) (omega arith), next_more pair, no_bytes, told);
}
pair_more [] pair false will is told = cc
pair_more (other ∷ pairs) pair true will is told =
    let none : length (other ∷ pairs) ≡ 0 = grind (arith, nat_tests) in absurd (omega (arith, none))
pair_more (other ∷ pairs) pair false will is told = record {
  within = omega arith;
  sum = omega (
    arith,
    pairs_bytes (other ∷ pairs ++ pair ∷ []) (omega arith),
    pairs_bytes (other ∷ pairs) (omega arith),
    sum_by-append next_bytes (other ∷ pairs) (pair ∷ []),
    told,
  );
}

-- the only pair
pub pair_alone : (pair : CookiePair) → bytes_in (pairs_text (pair ∷ [])) ≡ bytes_in (pair_text pair)
pair_alone pair = omega (arith, pairs_bytes (pair ∷ []) (omega arith), next_more pair)

-- another text beside a key
pub pair_set : (pairs : List CookiePair) (at : ℕ) (old new : CookiePair) (text : List ℕ) → at < length pairs
    → slice_index_or pairs at new ≡ old
    → Resizes (bytes_in (pairs_text pairs)) (bytes_in (pairs_text (slice_set pairs at (record old { text = text }))))
    (bytes_in (url_encoded old.text)) (bytes_in (url_encoded text))
pair_set pairs at old new text within is =
    let changed : CookiePair = record old { text = text } in
    let some : 0 < length pairs = omega arith in
    let still : 0 < length (slice_set pairs at changed) = rw (length-set pairs at changed) some in
    let before = pairs_bytes pairs some in
    let after = pairs_bytes (slice_set pairs at changed) still in
    let one = rw is at (get_or-le-sum_by next_bytes pairs at new within) in
    let sums = rw is at (sum_by-set next_bytes pairs at changed new within) in
    record {
      within = omega (arith, before, one, next_more old, pair_bytes old);
      sum = omega (arith, before, after, sums, next_more old, pair_bytes old, next_more changed, pair_bytes changed);
    }

-- ---- cookies

-- the bytes of a cookie, and of its parts
pub cookie_bytes : (cookie : Cookie) → cookie_size cookie ≡ 22 + (bytes_in (url_encoded cookie.name)
    + (bytes_in (value_text cookie.value) + (bytes_in cookie.path
    + (bytes_in (domain_text cookie.domain) + bytes_in (secure_text cookie.secure)))))
unfolding field_size cookie_text
cookie_bytes cookie =
    let named = url_encoded cookie.name ++ codes "=" in
    let valued = named ++ value_text cookie.value in
    let pathed = valued ++ codes "; path=" in
    let path = pathed ++ cookie.path in
    let domain = path ++ domain_text cookie.domain in
    let text = domain ++ secure_text cookie.secure in
    let name = encode_utf8_all (codes "Set-Cookie") in
    let front = name ++ codes ": " in
    let field = front ++ encode_utf8_all text in
    let size : cookie_size cookie ≡ length (field ++ 13 ∷ 10 ∷ []) = refl in
    omega (
      arith,
      size,
      bytes_more domain (secure_text cookie.secure),
      bytes_more path (domain_text cookie.domain),
      bytes_more pathed cookie.path,
      bytes_more valued (codes "; path="),
      plain (codes "; path=") refl,
      bytes_more named (value_text cookie.value),
      bytes_more (url_encoded cookie.name) (codes "="),
      plain (codes "=") refl,
      length-append front (encode_utf8_all text),
      length-append name (codes ": "),
      plain (codes "Set-Cookie") refl,
      length-append field (13 ∷ 10 ∷ []),
    )

-- a cookie more
pub cookie_more : (cookies : List Cookie) (cookie : Cookie)
    → Resizes (cookies_size cookies) (cookies_size (cookies ++ cookie ∷ [])) 0 (cookie_size cookie)
cookie_more cookies cookie = record {
  within = omega arith;
  sum = omega (arith, sum_by-append cookie_size cookies (cookie ∷ []));
}

-- another cookie in the place of one
pub cookie_set : (cookies : List Cookie) (at : ℕ) (new changed : Cookie) (was will : ℕ) → at < length cookies
    → Resizes (cookie_size (slice_index_or cookies at new)) (cookie_size changed) was will
    → Resizes (cookies_size cookies) (cookies_size (slice_set cookies at changed)) was will
cookie_set cookies at new changed was will within is = record {
  within = omega (arith, is.within, get_or-le-sum_by cookie_size cookies at new within);
  sum = omega (arith, is.sum, sum_by-set cookie_size cookies at changed new within);
}

-- ---- the calls that change a cookie

-- a part of a cookie in the place of another
value_in : (cookie : Cookie) (value : CookieValue) (was will : ℕ)
    → Resizes (bytes_in (value_text cookie.value)) (bytes_in (value_text value)) was will
    → Resizes (cookie_size cookie) (cookie_size (record cookie { value = value })) was will
value_in cookie value was will is = record {
  within = omega (arith, is.within, cookie_bytes cookie);
  sum = omega (arith, is.sum, cookie_bytes cookie, cookie_bytes (record cookie { value = value }));
}

pub path_in : (cookie : Cookie) (path : List ℕ)
    → Resizes (cookie_size cookie) (cookie_size (record cookie { path = path })) (bytes_in cookie.path) (bytes_in path)
path_in cookie path = record {
  within = omega (arith, cookie_bytes cookie);
  sum = omega (arith, cookie_bytes cookie, cookie_bytes (record cookie { path = path }));
}

pub domain_in : (cookie : Cookie) (domain : List ℕ)
    → Resizes (cookie_size cookie) (cookie_size (record cookie { domain = domain }))
    (bytes_in (domain_text cookie.domain)) (bytes_in (domain_text domain))
domain_in cookie domain = record {
  within = omega (arith, cookie_bytes cookie);
  sum = omega (arith, cookie_bytes cookie, cookie_bytes (record cookie { domain = domain }));
}

pub secure_in : (cookie : Cookie) (secure : Bool)
    → Resizes (cookie_size cookie) (cookie_size (record cookie { secure = secure }))
    (bytes_in (secure_text cookie.secure)) (bytes_in (secure_text secure))
secure_in cookie secure = record {
  within = omega (arith, cookie_bytes cookie);
  sum = omega (arith, cookie_bytes cookie, cookie_bytes (record cookie { secure = secure }));
}

-- a change that was found, unless memory ran out
abbrev pub Found : Result Change Memory → ℕ → ℕ → Type 0
Found found old new = IfOk found (λ change. Resizes old new change.was change.will)

pub value_found : (cookie : Cookie) (value : CookieValue) (found : Result Change Memory)
    → Found found (bytes_in (value_text cookie.value)) (bytes_in (value_text value))
    → Found found (cookie_size cookie) (cookie_size (record cookie { value = value }))
value_found cookie value (Ok change) is = value_in cookie value change.was change.will is
value_found cookie value (Err stop) is = tt

-- a pair in the place of a whole text
pub whole_keyed : (value : CookieValue) (whole key text : List ℕ) (was will : ℕ) → value ≡ Whole whole → key ≢ []
    → was ≡ bytes_in (url_encoded whole) → will ≡ bytes_in (pair_text (record { key = key; text = text }))
    → Resizes (bytes_in (value_text value)) (bytes_in (value_text (set_value key text value))) was will
whole_keyed value whole [] text was will is some gone come = absurd (some refl)
whole_keyed value whole (first ∷ key) text was will is some gone come =
    rw (is, gone, come) (let pair : CookiePair = record { key = first ∷ key; text = text } in record {
      within = omega arith;
      sum = omega (arith, pair_alone pair);
    })

pub set_found : (cookies : List Cookie) (place : Option ℕ) (at : ℕ) (new old : Cookie) (change : Cookie → Cookie)
    (found : Result Change Memory) → place ≡ Some at → at < length cookies → old ≡ get_or cookies at old
    → Found found (cookie_size old) (cookie_size (change old))
    → Found found (cookies_size cookies) (cookies_size (put_at place change new cookies))
set_found cookies place at new old change (Ok found) placed within is sized =
    let same : slice_index_or cookies at new ≡ old = get_or_default cookies at new old within ∙ sym is in
    rw placed (cookie_set cookies at new (change (slice_index_or cookies at new)) found.was found.will within
    (rw same sized))
set_found cookies place at new old change (Err stop) placed within is sized = tt

pub pairs_found : (pairs : List CookiePair) (place : Option ℕ) (at : ℕ) (old new other : CookiePair) (text : List ℕ)
    (found : Result Change Memory) → place ≡ Some at → at < length pairs → old ≡ get_or pairs at other
    → IfOk found (λ change. change.was ≡ bytes_in (url_encoded old.text))
    → IfOk found (λ change. change.will ≡ bytes_in (url_encoded text))
    → Found found (bytes_in (pairs_text pairs))
    (bytes_in (pairs_text (put_at place (λ pair. record pair { text = text }) new pairs)))
pairs_found pairs place at old new other text (Ok change) placed within is was will =
    let same : slice_index_or pairs at new ≡ old = get_or_default pairs at new other within ∙ sym is in
    rw (placed, was, will, same) (pair_set pairs at old new text within same)
pairs_found pairs place at old new other text (Err stop) placed within is was will = tt
