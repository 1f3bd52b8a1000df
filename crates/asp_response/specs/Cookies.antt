-- The cookies of an answer (ASP 3.0, "Response.Cookies Collection"). Their names and keys compare without ASCII
-- case.
use Rattle.std.specs.Prelude.{ℕ, Bool, false, List, [], ◌∷◌, ◌++◌, slice_index_or, slice_set, position}
use Rattle.std.specs.Prelude.{Option, Some, None, codes}
use Rattle.asp_response.specs.declared.cookie.Cookie.{Cookie}
use Rattle.asp_response.specs.declared.cookie.CookiePair.{CookiePair}
use Rattle.asp_response.specs.declared.cookie.CookiePart.{CookiePart}
use Rattle.asp_response.specs.declared.cookie.CookiePart.TheVariants as part
use Rattle.asp_response.specs.declared.cookie.CookieValue.{CookieValue}
use Rattle.asp_response.specs.declared.cookie.CookieValue.TheVariants.{Whole, Pairs}
use Rattle.vb_value.specs.Folding.{same_name}

-- a cookie that has been named and nothing else: its path is the whole site
abbrev pub new_cookie : List ℕ → Cookie
new_cookie name =
    record { name = name; value = Whole []; path = codes "/"; domain = []; secure = false }

-- some items, with this change of the one at a place, or of a new one behind the others where there is no place
abbrev pub put_at : {A : Type 0} → Option ℕ → (A → A) → A → List A → List A
put_at None change new items = items ++ change new ∷ []
put_at (Some at) change new items = slice_set items at (change (slice_index_or items at new))

-- the place of the cookie of a name, and of the pair of a key
abbrev pub place_of : List ℕ → List Cookie → Option ℕ
place_of name cookies = position (λ cookie. same_name cookie.name name) cookies

abbrev pub place_of_key : List ℕ → List CookiePair → Option ℕ
place_of_key key pairs = position (λ pair. same_name pair.key key) pairs

-- the cookies, with this change of the one of that name: in its place, or of a new one behind the others
abbrev pub with_cookie : List ℕ → (Cookie → Cookie) → List Cookie → List Cookie
with_cookie name change cookies = put_at (place_of name cookies) change (new_cookie name) cookies

-- the pairs, with this text beside that key: in its place, or behind the others
abbrev pub with_pair : List ℕ → List ℕ → List CookiePair → List CookiePair
with_pair key text pairs =
    put_at (place_of_key key pairs) (λ pair. record pair { text = text }) (record { key = key; text = text }) pairs

-- the pairs of a value; a whole text has none
abbrev pub pairs_of : CookieValue → List CookiePair
pairs_of (Whole text) = []
pairs_of (Pairs pairs) = pairs

-- the value after a text was set in it, as a whole without a key, else beside that key
abbrev pub set_value : List ℕ → List ℕ → CookieValue → CookieValue
set_value [] text value = Whole text
set_value (first ∷ key) text value = Pairs (with_pair (first ∷ key) text (pairs_of value))

-- the cookie with that value
abbrev pub with_value : List ℕ → List ℕ → Cookie → Cookie
with_value key text cookie = record cookie { value = set_value key text cookie.value }

-- the cookie with that path or domain
abbrev pub with_part : CookiePart → List ℕ → Cookie → Cookie
with_part part.Path text cookie = record cookie { path = text }
with_part part.Domain text cookie = record cookie { domain = text }

-- the cookie, sent over secure connections alone or over all
abbrev pub with_secure : Bool → Cookie → Cookie
with_secure on cookie = record cookie { secure = on }
