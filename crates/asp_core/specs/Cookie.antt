-- The key that the session cookie of a request names (RFC 6265, section 4.2; its name and letters are our own).
use Rattle.std.specs.Prelude.{ℕ, ◌==◌, Bool, if◌then◌else◌, nat_eq, List, [], length, map, drop}
use Rattle.std.specs.Prelude.{codes, Option, Some, None}
use Rattle.std.specs.List.{flat_map, slice_split, starts_with, find}
use Rattle.vb_value.specs.Folding.{same_name}
use Rattle.httparse.specs.Grammar.{trim_ows}
use Rattle.asp_job.specs.declared.request.Header.{Header}
use Rattle.asp_job.specs.declared.request.Request.{Request}
use Rattle.asp_session.specs.Letters.{key_of_letters}

-- the pieces between the `;` of a Cookie field, without the blanks around each
abbrev pub cookie_pieces : Header → List (List ℕ)
cookie_pieces header =
    if same_name (codes "Cookie") header.name then map trim_ows (slice_split (λ b. b == 59) header.value) else []

-- what stands before the letters
abbrev pub cookie_name : List ℕ
cookie_name = codes "ASPSESSIONIDPROFILE="

-- the key whose letters these are, if a piece was found
abbrev pub key_in_piece : List ℕ → Option (List ℕ) → Option ℕ
key_in_piece seed None = None
key_in_piece seed (Some piece) = key_of_letters seed (drop (length cookie_name) piece)

abbrev pub is_cookie : List ℕ → Bool
is_cookie piece = starts_with nat_eq piece cookie_name

abbrev pub cookie_if : List ℕ → Option (List ℕ)
cookie_if piece = if is_cookie piece then Some piece else None

-- The first piece that begins so is the session cookie, and the rest of it the letters of a key.
abbrev pub cookie_key_in : List ℕ → Request → Option ℕ
cookie_key_in seed request = key_in_piece seed (find is_cookie (flat_map cookie_pieces request.headers))
