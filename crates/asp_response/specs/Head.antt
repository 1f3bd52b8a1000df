-- What may stand in the head of an answer (RFC 9110, sections 5.1, 5.5, 5.6.2 and 15; RFC 9112, section 4).
use Rattle.std.specs.Prelude.{ℕ, ◌+◌, ◌-◌, ◌*◌, Bool, ◌&&◌, ◌||◌, ◌==◌, nat_le, nat_lt, if◌then◌else◌}
use Rattle.std.specs.Prelude.{List, [], ◌∷◌, length, Option, Some, None, option_map, codes}
use Rattle.std.specs.Char.{is_ascii_alphanumeric, is_ascii_digit}
use Rattle.std.specs.List.{list_all, list_any}
use Rattle.vb_value.specs.Folding.{same_name}
use Rattle.asp_response.specs.declared.status.Status.{Status}

-- a printable character of ASCII, or a space
abbrev pub is_printable : ℕ → Bool
is_printable c = nat_le 32 c && nat_le c 126

-- a text that may be the value of a field
abbrev pub is_value : List ℕ → Bool
is_value text = list_all is_printable text

-- tchar = "!" / "#" / "$" / "%" / "&" / "'" / "*" / "+" / "-" / "." / "^" / "_" / "`" / "|" / "~" / DIGIT / ALPHA
unfoldable pub is_token_character : ℕ → Bool
is_token_character c = is_ascii_alphanumeric c || list_any (λ mark. mark == c) (codes "!#$%&'*+-.^_`|~")

-- token = 1*tchar
abbrev pub is_token : List ℕ → Bool
is_token text = nat_lt 0 (length text) && list_all is_token_character text

-- the fields that an answer writes by itself, which no page may add
unfoldable pub is_reserved : List ℕ → Bool
is_reserved name = list_any (λ reserved. same_name reserved name)
    (codes "Date" ∷ codes "Content-Type" ∷ codes "Content-Length" ∷ codes "Connection" ∷ codes "Transfer-Encoding" ∷ [])

-- the number from 200 to 599 that three digits write
abbrev pub code_in : ℕ → ℕ → ℕ → Option ℕ
code_in a b c = if nat_le 50 a && nat_le a 53 && is_ascii_digit b && is_ascii_digit c
    then Some (100 * (a - 48) + 10 * (b - 48) + (c - 48)) else None

-- The status that a text says: such a number, a space, and a reason of printable characters, at least one.
unfoldable pub status_in : List ℕ → Option Status
status_in (a ∷ b ∷ c ∷ space ∷ first ∷ reason) = if (space == 32) && is_value (first ∷ reason)
    then option_map (λ code. record { code = code; reason = first ∷ reason }) (code_in a b c) else None
status_in _ = None
