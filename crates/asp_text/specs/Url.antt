-- Texts in the query of a URL: `Server.URLEncode` of the ASP 3.0 built-in objects. A byte is escaped as
-- RFC 3986 has it, section 2.1.
use Rattle.std.specs.Prelude.{ℕ, List, [], ◌∷◌, if◌then◌else◌, ◌==◌, encode_utf8_all}
use Rattle.std.specs.List.{flat_map}
use Rattle.std.specs.Char.{is_ascii_alphanumeric}
use Rattle.percent_encoding.specs.Percent.{percent_encode_byte}

-- a letter or a digit as it is, a space as `+`, any other byte as `%` and two hexadecimal digits
abbrev pub url_byte : ℕ → List ℕ
url_byte b =
    if is_ascii_alphanumeric b then b ∷ []
    else (if b == 32 then 43 ∷ [] else percent_encode_byte b)

-- each of the bytes so
unfoldable pub url_bytes : List ℕ → List ℕ
url_bytes bytes = flat_map url_byte bytes

-- the text's UTF-8 so
abbrev pub url_encoded : List ℕ → List ℕ
url_encoded text = url_bytes (encode_utf8_all text)
