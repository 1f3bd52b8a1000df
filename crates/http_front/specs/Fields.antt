-- What the header fields of a request's head say of its host, of its body and of the connection (RFC 9112, sections
-- 3.2, 6 and 9.6).
use Rattle.std.specs.Prelude.{ℕ, min, Bool, ◌&&◌, ◌||◌, ◌+◌, List, [], ◌∷◌, map, length, filter, if◌then◌else◌, ◌==◌}
use Rattle.std.specs.Prelude.{nat_lt, codes, bytes_eq}
use Rattle.std.specs.List.{list_all, list_any, slice_split}
use Rattle.std.specs.Char.{is_ascii_digit, to_ascii_lowercase}
use Rattle.std.specs.Str.Parse.{digits_value}
use Rattle.httparse.specs.Grammar.{trim_ows}
use Rattle.http_front.specs.declared.fields.BodyLength.{BodyLength}
use Rattle.http_front.specs.declared.fields.BodyLength.TheVariants.{Absent, Given, Faulty}
use Rattle.http_front.specs.declared.fields.Fields.{Fields}

-- a name and a value, the value without the blanks around it
abbrev pub Header : Type 0
Header = List ℕ × List ℕ

-- the names are the same but for the case of ASCII letters
abbrev pub same_name : List ℕ → List ℕ → Bool
same_name a b = bytes_eq (map to_ascii_lowercase a) (map to_ascii_lowercase b)

-- the header has this name
abbrev pub is_named : List ℕ → Header → Bool
is_named name header = same_name header.0 name

-- the values of the headers with this name, in order
abbrev pub values_of : List ℕ → List Header → List (List ℕ)
values_of name headers = map (λ h. h.1) (filter (is_named name) headers)

-- 1*DIGIT
abbrev pub is_digits : List ℕ → Bool
is_digits value = nat_lt 0 (length value) && list_all is_ascii_digit value

-- the number that the digits write, where each number past 1,048,576 counts as 1,048,577
abbrev pub capped_number : List ℕ → ℕ
capped_number value = min (digits_value 10 value) 1048577

-- what the values of Content-Length say: it stands at most once, and is 1*DIGIT
abbrev pub body_length : List (List ℕ) → BodyLength
body_length [] = Absent
body_length (value ∷ []) = if is_digits value then Given (capped_number value) else Faulty
body_length (value ∷ next ∷ more) = Faulty

-- one of the value's parts between commas is `close`, in any ASCII case
unfoldable pub lists_close : List ℕ → Bool
lists_close value = list_any (λ part. same_name (trim_ows part) (codes "close")) (slice_split (λ b. b == 44) value)

-- the header asks to end the connection
abbrev pub asks_close : Header → Bool
asks_close header = is_named (codes "connection") header && lists_close header.1

-- what the headers say of the host, the body and the connection
unfoldable pub fields_of : List Header → Fields
fields_of headers = record {
  hosts = min (length (values_of (codes "host") headers)) 2;
  length = body_length (values_of (codes "content-length") headers);
  coded = list_any (is_named (codes "transfer-encoding")) headers;
  close = list_any asks_close headers;
}

-- ---- one header more

-- `body_length` with one value more
abbrev pub with_value : BodyLength → List ℕ → BodyLength
with_value Absent value = if is_digits value then Given (capped_number value) else Faulty
with_value (Given n) value = Faulty
with_value Faulty value = Faulty

-- the count of Hosts with one header more
abbrev pub hosts_with : ℕ → List ℕ → ℕ
hosts_with hosts name = if same_name name (codes "host") then min (hosts + 1) 2 else hosts

-- the length with one header more
abbrev pub length_with : BodyLength → List ℕ → List ℕ → BodyLength
length_with known name value = if same_name name (codes "content-length") then with_value known value else known

-- `fields_of` with one header more
abbrev pub fields_with : Fields → List ℕ → List ℕ → Fields
fields_with fields name value = record {
  hosts = hosts_with fields.hosts name;
  length = length_with fields.length name value;
  coded = fields.coded || same_name name (codes "transfer-encoding");
  close = fields.close || asks_close (name, value);
}
