-- What values, calls and replies are read as, from the front of bytes.
use Rattle.std.specs.Prelude.{ℕ, zero, suc, ◌-◌, Bool, true, false, ◌&&◌, ◌||◌, not, List, [], ◌∷◌, length, take}
use Rattle.std.specs.Prelude.{drop, Option, Some, None}
use Rattle.std.specs.Prelude.{Result, Ok, Err, if◌then◌else◌, nat_lt, nat_le, ◌==◌, ℤ, pos, negsuc, int_le, codes}
use Rattle.std.specs.Prelude.{bytes_eq}
use Rattle.std.specs.List.{prefix_len, list_all}
use Rattle.hex.specs.Hex.{decode_of}
use Rattle.hex.specs.declared.error.FromHexError.{FromHexError}
use Rattle.vb_value.specs.declared.text.Utf8Stop.{Utf8Stop}
use Rattle.vb_value.specs.declared.value.Value.{Value, Empty, Null, Bool as Boolean, Int, Long, Cur, Str}
use Rattle.vb_value.specs.declared.value.Value.TheViews.{Arr}
use Rattle.vb_value.specs.Decoding.{decoded}
use Rattle.vb_value.specs.Folding.{folded}
use Rattle.vb_value.specs.Sound.{item_count}
use Rattle.asp_record.specs.Fields.{◌>>=◌, behind, number_at}
use Rattle.asp_record.specs.Lines.{hex}
use Rattle.asp_record.specs.Journal.{is_int, is_long}

-- ---- numbers

-- a number below zero of this size
abbrev pub below_zero : ℕ → Option ℤ
below_zero size = if nat_lt 0 size && nat_le size 9223372036854775808 then Some (negsuc (size - 1)) else None

-- the number behind a sign, or without one
abbrev pub signed_by : Option (List ℕ) → List ℕ → Option (ℤ × List ℕ)
signed_by (Some rest) bytes = do
  size ← number_at rest
  below ← below_zero size.0
  Some (below, size.1)
signed_by None bytes = do
  size ← number_at bytes
  if nat_lt size.0 9223372036854775808 then Some (pos size.0, size.1) else None

-- a number of 64 bits that may have a sign
unfoldable pub signed_at : List ℕ → Option (ℤ × List ℕ)
signed_at bytes = signed_by (behind (codes "-") bytes) bytes

-- one of 32 bits
unfoldable pub long_at : List ℕ → Option (ℤ × List ℕ)
long_at bytes = do
  n ← signed_at bytes
  if is_long n.0 then Some n else None

-- ---- texts

-- a byte that ends a field or an item
abbrev pub ends_item : ℕ → Bool
ends_item c = (c == 32) || (c == 44) || (c == 93) || (c == 10) || (c == 124)

-- the bytes of hexadecimal digits, where they are written in lower case
abbrev pub lower_bytes : List ℕ → Result (List ℕ) FromHexError → Option (List ℕ)
lower_bytes text (Ok bytes) = if bytes_eq (hex bytes) text then Some bytes else None
lower_bytes text (Err stop) = None

-- the text of these bytes
abbrev pub text_of : Result (List ℕ) Utf8Stop → Option (List ℕ)
text_of (Ok text) = Some text
text_of (Err stop) = None

-- what stands behind the `s` of a text
unfoldable pub text_at : List ℕ → Option (List ℕ × List ℕ)
text_at bytes =
    let count = prefix_len (λ c. not (ends_item c)) bytes in
    let digits = take count bytes in do
      utf8 ← lower_bytes digits (decode_of digits)
      text ← text_of (decoded utf8)
      Some (text, drop count bytes)

-- a name: it is folded
unfoldable pub name_at : List ℕ → Option (List ℕ × List ℕ)
name_at bytes = do
  rest ← behind (codes "s") bytes
  name ← text_at rest
  if bytes_eq (folded name.0) name.0 then Some name else None

-- a text that is a value: it has fewer than 2^31 characters
unfoldable pub string_at : List ℕ → Option (Value × List ℕ)
string_at bytes = do
  text ← text_at bytes
  if nat_lt (length text.0) 2147483648 then Some (Str text.0, text.1) else None

-- ---- lists with `,` between their items

-- what comes behind an item: the end of the list, or more
abbrev pub more_by : {A : Type 0} → A → Option (List ℕ) → Option (List A × List ℕ) → Option (List A × List ℕ)
more_by x (Some rest) more = Some (x ∷ [], rest)
more_by x None more = more >>= λ m. Some (x ∷ m.0, m.1)

-- one item or more, so many at most, up to a word
unfoldable pub more_at : {A : Type 0} → (List ℕ → Option (A × List ℕ)) → List ℕ → ℕ → List ℕ → Option (List A × List ℕ)
more_at one stop zero bytes = None
more_at one stop (suc count) bytes =
    one bytes >>= λ x. more_by x.0 (behind stop x.1) (behind (codes ",") x.1 >>= more_at one stop count)

-- a list that may be empty
abbrev pub list_by : {A : Type 0} → Option (List ℕ) → Option (List A × List ℕ) → Option (List A × List ℕ)
list_by (Some rest) more = Some ([], rest)
list_by None more = more

abbrev pub list_at : {A : Type 0} → (List ℕ → Option (A × List ℕ)) → List ℕ → List ℕ → Option (List A × List ℕ)
list_at one stop bytes = list_by (behind stop bytes) (more_at one stop (length bytes) bytes)

-- ---- values

-- at most 60 bounds, each -1 at least, and as many items as they say
abbrev pub is_well_made : List ℤ → ℕ → Bool
is_well_made bounds count =
    nat_le (length bounds) 60 && list_all (λ bound. int_le (negsuc 0) bound) bounds && (count == item_count bounds)

unfoldable pub bounds_at : List ℕ → Option (List ℤ × List ℕ)
bounds_at bytes = list_at long_at (codes "|") bytes

-- an array of these bounds and items, if they fit
abbrev pub array_of : Bool → List ℤ → List Value × List ℕ → Option (Value × List ℕ)
array_of fixed bounds items =
    if is_well_made bounds (length items.0)
    then Some (Arr (record { bounds = bounds; fixed = fixed; items = items.0 }), items.1) else None

-- an array behind its `[`, whose items are read so
unfoldable pub array_at : (List ℕ → Option (Value × List ℕ)) → Bool → List ℕ → Option (Value × List ℕ)
array_at item fixed bytes = do
  bounds ← bounds_at bytes
  items ← list_at item (codes "]") bounds.1
  array_of fixed bounds.0 items

unfoldable pub int_at : List ℕ → Option (Value × List ℕ)
int_at bytes = do
  n ← signed_at bytes
  if is_int n.0 then Some (Int n.0, n.1) else None

-- a value that is no array, whose letter is this
abbrev pub simple_by : ℕ → List ℕ → Option (Value × List ℕ)
simple_by letter rest =
    if letter == 101 then Some (Empty, rest)
    else if letter == 110 then Some (Null, rest)
    else if letter == 116 then Some (Boolean true, rest)
    else if letter == 102 then Some (Boolean false, rest)
    else if letter == 105 then int_at rest
    else if letter == 108 then (long_at rest >>= λ n. Some (Long n.0, n.1))
    else if letter == 99 then (signed_at rest >>= λ n. Some (Cur n.0, n.1))
    else if letter == 115 then string_at rest
    else None

-- a value whose letter is this; arrays are read so
abbrev pub value_by : (Bool → List ℕ → Option (Value × List ℕ)) → ℕ → List ℕ → Option (Value × List ℕ)
value_by array letter rest =
    if letter == 91 then array false rest
    else if letter == 33 then (behind (codes "[") rest >>= array true)
    else simple_by letter rest

abbrev pub first_by : (ℕ → List ℕ → Option (Value × List ℕ)) → List ℕ → Option (Value × List ℕ)
first_by value [] = None
first_by value (letter ∷ rest) = value letter rest

-- an array behind its `[` that nests so deep at most, whose items are read as values that nest less deep
abbrev pub array_by : (ℕ → List ℕ → Option (Value × List ℕ)) → ℕ → Bool → List ℕ → Option (Value × List ℕ)
array_by value zero fixed bytes = None
array_by value (suc depth) fixed bytes = array_at (value depth) fixed bytes

-- a value whose arrays nest so deep at most
unfoldable pub value_at : ℕ → List ℕ → Option (Value × List ℕ)
value_at zero bytes = first_by (value_by (λ fixed rest. None)) bytes
value_at (suc depth) bytes = first_by (value_by (array_at (value_at depth))) bytes
