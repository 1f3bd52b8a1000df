-- What is generated is sound.
use Rattle.std.proofs.Common.{◌≡◌, ℕ, zero, suc, ◌+◌, ◌/◌, ◌%◌, ◌^◌, ◌<◌, ◌≤◌, [], ◌∷◌, length, map, slice_index}
use Rattle.std.proofs.Common.{refl}
use Rattle.std.proofs.Common.{arith, codes, replicate, IsUtf8}
use Rattle.std.specs.Char.{encode_utf8}
use Rattle.std.specs.List.{range_with_len}
use Rattle.std.specs.Str.{chars, is_utf8}
use Rattle.std.proofs.lemmas.List.Elements.{All-cons, All-nil}
use Rattle.std.proofs.lemmas.List.Sums.{AllPass-from_list_all}
use Rattle.std.proofs.Math.Nat.{mod-lt}
use Rattle.percent_encoding.specs.Percent.{percent_decode}
use Rattle.httparse.specs.Grammar.{RequestHead, IsRequestHead, Field, IsField, crlf, print_request}
use Rattle.httparse.specs.Grammar.{is_token_byte, is_uri_byte, is_value_byte, trim_ows}
use Rattle.asp_text.specs.Path.{normal_path_of, has_whole_escapes}
use Rattle.http_front.specs.Fields.{fields_of}
use Rattle.http_front.specs.Front.{IsFront, Whole, Request}
use Rattle.http_front.specs.Status.{status_by}
use Rattle.http_front.specs.Target.{path_of}
use Rattle.asp_record.specs.Generated.{count_bytes, generated, generated_item}
use Rattle.asp_record.specs.Recorded.{AreItems, IsOneRequest, IsSound}

-- its field
abbrev host : Field
host = record { name = codes "Host"; raw = codes " x"; end = crlf }

-- the head of each request
abbrev count_head : RequestHead
count_head = record {
  blank = [];
  method = codes "GET";
  target = codes "/count.asp";
  minor = 1;
  line_end = crlf;
  fields = host ∷ [];
  last = crlf;
}

is_host : IsField host
unfolding is_token_byte
is_host = record {
  name = (omega arith, AllPass-from_list_all is_token_byte (codes "Host") refl);
  raw = AllPass-from_list_all is_value_byte (codes " x") refl;
}

is_text : IsUtf8 (codes "/count.asp")
unfolding encode_utf8
is_text = (codes "/count.asp", (refl, refl))

is_head : IsRequestHead count_head
unfolding is_token_byte
is_head = record {
  method = (omega arith, AllPass-from_list_all is_token_byte (codes "GET") refl);
  target = (omega arith, AllPass-from_list_all is_uri_byte (codes "/count.asp") refl);
  target_text = is_text;
  minor = omega arith;
  fields = All-cons IsField host [] is_host (All-nil IsField);
}

head_length : length (print_request count_head) ≡ 36
unfolding print_request
head_length = refl

-- its bytes give it first, and nothing is left
comes : IsFront count_bytes (Request count_head [] [])
unfolding print_request status_by fields_of trim_ows path_of normal_path_of has_whole_escapes percent_decode chars
    is_utf8 encode_utf8
comes = record {
  opening = Whole count_head [];
  opens = ((is_head, refl), omega (arith, head_length));
  gives = refl;
}

one_request : IsOneRequest count_bytes
one_request = (count_head, [], comes)

client_held : (i : ℕ) → i % 7 + 1 < 2 ^ 32
client_held i = omega (arith, mod-lt i {m = 7} (omega arith))

-- requests are items one after another
are_items : (now a n : ℕ) → now ≤ a / 100 → a + n ≤ 10000 → AreItems now (map generated_item (range_with_len a n))
are_items now a zero le within = tt
are_items now a (suc n) le within = (
  record { rises = le; ends = omega arith; held = (client_held a, omega arith, one_request) },
  are_items (a / 100) (a + 1) n (omega arith) (omega arith),
)

zero_byte : (n i : ℕ) → slice_index (replicate n 0) i ≡ 0
zero_byte zero i = refl
zero_byte (suc n) zero = refl
zero_byte (suc n) (suc i) = zero_byte n i

pub generated_sound : (count : ℕ) → count ≤ 10000 → IsSound (generated count)
unfolding generated
generated_sound count within = record {
  seed = record { size = refl; bytes = λ i. omega (arith, zero_byte 32 i) };
  items = are_items 0 0 count (omega arith) (omega arith);
}
