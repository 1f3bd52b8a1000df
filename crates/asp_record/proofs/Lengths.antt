-- How long a line of a recording is, and what a longer beginning of bytes says of their refusal.
use Rattle.std.proofs.Common.{◌≡◌, ℕ, ◌+◌, ◌^◌, ◌<◌, ◌≤◌, Bool, true, false, cond, Option, Some, None, List, [], ◌∷◌}
use Rattle.std.proofs.Common.{◌++◌, length, take, drop, refl, sym, ap, subst, ◌∙◌, append_assoc, arith, inl, inr}
use Rattle.std.proofs.Common.{length-append, length-drop, length-take}
use Rattle.std.specs.Prelude.{nat_le, nat_lt, not, ◌&&◌, codes}
use Rattle.std.specs.Fmt.{decimal}
use Rattle.std.specs.List.{flat_map}
use Rattle.std.specs.Option.{is_some}
use Rattle.std.proofs.lemmas.Bool.Decides.{nat_tests}
use Rattle.std.proofs.lemmas.Fmt.{length-decimal-le}
use Rattle.std.proofs.lemmas.Grind.{flat_map-append}
use Rattle.std.proofs.lemmas.List.{append-nil}
use Rattle.httparse.specs.Grammar.{RequestHead, print_request}
use Rattle.http_front.specs.Fields.{fields_of}
use Rattle.http_front.specs.Front.{Hopeless, IsFront, IsOpening, More, Opening, Refused, Request, Unfinished, Whole}
use Rattle.http_front.specs.Front.{answered, front_of}
use Rattle.http_front.specs.Status.{body_size, headers_of, is_in_order, lacks_length, status_by, status_of, verb_of}
use Rattle.http_front.specs.Target.{path_of}
use Rattle.http_front.proofs.Bounds.{no_request, opening_is_bounded}
use Rattle.http_front.proofs.Shortest.{longer_prefix}
use Rattle.asp_text.proofs.Places.{by_cases}
use Rattle.asp_record.specs.declared.recording.Item.{Item}
use Rattle.asp_record.specs.declared.recording.Item.TheVariants as item
use Rattle.asp_record.specs.declared.recording.Recording.{Recording}
use Rattle.asp_record.specs.Lines.{field, line}
use Rattle.asp_record.specs.Recorded.{AreItems, Begins, Begun, Ended, IsHeld, IsLast, IsLonger, IsNext, IsOneRequest, IsPart}
use Rattle.asp_record.specs.Recorded.{IsPlace, IsRefusedAt, IsSound, Named, Nothing, Part, Seeded, last_of, most_bytes, part_text}
use Rattle.asp_record.specs.Recording.{First, Second, Version, head_text, item_text, opening_text, rule_text, seed_text}
use Rattle.asp_record.specs.Recording.{version_text}
use Rattle.asp_record.proofs.OneRecording.{item_within, seed_size, seeded_size, text_size, version_size}

-- ---- a request

-- behind a head stand its body and what is left
after_is : (status : Option ℕ) (k h : RequestHead) (after body rest : List ℕ)
    → Request h body rest ≡ answered status k after → length after ≡ length body + length rest
after_is (Some status) k h after body rest e = absurd cc
after_is None k h after body rest e =
    let size = body_size k in
    by_cases (λ t. nat_le size (length after) ≡ t
    → Request h body rest ≡ cond t (Request k (take size after) (drop size after)) More
    → length after ≡ length body + length rest)
    (nat_le size (length after))
    (λ _ _ f.
    let same : body ≡ take size after = cc in
    let left : rest ≡ drop size after = cc in
    omega (arith, ap length same, ap length left, length-take size after, length-drop size after))
    (λ _ _ f. absurd cc) refl e

one_opening : (bytes : List ℕ) (opening : Opening) (h : RequestHead) (body : List ℕ) → IsOpening bytes opening
    → Request h body [] ≡ front_of (length bytes) opening → length bytes ≤ 1064960
one_opening bytes Unfinished h body opens e = absurd (no_request (nat_lt 16384 (length bytes)) h body [] e)
one_opening bytes Hopeless h body opens e = absurd cc
one_opening bytes (Whole k after) h body opens e =
    let bounds = opening_is_bounded (length bytes) bytes (Whole k after) h body [] opens e in
    omega (
      arith,
      opens.1,
      bounds.body_fits,
      after_is (status_of k) k h after body [] e,
      ap length opens.0.1,
      length-append (print_request k) after,
    )

one_request_is_short : (bytes : List ℕ) → IsOneRequest bytes → length bytes ≤ 1064960
one_request_is_short bytes one =
    let front : IsFront bytes (Request one.0 one.1 []) = one.2 in
    one_opening bytes front.opening one.0 one.1 front.opens front.gives

-- ---- a line

request_length : (word client moment size bytes : List ℕ)
    → length (line (word ++ field client ++ field moment ++ field size) ++ line bytes)
    ≡ length word + length client + length moment + length size + length bytes + 5
request_length word client moment size bytes = simp length-append (omega arith)

tick_length : (word moment : List ℕ) → length (line (word ++ field moment)) ≡ length word + length moment + 2
tick_length word moment = simp length-append (omega arith)

item_is_short : (now : ℕ) (one : Item) → IsNext now one → length (item_text one) ≤ 2097152
item_is_short now (item.Request client moment bytes) next =
    let held : (client < 2 ^ 32) × (length bytes ≤ most_bytes) × IsOneRequest bytes = next.held in
    let low : client < 2 ^ 32 = held.0 in
    let ends : moment ≤ 253402300799 = next.ends in
    let short = one_request_is_short bytes held.2 in
    let seven : length (codes "request") ≡ 7 = refl in
    omega (
      arith,
      short,
      seven,
      request_length (codes "request") (decimal client) (decimal moment) (decimal (length bytes)) bytes,
      length-decimal-le 10 client (omega arith) (omega (arith, low)) (omega (arith, low)),
      length-decimal-le 12 moment (omega arith) (omega (arith, ends)) (omega (arith, ends)),
      length-decimal-le 8 (length bytes) (omega arith) (omega (arith, short)) (omega (arith, short)),
    )
item_is_short now (item.Tick moment) next =
    let ends : moment ≤ 253402300799 = next.ends in
    let four : length (codes "tick") ≡ 4 = refl in
    omega (
      arith,
      four,
      tick_length (codes "tick") (decimal moment),
      length-decimal-le 12 moment (omega arith) (omega (arith, ends)) (omega (arith, ends)),
    )

-- ---- one line more

rule_size : (version : Version) (strict : Bool) → length (rule_text version strict) ≤ 12
rule_size First strict = omega arith
rule_size Second true = omega arith
rule_size Second false = omega arith

three_lengths : (a b c : List ℕ) → length (a ++ b ++ c) ≡ length a + length b + length c
three_lengths a b c = simp length-append (omega arith)

opening_length : (version : Version) (recording : Recording) → length (opening_text version recording)
    ≡ 9 + length (seed_text recording.seed) + length (rule_text version recording.strict)
    + length (flat_map item_text recording.items)
opening_length version recording =
    let head = three_lengths (version_text version) (seed_text recording.seed)
    (rule_text version recording.strict) in
    let whole = length-append (head_text version recording.seed recording.strict)
    (flat_map item_text recording.items) in
    omega (arith, version_size version, head, whole)

items_length : (items : List Item) (one : Item) → length (flat_map item_text (items ++ one ∷ []))
    ≡ length (flat_map item_text items) + length (item_text one)
items_length items one =
    let last : flat_map item_text (one ∷ []) ≡ item_text one = append-nil (item_text one) in
    omega (
      arith,
      ap length (flat_map-append item_text items (one ∷ [])),
      length-append (flat_map item_text items) (flat_map item_text (one ∷ [])),
      ap length last,
    )

-- the line of one item more
one_more : (version : Version) (recording more : Recording) (item : Item) → IsSound more
    → more.seed ≡ recording.seed → more.strict ≡ recording.strict → more.items ≡ recording.items ++ item ∷ []
    → length (opening_text version more) ≤ length (opening_text version recording) + 2097152
one_more version recording more item sound seed strict items =
    let right : AreItems 0 (recording.items ++ item ∷ []) = subst (AreItems 0) items sound.items in
    let next = item_within 0 recording.items item [] right in
    omega (
      arith,
      opening_length version recording,
      opening_length version more,
      ap (λ s. length (seed_text s)) seed,
      ap (λ s. length (rule_text version s)) strict,
      ap (λ i. length (flat_map item_text i)) items,
      items_length recording.items item,
      item_is_short (last_of 0 recording.items) item next,
    )

-- the lines before the items
first_lines : (version : Version) (recording : Recording) → IsSound recording → recording.items ≡ []
    → length (opening_text version recording) ≤ 91
first_lines version recording sound none = omega (
  arith,
  opening_length version recording,
  seed_size recording.seed sound.seed.size,
  rule_size version recording.strict,
  ap (λ items. length (flat_map item_text items)) none,
)

longer_is_short : (part longer : Part) → IsPart longer → IsLonger part longer
    → length (part_text longer) ≤ length (part_text part) + 2097152
longer_is_short Nothing (Named version) right longer = omega (arith, version_size version)
longer_is_short (Named First) (Begun First recording) right none =
    omega (arith, first_lines First recording right.0 none)
longer_is_short (Named Second) (Seeded seed) right longer = omega (arith, seeded_size seed right.size)
longer_is_short (Seeded seed) (Begun Second recording) right longer =
    omega (arith, first_lines Second recording right.0 longer.1)
longer_is_short (Begun version recording) (Begun other more) right longer =
    subst (λ v. length (opening_text v more) ≤ length (opening_text version recording) + 2097152) (sym longer.0)
    (one_more version recording more longer.3.0 right.0 longer.1 longer.2 longer.3.1)
longer_is_short (Begun version recording) (Ended other whole) right same =
    omega (
      arith,
      text_size other whole,
      ap (λ one. length (opening_text other one)) same.1,
      ap (λ v. length (opening_text v recording)) same.0,
    )
longer_is_short part longer right is = absurd is

-- ---- refusals

begins_front : (bytes more text : List ℕ) → length text ≤ length bytes → Begins (bytes ++ more) text → Begins bytes text
begins_front bytes more text short begins =
    (drop (length text) bytes, longer_prefix text begins.0 bytes more (sym begins.1) short)

place_stays : (bytes more : List ℕ) (part : Part) (offset : ℕ) → 69206016 ≤ length bytes → IsPlace bytes part offset
    → IsPlace (bytes ++ more) part offset
place_stays bytes more part offset many (inl (last, short, is)) = inl (
  record {
    is_open = last.is_open;
    last = λ longer right longer_is begins. last.last longer right longer_is (begins_front bytes more (part_text longer)
        (omega (arith, many, short, longer_is_short part longer right longer_is)) begins);
  },
  short,
  is,
)
place_stays bytes more part offset many (inr behind) = inr behind

-- where bytes of at least 66 MiB are refused, they are refused whatever follows
pub refusal_stays : (bytes more : List ℕ) (offset : ℕ) → 69206016 ≤ length bytes → IsRefusedAt bytes offset
    → IsRefusedAt (bytes ++ more) offset
refusal_stays bytes more offset many refused = record {
  part = refused.part;
  right = refused.right;
  begins = (
    refused.begins.0 ++ more,
    ap (λ l. l ++ more) refused.begins.1 ∙ append_assoc (part_text refused.part) refused.begins.0 more,
  );
  place = place_stays bytes more refused.part offset many refused.place;
}
