-- Bytes have at most one recording at their front, and are not refused where they have one.
use Rattle.std.proofs.Common.{◌≡◌, ℕ, ◌+◌, ◌≤◌, Bool, true, false, List, [], ◌∷◌, ◌++◌, length, get_or, Option, Some}
use Rattle.std.proofs.Common.{None, inl, inr}
use Rattle.std.proofs.Common.{Result, Ok, Err, refl, sym, ap, subst, ◌∙◌, append_assoc, append-nil, arith}
use Rattle.std.specs.Prelude.{codes, IfOk}
use Rattle.std.specs.List.{flat_map}
use Rattle.std.proofs.lemmas.List.{append_cancel_left, length-append}
use Rattle.std.proofs.lemmas.Option.{some_pair_parts}
use Rattle.hex.specs.Hex.{IsBytes}
use Rattle.vb_value.specs.Outcome.{Answers}
use Rattle.asp_record.specs.declared.recording.Item.{Item}
use Rattle.asp_record.specs.declared.recording.Recording.{Recording}
use Rattle.asp_record.specs.declared.stop.RecordStop.{RecordStop}
use Rattle.asp_record.specs.declared.stop.RecordStop.TheVariants.{Memory, Refused}
use Rattle.asp_record.specs.Lines.{field, hex, hex_byte, line}
use Rattle.asp_record.specs.Recording.{First, Says, Second, Version, head_text, item_text, lock_text, opening_text}
use Rattle.asp_record.specs.Recording.{recording_text, rule_text, seed_text, version_text}
use Rattle.asp_record.specs.Fields.{◌>>=◌, behind, seed_at}
use Rattle.asp_record.specs.Reading.{item_at, seed_line_at}
use Rattle.asp_record.specs.Recorded.{AreItems, Begun, Begins, Ended, IsLast, IsNext, IsPart, IsPlace, IsRefusedAt}
use Rattle.asp_record.specs.Recorded.{IsSeed, IsSound, Named, Nothing, OnRefused, Part, Seeded, Stands, last_of}
use Rattle.asp_record.specs.Recorded.{moment_of, part_text}
use Rattle.asp_record.proofs.FieldLaws.{behind_is, step_is}
use Rattle.asp_record.proofs.SeedLaws.{seed_again, seed_is}
use Rattle.asp_record.proofs.ItemLaws.{item_again}
use Rattle.asp_record.proofs.NextItem.{items_more, small, text_more}

-- ---- the line of the seed

parts : (a b mark rest : List ℕ) → ((a ++ b) ++ mark) ++ rest ≡ a ++ (b ++ (mark ++ rest))
parts a b mark rest = simp append_assoc

seed_parts : (seed rest : List ℕ) → seed_text seed ++ rest ≡ codes "seed " ++ (hex seed ++ 10 ∷ rest)
seed_parts seed rest = parts (codes "seed") (field (hex seed)) (10 ∷ []) rest

pub seed_line_again : (seed rest : List ℕ) → length seed ≡ 32 → IsBytes seed
    → seed_line_at (seed_text seed ++ rest) ≡ Some (seed, rest)
unfolding seed_line_at
seed_line_again seed rest size fits =
    ap seed_line_at (seed_parts seed rest)
    ∙ rw (seed_again seed (10 ∷ rest) size fits) refl

pub seed_line_is : (bytes seed rest : List ℕ) → seed_line_at bytes ≡ Some (seed, rest) → bytes ≡ seed_text seed ++ rest
unfolding seed_line_at
seed_line_is bytes seed rest e =
    let a = step_is (behind (codes "seed ") bytes) (λ text. seed_at text >>= λ found. behind
    (10 ∷ []) found.1 >>= λ later. Some (found.0, later)) (seed, rest) e in
    let text = a.0 in
    let b = step_is (seed_at text) (λ found. behind (10 ∷ []) found.1 >>= λ later. Some (found.0, later))
    (seed, rest) a.2 in
    let found = b.0 in
    let c = step_is (behind (10 ∷ []) found.1) (λ later. Some (found.0, later)) (seed, rest) b.2 in
    let later = c.0 in
    let same = some_pair_parts found.0 seed later rest c.2 in
    let read : seed_at text ≡ Some (seed, found.1) = b.1 ∙ ap (λ s. Some (s, found.1)) same.0 in
    let is = seed_is text seed found.1 read in
    behind_is (codes "seed ") bytes text a.1 ∙ ap (λ l. codes "seed " ++ l)
    (is ∙ ap (λ l. hex seed ++ l) (behind_is (10 ∷ []) found.1 later c.1))
    ∙ ap (λ l. codes "seed " ++ (hex seed ++ 10 ∷ l)) same.1 ∙ sym (seed_parts seed rest)

-- how long the first lines are
pub version_size : (version : Version) → length (version_text version) ≡ 9
version_size First = refl
version_size Second = refl

hex_size : (bytes : List ℕ) → length (hex bytes) ≡ length bytes + length bytes
unfolding hex
hex_size [] = refl
hex_size (b ∷ bytes) = omega (arith, length-append (hex_byte b) (hex bytes), hex_size bytes)

word_size : (word text : List ℕ) → length (line (word ++ field text)) ≡ length word + length text + 2
word_size word text = simp length-append (omega arith)

pub seed_size : (seed : List ℕ) → length seed ≡ 32 → length (seed_text seed) ≡ 70
seed_size seed size =
    let four : length (codes "seed") ≡ 4 = refl in
    omega (arith, four, word_size (codes "seed") (hex seed), hex_size seed, size)

pub seeded_size : (seed : List ℕ) → length seed ≡ 32 → length (version_text Second ++ seed_text seed) ≡ 79
seeded_size seed size =
    omega (arith, length-append (version_text Second) (seed_text seed), version_size Second, seed_size seed size)

-- ---- one list of items

-- `end` begins no item
no_item : (after : List ℕ) (item : Item) (rest : List ℕ) → item_at (codes "end" ++ 10 ∷ after) ≡ Some (item, rest) → ⊥
unfolding item_at
no_item after item rest e = let no : ◌≡◌ {A = Option (Item × List ℕ)} None (Some (item, rest)) = e in cc

pub reads_on : (now : ℕ) (items more : List Item) (left after : List ℕ) → AreItems now items → AreItems now more
    → flat_map item_text items ++ left ≡ flat_map item_text more ++ (codes "end" ++ 10 ∷ after)
    → (others : List Item) × (more ≡ items ++ others)
    × (left ≡ flat_map item_text others ++ (codes "end" ++ 10 ∷ after))
reads_on now [] more left after right all e = (more, refl, e)
reads_on now (item ∷ items) [] left after right all e =
    let again : item_at (item_text item ++ (flat_map item_text items ++ left))
    ≡ Some (item, flat_map item_text items ++ left) =
    item_again item (flat_map item_text items ++ left) (small now item right.0) in
    let whole : item_at (codes "end" ++ 10 ∷ after) ≡ Some (item, flat_map item_text items ++ left) =
    ap item_at (sym (sym (append_assoc (item_text item) (flat_map item_text items) left) ∙ e)) ∙ again in
    absurd (no_item after item (flat_map item_text items ++ left) whole)
reads_on now (item ∷ items) (other ∷ more) left after right all e =
    let a = flat_map item_text items ++ left in
    let b = flat_map item_text more ++ (codes "end" ++ 10 ∷ after) in
    let cut : item_text item ++ a ≡ item_text other ++ b =
    sym (append_assoc (item_text item) (flat_map item_text items) left) ∙ e
    ∙ append_assoc (item_text other) (flat_map item_text more) (codes "end" ++ 10 ∷ after) in
    let same = some_pair_parts item other a b
    (sym (item_again item a (small now item right.0)) ∙ ap item_at cut ∙ item_again other b (small now other all.0)) in
    let next = reads_on (moment_of item) items more left after right.1
    (subst (λ i. AreItems (moment_of i) more) (sym same.0) all.1) same.1 in
    (next.0, ap (λ i. i ∷ more) (sym same.0) ∙ ap (λ l. item ∷ l) next.1, next.2)

-- ---- the lines before the items

-- a text begins with the line of one version
one_version : (one other : Version) (a b : List ℕ) → version_text one ++ a ≡ version_text other ++ b → one ≡ other
one_version First First a b e = refl
one_version Second Second a b e = refl
one_version First Second a b e =
    let no : 49 ≡ 50 = ap (λ (l : List ℕ). get_or l 7 0) e in absurd (omega (arith, no))
one_version Second First a b e =
    let no : 50 ≡ 49 = ap (λ (l : List ℕ). get_or l 7 0) e in absurd (omega (arith, no))

pub one_lock : (strict other : Bool) (a b : List ℕ) → lock_text strict ++ a ≡ lock_text other ++ b
    → (strict ≡ other) × (a ≡ b)
one_lock true true a b e = (refl, append_cancel_left (lock_text true) a b e)
one_lock false false a b e = (refl, append_cancel_left (lock_text false) a b e)
one_lock true false a b e =
    let no : 115 ≡ 112 = ap (λ (l : List ℕ). get_or l 5 0) e in absurd (omega (arith, no))
one_lock false true a b e =
    let no : 112 ≡ 115 = ap (λ (l : List ℕ). get_or l 5 0) e in absurd (omega (arith, no))

-- with one rule, and one rest behind it
one_rule : (version : Version) (strict other : Bool) (a b : List ℕ) → Says version strict → Says version other
    → rule_text version strict ++ a ≡ rule_text version other ++ b → (strict ≡ other) × (a ≡ b)
one_rule First strict other a b says also e = (says ∙ sym also, e)
one_rule Second strict other a b says also e = one_lock strict other a b e

one_seed : (version : Version) (one other a b : List ℕ) → IsSeed one → IsSeed other
    → version_text version ++ (seed_text one ++ a) ≡ version_text version ++ (seed_text other ++ b)
    → (one ≡ other) × (a ≡ b)
one_seed version one other a b is also e =
    let cut = append_cancel_left (version_text version) (seed_text one ++ a) (seed_text other ++ b) e in
    some_pair_parts one other a b (sym (seed_line_again one a is.size is.bytes) ∙ ap seed_line_at cut
    ∙ seed_line_again other b also.size also.bytes)

-- one head, and one rest behind it
record SameHead (version same : Version) (seed other : List ℕ) (strict rule : Bool) (a b : List ℕ) : Type 0 where
  version_is : version ≡ same
  seed_is : seed ≡ other
  rule_is : strict ≡ rule
  rest_is : a ≡ b

like_head : (version : Version) (seed other : List ℕ) (strict rule : Bool) (a b : List ℕ) → IsSeed seed → IsSeed other
    → Says version strict → Says version rule
    → version_text version ++ (seed_text seed ++ (rule_text version strict ++ a))
    ≡ version_text version ++ (seed_text other ++ (rule_text version rule ++ b))
    → SameHead version version seed other strict rule a b
like_head version seed other strict rule a b is also says said e =
    let seeds = one_seed version seed other (rule_text version strict ++ a) (rule_text version rule ++ b) is also e in
    let rules = one_rule version strict rule a b says said seeds.1 in
    record { version_is = refl; seed_is = seeds.0; rule_is = rules.0; rest_is = rules.1 }

same_head : (version same : Version) (seed other : List ℕ) (strict rule : Bool) (a b : List ℕ) → IsSeed seed
    → IsSeed other → Says version strict → Says same rule
    → version_text version ++ (seed_text seed ++ (rule_text version strict ++ a))
    ≡ version_text same ++ (seed_text other ++ (rule_text same rule ++ b))
    → SameHead version same seed other strict rule a b
same_head First First seed other strict rule a b is also says said e =
    like_head First seed other strict rule a b is also says said e
same_head Second Second seed other strict rule a b is also says said e =
    like_head Second seed other strict rule a b is also says said e
same_head First Second seed other strict rule a b is also says said e =
    let no = one_version First Second (seed_text seed ++ (rule_text First strict ++ a))
    (seed_text other ++ (rule_text Second rule ++ b)) e in absurd cc
same_head Second First seed other strict rule a b is also says said e =
    let no = one_version Second First (seed_text seed ++ (rule_text Second strict ++ a))
    (seed_text other ++ (rule_text First rule ++ b)) e in absurd cc

-- ---- one recording

pub head_parts : (version : Version) (seed : List ℕ) (strict : Bool) (rest : List ℕ) → head_text version seed strict ++ rest
    ≡ version_text version ++ (seed_text seed ++ (rule_text version strict ++ rest))
head_parts version seed strict rest =
    append_assoc (version_text version ++ seed_text seed) (rule_text version strict) rest
    ∙ append_assoc (version_text version) (seed_text seed) (rule_text version strict ++ rest)

pub opening_parts : (version : Version) (recording : Recording) (rest : List ℕ) → opening_text version recording ++ rest
    ≡ version_text version ++ (seed_text recording.seed
    ++ (rule_text version recording.strict ++ (flat_map item_text recording.items ++ rest)))
opening_parts version recording rest =
    append_assoc (head_text version recording.seed recording.strict) (flat_map item_text recording.items) rest
    ∙ head_parts version recording.seed recording.strict (flat_map item_text recording.items ++ rest)

pub ending_parts : (version : Version) (recording : Recording) (rest : List ℕ)
    → recording_text version recording ++ rest ≡ opening_text version recording ++ (codes "end" ++ 10 ∷ rest)
unfolding recording_text
ending_parts version recording rest = append_assoc (opening_text version recording) (line (codes "end")) rest

pub text_size : (version : Version) (recording : Recording)
    → length (recording_text version recording) ≡ length (opening_text version recording) + 4
unfolding recording_text
text_size version recording = length-append (opening_text version recording) (line (codes "end"))

-- a recording that stands there, and one that is begun
record Meets (version same : Version) (whole begun : Recording) (left after : List ℕ) : Type 0 where
  version_is : version ≡ same
  seed : whole.seed ≡ begun.seed
  strict : whole.strict ≡ begun.strict
  others : List Item
  items : whole.items ≡ begun.items ++ others
  rest : left ≡ flat_map item_text others ++ (codes "end" ++ 10 ∷ after)

meets : (bytes : List ℕ) (version same : Version) (whole begun : Recording) (left after : List ℕ) → IsSound whole
    → Says version whole.strict → IsSound begun × Says same begun.strict
    → bytes ≡ recording_text version whole ++ after → bytes ≡ opening_text same begun ++ left
    → Meets version same whole begun left after
meets bytes version same whole begun left after sound says right stands begins =
    let later = codes "end" ++ 10 ∷ after in
    let e = sym (opening_parts same begun left) ∙ sym begins ∙ stands ∙ ending_parts version whole after
    ∙ opening_parts version whole later in
    let heads = same_head same version begun.seed whole.seed begun.strict whole.strict
    (flat_map item_text begun.items ++ left) (flat_map item_text whole.items ++ later)
    right.0.seed sound.seed right.1 says e in
    let on = reads_on 0 begun.items whole.items left after right.0.items sound.items heads.rest_is in
    record {
      version_is = sym heads.version_is;
      seed = sym heads.seed_is;
      strict = sym heads.rule_is;
      others = on.0;
      items = on.1;
      rest = on.2;
    }

-- what is begun is no longer than the whole
begun_size : (bytes whole begun left after others : List ℕ) → bytes ≡ whole ++ after → bytes ≡ begun ++ left
    → left ≡ others ++ (codes "end" ++ 10 ∷ after) → length begun + 4 ≤ length whole
begun_size bytes whole begun left after others stands begins rest =
    let a = ap length (sym stands ∙ begins) in
    let b = length-append whole after in
    let c = length-append begun left in
    let d = ap length rest in
    let e = length-append others (codes "end" ++ 10 ∷ after) in
    omega (arith, a, b, c, d, e)

pub item_within : (now : ℕ) (items : List Item) (item : Item) (others : List Item)
    → AreItems now (items ++ item ∷ others)
    → IsNext (last_of now items) item
item_within now [] item others right = right.0
item_within now (first ∷ items) item others right = item_within (moment_of first) items item others right.1

-- behind the items of a whole recording comes no item
no_others : (now : ℕ) (items others : List Item) (rest after : List ℕ) → AreItems now (items ++ others)
    → codes "end" ++ 10 ∷ rest ≡ flat_map item_text others ++ (codes "end" ++ 10 ∷ after) → others ≡ []
no_others now items [] rest after right e = refl
no_others now items (item ∷ others) rest after right e =
    let later = flat_map item_text others ++ (codes "end" ++ 10 ∷ after) in
    let cut = e ∙ append_assoc (item_text item) (flat_map item_text others) (codes "end" ++ 10 ∷ after) in
    absurd (no_item rest item later (ap item_at cut ∙ item_again item later
    (small (last_of now items) item (item_within now items item others right))))

made : List ℕ → Bool → List Item → Recording
made seed strict items = record { seed = seed; strict = strict; items = items }

pub one_recording : (bytes : List ℕ) (whole other : Recording) (end last : ℕ) → Stands bytes whole end
    → Stands bytes other last
    → (whole ≡ other) × (end ≡ last)
unfolding made
one_recording bytes whole other end last stands found =
    let after = stands.begins.0 in
    let rest = found.begins.0 in
    let m = meets bytes stands.version found.version whole other (codes "end" ++ 10 ∷ rest) after stands.sound
    stands.says (found.sound, found.says) stands.begins.1
    (found.begins.1 ∙ ending_parts found.version other rest) in
    let right : AreItems 0 (other.items ++ m.others) = subst (AreItems 0) m.items stands.sound.items in
    let none = no_others 0 other.items m.others rest after right m.rest in
    let items : whole.items ≡ other.items = m.items ∙ ap (λ l. other.items ++ l) none ∙ append-nil other.items in
    let same : whole ≡ other = ap (λ s. made s whole.strict whole.items) m.seed
    ∙ ap (λ s. made other.seed s whole.items) m.strict ∙ ap (λ l. made other.seed other.strict l) items in (
      same,
      stands.ends ∙ ap (λ r. length (recording_text stands.version r)) same
          ∙ ap (λ v. length (recording_text v other)) m.version_is ∙ sym found.ends,
    )

-- ---- where a recording stands, each part of it goes on

goes_on : (bytes : List ℕ) (version : Version) (begun : Recording) (others : List Item) (left after : List ℕ)
    → IsLast bytes (Begun version begun) → IsSound begun × Says version begun.strict
    → AreItems 0 (begun.items ++ others) → bytes ≡ opening_text version begun ++ left
    → left ≡ flat_map item_text others ++ (codes "end" ++ 10 ∷ after) → ⊥
goes_on bytes version begun [] left after stop right all begins rest =
    stop.last (Ended version begun) right (refl, refl) (
      after,
      begins ∙ ap (λ l. opening_text version begun ++ l) rest
          ∙ sym (ending_parts version begun after),
    )
goes_on bytes version begun (item ∷ others) left after stop right all begins rest =
    let longer : Recording = record { seed = begun.seed; strict = begun.strict; items = begun.items ++ item ∷ [] } in
    let later = flat_map item_text others ++ (codes "end" ++ 10 ∷ after) in
    let cut : left ≡ item_text item ++ later =
    rest ∙ append_assoc (item_text item) (flat_map item_text others) (codes "end" ++ 10 ∷ after) in
    let next = item_within 0 begun.items item others all in
    let more = items_more 0 begun.items item right.0.items next in
    let text = text_more begun.items item (flat_map item_text begun.items ++ left) left later refl cut in
    stop.last (Begun version longer) (record { seed = right.0.seed; items = more }, right.1)
    (refl, refl, refl, (item, refl)) (
      later,
      begins ∙ opening_parts version begun left ∙ ap (λ l. version_text version ++ (seed_text begun.seed
          ++ (rule_text version begun.strict ++ l))) text ∙ sym (opening_parts version longer later),
    )

-- the first lines of a whole recording
pub whole_parts : (version : Version) (whole : Recording) (after : List ℕ) → recording_text version whole ++ after
    ≡ version_text version ++ (seed_text whole.seed
    ++ (rule_text version whole.strict ++ (flat_map item_text whole.items ++ (codes "end" ++ 10 ∷ after))))
whole_parts version whole after =
    ending_parts version whole after ∙ opening_parts version whole (codes "end" ++ 10 ∷ after)

start : Recording → Recording
start whole = made whole.seed whole.strict []

started : (bytes : List ℕ) (version : Version) (whole : Recording) (after : List ℕ)
    → bytes ≡ recording_text version whole ++ after → Begins bytes (opening_text version (start whole))
unfolding start made
started bytes version whole after stands = (
  flat_map item_text whole.items ++ (codes "end" ++ 10 ∷ after),
  stands ∙ whole_parts version whole after
      ∙ sym (opening_parts version (start whole) (flat_map item_text whole.items ++ (codes "end" ++ 10 ∷ after))),
)

no_named : (bytes : List ℕ) (version named : Version) (whole : Recording) (after rest : List ℕ) → IsSound whole
    → Says version whole.strict → bytes ≡ recording_text version whole ++ after
    → bytes ≡ version_text named ++ rest → IsLast bytes (Named named) → ⊥
unfolding start made
no_named bytes First First whole after rest sound says stands begins stop =
    stop.last (Begun First (start whole)) (record { seed = sound.seed; items = tt }, says) refl
    (started bytes First whole after stands)
no_named bytes Second Second whole after rest sound says stands begins stop =
    let later = rule_text Second whole.strict ++ (flat_map item_text whole.items ++ (codes "end" ++ 10 ∷ after)) in
    stop.last (Seeded whole.seed) sound.seed tt (
      later,
      stands ∙ whole_parts Second whole after ∙ sym (append_assoc (version_text Second) (seed_text whole.seed) later),
    )
no_named bytes First Second whole after rest sound says stands begins stop =
    let no = one_version First Second _ rest (sym (whole_parts First whole after) ∙ sym stands ∙ begins) in absurd cc
no_named bytes Second First whole after rest sound says stands begins stop =
    let no = one_version Second First _ rest (sym (whole_parts Second whole after) ∙ sym stands ∙ begins) in absurd cc

no_seeded : (bytes : List ℕ) (version : Version) (whole : Recording) (after seed rest : List ℕ) → IsSound whole
    → Says version whole.strict → bytes ≡ recording_text version whole ++ after → IsSeed seed
    → bytes ≡ (version_text Second ++ seed_text seed) ++ rest → IsLast bytes (Seeded seed) → ⊥
unfolding start made
no_seeded bytes First whole after seed rest sound says stands is begins stop =
    let no = one_version First Second _ (seed_text seed ++ rest) (sym (whole_parts First whole after) ∙ sym stands
    ∙ begins ∙ append_assoc (version_text Second) (seed_text seed) rest) in absurd cc
no_seeded bytes Second whole after seed rest sound says stands is begins stop =
    let same = one_seed Second whole.seed seed _ rest sound.seed is (sym (whole_parts Second whole after) ∙ sym stands
    ∙ begins ∙ append_assoc (version_text Second) (seed_text seed) rest) in
    stop.last (Begun Second (start whole)) (record { seed = sound.seed; items = tt }, tt) (same.0, refl)
    (started bytes Second whole after stands)

no_place : (bytes : List ℕ) (whole : Recording) (end offset : ℕ) (part : Part) → Stands bytes whole end → IsPart part
    → Begins bytes (part_text part) → IsPlace bytes part offset → ⊥
no_place bytes whole end offset Nothing stands right begins (inl place) =
    let after = stands.begins.0 in
    place.0.last (Named stands.version) tt tt (_, stands.begins.1 ∙ whole_parts stands.version whole after)
no_place bytes whole end offset Nothing stands right begins (inr place) = absurd (omega (arith, place.0))
no_place bytes whole end offset (Named version) stands right begins (inl place) =
    no_named bytes stands.version version whole stands.begins.0 begins.0 stands.sound stands.says stands.begins.1
    begins.1 place.0
no_place bytes whole end offset (Named version) stands right begins (inr place) =
    absurd (omega (arith, place.0, version_size version))
no_place bytes whole end offset (Seeded seed) stands right begins (inl place) =
    no_seeded bytes stands.version whole stands.begins.0 seed begins.0 stands.sound stands.says stands.begins.1 right
    begins.1 place.0
no_place bytes whole end offset (Seeded seed) stands right begins (inr place) =
    absurd (omega (arith, place.0, seeded_size seed right.size))
no_place bytes whole end offset (Begun version begun) stands right begins (inl place) =
    let m = meets bytes stands.version version whole begun begins.0 stands.begins.0 stands.sound stands.says right
    stands.begins.1 begins.1 in
    goes_on bytes version begun m.others begins.0 stands.begins.0 place.0 right
    (subst (AreItems 0) m.items stands.sound.items) begins.1 m.rest
no_place bytes whole end offset (Begun version begun) stands right begins (inr place) =
    let m = meets bytes stands.version version whole begun begins.0 stands.begins.0 stands.sound stands.says right
    stands.begins.1 begins.1 in
    let size = begun_size bytes (recording_text stands.version whole) (opening_text version begun) begins.0
    stands.begins.0 (flat_map item_text m.others) stands.begins.1 begins.1 m.rest in
    absurd (omega (arith, size, place.0, stands.ends, stands.short))
no_place bytes whole end offset (Ended version other) stands right begins (inl place) = absurd place.0.is_open
no_place bytes whole end offset (Ended version other) stands right begins (inr place) =
    let left = codes "end" ++ 10 ∷ begins.0 in
    let parted = begins.1 ∙ ending_parts version other begins.0 in
    let m = meets bytes stands.version version whole other left stands.begins.0 stands.sound stands.says right
    stands.begins.1 parted in
    let size = begun_size bytes (recording_text stands.version whole) (opening_text version other) left
    stands.begins.0 (flat_map item_text m.others) stands.begins.1 parted m.rest in
    absurd (omega (arith, size, place.0, stands.ends, stands.short, text_size version other))

pub not_refused : (bytes : List ℕ) (whole : Recording) (end offset : ℕ) → Stands bytes whole end
    → IsRefusedAt bytes offset → ⊥
not_refused bytes whole end offset stands refused =
    no_place bytes whole end offset refused.part stands refused.right refused.begins refused.place

-- what is read is the one recording that stands there, or memory ran out
pub only_one : (bytes : List ℕ) (result : Result (Recording × ℕ) RecordStop)
    → IfOk result (λ read. Stands bytes read.0 read.1)
    → OnRefused result (IsRefusedAt bytes) → (whole : Recording) (end : ℕ) → Stands bytes whole end
    → Answers result Memory (Ok (whole, end))
only_one bytes (Ok read) found refused whole end stands =
    let same = one_recording bytes whole read.0 end read.1 stands found in
    ap (λ r. Ok (r, end)) same.0 ∙ ap (λ e. Ok (read.0, e)) same.1
only_one bytes (Err (Refused offset)) found refused whole end stands = λ other.
    absurd (not_refused bytes whole end offset stands refused)
only_one bytes (Err Memory) found refused whole end stands = λ other. absurd (other refl)
