-- Where bytes are refused, and where a recording stands, by what its reader found.
use Rattle.std.proofs.Common.{◌≡◌, ◌≢◌, ℕ, ◌+◌, ◌-◌, ◌<◌, ◌≤◌, Bool, true, false, List, [], ◌∷◌, ◌++◌, length, Option}
use Rattle.std.proofs.Common.{Some, None, inl, inr}
use Rattle.std.proofs.Common.{refl, sym, ap, subst, ◌∙◌, append_assoc, arith}
use Rattle.std.specs.Prelude.{codes}
use Rattle.std.specs.List.{flat_map}
use Rattle.std.proofs.lemmas.List.{append_cancel_left, length-append}
use Rattle.asp_record.specs.declared.recording.Item.{Item}
use Rattle.asp_record.specs.declared.recording.Recording.{Recording}
use Rattle.asp_record.specs.Recording.{First, Second, Version, head_text, item_text, lock_text, opening_text}
use Rattle.asp_record.specs.Recording.{recording_text, rule_text, seed_text, version_text}
use Rattle.asp_record.specs.Fields.{behind}
use Rattle.asp_record.specs.Reading.{HasHead, HasNoRule, HasOpening, seed_line_at}
use Rattle.asp_record.specs.Recorded.{AreItems, Begun, Begins, Ended, HasNoItem, IsLonger, IsPart, IsRefusedAt, IsSeed}
use Rattle.asp_record.specs.Recorded.{IsSound, Named, Nothing, Part, Seeded, Stands, last_of, most_bytes, part_text}
use Rattle.asp_record.proofs.FieldLaws.{behind_again, behind_is}
use Rattle.asp_record.proofs.NextItem.{text_more}
use Rattle.asp_record.proofs.OneRecording.{ending_parts, head_parts, item_within, opening_parts, seed_line_again}
use Rattle.asp_record.proofs.OneRecording.{seed_line_is, seeded_size, text_size, version_size}

-- what a word does not begin
not_behind : (word bytes rest : List ℕ) → behind word bytes ≡ None → bytes ≢ word ++ rest
not_behind word bytes rest none = λ text.
    let some : behind word bytes ≡ Some rest = ap (behind word) text ∙ behind_again word rest in
    let no : None ≡ Some rest = sym none ∙ some in cc

first_last : (bytes : List ℕ) → behind (codes "ASPREC 1" ++ 10 ∷ []) bytes ≡ None
    → behind (codes "ASPREC 2" ++ 10 ∷ []) bytes ≡ None → (longer : Part) → IsPart longer → IsLonger Nothing longer
    → ¬ (Begins bytes (part_text longer))
first_last bytes none also (Named First) right longer =
    λ begins. not_behind (codes "ASPREC 1" ++ 10 ∷ []) bytes begins.0 none begins.1
first_last bytes none also (Named Second) right longer =
    λ begins. not_behind (codes "ASPREC 2" ++ 10 ∷ []) bytes begins.0 also begins.1
first_last bytes none also part right longer = λ begins. longer

pub refused_first : (bytes : List ℕ) → behind (codes "ASPREC 1" ++ 10 ∷ []) bytes ≡ None
    → behind (codes "ASPREC 2" ++ 10 ∷ []) bytes ≡ None → IsRefusedAt bytes 0
refused_first bytes none also = record {
  part = Nothing;
  right = tt;
  begins = (bytes, refl);
  place = inl (record { is_open = tt; last = first_last bytes none also }, omega arith, refl);
}

-- ---- behind the first line

no_seed : (rest seed later : List ℕ) → seed_line_at rest ≡ None → IsSeed seed → rest ≡ seed_text seed ++ later → ⊥
no_seed rest seed later none is text =
    let some : seed_line_at rest ≡ Some (seed, later) =
    ap seed_line_at text ∙ seed_line_again seed later is.size is.bytes in
    let no : ◌≡◌ {A = Option (List ℕ × List ℕ)} None (Some (seed, later)) = sym none ∙ some in cc

seed_last : (bytes rest : List ℕ) (version : Version) → bytes ≡ version_text version ++ rest
    → seed_line_at rest ≡ None → (longer : Part) → IsPart longer → IsLonger (Named version) longer
    → ¬ (Begins bytes (part_text longer))
seed_last bytes rest First text none (Begun First recording) right longer = λ begins.
    let later = flat_map item_text recording.items ++ begins.0 in
    no_seed rest recording.seed later none right.0.seed
    (append_cancel_left (version_text First) rest (seed_text recording.seed ++ later)
    (sym text ∙ begins.1 ∙ opening_parts First recording begins.0))
seed_last bytes rest Second text none (Seeded seed) right longer = λ begins.
    no_seed rest seed begins.0 none right
    (append_cancel_left (version_text Second) rest (seed_text seed ++ begins.0)
    (sym text ∙ begins.1 ∙ append_assoc (version_text Second) (seed_text seed) begins.0))
seed_last bytes rest version text none part right longer = λ begins. absurd longer

pub refused_seed : (bytes rest : List ℕ) (version : Version) → bytes ≡ version_text version ++ rest
    → seed_line_at rest ≡ None → IsRefusedAt bytes 9
refused_seed bytes rest version text none = record {
  part = Named version;
  right = tt;
  begins = (rest, text);
  place = inl (
    record { is_open = tt; last = seed_last bytes rest version text none },
    omega (arith, version_size version),
    sym (version_size version),
  );
}

-- ---- behind the line of the seed

pub no_rule : (bytes : List ℕ) → behind (codes "lock plain" ++ 10 ∷ []) bytes ≡ None
    → behind (codes "lock strict" ++ 10 ∷ []) bytes ≡ None → HasNoRule bytes
no_rule bytes none also false rest = not_behind (codes "lock plain" ++ 10 ∷ []) bytes rest none
no_rule bytes none also true rest = not_behind (codes "lock strict" ++ 10 ∷ []) bytes rest also

rule_last : (bytes rest seed : List ℕ) → bytes ≡ (version_text Second ++ seed_text seed) ++ rest → HasNoRule rest
    → (longer : Part) → IsPart longer → IsLonger (Seeded seed) longer → ¬ (Begins bytes (part_text longer))
rule_last bytes rest seed text none (Begun Second recording) right longer = λ begins.
    let later = flat_map item_text recording.items ++ begins.0 in
    let seeds : version_text Second ++ (seed_text recording.seed ++ (lock_text recording.strict ++ later))
    ≡ version_text Second ++ (seed_text seed ++ (lock_text recording.strict ++ later)) =
    ap (λ s. version_text Second ++ (seed_text s ++ (lock_text recording.strict ++ later))) longer.0 in
    let same : (version_text Second ++ seed_text seed) ++ rest
    ≡ (version_text Second ++ seed_text seed) ++ (lock_text recording.strict ++ later) =
    sym text ∙ begins.1 ∙ opening_parts Second recording begins.0 ∙ seeds
    ∙ sym (append_assoc (version_text Second) (seed_text seed) (lock_text recording.strict ++ later)) in
    none recording.strict later (append_cancel_left (version_text Second ++ seed_text seed) rest
    (lock_text recording.strict ++ later) same)
rule_last bytes rest seed text none part right longer = λ begins. absurd longer

pub refused_rule : (bytes rest seed : List ℕ) → bytes ≡ (version_text Second ++ seed_text seed) ++ rest → IsSeed seed
    → HasNoRule rest → IsRefusedAt bytes 79
refused_rule bytes rest seed text is none = record {
  part = Seeded seed;
  right = is;
  begins = (rest, text);
  place = inl (
    record { is_open = tt; last = rule_last bytes rest seed text none },
    omega (arith, seeded_size seed is.size),
    sym (seeded_size seed is.size),
  );
}

-- ---- behind items

begun_last : (bytes rest : List ℕ) (version : Version) (recording : Recording)
    → bytes ≡ opening_text version recording ++ rest → HasNoItem (last_of 0 recording.items) rest
    → behind (codes "end" ++ 10 ∷ []) rest ≡ None → (longer : Part) → IsPart longer
    → IsLonger (Begun version recording) longer → ¬ (Begins bytes (part_text longer))
begun_last bytes rest version recording text last none (Begun same other) right longer = λ begins.
    let item : Item = longer.3.0 in
    let later = item_text item ++ begins.0 in
    let more = text_more recording.items item (flat_map item_text recording.items ++ later) later begins.0 refl refl in
    let whole : opening_text same other ++ begins.0 ≡ opening_text version recording ++ later =
    opening_parts same other begins.0
    ∙ ap (λ v. version_text v ++ (seed_text other.seed ++ (rule_text v other.strict
    ++ (flat_map item_text other.items ++ begins.0)))) longer.0
    ∙ ap (λ s. version_text version ++ (seed_text s ++ (rule_text version other.strict
    ++ (flat_map item_text other.items ++ begins.0)))) longer.1
    ∙ ap (λ s. version_text version ++ (seed_text recording.seed ++ (rule_text version s
    ++ (flat_map item_text other.items ++ begins.0)))) longer.2
    ∙ ap (λ i. version_text version ++ (seed_text recording.seed ++ (rule_text version recording.strict
    ++ (flat_map item_text i ++ begins.0)))) longer.3.1
    ∙ ap (λ l. version_text version ++ (seed_text recording.seed ++ (rule_text version recording.strict ++ l)))
    (sym more)
    ∙ sym (opening_parts version recording later) in
    let cut : rest ≡ later = append_cancel_left (opening_text version recording) rest later
    (sym text ∙ begins.1 ∙ whole) in
    let items : AreItems 0 (recording.items ++ item ∷ []) = subst (AreItems 0) longer.3.1 right.0.items in
    last item begins.0 (item_within 0 recording.items item [] items) cut
begun_last bytes rest version recording text last none (Ended same other) right longer = λ begins.
    let ended = codes "end" ++ 10 ∷ begins.0 in
    let whole : recording_text same other ++ begins.0 ≡ opening_text version recording ++ ended =
    ap (λ v. recording_text v other ++ begins.0) longer.0 ∙ ap (λ r. recording_text version r ++ begins.0) longer.1
    ∙ ending_parts version recording begins.0 in
    let cut : rest ≡ ended = append_cancel_left (opening_text version recording) rest ended
    (sym text ∙ begins.1 ∙ whole) in
    not_behind (codes "end" ++ 10 ∷ []) rest begins.0 none cut
begun_last bytes rest version recording text last none part right longer = λ begins. absurd longer

-- how much was read
read_size : (bytes rest text : List ℕ) → bytes ≡ text ++ rest → length bytes - length rest ≡ length text
read_size bytes rest text is =
    let size = ap length is in
    let sum = length-append text rest in
    omega (arith, size, sum)

pub refused_item : (bytes rest : List ℕ) (recording : Recording) (at : ℕ) → HasOpening bytes recording rest
    → IsSound recording
    → HasNoItem (last_of 0 recording.items) rest → behind (codes "end" ++ 10 ∷ []) rest ≡ None
    → at ≡ length bytes - length rest
    → at ≤ most_bytes → IsRefusedAt bytes at
refused_item bytes rest recording at opens sound last none is short =
    let size = is ∙ read_size bytes rest (opening_text opens.version recording) opens.text in
    record {
      part = Begun opens.version recording;
      right = (sound, opens.says);
      begins = (rest, opens.text);
      place = inl (
        record { is_open = tt; last = begun_last bytes rest opens.version recording opens.text last none },
        omega (arith, size, short),
        size,
      );
    }

pub refused_long : (bytes rest : List ℕ) (recording : Recording) → HasOpening bytes recording rest
    → IsSound recording
    → most_bytes < length bytes - length rest → IsRefusedAt bytes most_bytes
refused_long bytes rest recording opens sound long = record {
  part = Begun opens.version recording;
  right = (sound, opens.says);
  begins = (rest, opens.text);
  place = inr (
    let size = read_size bytes rest (opening_text opens.version recording) opens.text in omega (arith, size, long),
    refl,
  );
}

whole : (bytes rest after : List ℕ) (version : Version) (recording : Recording)
    → bytes ≡ opening_text version recording ++ rest → behind (codes "end" ++ 10 ∷ []) rest ≡ Some after
    → bytes ≡ recording_text version recording ++ after
whole bytes rest after version recording text ends =
    text ∙ ap (λ l. opening_text version recording ++ l) (behind_is (codes "end" ++ 10 ∷ []) rest after ends)
    ∙ sym (ending_parts version recording after)

pub refused_end : (bytes rest after : List ℕ) (recording : Recording) → HasOpening bytes recording rest
    → IsSound recording
    → behind (codes "end" ++ 10 ∷ []) rest ≡ Some after → most_bytes < length bytes - length rest + 4
    → IsRefusedAt bytes most_bytes
refused_end bytes rest after recording opens sound ends long = record {
  part = Ended opens.version recording;
  right = (sound, opens.says);
  begins = (after, whole bytes rest after opens.version recording opens.text ends);
  place = inr (
    let size = read_size bytes rest (opening_text opens.version recording) opens.text in
        omega (arith, size, long, text_size opens.version recording),
    refl,
  );
}

pub stands : (bytes rest after : List ℕ) (recording : Recording) (end : ℕ) → HasOpening bytes recording rest
    → IsSound recording
    → behind (codes "end" ++ 10 ∷ []) rest ≡ Some after → end ≡ length bytes - length rest + 4 → end ≤ most_bytes
    → Stands bytes recording end
stands bytes rest after recording end opens sound ends is short =
    let size = read_size bytes rest (opening_text opens.version recording) opens.text in
    record {
      sound = sound;
      version = opens.version;
      says = opens.says;
      begins = (after, whole bytes rest after opens.version recording opens.text ends);
      ends = omega (arith, is, size, text_size opens.version recording);
      short = short;
    }

-- ---- what is read before the items

pub plain_head : (bytes named begun seed : List ℕ) → bytes ≡ version_text First ++ named
    → seed_line_at named ≡ Some (seed, begun) → HasHead bytes seed false begun
plain_head bytes named begun seed text found = record {
  version = First;
  says = refl;
  text = text ∙ ap (λ l. version_text First ++ l) (seed_line_is named seed begun found)
      ∙ sym (head_parts First seed false begun);
}

pub seeded : (bytes named left seed : List ℕ) → bytes ≡ version_text Second ++ named
    → seed_line_at named ≡ Some (seed, left) → bytes ≡ version_text Second ++ seed_text seed ++ left
seeded bytes named left seed text found =
    text ∙ ap (λ l. version_text Second ++ l) (seed_line_is named seed left found)
    ∙ sym (append_assoc (version_text Second) (seed_text seed) left)

pub ruled_head : (bytes left begun seed : List ℕ) (strict : Bool)
    → bytes ≡ version_text Second ++ seed_text seed ++ left → left ≡ lock_text strict ++ begun
    → HasHead bytes seed strict begun
ruled_head bytes left begun seed strict text found = record {
  version = Second;
  says = tt;
  text = text ∙ ap (λ l. version_text Second ++ seed_text seed ++ l) found
      ∙ sym (append_assoc (version_text Second ++ seed_text seed) (lock_text strict) begun);
}

pub opened : (bytes begun rest seed : List ℕ) (strict : Bool) (items : List Item) → HasHead bytes seed strict begun
    → begun ≡ flat_map item_text items ++ rest
    → HasOpening bytes (record { seed = seed; strict = strict; items = items }) rest
opened bytes begun rest seed strict items head text = record {
  version = head.version;
  says = head.says;
  text = head.text ∙ ap (λ l. head_text head.version seed strict ++ l) text
      ∙ sym (append_assoc (head_text head.version seed strict) (flat_map item_text items) rest);
}
