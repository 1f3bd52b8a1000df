-- Bytes that are written piece by piece.
use Rattle.std.proofs.Common.{◌≡◌, ℕ, ◌+◌, ◌<◌, List, [], ◌∷◌, ◌++◌, Option, None, Some, length, take, drop, get_or}
use Rattle.std.proofs.Common.{Err}
use Rattle.std.proofs.Common.{refl, ap, sym, ◌∙◌, append_assoc, append-nil, length-append, arith}
use Rattle.std.proofs.Math.Seq.{take-append-add, take-append_seam, take-length}
use Rattle.std.proofs.lemmas.Grind.{flat_map-append}
use Rattle.std.proofs.lemmas.List.{take-append-drop, take-append-le, take_more}
use Rattle.std.specs.List.{flat_map}
use Rattle.asp_io.specs.Copying.{AddsPart}
use Rattle.asp_io.specs.Sink.{with_bytes}
use Rattle.asp_replay.specs.declared.stop.FeedStop.{FeedStop}
use Rattle.asp_replay.specs.declared.stop.FeedStop.TheVariants as stop
use Rattle.asp_replay.specs.Underway.{HasWritten, WritesText}

pub with_none : (held : Option (List ℕ)) → with_bytes held [] ≡ held
with_none None = refl
with_none (Some bytes) = ap Some (append-nil bytes)

pub with_both : (held : Option (List ℕ)) (first second : List ℕ)
    → with_bytes (with_bytes held first) second ≡ with_bytes held (first ++ second)
with_both None first second = refl
with_both (Some bytes) first second = ap Some (append_assoc bytes first second)

-- one piece more
pub wrote_more : (before now new : Option (List ℕ)) (bytes piece : List ℕ) → now ≡ with_bytes before bytes
    → new ≡ with_bytes now piece → new ≡ with_bytes before (bytes ++ piece)
wrote_more before now new bytes piece was wrote =
    wrote ∙ ap (λ held. with_bytes held piece) was ∙ with_both before bytes piece

-- all of a text's beginning is a part of it
pub part_all : (before now : Option (List ℕ)) (bytes rest : List ℕ) → now ≡ with_bytes before bytes
    → AddsPart before now (bytes ++ rest)
part_all before now bytes rest wrote =
    record {
      count = length bytes;
      within = omega (arith, length-append bytes rest);
      added = wrote ∙ ap (with_bytes before) (sym (take-append_seam bytes rest));
    }

pub part_whole : (before now : Option (List ℕ)) (bytes : List ℕ) → now ≡ with_bytes before bytes
    → AddsPart before now bytes
part_whole before now bytes wrote =
    record {
      count = length bytes;
      within = omega arith;
      added = wrote ∙ ap (with_bytes before) (sym (take-length bytes));
    }

-- a part of a piece behind what was written before
pub part_more : (before now new : Option (List ℕ)) (bytes piece : List ℕ) → now ≡ with_bytes before bytes
    → AddsPart now new piece → AddsPart before new (bytes ++ piece)
part_more before now new bytes piece was part =
    let count = part.count in
    let within = part.within in
    record {
      count = length bytes + count;
      within = omega (arith, length-append bytes piece);
      added = wrote_more before now new bytes (take count piece) was part.added
          ∙ ap (with_bytes before) (sym (take-append-add bytes piece count));
    }

-- a part of a text's beginning is one of the text
pub part_longer : (before now : Option (List ℕ)) (bytes rest : List ℕ) → AddsPart before now bytes
    → AddsPart before now (bytes ++ rest)
part_longer before now bytes rest part =
    let within = part.within in
    record {
      count = part.count;
      within = omega (arith, length-append bytes rest);
      added = part.added ∙ ap (with_bytes before) (sym (take-append-le part.count bytes rest within));
    }

-- ---- a text of pieces

pub texts_more : {A : Type 0} → (f : A → List ℕ) (items : List A) (at : ℕ) (d : A) → at < length items
    → flat_map f (take (at + 1) items) ≡ flat_map f (take at items) ++ f (get_or items at d)
texts_more f items at d l =
    ap (flat_map f) (take_more items at d l) ∙ flat_map-append f (take at items) (get_or items at d ∷ [])
    ∙ ap (λ text. flat_map f (take at items) ++ text) (append-nil (f (get_or items at d)))

pub texts_split : {A : Type 0} → (f : A → List ℕ) (items : List A) (at : ℕ)
    → flat_map f (take at items) ++ flat_map f (drop at items) ≡ flat_map f items
texts_split f items at =
    sym (flat_map-append f (take at items) (drop at items)) ∙ ap (flat_map f) (take-append-drop at items)

-- ---- a piece that was not written whole

pub stopped_part : (ended : FeedStop) (old new : Option (List ℕ)) (piece : List ℕ)
    → HasWritten {T = Unit {0}} (Err ended) old new piece → AddsPart old new piece
stopped_part stop.WriteFault old new piece wrote = wrote
stopped_part stop.Memory old new piece same =
    record { count = 0; within = omega arith; added = same ∙ sym (with_none old) }
stopped_part (stop.JournalFull full) old new piece none = absurd none
stopped_part (stop.StartFailed fail) old new piece none = absurd none

pub stopped_text : (ended : FeedStop) (before old new : Option (List ℕ)) (piece text : List ℕ)
    → HasWritten {T = Unit {0}} (Err ended) old new piece → AddsPart before new text
    → WritesText {T = Unit {0}} text (Err ended) before new
stopped_text stop.WriteFault before old new piece text wrote part = part
stopped_text stop.Memory before old new piece text same part = part
stopped_text (stop.JournalFull full) before old new piece text none part = none
stopped_text (stop.StartFailed fail) before old new piece text none part = none
