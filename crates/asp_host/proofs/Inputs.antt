-- Bytes that come from a source, one piece behind the other, and where they are refused.
use Rattle.std.proofs.Common.{◌≡◌, ◌<◌, ◌≤◌, ℕ, List, [], ◌++◌, length, Option, None, Some, option_map}
use Rattle.std.proofs.Common.{refl, ap, sym, ◌∙◌, append_assoc, append-nil, length-append, subst, arith, inl, inr}
use Rattle.std.specs.Prelude.{nat_lt}
use Rattle.std.proofs.lemmas.Bool.Decides.{nat_tests}
use Rattle.asp_text.proofs.Places.{by_cases}
use Rattle.asp_record.specs.Recorded.{IsRefusedAt}
use Rattle.asp_record.specs.Recording.{recording_text}
use Rattle.asp_host.specs.declared.recording.RecordingStop.{RecordingStop}
use Rattle.asp_host.specs.declared.recording.RecordingStop.TheVariants as stop
use Rattle.asp_host.specs.Input.{AreRead, AreTaken, Comes, IsRecordingStop, IsSourceRefusedAt, IsStopOf, most_read}

taken_none : (before : Option (List ℕ)) → AreTaken before before []
taken_none None = refl
taken_none (Some bytes) = refl

-- nothing was read
pub read_nothing : (before : Option (List ℕ)) → AreTaken before before []
read_nothing = taken_none

taken_then : (before : Option (List ℕ)) (middle after : Option (List ℕ)) (first piece : List ℕ)
    → AreTaken before middle first → AreTaken middle after piece → AreTaken before after (first ++ piece)
taken_then before middle None first piece one other = one ∙ ap (option_map (λ rest. first ++ rest)) other
taken_then before middle (Some rest) first piece one other =
    one ∙ (ap (option_map (λ rest. first ++ rest)) other ∙ ap Some (sym (append_assoc first piece rest)))

-- what came stands behind what was read
pub taken_more : (before middle after : Option (List ℕ)) (old new : List ℕ) → AreTaken before middle old
    → Comes middle after old new → AreTaken before after new
taken_more before middle after old new first more =
    subst (AreTaken before after) (sym more.added) (taken_then before middle after old more.piece first more.taken)

-- ---- refusals

-- where so many bytes are refused, they are refused whatever follows: a law of asp_record
abbrev pub RefusalsStay : Type 0
RefusalsStay = (bytes more : List ℕ) (offset : ℕ) → 69206016 ≤ length bytes → IsRefusedAt bytes offset
    → IsRefusedAt (bytes ++ more) offset

place_stays : RefusalsStay → (bytes rest : List ℕ) (offset : ℕ) → (length bytes < most_read → rest ≡ [])
    → IsRefusedAt bytes offset → IsRefusedAt (bytes ++ rest) offset
place_stays stay bytes rest offset ends refused =
    by_cases (λ t. nat_lt (length bytes) most_read ≡ t → IsRefusedAt (bytes ++ rest) offset)
    (nat_lt (length bytes) most_read)
    (λ _ few.
    let short : length bytes < most_read = grind (arith, nat_tests) in
    let same : bytes ≡ bytes ++ rest = sym (ap (λ l. bytes ++ l) (ends short) ∙ append-nil bytes) in
    subst (λ l. IsRefusedAt l offset) same refused)
    (λ _ many.
    let long : 69206016 ≤ length bytes = grind (arith, nat_tests) in
    stay bytes rest offset long refused) refl

all_refused : RefusalsStay → (bytes rest : List ℕ) (offset : ℕ) → (length bytes < most_read → rest ≡ [])
    → IsSourceRefusedAt bytes offset → IsSourceRefusedAt (bytes ++ rest) offset
all_refused stay bytes rest offset ends (inl refused) = inl (place_stays stay bytes rest offset ends refused)
all_refused stay bytes rest offset ends (inr (recording, stands, more)) = inr (
  recording,
  record {
    sound = stands.sound;
    version = stands.version;
    says = stands.says;
    begins = (
      stands.begins.0 ++ rest,
      ap (λ l. l ++ rest) stands.begins.1 ∙ append_assoc (recording_text stands.version recording) stands.begins.0 rest,
    );
    ends = stands.ends;
    short = stands.short;
  },
  omega (arith, more, length-append bytes rest),
)

-- why the bytes that were read are no recording is why the source has none
pub source_stop : RefusalsStay → (before after : Option (List ℕ)) (bytes : List ℕ) (why : RecordingStop)
    → AreRead before after bytes → IsStopOf bytes why → IsRecordingStop before why
source_stop stay None after bytes (stop.Refused offset) read of = tt
source_stop stay (Some all) None bytes (stop.Refused offset) read of = absurd (let none = read.taken in cc)
source_stop stay (Some all) (Some rest) bytes (stop.Refused offset) read of =
    let taken = read.taken in
    let same : bytes ++ rest ≡ all = cc in
    subst (λ l. IsSourceRefusedAt l offset) same (all_refused stay bytes rest offset read.ends of)
source_stop stay before after bytes stop.ReadFault read of = tt
source_stop stay before after bytes stop.Memory read of = tt
