-- The bytes of a page and its text.
use Rattle.std.proofs.Common.{◌≡◌, ℕ, ◌<◌, ◌^◌, Bool, true, false, List, [], Ok, Err, length}
use Rattle.std.proofs.Common.{refl, ap, subst, inl, inr, arith, if◌then◌else◌}
use Rattle.std.specs.Prelude.{Result}
use Rattle.std.specs.Str.{chars, is_utf8, IsUtf8}
use Rattle.std.proofs.lemmas.Str.{encodes-chars, length-le-encodes, is_utf8-from_IsUtf8, IsUtf8-from_is_utf8}
use Rattle.vb_value.specs.declared.stop.Stop.{Stop}
use Rattle.vb_value.specs.declared.stop.Stop.TheVariants.{Fault, Memory}
use Rattle.vb_value.specs.declared.text.Utf8Stop.TheVariants.{NotUtf8}
use Rattle.vb_value.specs.Decoding.{decoded}
use Rattle.vb_value.specs.Outcome.{OnFault}
use Rattle.page_read.specs.declared.fault.PageFault.TheVariants as faults
use Rattle.page_read.specs.declared.fault.PageFault.{PageFault}
use Rattle.page_read.specs.declared.fragment.Fragment.{Fragment}
use Rattle.page_read.specs.Fragments.{AreCut, HasFault, IsFragmentsOf, StopsAt, unmarked}

-- bytes that are UTF-8 are decoded
utf8_decoded : (bytes : List ℕ) → IsUtf8 bytes → decoded bytes ≡ Ok (chars bytes)
utf8_decoded bytes is = rw (is_utf8-from_IsUtf8 bytes is) refl

-- bytes that are not decoded are no UTF-8 as a whole
pub no_text : (bytes : List ℕ) → decoded bytes ≡ Err NotUtf8 → HasFault bytes faults.NotUtf8 0
no_text bytes is = inl (refl, refl, λ utf8. let there = utf8_decoded bytes utf8 in cc)

-- what was decoded is the bytes' text
pub text_is : (bytes text : List ℕ) → decoded bytes ≡ Ok text → IsUtf8 bytes × (text ≡ chars bytes)
text_is bytes text is =
    let test : (b : Bool) → is_utf8 bytes ≡ b → (if b then Ok (chars bytes) else Err NotUtf8) ≡ Ok text
    → IsUtf8 bytes × (text ≡ chars bytes) =
    elim [ true ↦ λ utf8 same. (IsUtf8-from_is_utf8 bytes utf8, cc) | false ↦ λ utf8 same. cc ] in
    test (is_utf8 bytes) refl is

-- a text has no more characters than bytes
pub short_text : (bytes text : List ℕ) → decoded bytes ≡ Ok text → length bytes < 2 ^ 31 → length text < 2 ^ 31
short_text bytes text is short =
    let both = text_is bytes text is in
    let long = ap length both.1 in
    let whole = ap length (encodes-chars bytes both.0) in
    omega (arith, long, whole, length-le-encodes (chars bytes), short)

-- the pieces of the text are those of the bytes
pub pieces_there : (bytes text page : List ℕ) (pieces : List Fragment) → decoded bytes ≡ Ok text → page ≡ unmarked text
    → AreCut page page pieces [] → IsFragmentsOf bytes pieces
pieces_there bytes text page pieces is page_is cut =
    let both = text_is bytes text is in
    let P : List ℕ → Type 0 = λ p. AreCut p p pieces [] in
    record { utf8 = both.0; cut = subst (λ (t : List ℕ). P (unmarked t)) both.1 (subst P page_is cut) }

-- the fault of the text is that of the bytes
pub fault_there : (bytes text page : List ℕ) (result : Result (List Fragment) (Stop PageFault))
    → decoded bytes ≡ Ok text
    → page ≡ unmarked text → OnFault result (StopsAt page) → OnFault result (HasFault bytes)
fault_there bytes text page (Ok pieces) is page_is fault = tt
fault_there bytes text page (Err (Fault kind line)) is page_is fault =
    let both = text_is bytes text is in
    let P : List ℕ → Type 0 = λ p. StopsAt p kind line in
    inr (both.0, subst (λ (t : List ℕ). P (unmarked t)) both.1 (subst P page_is fault))
fault_there bytes text page (Err Memory) is page_is fault = tt
