-- What a read from bytes in memory takes.
use Rattle.std.proofs.Common.{◌≡◌, ℕ, ◌+◌, ◌-◌, ◌≤◌, List, [], ◌∷◌, ◌++◌, Some}
use Rattle.std.proofs.Common.{length, take, drop, refl, sym, ◌∙◌, ap, subst, arith, length-take-le}
use Rattle.std.proofs.lemmas.List.{take-append-drop, take_at, take_rest, drop-drop}
use Rattle.asp_io.specs.Source.{Reads, moved}

-- a list without items is empty
none_left : (left : List ℕ) → length left ≡ 0 → left ≡ []
none_left [] none = refl
none_left (first ∷ rest) none = cc

-- a read that copies the first bytes of those left
pub reads_start : (left into new : List ℕ) (count : ℕ) → count ≡ moved (length left) (length into)
    → new ≡ take count left ++ drop count into → Reads (Some left) (Some (drop count left)) into new count
reads_start left into new count is copied =
    let within : count ≤ length left = omega arith in
    let front : take count new ≡ take count left =
    ap (take count) copied ∙ take_at (take count left) (drop count into) count (length-take-le count left within) in
    record {
      within = omega arith;
      kept = copied ∙ ap (λ start. start ++ drop count into) (sym front);
      came = ap Some (sym (take-append-drop count left) ∙ ap (λ start. start ++ drop count left) (sym front));
      ends = λ some none. none_left left (omega arith);
    }

-- the same from a place in the bytes
pub reads_from : (bytes left into new : List ℕ) (place count : ℕ) → drop place bytes ≡ left
    → count ≡ moved (length (take (length bytes - place) (drop place bytes))) (length into)
    → new ≡ take count (take (length bytes - place) (drop place bytes)) ++ drop count into
    → Reads (Some left) (Some (drop (place + count) bytes)) into new count
reads_from bytes left into new place count here is copied =
    let whole : take (length bytes - place) (drop place bytes) ≡ left = take_rest bytes place ∙ here in
    let rest : drop count left ≡ drop (place + count) bytes = ap (drop count) (sym here) ∙ drop-drop count place bytes in
    subst (λ rest. Reads (Some left) (Some rest) into new count) rest (reads_start left into new count
    (is ∙ ap (λ from. moved (length from) (length into)) whole)
    (copied ∙ ap (λ from. take count from ++ drop count into) whole))

-- the rest of a slice stays
pub kept_rest : (left into new : List ℕ) (count : ℕ) → count ≡ moved (length left) (length into)
    → new ≡ take count left ++ drop count into → new ≡ take count new ++ drop count into
kept_rest left into new count is copied = (reads_start left into new count is copied).kept
