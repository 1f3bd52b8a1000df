-- The folder of a file, character by character.
use Rattle.std.proofs.Common.{◌≡◌, ◌∙◌, ℕ, zero, suc, ◌+◌, ◌<◌, Bool, true, false, List, [], ◌∷◌, ◌++◌, length, take, drop}
use Rattle.std.proofs.Common.{refl, sym, ap, arith, append-nil}
use Rattle.std.specs.Prelude.{cond}
use Rattle.page_read.specs.Including.{folder_of, has_slash}

-- a path without a slash has no folder
without_slash : (path : List ℕ) → has_slash path ≡ false → folder_of path ≡ []
without_slash [] none = refl
without_slash (c ∷ path) none =
    let tested : (b : Bool) → b ≡ false → cond b (c ∷ folder_of path) [] ≡ [] = elim [ true ↦ λ is. cc | false ↦ λ is. refl ] in
    tested (has_slash (c ∷ path)) none

pub folder_here : (path folder name whole : List ℕ) (at : ℕ) → whole ≡ take at path ++ folder_of (drop at path)
    → has_slash (drop at path) ≡ false → whole ≡ take at path
folder_here path folder name whole at is none =
    is ∙ ap (λ (t : List ℕ). take at path ++ t) (without_slash (drop at path) none) ∙ append-nil (take at path)

next : (path : List ℕ) (at : ℕ) → at < length path → has_slash (drop at path) ≡ true
    → take at path ++ folder_of (drop at path) ≡ take (suc at) path ++ folder_of (drop (suc at) path)
next [] at within slash = absurd (omega arith)
next (c ∷ path) zero within slash =
    let tested : (b : Bool) → b ≡ true → cond b (c ∷ folder_of path) [] ≡ c ∷ folder_of path =
    elim [ true ↦ λ is. refl | false ↦ λ is. cc ] in
    tested (has_slash (c ∷ path)) slash
next (c ∷ path) (suc at) within slash = ap (λ (t : List ℕ). c ∷ t) (next path at (omega arith) slash)

-- with a slash behind it, a character is of the folder
pub folder_more : (path : List ℕ) (at : ℕ) → at < length path → has_slash (drop at path) ≡ true
    → take (at + 1) path ++ folder_of (drop (at + 1) path) ≡ take at path ++ folder_of (drop at path)
folder_more path at within slash =
    let count : suc at ≡ at + 1 = omega arith in
    ap (λ (n : ℕ). take n path ++ folder_of (drop n path)) (sym count) ∙ sym (next path at within slash)
