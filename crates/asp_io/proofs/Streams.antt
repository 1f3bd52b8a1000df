-- The bytes that a reader gave, read after read.
use Rattle.std.proofs.Common.{◌≡◌, ℕ, ◌<◌, ◌≤◌, List, [], ◌++◌, Option, None, Some}
use Rattle.std.proofs.Common.{length, take, drop, inl, inr, sym, ◌∙◌, ap, arith, append_assoc, append-nil}
use Rattle.std.specs.Prelude.{IfSome}
use Rattle.std.specs.Io.{StartsWith, appended_bytes}
use Rattle.std.specs.Io.KnownBytes.{Consumes, IsAtEnd}
use Rattle.std.proofs.lemmas.Bool.{cases_lt}
use Rattle.std.proofs.lemmas.List.{take-append-drop, take_all, take_at}

-- one read more
pub consumes_more : (first old new : Option (List ℕ)) (bytes more : List ℕ) → Consumes first old bytes
    → StartsWith more bytes → Consumes old new (appended_bytes bytes more) → Consumes first new more
consumes_more None old new bytes more before kept after = tt
consumes_more (Some all) None new bytes more before kept after = absurd before
consumes_more (Some all) (Some left) None bytes more before kept after = absurd after
consumes_more (Some all) (Some left) (Some rest) bytes more before kept after =
    let whole : bytes ++ drop (length bytes) more ≡ more =
    ap (λ start. start ++ drop (length bytes) more) (sym kept) ∙ take-append-drop (length bytes) more in
    before ∙ ap (λ tail. bytes ++ tail) after ∙ sym (append_assoc bytes (drop (length bytes) more) rest)
    ∙ ap (λ start. start ++ rest) whole

-- what was read is the start of all, where it is as long as it may be or nothing is left
pub read_is_start : (first now : Option (List ℕ)) (bytes : List ℕ) (most : ℕ) → Consumes first now bytes
    → length bytes ≤ most → (length bytes < most → IsAtEnd now) → IfSome first (λ all. bytes ≡ take most all)
read_is_start None now bytes most read within ends = tt
read_is_start (Some all) None bytes most read within ends = absurd read
read_is_start (Some all) (Some rest) bytes most read within ends =
    elim (cases_lt (length bytes) most) [
      | inl short ↦ let none : rest ≡ [] = ends short in
          let whole : all ≡ bytes = read ∙ ap (λ tail. bytes ++ tail) none ∙ append-nil bytes in
          sym (take_all most bytes within) ∙ ap (take most) (sym whole)
      | inr full ↦ let long : length bytes ≡ most = omega arith in
          sym (take_at bytes rest most long) ∙ ap (take most) (sym read)
    ]
