-- The line ends of a text in two parts.
use Rattle.std.proofs.Common.{◌≡◌, ℕ, zero, suc, ◌+◌, ◌≤◌, List, drop, sym, ap, ◌∙◌, arith, if◌then◌else◌}
use Rattle.std.proofs.lemmas.List.{drop-drop}
use Rattle.vb_value.specs.Lines.{ends_line, line_at, line_ends}

-- 1 where the first character ends a line
abbrev one_if_ends : List ℕ → ℕ
one_if_ends text = if ends_line text then 1 else 0

-- those of the first characters, and those of the characters behind them
pub line_ends_add : (text : List ℕ) (at count : ℕ)
    → line_ends (at + count) text ≡ line_ends at text + line_ends count (drop at text)
line_ends_add text at zero =
    let none : at + zero ≡ at = omega arith in
    let same = ap (λ n. line_ends n text) none in
    omega (arith, same)
line_ends_add text at (suc count) =
    let place : at + suc count ≡ suc (at + count) = omega arith in
    let rest : drop count (drop at text) ≡ drop (at + count) text = drop-drop count at text in
    let before = line_ends_add text at count in
    let here = ap one_if_ends (sym rest) in
    ap (λ n. line_ends n text) place ∙ omega (arith, before, here)

pub line_ends_le : (count : ℕ) (text : List ℕ) → line_ends count text ≤ count
line_ends_le zero text = omega arith
line_ends_le (suc count) text = let before = line_ends_le count text in grind arith

-- the line of a place further on
pub line_moves : (text : List ℕ) (at taken line : ℕ) → line ≡ line_at text at
    → line + line_ends taken (drop at text) ≡ line_at text (at + taken)
line_moves text at taken line same = let parts = line_ends_add text at taken in omega arith
