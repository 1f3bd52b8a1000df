-- The pieces of a summary's text.
use Rattle.std.proofs.Common.{◌≡◌, ℕ, ℤ, List, [], ◌∷◌, ◌++◌, codes, append_assoc, ap, ◌∙◌}
use Rattle.std.specs.Fmt.{signed_decimal}
use Rattle.asp_summary.specs.Lines.{line}

-- lines of a word, a space, a number and a line end
joined : (a b c d space line_end x y z w : List ℕ)
    → (a ++ space) ++ (x ++ ((line_end ++ (b ++ space)) ++ (y ++ ((line_end ++ (c ++ space)) ++ (z
    ++ ((line_end ++ (d ++ space)) ++ (w ++ line_end)))))))
    ≡ (a ++ space ++ x ++ line_end) ++ (b ++ space ++ y ++ line_end) ++ (c ++ space ++ z ++ line_end)
    ++ (d ++ space ++ w ++ line_end)
joined a b c d space line_end x y z w = simp append_assoc

pub four_lines : (requests answers sessions : List ℕ) (written total : ℤ) → written ≡ total
    → codes "requests " ++ (requests ++ (codes "\nanswers " ++ (answers ++ (codes "\nsessions " ++ (sessions
    ++ (codes "\ntotal " ++ (signed_decimal written ++ codes "\n")))))))
    ≡ line (codes "requests") requests ++ line (codes "answers") answers ++ line (codes "sessions") sessions
    ++ line (codes "total") (signed_decimal total)
four_lines requests answers sessions written total same =
    let counts = line (codes "requests") requests ++ line (codes "answers") answers
    ++ line (codes "sessions") sessions in
    joined (codes "requests") (codes "answers") (codes "sessions") (codes "total") (codes " ") (10 ∷ []) requests
    answers sessions (signed_decimal written)
    ∙ ap (λ (number : ℤ). counts ++ line (codes "total") (signed_decimal number)) same
