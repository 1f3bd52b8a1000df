-- Blanks at the end of a value.
use Rattle.std.proofs.Common.{◌≡◌, ℕ, ◌+◌, ◌-◌, ◌<◌, ◌≤◌, true, false, List, [], ◌∷◌, ◌++◌, length, take, get_or}
use Rattle.std.proofs.Common.{reverse, sym, ap, ◌∙◌, arith}
use Rattle.std.proofs.lemmas.List.{take_more, take_all, reverse-append, reverse-reverse, nil_from_length}
use Rattle.httparse.specs.Grammar.{is_ows, skip_ows}
use Rattle.httparse.proofs.TrimLemmas.{skip_ows_yes, skip_ows_no}

-- the last byte comes first from behind
backwards : (rest : List ℕ) → 1 ≤ length rest
    → reverse rest ≡ get_or rest (length rest - 1) 0 ∷ reverse (take (length rest - 1) rest)
backwards rest some =
    let n = length rest - 1 in
    let size : n + 1 ≡ length rest = omega arith in
    let front = take n rest in
    let whole : rest ≡ front ++ get_or rest n 0 ∷ [] =
    sym (take_all (n + 1) rest (omega arith)) ∙ take_more rest n 0 (omega arith) in
    ap reverse whole ∙ reverse-append front (get_or rest n 0 ∷ [])

pub one_back : (rest : List ℕ) → 1 ≤ length rest → is_ows (get_or rest (length rest - 1) 0) ≡ true
    → skip_ows (reverse rest) ≡ skip_ows (reverse (take (length rest - 1) rest))
one_back rest some blank = skip_ows_yes (backwards rest some) (sym blank)

pub none_back : (rest : List ℕ) → 1 ≤ length rest → is_ows (get_or rest (length rest - 1) 0) ≡ false
    → reverse (skip_ows (reverse rest)) ≡ rest
none_back rest some other = ap reverse (skip_ows_no (backwards rest some) (sym other)) ∙ reverse-reverse rest

pub nothing_back : (rest : List ℕ) → length rest < 1 → reverse (skip_ows (reverse rest)) ≡ rest
nothing_back rest none = let e : rest ≡ [] = nil_from_length rest (omega arith) in
    ap (λ l. reverse (skip_ows (reverse l))) e ∙ sym e
