-- The lines of a summary. All of it is our own.
use Rattle.std.specs.Prelude.{List, ℕ, ℤ, ◌∷◌, [], ◌++◌, codes}
use Rattle.std.specs.Fmt.{decimal, signed_decimal}
use Rattle.asp_summary.specs.declared.summary.Summary.{Summary}

-- a line: a word, a space, a number and LF
abbrev pub line : List ℕ → List ℕ → List ℕ
line word number = word ++ codes " " ++ number ++ 10 ∷ []

-- the four lines; a total below 0 has a `-`
abbrev pub lines_of : ℕ → ℕ → ℕ → ℤ → List ℕ
lines_of requests answers sessions total =
    line (codes "requests") (decimal requests)
    ++ line (codes "answers") (decimal answers)
    ++ line (codes "sessions") (decimal sessions)
    ++ line (codes "total") (signed_decimal total)

abbrev pub summary_lines : Summary → List ℕ
summary_lines summary = lines_of summary.requests summary.answers summary.sessions summary.total
