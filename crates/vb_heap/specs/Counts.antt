-- How often a number is in a list.
use Rattle.std.specs.Prelude.{ℕ, ◌==◌, List, count_by}

-- how many of some numbers are that one
abbrev pub count_of : ℕ → List ℕ → ℕ
count_of number numbers = count_by (λ other. other == number) numbers
