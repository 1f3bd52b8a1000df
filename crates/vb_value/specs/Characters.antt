-- Characters of texts, by their numbers.
use Rattle.std.specs.Prelude.{ℕ, Bool, ◌||◌, ◌==◌}

-- a tab
abbrev pub tab : ℕ
tab = 9

-- LF
abbrev pub line_feed : ℕ
line_feed = 10

-- CR
abbrev pub carriage_return : ℕ
carriage_return = 13

-- a space
abbrev pub space : ℕ
space = 32

-- `+`
abbrev pub plus_sign : ℕ
plus_sign = 43

-- `-`
abbrev pub minus_sign : ℕ
minus_sign = 45

-- `.`
abbrev pub full_stop : ℕ
full_stop = 46

-- `0`, behind which the other digits follow
abbrev pub digit_zero : ℕ
digit_zero = 48

-- a space or a tab
abbrev pub is_blank : ℕ → Bool
is_blank c = c == space || c == tab
