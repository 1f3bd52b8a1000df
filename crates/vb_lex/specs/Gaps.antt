-- What stands between the words of a script: blanks, what continues a line, and comments. And the ends
-- of lines. Each is given by its number of characters at the front of a text.
use Rattle.std.specs.Prelude.{ℕ, ◌+◌, ◌&&◌, List, drop, if◌then◌else◌, ◌==◌, nat_lt, slice_index}
use Rattle.std.specs.List.{prefix_len}
use Rattle.vb_value.specs.Characters.{line_feed, carriage_return, is_blank}
use Rattle.vb_lex.specs.Characters.{underscore, is_on_line}

-- A line ends in CR LF, in CR or in LF.
abbrev pub line_end_length : List ℕ → ℕ
line_end_length text =
    if slice_index text 0 == carriage_return then (if slice_index text 1 == line_feed then 2 else 1)
    else (if slice_index text 0 == line_feed then 1 else 0)

-- A comment goes up to the line's end.
abbrev pub line_length : List ℕ → ℕ
line_length text = prefix_len is_on_line text

-- behind a blank: `_` and the blanks behind it
abbrev pub underscore_length : List ℕ → ℕ
underscore_length text =
    if slice_index text 0 == underscore then 1 + prefix_len is_blank (drop 1 text) else 0

-- A blank, `_`, blanks and a line end continue the line. Any other blank stands for itself.
abbrev pub blank_length : List ℕ → ℕ
blank_length text =
    let used = 1 + underscore_length (drop 1 text) in
    let ending = line_end_length (drop used text) in
    if nat_lt 1 used && nat_lt 0 ending then used + ending else 1
