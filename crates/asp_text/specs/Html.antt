-- Texts as HTML shows them: `Server.HTMLEncode` of the ASP 3.0 built-in objects.
use Rattle.std.specs.Prelude.{ℕ, List, [], ◌∷◌, ◌++◌, if◌then◌else◌, ◌==◌, nat_lt, codes}
use Rattle.std.specs.List.{flat_map}
use Rattle.std.specs.Fmt.{decimal}

-- a character by its number, which is written in decimal
abbrev pub numbered : ℕ → List ℕ
numbered c = codes "&#" ++ decimal c ++ codes ";"

-- `<`, `>`, `&` and `"` by their names, a character beyond ASCII by its number, any other as it is
abbrev pub html_character : ℕ → List ℕ
html_character c =
    if c == 60 then codes "&lt;"
    else (if c == 62 then codes "&gt;"
    else (if c == 38 then codes "&amp;"
    else (if c == 34 then codes "&quot;"
    else (if nat_lt c 128 then c ∷ [] else numbered c))))

-- each character of the text so
unfoldable pub html_encoded : List ℕ → List ℕ
html_encoded text = flat_map html_character text
