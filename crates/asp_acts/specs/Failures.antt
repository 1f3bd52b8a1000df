-- What an answer says of an act that failed, after what of the page was flushed: texts of our own.
use Rattle.std.specs.Prelude.{ℕ, ◌+◌, nat_lt, nat_le, ◌/◌, ◌%◌, if◌then◌else◌, ℤ, pos, negsuc, ◌-◌, List, [], ◌∷◌, ◌++◌}
use Rattle.std.specs.Prelude.{codes, decimal, Option, Some, None, ◌&&◌}
use Rattle.vb_value.specs.declared.limit.LimitKind.{LimitKind}
use Rattle.vb_value.specs.declared.limit.LimitKind.TheVariants as limit
use Rattle.vb_syntax.specs.declared.act.ActEnd.{ActEnd}
use Rattle.vb_syntax.specs.declared.act.ActEnd.TheVariants as end
use Rattle.asp_job.specs.declared.answer.Fail.{Fail}
use Rattle.asp_job.specs.declared.answer.Fail.TheVariants as fail
use Rattle.asp_site.specs.declared.site.LineSpot.{LineSpot}
use Rattle.asp_site.specs.declared.site.Page.{Page}
use Rattle.asp_text.specs.Html.{html_encoded}
use Rattle.asp_acts.specs.Lines.{spot_of}

-- ---- the code of an error

-- a hexadecimal digit, with small letters
abbrev pub hex_digit : ℕ → ℕ
hex_digit digit = if nat_lt digit 10 then 48 + digit else 87 + digit

-- four digits, and eight
abbrev pub four_digits : ℕ → List ℕ
four_digits n =
    hex_digit (n / 4096 % 16) ∷ hex_digit (n / 256 % 16) ∷ hex_digit (n / 16 % 16) ∷ hex_digit (n % 16) ∷ []

abbrev pub eight_digits : ℕ → List ℕ
eight_digits n = four_digits (n / 65536) ++ four_digits n

-- the bits of a Long
abbrev pub bits_of : ℤ → ℕ
bits_of (pos n) = n
bits_of (negsuc n) = 4294967295 - n

-- the code of an error: `800a` and the number from 1 to 65535, else the bits of the number
abbrev pub code_of : ℤ → List ℕ
code_of number = let bits = bits_of number in
    if nat_le 1 bits && nat_le bits 65535 then codes "800a" ++ four_digits bits else eight_digits bits

-- ---- texts

-- the file and the line at which an act failed
abbrev pub spot_text : LineSpot → List ℕ
spot_text spot = spot.path ++ codes ", line " ++ decimal spot.line ++ codes "\n"

-- an error: where it comes from and its code, what it says, and its line; the first two as HTML shows them
abbrev pub error_text : List ℕ → ℤ → List ℕ → LineSpot → List ℕ
error_text source number description spot =
    html_encoded source ++ codes " '" ++ code_of number ++ codes "'\n" ++ html_encoded description ++ codes "\n"
    ++ spot_text spot

-- the name of a limit
abbrev pub limit_name : LimitKind → List ℕ
limit_name limit.Ticks = codes "Ticks"
limit_name limit.Depth = codes "Depth"
limit_name limit.Data = codes "Data"
limit_name limit.Body = codes "Body"
limit_name limit.Session = codes "Session"
limit_name limit.Application = codes "Application"
limit_name limit.Nest = codes "Nest"

-- a limit: its name and its line
abbrev pub limit_text : LimitKind → LineSpot → List ℕ
limit_text kind spot = codes "Active Server Pages limit '" ++ limit_name kind ++ codes "'\n" ++ spot_text spot

-- what is said of an act of the page that ended so, if it failed
abbrev pub failure_text : Page → ActEnd → Option (List ℕ)
failure_text page (end.Error number source description line) =
    Some (error_text source number description (spot_of page line))
failure_text page (end.Limit kind line) = Some (limit_text kind (spot_of page line))
failure_text page _ = None

-- why it failed, if it did
abbrev pub fail_of : Page → ActEnd → Option Fail
fail_of page (end.Error number source description line) = Some (fail.Error number (spot_of page line).line)
fail_of page (end.Limit kind line) = Some (fail.Limit kind (spot_of page line).line)
fail_of page _ = None
