use Rattle.std.proofs.Common.{◌≡◌, take}
use Rattle.asp_text.specs.Html.{html_encoded}
use Rattle.asp_text.proofs.html.html_encode.Given as goal

abbrev pub invariant-loop-character : goal.invariant-loop-character
invariant-loop-character l = l.encoded ≡ html_encoded (take l.character-index l.character-items)
