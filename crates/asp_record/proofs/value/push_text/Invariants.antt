use Rattle.std.proofs.Common.{◌≡◌, ◌++◌, true, take}
use Rattle.std.specs.Prelude.{encode_utf8_all}
use lib.Utf8.{scalars}
use Rattle.asp_record.specs.Lines.{hex}
use Rattle.asp_record.proofs.value.push_text.Given as goal

abbrev pub invariant-loop-character : goal.invariant-loop-character
invariant-loop-character l =
    (l.bytes ≡ l.initial.bytes ++ hex (encode_utf8_all (take l.character-index l.character-items)))
    × (scalars (take l.character-index l.character-items) ≡ true)
