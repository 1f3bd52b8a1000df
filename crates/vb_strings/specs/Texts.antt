-- Texts that values hold, or that were made of them.
use Rattle.std.specs.Prelude.{ℕ, List}
use Rattle.vb_strings.specs.declared.texts.AsText.{AsText}
use Rattle.vb_strings.specs.declared.texts.AsText.TheVariants.{Held, Made}

-- its characters
abbrev pub characters_of : AsText → List ℕ
characters_of (Held text) = text.now
characters_of (Made text) = text
