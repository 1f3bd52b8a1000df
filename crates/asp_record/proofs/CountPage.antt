-- The path of the one page, as the characters that its bytes encode.
use Rattle.std.proofs.Common.{◌≡◌, refl, codes}
use Rattle.std.specs.Str.{chars}

pub path_characters : chars (codes "/count.asp") ≡ codes "/count.asp"
unfolding chars
path_characters = refl
