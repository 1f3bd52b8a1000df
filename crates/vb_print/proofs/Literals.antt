-- The characters of the words that are names elsewhere.
use Rattle.std.proofs.Common.{◌≡◌, refl, codes}
use Rattle.std.specs.Str.{chars}

pub error_characters : chars (codes "Error") ≡ codes "Error"
unfolding chars
error_characters = refl

pub explicit_characters : chars (codes "Explicit") ≡ codes "Explicit"
unfolding chars
explicit_characters = refl

pub property_characters : chars (codes "Property") ≡ codes "Property"
unfolding chars
property_characters = refl

pub step_characters : chars (codes "Step") ≡ codes "Step"
unfolding chars
step_characters = refl
