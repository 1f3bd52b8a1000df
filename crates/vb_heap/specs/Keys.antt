-- Keys of a dictionary (Scripting.Dictionary, "Add Method", "CompareMode Property"). Numbers, Booleans and Empty
-- are compared as numbers and texts as texts, with case in mode 0 and without it in mode 1.
use Rattle.std.specs.Prelude.{ℕ, Bool, false, if◌then◌else◌, ℤ, pos, negsuc, List, Option, Some, None, nat_eq}
use Rattle.std.specs.Ordering.{int_eq}
use Rattle.std.specs.Cmp.Lexicographic.{pointwise}
use Rattle.vb_value.specs.declared.number.Number.TheVariants as number
use Rattle.vb_value.specs.declared.value.Value.{Value, Empty, Bool as Boolean, Int, Long, Cur, Str}
use Rattle.vb_value.specs.Folding.{folded}
use Rattle.vb_value.specs.Numbers.{amount_of}
use Rattle.vb_heap.specs.declared.key.Key.{Key}
use Rattle.vb_heap.specs.declared.key.Key.TheVariants.{Number, Text}

-- what a text says as a key in a mode
abbrev pub text_in : ℤ → List ℕ → List ℕ
text_in mode text = if int_eq mode (pos 0) then text else folded text

-- what a value says as a key in a mode; an array, Null, Nothing and an object are no keys
abbrev pub key_of : ℤ → Value → Option Key
key_of mode Empty = Some (Number (pos 0))
key_of mode (Boolean truth) = Some (Number (if truth then amount_of (number.Int (negsuc 0)) else pos 0))
key_of mode (Int n) = Some (Number (amount_of (number.Int n)))
key_of mode (Long n) = Some (Number (amount_of (number.Long n)))
key_of mode (Cur n) = Some (Number n)
key_of mode (Str text) = Some (Text (text_in mode text))
key_of mode _ = None

-- whether two keys say the same
abbrev pub same : Key → Key → Bool
same (Number m) (Number n) = int_eq m n
same (Text s) (Text t) = pointwise nat_eq s t
same _ _ = false

-- whether a value says the same as a key in a mode
abbrev pub says : Key → Option Key → Bool
says key (Some other) = same key other
says key None = false
