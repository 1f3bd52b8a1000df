-- The entries of what may be a dictionary.
use Rattle.std.specs.Prelude.{List, [], Option, Some, None, Result, Ok, Err}
use Rattle.vb_value.specs.declared.fault.VbError.{VbError}
use Rattle.vb_value.specs.declared.session.Pair.{Pair}
use Rattle.vb_value.specs.declared.value.Value.{Value, Empty}
use Rattle.vb_heap.specs.Dictionary.{Dictionary}

-- the entries of a dictionary, none where there is no dictionary
abbrev pub pairs_of : Result Dictionary VbError → List Pair
pairs_of (Ok dictionary) = dictionary.pairs
pairs_of (Err refused) = []

-- the key of an entry, Empty where there is none
abbrev pub key_in : Option Pair → Value
key_in (Some pair) = pair.key
key_in None = Empty
