-- Join (VBScript 5.6, "String Functions").
use Rattle.std.specs.Prelude.{ℕ, ◌==◌, if◌then◌else◌, ℤ, List, [], ◌∷◌, ◌++◌, length, Result, Ok, Err}
use Rattle.std.specs.List.{flat_map}
use Rattle.vb_value.specs.declared.fault.VbError.{VbError}
use Rattle.vb_value.specs.declared.value.Array.{Array}
use Rattle.vb_value.specs.declared.value.Value.{Value, Str, out-Value}
use Rattle.vb_value.specs.declared.value.Value.TheOpen.{Value-F}
use Rattle.vb_value.specs.Arguments.{is_null}
use Rattle.vb_value.specs.Conversions.{to_str_of}
use Rattle.vb_value.specs.Errors.{wrong_number, and_then, type_mismatch, invalid_use_of_null, invalid_call}
use Rattle.vb_strings.specs.Splitting.{one_space}

-- texts one behind another, with a separator before each
abbrev pub behind : List ℕ → List (List ℕ) → List ℕ
behind separator texts = flat_map (λ text. separator ++ text) texts

-- texts one behind another, with a separator before each but the first
abbrev pub joined : List ℕ → List (List ℕ) → List ℕ
joined separator [] = []
joined separator (first ∷ others) = first ++ behind separator others

-- values as texts; the error of the first that is none
abbrev pub texts_of : List Value → Result (List (List ℕ)) VbError
texts_of [] = Ok []
texts_of (value ∷ values) =
    and_then (to_str_of value) (λ text. and_then (texts_of values) (λ texts. Ok (text ∷ texts)))

-- the items of an array of one dimension as one text
abbrev pub join_items : List ℤ → List Value → List ℕ → Result Value VbError
join_items bounds items separator =
    if length bounds == 1 then and_then (texts_of items) (λ texts. Ok (Str (joined separator texts)))
    else Err invalid_call

-- the same at one level of a value; a Type mismatch where that is no array
abbrev pub join_level : Value-F Value Array → List ℕ → Result Value VbError
join_level (Value-F.Arr array) separator = join_items array.bounds array.items separator
join_level _ separator = Err type_mismatch

-- the items of a value as one text
abbrev pub join_in : Value → List ℕ → Result Value VbError
join_in value separator = join_level (out-Value value) separator

-- Join with its two arguments; the array may not be Null
abbrev pub join_value : Value → Value → Result Value VbError
join_value a d =
    if is_null a then Err invalid_use_of_null else and_then (to_str_of d) (join_in a)

-- Join(a [, d])
abbrev pub join_of : List Value → Result Value VbError
join_of (a ∷ []) = join_value a one_space
join_of (a ∷ d ∷ []) = join_value a d
join_of _ = Err wrong_number
