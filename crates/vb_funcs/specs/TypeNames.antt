-- TypeName (VBScript 5.6, "Variants").
use Rattle.std.specs.Prelude.{ℕ, List, codes}
use Rattle.vb_value.specs.declared.value.Value.{Value, Empty, Null, Bool as Boolean, Int, Long, Cur, Str, Arr'}
use Rattle.vb_value.specs.declared.value.Value.{Obj, Nothing}

-- the name of a value's kind; that of an object is its class
abbrev pub type_name_of : Value → List ℕ → List ℕ
type_name_of Empty class = codes "Empty"
type_name_of Null class = codes "Null"
type_name_of (Boolean truth) class = codes "Boolean"
type_name_of (Int n) class = codes "Integer"
type_name_of (Long n) class = codes "Long"
type_name_of (Cur n) class = codes "Currency"
type_name_of (Str text) class = codes "String"
type_name_of (Arr' bounds fixed shape items) class = codes "Variant()"
type_name_of (Obj object) class = class
type_name_of Nothing class = codes "Nothing"
