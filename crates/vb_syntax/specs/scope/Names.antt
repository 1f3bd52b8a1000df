-- Names of a script, which are equal but for ASCII case, and the names that the language has (VBScript 5.6 language
-- reference, "Functions" and "Constants") and that a page is given (ASP 3.0 object reference).
use Rattle.std.specs.Prelude.{ℕ, ℤ, Bool, if◌then◌else◌, pos, negsuc, List, [], ◌∷◌, ◌++◌, codes, nat_eq}
use Rattle.std.specs.Prelude.{Option, Some, None, is_some, unwrap_or}
use Rattle.std.specs.List.{position_from}
use Rattle.std.specs.Cmp.Lexicographic.{pointwise}
use Rattle.vb_value.specs.Folding.{folded, same_name, beside}
use Rattle.vb_value.specs.declared.function.PlainFn.{PlainFn}
use Rattle.vb_value.specs.declared.function.PlainFn.TheVariants as plain
use Rattle.vb_value.specs.declared.function.StrFn.{StrFn}
use Rattle.vb_value.specs.declared.function.StrFn.TheVariants as string
use Rattle.vb_syntax.specs.declared.expression.Literal.TheVariants as literal
use Rattle.vb_syntax.specs.declared.note.PageObject.{PageObject}
use Rattle.vb_syntax.specs.declared.note.PageObject.TheVariants as object
use Rattle.vb_syntax.specs.declared.program.name.DictionaryMember.{DictionaryMember}
use Rattle.vb_syntax.specs.declared.program.name.DictionaryMember.TheVariants as dictionary
use Rattle.vb_syntax.specs.declared.program.name.Named.{Named}
use Rattle.vb_syntax.specs.declared.program.name.Named.TheVariants as named

-- a name
abbrev pub Name : Type 0
Name = List ℕ

-- the number of the first of some names that has a key, which is the name with its letters made small
abbrev pub number_of_key : List Name → Name → Option ℕ
number_of_key names key = position_from (λ (name : Name). pointwise nat_eq key (folded name)) 0 names

-- the number of a name among some, counted from 0
abbrev pub number_in : List Name → Name → Option ℕ
number_in names name = number_of_key names (folded name)

-- whether a name is among some
abbrev pub has_name : List Name → Name → Bool
has_name names name = is_some (number_in names name)

-- some names and one more, if it is not among them
abbrev pub add_name : List Name → Name → List Name
add_name names name = if has_name names name then names else names ++ name ∷ []

-- the number of a name among all names of the script
abbrev pub name_number : List Name → Name → ℕ
name_number names name = unwrap_or (number_in names name) 0

-- ---- names of the language

-- the functions on texts
abbrev pub string_functions : List (Name × StrFn)
string_functions =
    (codes "len", string.Len)
    ∷ (codes "left", string.Left)
    ∷ (codes "right", string.Right)
    ∷ (codes "mid", string.Mid)
    ∷ (codes "instr", string.InStr)
    ∷ (codes "instrrev", string.InStrRev)
    ∷ (codes "lcase", string.LCase)
    ∷ (codes "ucase", string.UCase)
    ∷ (codes "trim", string.Trim)
    ∷ (codes "ltrim", string.LTrim)
    ∷ (codes "rtrim", string.RTrim)
    ∷ (codes "replace", string.Replace)
    ∷ (codes "split", string.Split)
    ∷ (codes "join", string.Join)
    ∷ (codes "strreverse", string.StrReverse)
    ∷ (codes "space", string.Space)
    ∷ (codes "string", string.String)
    ∷ (codes "strcomp", string.StrComp)
    ∷ (codes "asc", string.Asc)
    ∷ (codes "ascw", string.AscW)
    ∷ (codes "chr", string.Chr)
    ∷ (codes "chrw", string.ChrW)
    ∷ []

-- the other functions but two
abbrev pub plain_functions : List (Name × PlainFn)
plain_functions =
    (codes "abs", plain.Abs)
    ∷ (codes "int", plain.Int)
    ∷ (codes "fix", plain.Fix)
    ∷ (codes "sgn", plain.Sgn)
    ∷ (codes "cbool", plain.CBool)
    ∷ (codes "ccur", plain.CCur)
    ∷ (codes "cint", plain.CInt)
    ∷ (codes "clng", plain.CLng)
    ∷ (codes "cstr", plain.CStr)
    ∷ (codes "hex", plain.Hex)
    ∷ (codes "oct", plain.Oct)
    ∷ (codes "isarray", plain.IsArray)
    ∷ (codes "isempty", plain.IsEmpty)
    ∷ (codes "isnull", plain.IsNull)
    ∷ (codes "isobject", plain.IsObject)
    ∷ (codes "isnumeric", plain.IsNumeric)
    ∷ (codes "vartype", plain.VarType)
    ∷ (codes "array", plain.Array)
    ∷ (codes "ubound", plain.UBound)
    ∷ (codes "lbound", plain.LBound)
    ∷ []

-- the constants that are Integers
abbrev pub integers : List (Name × ℤ)
integers =
    (codes "vbtrue", negsuc 0)
    ∷ (codes "vbfalse", pos 0)
    ∷ (codes "vbbinarycompare", pos 0)
    ∷ (codes "vbtextcompare", pos 1)
    ∷ (codes "vbempty", pos 0)
    ∷ (codes "vbnull", pos 1)
    ∷ (codes "vbinteger", pos 2)
    ∷ (codes "vblong", pos 3)
    ∷ (codes "vbcurrency", pos 6)
    ∷ (codes "vbstring", pos 8)
    ∷ (codes "vbobject", pos 9)
    ∷ (codes "vbboolean", pos 11)
    ∷ (codes "vbvariant", pos 12)
    ∷ (codes "vbarray", pos 8192)
    ∷ []

-- the constants that are texts
abbrev pub texts : List (Name × List ℕ)
texts =
    (codes "vbcr", 13 ∷ [])
    ∷ (codes "vblf", 10 ∷ [])
    ∷ (codes "vbcrlf", 13 ∷ 10 ∷ [])
    ∷ (codes "vbnewline", 13 ∷ 10 ∷ [])
    ∷ (codes "vbtab", 9 ∷ [])
    ∷ (codes "vbnullchar", 0 ∷ [])
    ∷ (codes "vbnullstring", [])
    ∷ []

-- Err, a function that asks for a class's name and one that makes an object, and the constant that is a Long
abbrev pub further_names : Name → Option Named
further_names name =
    if same_name (codes "typename") name then Some named.TypeName
    else if same_name (codes "createobject") name then Some named.CreateObject
    else if same_name (codes "err") name then Some named.Err
    else if same_name (codes "vbobjecterror") name then Some (named.Value (literal.Long (negsuc 2147221503)))
    else None

-- what stands for it in a program, where there is one
abbrev pub stands_for : {A : Type 0} → (A → Named) → Option A → Option Named
stands_for of None = None
stands_for of (Some found) = Some (of found)

-- the first that is there
abbrev pub first_of : List (Option Named) → Option Named
first_of [] = None
first_of (None ∷ more) = first_of more
first_of (Some found ∷ more) = Some found

-- what a name of the language stands for
unfoldable pub of_language : Name → Option Named
of_language name = first_of
    (stands_for named.StringFunction (beside string_functions name)
    ∷ stands_for named.PlainFunction (beside plain_functions name)
    ∷ stands_for (λ (number : ℤ). named.Value (literal.Integer number)) (beside integers name)
    ∷ stands_for (λ (text : List ℕ). named.Value (literal.Text text)) (beside texts name)
    ∷ further_names name
    ∷ [])

-- ---- objects of a page

-- the objects that a page is given
abbrev pub page_objects : List (Name × PageObject)
page_objects =
    (codes "request", object.Request)
    ∷ (codes "response", object.Response)
    ∷ (codes "server", object.Server)
    ∷ (codes "session", object.Session)
    ∷ (codes "application", object.Application)
    ∷ []

-- the object of a page that a name stands for
unfoldable pub object_named : Name → Option PageObject
object_named = beside page_objects

-- ---- members of a Dictionary

-- the members of a Dictionary (Microsoft Scripting Runtime, "Dictionary Object")
abbrev pub dictionary_members : List (Name × DictionaryMember)
dictionary_members =
    (codes "add", dictionary.Add)
    ∷ (codes "item", dictionary.Item)
    ∷ (codes "exists", dictionary.Exists)
    ∷ (codes "remove", dictionary.Remove)
    ∷ (codes "removeall", dictionary.RemoveAll)
    ∷ (codes "keys", dictionary.Keys)
    ∷ (codes "items", dictionary.Items)
    ∷ (codes "count", dictionary.Count)
    ∷ (codes "comparemode", dictionary.CompareMode)
    ∷ []

-- the member of a Dictionary that a name says
unfoldable pub dictionary_member : Name → Option DictionaryMember
dictionary_member = beside dictionary_members
