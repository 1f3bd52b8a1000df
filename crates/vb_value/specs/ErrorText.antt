-- The texts of the language's errors (VBScript 5.6, "VBScript Run-time Errors"); that of 1156 is our own.
use Rattle.std.specs.Prelude.{ℕ, ◌==◌, if◌then◌else◌, ℤ, pos, negsuc, List, [], ◌∷◌, codes}

-- each error that has a text of its own
abbrev pub error_texts : List (ℕ × List ℕ)
error_texts =
    (5, codes "Invalid procedure call or argument")
    ∷ (6, codes "Overflow")
    ∷ (9, codes "Subscript out of range")
    ∷ (10, codes "This array is fixed or temporarily locked")
    ∷ (11, codes "Division by zero")
    ∷ (13, codes "Type mismatch")
    ∷ (14, codes "Out of string space")
    ∷ (28, codes "Out of stack space")
    ∷ (91, codes "Object variable not set")
    ∷ (94, codes "Invalid use of Null")
    ∷ (424, codes "Object required")
    ∷ (429, codes "ActiveX component can't create object")
    ∷ (438, codes "Object doesn't support this property or method")
    ∷ (450, codes "Wrong number of arguments or invalid property assignment")
    ∷ (451, codes "Object not a collection")
    ∷ (457, codes "This key is already associated with an element of this collection")
    ∷ (500, codes "Variable is undefined")
    ∷ (501, codes "Illegal assignment")
    ∷ (506, codes "Class not defined")
    ∷ (1156, codes "Header Error")
    ∷ (32811, codes "Element not found")
    ∷ []

-- the text beside a number in a list, or that of any other error
abbrev pub text_beside : ℕ → List (ℕ × List ℕ) → List ℕ
text_beside number [] = codes "Unknown runtime error"
text_beside number (entry ∷ entries) =
    if number == entry.0 then entry.1 else text_beside number entries

-- the text of an error
unfoldable pub error_text_of : ℤ → List ℕ
error_text_of (pos number) = text_beside number error_texts
error_text_of (negsuc less) = text_beside 0 []
