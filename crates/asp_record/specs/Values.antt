-- Values, and the calls of the Application object with their replies, as a journal writes them. It is our own.
use Rattle.std.specs.Prelude.{ℕ, Bool, List, [], ◌∷◌, ◌++◌, if◌then◌else◌, map, codes, encode_utf8_all}
use Rattle.std.specs.Fmt.{signed_decimal}
use Rattle.vb_value.specs.declared.application.AppCall.{AppCall}
use Rattle.vb_value.specs.declared.application.AppCall.TheVariants as call
use Rattle.vb_value.specs.declared.application.AppReply.{AppReply}
use Rattle.vb_value.specs.declared.application.AppReply.TheVariants as reply
use Rattle.vb_value.specs.declared.value.Value.{Value}
use Rattle.vb_value.specs.declared.value.Value.TheOpen.{Value-F, Array-F}
use Rattle.vb_value.specs.declared.value.Value.TheFolds.{fold-Value}
use Rattle.asp_record.specs.Lines.{field, hex, with_commas}

-- `s`, and the UTF-8 of a text
abbrev pub text_form : List ℕ → List ℕ
text_form text = codes "s" ++ hex (encode_utf8_all text)

abbrev pub truth_form : Bool → List ℕ
truth_form truth = if truth then codes "t" else codes "f"

-- what stands before the bounds of an array: `!` is for a fixed one
abbrev pub opening : Bool → List ℕ
opening fixed = if fixed then codes "![" else codes "["

-- One value, with the text of an array in its place: a letter for its subtype, and what it holds. What is not plain, an
-- object or Nothing, has no text.
abbrev pub value_form : Value-F (List ℕ) (List ℕ) → List ℕ
value_form Value-F.Empty = codes "e"
value_form Value-F.Null = codes "n"
value_form (Value-F.Bool truth) = truth_form truth
value_form (Value-F.Int n) = codes "i" ++ signed_decimal n
value_form (Value-F.Long n) = codes "l" ++ signed_decimal n
value_form (Value-F.Cur n) = codes "c" ++ signed_decimal n
value_form (Value-F.Str text) = text_form text
value_form (Value-F.Arr text) = text
value_form _ = []

-- one array, with the text of each item in its place: its bounds, `|`, its items
abbrev pub array_form : Array-F (List ℕ) (List ℕ) → List ℕ
array_form array =
    opening array.fixed ++ with_commas (map signed_decimal array.bounds) ++ codes "|" ++ with_commas array.items
    ++ codes "]"

-- the text of a value
abbrev pub value_text : Value → List ℕ
value_text = fold-Value (List ℕ) (List ℕ) value_form array_form

-- names behind the word `names`, which stands alone where there are none
abbrev pub names_field : List (List ℕ) → List ℕ
names_field [] = []
names_field (name ∷ names) = field (with_commas (map text_form (name ∷ names)))

-- a call
abbrev pub call_text : AppCall → List ℕ
call_text (call.Get name) = codes "get" ++ field (text_form name)
call_text (call.Put name value) = codes "put" ++ field (text_form name) ++ field (value_text value)
call_text (call.Remove name) = codes "remove" ++ field (text_form name)
call_text call.RemoveAll = codes "removeall"
call_text call.Count = codes "count"
call_text (call.KeyAt place) = codes "keyat" ++ field (signed_decimal place)
call_text call.Names = codes "names"
call_text call.Lock = codes "lock"
call_text call.Unlock = codes "unlock"

-- a reply
abbrev pub reply_text : AppReply → List ℕ
reply_text (reply.Value value) = value_text value
reply_text (reply.Number n) = codes "number" ++ field (signed_decimal n)
reply_text (reply.Name name) = codes "name" ++ field (text_form name)
reply_text reply.NoName = codes "noname"
reply_text (reply.Names names) = codes "names" ++ names_field names
reply_text reply.Done = codes "done"
reply_text reply.Full = codes "full"
