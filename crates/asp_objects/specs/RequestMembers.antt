-- The members of Request (ASP 3.0, "Request Object"). Nothing that a page does changes what they give. Names are
-- texts: an argument that is none is made one, and the error of that is the member's.
use Rattle.std.specs.Prelude.{ℕ, Bool, false, ◌==◌, List, [], ◌∷◌, length, Option, Some, None, Ok}
use Rattle.std.specs.List.{list_any}
use Rattle.vb_value.specs.declared.value.Value.{Value, Empty, Str, Bool as Boolean}
use Rattle.vb_value.specs.Errors.{object_required}
use Rattle.vb_syntax.specs.declared.act.AskStop.{AskStop}
use Rattle.vb_syntax.specs.declared.act.Given.{Given}
use Rattle.vb_syntax.specs.declared.act.Given.TheVariants as given
use Rattle.vb_syntax.specs.declared.member.CollectionPart.{CollectionPart}
use Rattle.vb_syntax.specs.declared.member.CollectionPart.TheVariants as part
use Rattle.asp_job.specs.declared.request.Request.{Request}
use Rattle.asp_request.specs.declared.inputs.InSet.{InSet}
use Rattle.asp_request.specs.declared.inputs.InSet.TheVariants as set
use Rattle.asp_request.specs.Inputs.{pairs_of, values_of, raw_of, shown, raw_cookie_of}
use Rattle.asp_request.specs.Pairs.{names_in, values_in}
use Rattle.asp_request.specs.Request.{query_pairs}
use Rattle.asp_objects.specs.Given.{Answer, failed, and_then, text_in, long_in, value, count, item_at}

-- ---- pairs in a cookie

-- the text beside a key in a cookie as it is written, which is read as a query is; Empty without one
abbrev pub keyed : List ℕ → Option (List ℕ) → Value
keyed key (Some raw) = shown (values_in (query_pairs raw) key)
keyed key None = Empty

-- a cookie as it is written has keys where it has a `=`
abbrev pub has_keys : Option (List ℕ) → Bool
has_keys (Some raw) = list_any (λ b. b == 61) raw
has_keys None = false

-- ---- what is asked of a collection

-- `(name)(index)`: the value at that place. In a cookie a text names a pair.
abbrev pub value_at : Request → InSet → Value → Value → Answer
value_at request set.Cookies name (Str key) =
    and_then (text_in name) (λ named. value (keyed key (raw_cookie_of request named)))
value_at request collection name index =
    and_then (text_in name) (λ named. and_then (long_in index) (item_at (values_of request collection named)))

-- What a collection answers: alone its raw text; `(name)` and `.Item(name)`, the values of the name in one text, or
-- Empty without any; `(name).Count`, their number; `(name)(index)`, one of them; `.HasKeys`, which only a cookie has;
-- `.Count` and `.Key(index)`, of its names in the order in which they first appear; and those names, for a For Each.
unfoldable pub asked_of : Request → InSet → CollectionPart → List Value → Answer
asked_of request collection part.Raw [] = value (Str (raw_of request collection))
asked_of request collection part.Item (name ∷ []) =
    and_then (text_in name) (λ named. value (shown (values_of request collection named)))
asked_of request collection part.ValueCount (name ∷ []) =
    and_then (text_in name) (λ named. count (length (values_of request collection named)))
asked_of request collection part.Value (name ∷ index ∷ []) = value_at request collection name index
asked_of request collection part.HasKeys (name ∷ []) =
    and_then (text_in name) (λ named. value (Boolean (has_keys (raw_cookie_of request named))))
asked_of request collection part.Count [] = count (length (names_in (pairs_of request collection)))
asked_of request collection part.Key (index ∷ []) =
    and_then (long_in index) (item_at (names_in (pairs_of request collection)))
asked_of request collection part.Names [] = Ok (given.Names (names_in (pairs_of request collection)))
asked_of request collection _ _ = failed object_required

-- TotalBytes: how many bytes the body has
abbrev pub total_bytes : Request → Answer
total_bytes request = count (length request.body)
