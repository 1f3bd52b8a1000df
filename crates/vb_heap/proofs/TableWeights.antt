-- The weight of dictionaries among objects.
use Rattle.std.proofs.Common.{◌≡◌, ℕ, ◌+◌, ◌≤◌, ◌∷◌, [], List, length, sum_by, slice_get, slice_set, if◌then◌else◌}
use Rattle.std.proofs.Common.{◌==◌, true, false}
use Rattle.std.proofs.Common.{Bool, cond, Option, Some, None, Result, Ok, Err, IsOk, ℤ, refl, ap, sym, arith}
use Rattle.std.proofs.lemmas.List.Sums.{sum_by-append}
use Rattle.std.specs.Map.{values_of}
use Rattle.std.specs.Option.{option_map_or}
use Rattle.vb_value.specs.declared.fault.VbError.{VbError}
use Rattle.vb_value.specs.declared.memory.Memory.{Memory}
use Rattle.vb_value.specs.declared.session.Pair.{Pair}
use Rattle.vb_value.specs.declared.value.Value.{Value}
use Rattle.vb_value.specs.Outcome.{Changes}
use Rattle.vb_value.specs.Weight.{weight_of}
use Rattle.vb_heap.specs.declared.object.Content.{Content}
use Rattle.vb_heap.specs.declared.object.Content.TheVariants.{Fields, Entries}
use Rattle.vb_heap.specs.declared.object.Object.{Object}
use Rattle.vb_heap.specs.Dictionary.{Dictionary}
use Rattle.vb_heap.specs.Entries.{dictionary_in, dictionary_there, entry_there, pair_there, found_changed}
use Rattle.vb_heap.specs.Entries.{object_changed, objects_changed, content_changed, pair_added, item_set, mode_set}
use Rattle.vb_heap.specs.Entries.{with_item}
use Rattle.vb_heap.specs.PageWeight.{object_weight, content_weight, found_weight}
use Rattle.vb_heap.specs.PairWeight.{entries_weight, pair_weight, item_weight}
use Rattle.vb_heap.specs.Store.{is_number, numbered, replaced}
use Rattle.vb_heap.proofs.Indexes.{weight_set, pair_within}
use Rattle.vb_heap.proofs.ObjectWeights.{object_within, object_other}

in_content : (content : Content) (table : Dictionary) → dictionary_in content ≡ Ok table
    → content_weight content ≡ entries_weight table.pairs
in_content (Entries dictionary) table is = let same : dictionary ≡ table = cc in ap (λ d. entries_weight d.pairs) same
in_content (Fields class cells) table is = absurd (cc)

in_found : (found : Option Object) (table : Dictionary) → dictionary_there found ≡ Ok table
    → found_weight found ≡ 32 + entries_weight table.pairs
in_found (Some object) table is = ap (λ n. 32 + n) (in_content object.content table is)
in_found None table is = absurd (cc)

-- an object weighs no more than all objects
pub found_within : (objects : List (ℕ × Object)) (number : ℕ) (found : Option Object) → found ≡ numbered number objects
    → found_weight found ≤ sum_by object_weight (values_of objects)
found_within objects number (Some object) is = object_within objects number object is
found_within objects number None is = omega arith

-- the entries of a dictionary weigh no more than all objects
pub table_within : (objects : List (ℕ × Object)) (number : ℕ) (table : Dictionary)
    → dictionary_there (numbered number objects) ≡ Ok table
    → 32 + entries_weight table.pairs ≤ sum_by object_weight (values_of objects)
table_within objects number table is =
    let weighs = in_found (numbered number objects) table is in
    let within = found_within objects number (numbered number objects) refl in
    omega arith

-- the same of the entries alone, for an object that is found
pub entries_within : (objects : List (ℕ × Object)) (number : ℕ) (object : Object) (table : Dictionary)
    → Some object ≡ numbered number objects → object.content ≡ Entries table
    → sum_by object_weight (values_of objects) ≤ 16777216 → entries_weight table.pairs ≤ 16777216
entries_within objects number object table there is light =
    let within = object_within objects number object there in
    let weighs : object_weight object ≡ 32 + entries_weight table.pairs = ap (λ content. 32 + content_weight content) is in
    omega (arith, within, weighs, light)

item_of_pair : (table : Dictionary) (at : ℕ) (found : Option Pair) → found ≡ slice_get table.pairs at
    → item_weight (pair_there found) ≤ entries_weight table.pairs
item_of_pair table at (Some pair) is = let within = pair_within table.pairs at pair is in omega arith
item_of_pair table at None is = omega arith

item_of_table : (objects : List (ℕ × Object)) (number at : ℕ) (found : Result Dictionary VbError)
    → found ≡ dictionary_there (numbered number objects)
    → item_weight (entry_there at found) ≤ sum_by object_weight (values_of objects)
item_of_table objects number at (Ok table) is =
    let item = item_of_pair table at (slice_get table.pairs at) refl in
    let within = table_within objects number table (sym is) in
    omega arith
item_of_table objects number at (Err error) is = omega arith

-- the item of an entry weighs no more than all objects
pub item_within : (objects : List (ℕ × Object)) (number at : ℕ)
    → item_weight (entry_there at (dictionary_there (numbered number objects)))
    ≤ sum_by object_weight (values_of objects)
item_within objects number at = item_of_table objects number at (dictionary_there (numbered number objects)) refl

changed_found : (change : Dictionary → Dictionary) (objects : List (ℕ × Object)) (number : ℕ) (found : Option Object)
    → found ≡ numbered number objects
    → sum_by object_weight
    (values_of (option_map_or (λ object. replaced number (object_changed change object) objects) found objects))
    + found_weight found ≡ sum_by object_weight (values_of objects) + found_weight (found_changed change found)
changed_found change objects number (Some object) there =
    object_other objects number object (object_changed change object) there
changed_found change objects number None there = refl

-- what all objects weigh with a dictionary changed
pub weight_changed : (change : Dictionary → Dictionary) (objects : List (ℕ × Object)) (number : ℕ)
    → sum_by object_weight (values_of (objects_changed change number objects))
    + found_weight (numbered number objects)
    ≡ sum_by object_weight (values_of objects) + found_weight (found_changed change (numbered number objects))
weight_changed change objects number = changed_found change objects number (numbered number objects) refl

added_content : (content : Content) (pair : Pair) → IsOk (dictionary_in content)
    → content_weight (content_changed (pair_added pair) content) ≡ content_weight content + pair_weight pair
added_content (Entries dictionary) pair is =
    let more = sum_by-append pair_weight dictionary.pairs (pair ∷ []) in
    omega arith
added_content (Fields class cells) pair is = absurd (cc)

-- what a dictionary weighs with an entry more
pub added_when : (found : Option Object) (pair : Pair) → IsOk (dictionary_there found)
    → found_weight (found_changed (pair_added pair) found) + 0 ≡ found_weight found + pair_weight pair
added_when (Some object) pair is = let inner = added_content object.content pair is in omega arith
added_when None pair is = absurd (cc)

set_pair : (pairs : List Pair) (at : ℕ) (item : Value) (found : Option Pair) → found ≡ slice_get pairs at
    → IsOk (pair_there found)
    → entries_weight (option_map_or (λ pair. slice_set pairs at (with_item item pair)) found pairs)
    + item_weight (pair_there found) ≡ entries_weight pairs + weight_of item
set_pair pairs at item (Some pair) there is = weight_set pairs at pair item there
set_pair pairs at item None there is = absurd (cc)

set_content : (content : Content) (at : ℕ) (item : Value) → IsOk (entry_there at (dictionary_in content))
    → content_weight (content_changed (item_set at item) content) + item_weight (entry_there at (dictionary_in content))
    ≡ content_weight content + weight_of item
set_content (Entries dictionary) at item is =
    set_pair dictionary.pairs at item (slice_get dictionary.pairs at) refl is
set_content (Fields class cells) at item is = absurd (cc)

-- what a dictionary weighs with another item in an entry
pub set_when : (found : Option Object) (at : ℕ) (item : Value) → IsOk (entry_there at (dictionary_there found))
    → found_weight (found_changed (item_set at item) found) + item_weight (entry_there at (dictionary_there found))
    ≡ found_weight found + weight_of item
set_when (Some object) at item is = let inner = set_content object.content at item is in omega arith
set_when None at item is = absurd (cc)

mode_table : (mode : ℤ) (table : Dictionary) (b : Bool)
    → entries_weight (if b then record table { mode = mode } else table).pairs ≡ entries_weight table.pairs
mode_table mode table true = refl
mode_table mode table false = refl

mode_content : (mode : ℤ) (content : Content)
    → content_weight (content_changed (mode_set mode) content) ≡ content_weight content
mode_content mode (Entries dictionary) = mode_table mode dictionary (length dictionary.pairs == 0)
mode_content mode (Fields class cells) = refl

-- what a dictionary weighs with another mode
pub mode_weighs : (mode : ℤ) (found : Option Object)
    → found_weight (found_changed (mode_set mode) found) ≡ found_weight found
mode_weighs mode (Some object) = ap (λ n. 32 + n) (mode_content mode object.content)
mode_weighs mode None = refl

same_first : {T : Type 0} (first : ℕ × T) (others : List (ℕ × T)) (number : ℕ) (thing : T) (b : Bool)
    → cond b (Some first.1) (numbered number others) ≡ Some thing
    → (numbered number others ≡ Some thing → replaced number thing others ≡ others)
    → cond b ((first.0, thing) ∷ others) (first ∷ replaced number thing others) ≡ first ∷ others
same_first first others number thing true is rest = let same : first.1 ≡ thing = cc in rw (sym same) refl
same_first first others number thing false is rest = ap (λ things. first ∷ things) (rest is)

-- the same thing in its own place
pub same_value : {T : Type 0} (things : List (ℕ × T)) (number : ℕ) (thing : T) → numbered number things ≡ Some thing
    → replaced number thing things ≡ things
same_value [] number thing is = refl
same_value (first ∷ others) number thing is =
    same_first first others number thing (is_number number first.0) is (same_value others number thing)

-- an entry that may have been added to a dictionary
pub may_be_added : (result : Result (Unit {0}) Memory) (objects : List (ℕ × Object)) (number : ℕ) (object : Object)
    (table new : Dictionary) (pair : Pair) → Some object ≡ numbered number objects → object.content ≡ Entries table
    → Changes result table new (pair_added pair table)
    → Changes result objects (replaced number (record { content = Entries new; ending = object.ending }) objects)
    (objects_changed (pair_added pair) number objects)
may_be_added (Ok done) objects number object table new pair there is change =
    rw (sym there, change) (rw is refl)
may_be_added (Err memory) objects number object table new pair there is change =
    rw (change, sym is) (same_value objects number object (sym there))
