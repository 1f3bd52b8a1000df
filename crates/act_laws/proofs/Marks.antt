-- Accounts of the data of a page: which changes leave them, and which change them as an account is changed.
use Rattle.std.proofs.Common.{ℕ, ◌≡◌, Bool, true, false, not, ◌&&◌, ◌==◌, cond, if◌then◌else◌, List, [], ◌∷◌, ◌++◌}
use Rattle.std.proofs.Common.{Option, Some, None, Ok, Err, refl, sym, ap, subst, ◌∙◌, inl, inr, arith}
use Rattle.std.proofs.Common.{◌+◌, ◌≤◌, IsTrue, is_ok, length, nat_le}
use Rattle.std.proofs.lemmas.Bool.Decides.{nat_tests}
use Rattle.std.proofs.lemmas.Map.Steps.{set_value_same}
use Rattle.std.specs.Option.{option_map, option_map_or}
use Rattle.vb_value.specs.declared.value.ObjNo.{ObjNo}
use Rattle.vb_value.specs.declared.value.Value.{Value, Empty}
use Rattle.vb_value.specs.declared.limit.LimitKind.TheVariants.{Data}
use Rattle.vb_heap.specs.declared.fault.HeapStop.{HeapStop}
use Rattle.vb_heap.specs.declared.fault.HeapStop.TheVariants.{Limit}
use Rattle.vb_heap.specs.declared.object.Content.{Content}
use Rattle.vb_heap.specs.declared.object.Content.TheVariants.{Entries, Fields}
use Rattle.vb_heap.specs.declared.place.CellNo.{CellNo}
use Rattle.vb_heap.specs.Cells.{with_stored, without_cell}
use Rattle.vb_heap.specs.declared.object.Object.{Object}
use Rattle.vb_heap.specs.Dictionary.{Dictionary, no_entries}
use Rattle.vb_heap.specs.DictionaryCalls as dictionary
use Rattle.vb_heap.specs.Entries.{content_changed, find_entry_of, dictionary_of, new_table_of, object_changed}
use Rattle.vb_heap.specs.Entries.{with_dictionary}
use Rattle.vb_heap.specs.Entries.{with_new_table}
use Rattle.vb_heap.specs.Limits.{fits, if_fits, most_cells, most_held, most_objects, most_weight}
use Rattle.vb_heap.specs.Objects.{cells_from, class_in, live, new_object_of, with_fields, with_new_object, with_object}
use Rattle.vb_heap.specs.PageWeight.{weight_of_page}
use Rattle.vb_heap.specs.References.{references_to}
use Rattle.vb_heap.specs.Releases.{ending, ends_now, finished as finished_object, oldest, oldest_live}
use Rattle.vb_heap.specs.Releases.{is_loose, oldest_loose, with_ending}
use Rattle.vb_heap.specs.Store.{Store, is_number, numbered, replaced, without}
use Rattle.vb_meaning.specs.Places.{cell_place, cells_dropped, cells_emptied}
use Rattle.act_laws.specs.Entries.{standings}
use Rattle.act_laws.specs.Objects.{Account, AddsUp, Differ, IsEnding, IsLive, Settled, marks}
use Rattle.act_laws.proofs.Accounts.{made_live, with_mark}
use Rattle.act_laws.proofs.Numbers.{compared, itself}
use Rattle.act_laws.proofs.Standings.{looks, standings_more, standings_same}
use Rattle.act_laws.proofs.Standings.{still_there}

-- the account of data of which so many objects have ended
abbrev pub account_in : Store → ℕ → Account
account_in store count =
    record { objects = marks store.objects; made = store.objects_made; finished = count }

-- the same, with what is said of each object
abbrev pub seen_in : Store → ℕ → Account × List (ℕ × (Bool × Option ℕ))
seen_in store count = (account_in store count, standings store.objects)

both_seen : (after before : Store) (count : ℕ) → account_in after count ≡ account_in before count
    → standings after.objects ≡ standings before.objects → seen_in after count ≡ seen_in before count
both_seen after before count account told = ap (λ found. with_standings found (standings after.objects)) account
    ∙ ap (λ found. with_standings (account_in before count) found) told
  where
    with_standings : Account → List (ℕ × (Bool × Option ℕ)) → Account × List (ℕ × (Bool × Option ℕ))
    with_standings account told = (account, told)

-- ---- marks

marks_more : (objects : List (ℕ × Object)) (number : ℕ) (object : Object)
    → marks (objects ++ (number, object) ∷ []) ≡ marks objects ++ (number, object.ending) ∷ []
marks_more [] number object = refl
marks_more (first ∷ others) number object =
    ap (λ rest. (first.0, first.1.ending) ∷ rest) (marks_more others number object)

pub marked_by : (objects : List (ℕ × Object)) (number : ℕ)
    → numbered number (marks objects) ≡ option_map (λ (object : Object). object.ending) (numbered number objects)
marked_by [] number = refl
marked_by (first ∷ others) number = elim (is_number number first.0)
    as (λ b. cond b (Some first.1.ending) (numbered number (marks others))
    ≡ option_map (λ (object : Object). object.ending) (cond b (Some first.1) (numbered number others))) [
      | true ↦ refl
      | false ↦ marked_by others number
    ]

marks_replaced : (objects : List (ℕ × Object)) (number : ℕ) (object : Object)
    → marks (replaced number object objects) ≡ replaced number object.ending (marks objects)
marks_replaced [] number object = refl
marks_replaced (first ∷ others) number object = elim (is_number number first.0)
    as (λ b. marks (cond b ((first.0, object) ∷ others) (first ∷ replaced number object others))
    ≡ cond b ((first.0, object.ending) ∷ marks others)
    ((first.0, first.1.ending) ∷ replaced number object.ending (marks others))) [
      | true ↦ refl
      | false ↦ ap (λ rest. (first.0, first.1.ending) ∷ rest) (marks_replaced others number object)
    ]

marks_without : (objects : List (ℕ × Object)) (number : ℕ)
    → marks (without number objects) ≡ without number (marks objects)
marks_without [] number = refl
marks_without (first ∷ others) number = elim (is_number number first.0)
    as (λ b. marks (cond b others (first ∷ without number others))
    ≡ cond b (marks others) ((first.0, first.1.ending) ∷ without number (marks others))) [
      | true ↦ refl
      | false ↦ ap (λ rest. (first.0, first.1.ending) ∷ rest) (marks_without others number)
    ]

-- ---- dictionaries

dictionary_at : (change : Dictionary → Dictionary) (objects : List (ℕ × Object)) (number : ℕ) (found : Option Object)
    → numbered number objects ≡ found
    → marks (option_map_or (λ object. replaced number (object_changed change object) objects) found objects)
    ≡ marks objects
dictionary_at change objects number None is = refl
dictionary_at change objects number (Some object) is = marks_replaced objects number (object_changed change object)
    ∙ set_value_same (is_number number) (marks objects) object.ending
    (marked_by objects number ∙ ap (λ o. option_map (λ (object : Object). object.ending) o) is)

class_kept : (change : Dictionary → Dictionary) (content : Content)
    → class_in (content_changed change content) ≡ class_in content
class_kept change (Fields class cells) = refl
class_kept change (Entries dictionary) = refl

known_at : (change : Dictionary → Dictionary) (objects : List (ℕ × Object)) (number : ℕ) (found : Option Object)
    → numbered number objects ≡ found
    → standings (option_map_or (λ object. replaced number (object_changed change object) objects) found objects)
    ≡ standings objects
known_at change objects number None is = refl
known_at change objects number (Some object) is = standings_same objects number object (object_changed change object) is
    (ap (λ class. looks object.ending class) (class_kept change object.content))

-- a dictionary is changed
pub dictionary_still : (change : Dictionary → Dictionary) (object : ObjNo) (store : Store) (count : ℕ)
    → seen_in (with_dictionary change object store) count ≡ seen_in store count
dictionary_still change object store count = both_seen (with_dictionary change object store) store count
    (ap (λ (found : List (ℕ × Bool)). record { objects = found; made = store.objects_made; finished = count })
    (dictionary_at change store.objects object.0 (numbered object.0 store.objects) refl))
    (known_at change store.objects object.0 (numbered object.0 store.objects) refl)

put_at_still : (object : ObjNo) (key item : Value) (at : Option ℕ) (store : Store) (count : ℕ)
    → seen_in (dictionary.put_at object key item at store) count ≡ seen_in store count
put_at_still object key item (Some at) store count = dictionary_still _ object store count
put_at_still object key item None store count = dictionary_still _ object store count

pub put_still : (object : ObjNo) (key item : Value) (store : Store) (count : ℕ)
    → seen_in (dictionary.with_put object key item store) count ≡ seen_in store count
put_still object key item store count =
    put_at_still object key item (find_entry_of key (dictionary_of object store)) store count

got_at_still : (object : ObjNo) (key : Value) (at : Option ℕ) (store : Store) (count : ℕ)
    → seen_in (dictionary.got_at object key at store) count ≡ seen_in store count
got_at_still object key (Some at) store count = refl
got_at_still object key None store count = dictionary_still _ object store count

pub got_still : (object : ObjNo) (key : Value) (store : Store) (count : ℕ)
    → seen_in (dictionary.with_got object key store) count ≡ seen_in store count
got_still object key store count =
    got_at_still object key (find_entry_of key (dictionary_of object store)) store count

removed_at_still : (object : ObjNo) (at : Option ℕ) (store : Store) (count : ℕ)
    → seen_in (dictionary.removed_at object at store) count ≡ seen_in store count
removed_at_still object (Some at) store count = dictionary_still _ object store count
removed_at_still object None store count = refl

pub removed_still : (object : ObjNo) (key : Value) (store : Store) (count : ℕ)
    → seen_in (dictionary.with_removed object key store) count ≡ seen_in store count
removed_still object key store count =
    removed_at_still object (find_entry_of key (dictionary_of object store)) store count

-- ---- cells

-- the cells of names go
pub dropped_still : (cells : List CellNo) (store : Store) (count : ℕ)
    → seen_in (cells_dropped cells store) count ≡ seen_in store count
dropped_still [] store count = refl
dropped_still (cell ∷ cells) store count = dropped_still cells (without_cell cell store) count

-- the values of cells go
pub emptied_still : (cells : List CellNo) (store : Store) (count : ℕ)
    → seen_in (cells_emptied cells store) count ≡ seen_in store count
emptied_still [] store count = refl
emptied_still (cell ∷ cells) store count = emptied_still cells (with_stored (cell_place cell) Empty store) count

-- ---- an object is made

second_of : (a b c d : Bool) → (a && b && c && d) ≡ true → b ≡ true
second_of true true c d is = refl
second_of true false c d is = absurd (cc)
second_of false b c d is = absurd (cc)

answered : {T : Type 0} (fitting : Bool) (value : T) (why : HeapStop)
    → is_ok (if fitting then Ok value else Err why) ≡ true → fitting ≡ true
answered true value why is = refl
answered false value why is = absurd (cc)

few_made : {T : Type 0} (store : Store) (value : T) → IsTrue (is_ok (if_fits store value))
    → store.objects_made ≤ most_objects
few_made store value is =
    let few : nat_le store.objects_made most_objects ≡ true = second_of (nat_le (weight_of_page store) most_weight)
    (nat_le store.objects_made most_objects) (nat_le store.cells_made most_cells)
    (nat_le (length store.held) most_held) (answered (fits store) value (Limit Data) is) in
    grind (arith, nat_tests)

made_settles : (content : Content) (store : Store) (count : ℕ) → AddsUp (account_in store count)
    → store.objects_made + 1 ≤ most_objects
    → Settled (account_in store count) (account_in (with_object content store) count)
made_settles content store count right few = subst (λ account. Settled (account_in store count) account)
    (ap (λ (found : List (ℕ × Bool)). record {
      objects = found;
      made = store.objects_made + 1;
      finished = count;
    }) (sym (marks_more store.objects store.objects_made (live content))))
    (made_live (account_in store count) right few)

-- what is said of the objects that are there stays, where one more is made
pub object_stays : (content : Content) (store : Store) (number : ℕ) (found : Bool × Option ℕ)
    → numbered number (standings store.objects) ≡ Some found
    → numbered number (standings (with_object content store).objects) ≡ Some found
object_stays content store number found is =
    ap (λ told. numbered number told) (standings_more store.objects ((store.objects_made, live content) ∷ []))
    ∙ still_there (standings store.objects) (standings ((store.objects_made, live content) ∷ [])) number found is

pub object_settles : (class fields : ℕ) (store : Store) (count : ℕ) → AddsUp (account_in store count)
    → IsTrue (is_ok (new_object_of class fields store))
    → Settled (account_in store count) (account_in (with_new_object class fields store) count)
object_settles class fields store count right fitting =
    let cells = cells_from store.cells_made fields in
    made_settles (Fields class cells) (with_fields cells fields store) count right
    (few_made (with_new_object class fields store) (record { 0 = store.objects_made }) fitting)

pub table_settles : (store : Store) (count : ℕ) → AddsUp (account_in store count)
    → IsTrue (is_ok (new_table_of store)) → Settled (account_in store count) (account_in (with_new_table store) count)
table_settles store count right fitting = made_settles (Entries no_entries) store count right
    (few_made (with_new_table store) (record { 0 = store.objects_made }) fitting)

-- ---- a terminator begins

ending_at : (objects : List (ℕ × Object)) (number : ℕ) (found : Option Object) → numbered number objects ≡ found
    → numbered number (marks objects) ≡ Some false
    → marks (option_map_or (λ object. replaced number (ending object) objects) found objects)
    ≡ replaced number true (marks objects)
ending_at objects number None is live =
    let none = marked_by objects number ∙ ap (λ o. option_map (λ (object : Object). object.ending) o) is in absurd (cc)
ending_at objects number (Some object) is live = marks_replaced objects number (ending object)

-- a live object is ending
pub ending_marks : (store : Store) (number count : ℕ) → IsLive number (account_in store count)
    → account_in (with_ending (Some number) store) count ≡ with_mark number (account_in store count)
ending_marks store number count live =
    ap (λ (found : List (ℕ × Bool)). record { objects = found; made = store.objects_made; finished = count })
    (ending_at store.objects number (numbered number store.objects) refl live)

-- ---- an object has ended

pub ended_at : (store : Store) (number count : ℕ) (found : Option Object) → numbered number store.objects ≡ found
    → IsEnding number (account_in store count) → ends_now found ≡ true
ended_at store number count None is ends = let none = marked_by store.objects number
    ∙ ap (λ o. option_map (λ (object : Object). object.ending) o) is in absurd (cc)
ended_at store number count (Some object) is ends = let some = marked_by store.objects number
    ∙ ap (λ o. option_map (λ (object : Object). object.ending) o) is in cc

-- an ending object ends
pub ended_gone : (store : Store) (number count more : ℕ) → IsEnding number (account_in store count)
    → account_in (finished_object number (numbered number store.objects) store) more
    ≡ record { objects = without number (marks store.objects); made = store.objects_made; finished = more }
ended_gone store number count more ends =
    let now = ended_at store number count (numbered number store.objects) refl ends in
    rw now (ap (λ (found : List (ℕ × Bool)). record { objects = found; made = store.objects_made; finished = more })
    (marks_without store.objects number))

-- ---- which object is next

oldest_first : (test : ℕ → Object → Bool)
    → ((number : ℕ) (object : Object) → test number object ≡ true → object.ending ≡ false)
    → (first : ℕ × Object) (others : List (ℕ × Object)) (number : ℕ) → Differ (marks (first ∷ others))
    → (oldest test others ≡ Some number → numbered number (marks others) ≡ Some false)
    → (b : Bool) → test first.0 first.1 ≡ b → (if b then Some first.0 else oldest test others) ≡ Some number
    → numbered number (marks (first ∷ others)) ≡ Some false
oldest_first test live first others number apart rest true passes is =
    let same : first.0 ≡ number = cc in
    let here : is_number number first.0 ≡ true = ap (is_number number) same ∙ itself number in
    rw here (ap (λ (b : Bool). Some b) (live first.0 first.1 passes))
oldest_first test live first others number apart rest false passes is = elim (compared number first.0) [
  | inl same ↦ let both : Some false ≡ None = sym (rest is) ∙ ap (λ n. numbered n (marks others)) same ∙ apart.0 in
      absurd (cc)
  | inr away ↦ rw (away.1) (rest is)
]

oldest_at : (test : ℕ → Object → Bool)
    → ((number : ℕ) (object : Object) → test number object ≡ true → object.ending ≡ false)
    → (objects : List (ℕ × Object)) (number : ℕ) → Differ (marks objects) → oldest test objects ≡ Some number
    → numbered number (marks objects) ≡ Some false
oldest_at test live [] number apart is = absurd (cc)
oldest_at test live (first ∷ others) number apart is = oldest_first test live first others number apart
    (oldest_at test live others number apart.1) (test first.0 first.1) refl is

not_ending : (ending passes : Bool) → (not ending && passes) ≡ true → ending ≡ false
not_ending true passes is = absurd (cc)
not_ending false passes is = refl

-- the object that ends next is live
pub loose_is_live : (store : Store) (number count : ℕ) → Differ (marks store.objects)
    → oldest_loose store ≡ Some number → IsLive number (account_in store count)
loose_is_live store number count apart is = oldest_at (is_loose store)
    (λ number object passes. not_ending object.ending (references_to number store == 0) passes)
    store.objects number apart is

only_live : (ending : Bool) → not ending ≡ true → ending ≡ false
only_live true is = absurd (cc)
only_live false is = refl

pub oldest_is_live : (store : Store) (number count : ℕ) → Differ (marks store.objects)
    → oldest_live store ≡ Some number → IsLive number (account_in store count)
oldest_is_live store number count apart is = oldest_at (λ number object. not object.ending)
    (λ number object passes. only_live object.ending passes) store.objects number apart is

none_first : (first : ℕ × Object) (others : List (ℕ × Object)) (ending : Bool) → first.1.ending ≡ ending
    → (if not ending then Some first.0 else oldest (λ number object. not object.ending) others) ≡ None
    → ((number : ℕ) → numbered number (marks (first ∷ others)) ≡ Some true → ⊥)
    → marks (first ∷ others) ≡ []
none_first first others true is none ends =
    let here : is_number first.0 first.0 ≡ true = itself first.0 in
    absurd (ends first.0 (rw here (ap (λ (b : Bool). Some b) is)))
none_first first others false is none ends = absurd (cc)

-- where no object is live and none is ending, none is there
pub none_is_left : (objects : List (ℕ × Object)) → oldest (λ number object. not object.ending) objects ≡ None
    → ((number : ℕ) → numbered number (marks objects) ≡ Some true → ⊥) → marks objects ≡ []
none_is_left [] none ends = refl
none_is_left (first ∷ others) none ends = none_first first others first.1.ending refl none ends
