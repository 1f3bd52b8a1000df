-- What reading a key answers that has no entry.
use Rattle.std.proofs.Common.{◌≡◌, ℕ, Bool, true, false, if◌then◌else◌, Option, Some, None, is_some, Result, Ok, Err}
use Rattle.std.proofs.Common.{refl, sym, ap, ◌∙◌}
use Rattle.vb_value.specs.declared.fault.VbError.{VbError}
use Rattle.vb_value.specs.declared.limit.LimitKind.TheVariants.{Data}
use Rattle.vb_value.specs.declared.value.ObjNo.{ObjNo}
use Rattle.vb_value.specs.declared.value.Value.{Value, Empty}
use Rattle.vb_value.specs.declared.value.Value.TheOpen.{Value-F}
use Rattle.vb_value.specs.declared.value.Value.TheViews.{rolls-Empty}
use Rattle.vb_value.specs.declared.value.Value.TheFolds.{fold-roll-Value}
use Rattle.vb_value.specs.Errors as value
use Rattle.vb_value.specs.Errors.{key_exists, reported}
use Rattle.vb_value.specs.Plain.{depth_of, value_depth, array_depth}
use Rattle.vb_heap.specs.declared.fault.HeapStop.{HeapStop}
use Rattle.vb_heap.specs.declared.fault.HeapStop.TheVariants.{Limit}
use Rattle.vb_heap.specs.declared.key.Key.{Key}
use Rattle.vb_heap.specs.Answers as answers
use Rattle.vb_heap.specs.Dictionary.{Dictionary, entry_of}
use Rattle.vb_heap.specs.DictionaryCalls.{get_of, place_in, place_of, valid_key}
use Rattle.vb_heap.specs.Entries.{add_entry_of, dictionary_of, free_key, with_entry}
use Rattle.vb_heap.specs.Keys.{key_of}
use Rattle.vb_heap.specs.Limits.{fits, if_fits_at, is_too_deep}
use Rattle.vb_heap.specs.Store.{Store}

no_depth : depth_of Empty ≡ 0
no_depth = ap depth_of (sym rolls-Empty) ∙ fold-roll-Value ℕ ℕ value_depth array_depth Value-F.Empty

empty_flat : is_too_deep 0 Empty ≡ false
empty_flat = rw no_depth refl

new : (at : Option ℕ) (said : Key) (next : Result (Unit {0}) HeapStop) (stop : HeapStop)
    → ◌≡◌ {A = Result (Option ℕ) VbError} (Ok at) (Ok None)
    → answers.and_then (if is_some at then Err key_exists else Ok said) (λ _. next) ≡ Err stop → next ≡ Err stop
new (Some at) said next stop is added = absurd (cc)
new None said next stop is added = added

valid : (said : Option Key) (dictionary : Dictionary) (next : Result (Unit {0}) HeapStop) (stop : HeapStop)
    → value.and_then (valid_key said) (λ key. Ok (entry_of key dictionary)) ≡ Ok None
    → answers.and_then (free_key said dictionary) (λ _. next) ≡ Err stop → next ≡ Err stop
valid (Some said) dictionary next stop is added = new (entry_of said dictionary) said next stop is added
valid None dictionary next stop is added = absurd (cc)

there : (found : Result Dictionary VbError) (key : Value) (next : Result (Unit {0}) HeapStop) (stop : HeapStop)
    → value.and_then found (place_of key) ≡ Ok None
    → answers.and_then found (λ dictionary.
    answers.and_then (free_key (key_of dictionary.mode key) dictionary) (λ _. next)) ≡ Err stop
    → next ≡ Err stop
there (Ok dictionary) key next stop is added = valid (key_of dictionary.mode key) dictionary next stop is added
there (Err error) key next stop is added = absurd (cc)

limited : (fit : Bool) (stop : HeapStop)
    → ◌≡◌ {A = Result (Unit {0}) HeapStop} (if fit then Ok tt else Err (Limit Data)) (Err stop)
    → ◌≡◌ {A = Result Value HeapStop} (if fit then Ok Empty else Err (Limit Data)) (Err stop)
limited true stop is = absurd (cc)
limited false stop is = let same : Limit Data ≡ stop = cc in ap Err same

-- an absent key whose new entry is refused
pub absent_refused : (object : ObjNo) (key : Value) (store : Store) (stop : HeapStop)
    → place_in object key store ≡ Ok None → add_entry_of object key Empty store ≡ Err stop
    → get_of object key store ≡ Err stop
absent_refused object key store stop is added =
    let next = there (dictionary_of object store) key
    (if_fits_at {T = Unit {0}} 0 Empty (with_entry object key Empty store) tt) stop is added in
    rw is (limited (fits (with_entry object key Empty store)) stop (rw empty_flat at next))

-- an answer that was reported to be no place
pub told_none : (answer : Result (Option ℕ) VbError) (at : Option ℕ) → reported answer ≡ Ok at → at ≡ None
    → answer ≡ Ok None
told_none (Ok place) at told none = let same : place ≡ None = cc in ap Ok same
told_none (Err error) at told none = absurd (cc)
