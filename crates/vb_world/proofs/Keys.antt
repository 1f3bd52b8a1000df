-- The keys of a dictionary, and the array in which a script is given them.
use Rattle.std.proofs.Common.{◌≡◌, List, [], map, None, Result, Ok, Err, ap, sym, refl, ◌∙◌}
use Rattle.vb_value.specs.declared.fault.VbError.{VbError}
use Rattle.vb_value.specs.declared.value.Array.{Array}
use Rattle.vb_value.specs.declared.value.ObjNo.{ObjNo}
use Rattle.vb_value.specs.declared.value.Value.{Value, out-Value}
use Rattle.vb_value.specs.declared.value.Value.TheOpen.{Value-F}
use Rattle.vb_value.specs.declared.value.Value.TheViews.{Arr, outs-Arr}
use Rattle.vb_value.specs.Errors.{and_then}
use Rattle.vb_heap.specs.Dictionary.{Dictionary}
use Rattle.vb_heap.specs.DictionaryCalls as dictionary
use Rattle.vb_heap.specs.Entries.{dictionary_of}
use Rattle.vb_meaning.specs.declared.stop.Stop.{Stop}
use Rattle.vb_meaning.specs.World.{World}
use Rattle.vb_meaning.specs.Loops.{keys_of}
use Rattle.vb_meaning.specs.Step.{Returns, came, given, raising}

abbrev items_in : Value-F Value Array → List Value
items_in (Value-F.Arr array) = array.items
items_in _ = []

abbrev items_told : Result Value Stop → Result (List Value) Stop
items_told (Ok value) = Ok (items_in (out-Value value))
items_told (Err why) = Err why

same_items : (keys : List Value) → items_in (out-Value (dictionary.array_of keys)) ≡ keys
same_items keys = ap items_in (outs-Arr _)

same_answer : (answer : Result Dictionary VbError)
    → items_told (raising (and_then answer (λ found. Ok (dictionary.array_of (map (λ pair. pair.key) found.pairs)))))
    ≡ raising (and_then answer (λ found. Ok (map (λ pair. pair.key) found.pairs)))
same_answer (Ok found) = ap Ok (same_items (map (λ pair. pair.key) found.pairs))
same_answer (Err error) = refl

-- what a For Each goes over is what the array of the keys has
pub keys_listed : (object : ObjNo) (world : World) (array : Array)
    → raising (dictionary.keys_of object world.store) ≡ Ok (Arr array)
    → given (keys_of object world.store None) world ≡ Returns array.items world
keys_listed object world array listed =
    ap (λ answer. came answer world) (sym (same_answer (dictionary_of object world.store))
    ∙ (ap items_told listed ∙ ap (λ part. Ok (items_in part)) (outs-Arr array)))
