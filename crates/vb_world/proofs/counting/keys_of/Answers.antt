use Rattle.std.proofs.Common.{rules, ◌≡◌, Ok}
use Rattle.vb_value.specs.declared.value.Value.TheViews.{Arr}
use Rattle.vb_heap.specs.DictionaryCalls as dictionary
use Rattle.vb_meaning.specs.Shown.{shown}
use Rattle.vb_meaning.specs.Step.{raising}
use Rattle.vb_world.proofs.Keys.{keys_listed}
use Rattle.vb_world.proofs.counting.keys_of.Goals as goal

pub returns-in-Arr : goal.returns-in-Arr
returns-in-Arr c =
    let listed : raising (dictionary.keys_of c.args.object (shown c.args.world.now).store) ≡ Ok (Arr c.in-Arr.array)
    = search rules in
    keys_listed c.args.object (shown c.args.world.now) c.in-Arr.array listed
