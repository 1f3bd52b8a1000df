use Rattle.vb_heap.specs.DictionaryCalls.{place_in}
use Rattle.vb_dict.proofs.Flat.{absent_refused, told_none}
use Rattle.vb_dict.proofs.entries.get.Goals as goal

pub returns-in-Err-clause-answer : goal.returns-in-Err-clause-answer
returns-in-Err-clause-answer c other =
    absent_refused c.args.dictionary c.args.key.now c.args.heap.now c.in-Err.stop
    (told_none (place_in c.args.dictionary c.args.key.now c.args.heap.now) c.in_ok-at.field-0 c.in_ok-at.ensures
    c.in-None.is) (rw c.in_ok-copy-in-None.ensures at (c.in-Err.ensures.answer other))
