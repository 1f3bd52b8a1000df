use Rattle.heap_laws.proofs.Made.{numbers_are_new}
use Rattle.heap_laws.proofs.laws.numbers_are_new.Goals as goal

pub returns : goal.returns
returns c = numbers_are_new
