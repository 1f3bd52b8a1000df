use Rattle.heap_laws.proofs.Moves.{ended_object_refers, ended_table_refers}
use Rattle.heap_laws.proofs.laws.ended_references_go.Goals as goal

pub returns : goal.returns
returns c = record {
  table = ended_table_refers;
  object = ended_object_refers;
}
