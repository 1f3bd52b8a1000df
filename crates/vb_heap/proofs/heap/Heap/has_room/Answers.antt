use Rattle.std.proofs.Common.{sym, arith}
use Rattle.vb_heap.proofs.Making.{heavy_object, object_fits, table_fits, there_is_room}
use Rattle.vb_heap.proofs.heap.Heap.has_room.Goals as goal

pub returns-then-self-fields-gt-MOST_WEIGHT-clause-object :
    goal.returns-then-self-fields-gt-MOST_WEIGHT-clause-object
returns-then-self-fields-gt-MOST_WEIGHT-clause-object c class =
    rw (sym c.self.view_is)
    (heavy_object c.self.inside c.self.invariant c.args.fields class c.if-self-fields-gt-MOST_WEIGHT.true)

pub returns-clause-object : goal.returns-clause-object
returns-clause-object c class =
    rw (sym c.self.view_is)
    (object_fits c.self.inside c.self.invariant c.args.fields (omega arith) (omega arith) (omega arith) class)

pub returns-clause-table : goal.returns-clause-table
returns-clause-table c none =
    rw (sym c.self.view_is)
    (table_fits c.self.inside c.self.invariant c.args.fields (omega arith) (omega arith) (omega arith))

pub returns-clause-room : goal.returns-clause-room
returns-clause-room c _ =
    rw (sym c.self.view_is)
    (there_is_room c.self.inside c.self.invariant c.args.fields (omega arith) (omega arith) (omega arith))
