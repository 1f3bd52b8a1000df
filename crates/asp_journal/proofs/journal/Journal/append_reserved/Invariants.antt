use Rattle.std.proofs.Common.{◌≡◌, ◌++◌, ◌+◌, ◌≤◌, length, reverse}
use Rattle.asp_journal.specs.Tables as spec
use Rattle.asp_journal.proofs.journal.Journal.append_reserved.Given as goal

abbrev pub invariant-loop-entry : goal.invariant-loop-entry
invariant-loop-entry l = record {
  next : (goal.iterator-loop-entry).can_next l.entry-iterator;
  finite : (goal.iterator-loop-entry).is_finite l.entry-iterator;
  so_far : l.self.items ++ l.entry-iterator.rest.items ≡ l.fn.self.items ++ l.fn.more;
  fit : spec.AreFit (reverse l.self.items) l.entry-iterator.rest.items;
  room : length l.self.items + length l.entry-iterator.rest.items ≤ l.self.capacity;
  capacity : l.self.capacity ≡ l.fn.self.capacity;
}
