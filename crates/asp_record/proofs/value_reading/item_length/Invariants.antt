use Rattle.std.proofs.Common.{◌≡◌, ◌+◌, ◌-◌, ◌≤◌, length, drop, not}
use Rattle.std.specs.List.{prefix_len}
use Rattle.asp_record.specs.ReadingValues.{ends_item}
use Rattle.asp_record.proofs.value_reading.item_length.Given as goal

abbrev pub invariant-loop-end : goal.invariant-loop-end
invariant-loop-end l = record {
  within : l.end ≤ length l.bytes;
  value : l.end + prefix_len (λ c. not (ends_item c)) (drop l.end l.bytes)
      ≡ prefix_len (λ c. not (ends_item c)) l.bytes;
}

abbrev pub decreases-loop-end : goal.decreases-loop-end
decreases-loop-end l = length l.initial.bytes - l.end
