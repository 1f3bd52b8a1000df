use Rattle.std.proofs.Common.{◌≡◌, ◌<◌, ◌≤◌, ◌^◌, take}
use Rattle.std.specs.List.{flat_map}
use Rattle.asp_io.specs.Sink.{with_bytes}
use Rattle.asp_record.specs.Entries.{entry_text}
use Rattle.asp_record.specs.Ranged.{AreRanged}
use Rattle.asp_replay.proofs.writing.write_lines.Given as goal

abbrev pub invariant-loop-entry : goal.invariant-loop-entry
invariant-loop-entry g l =
    (g.K.Sink.held l.sink
    ≡ with_bytes (g.K.Sink.held l.initial.sink) (flat_map entry_text (take l.entry-index l.journal)))
    × (g.K.Sink.faults l.initial.sink ≤ g.K.Sink.faults l.sink)
    × (g.K.Sink.faults l.initial.sink < 2 ^ 64 → g.K.Sink.faults l.sink < 2 ^ 64)
    × AreRanged (take l.entry-index l.journal)
