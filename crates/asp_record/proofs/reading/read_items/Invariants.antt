use Rattle.std.proofs.Common.{◌≡◌, [], ◌++◌, length}
use Rattle.std.specs.List.{flat_map}
use Rattle.http_front.specs.Reader.{Wants}
use Rattle.asp_record.specs.Recording.{item_text}
use Rattle.asp_record.specs.Recorded.{AreItems, last_of}
use Rattle.asp_record.proofs.reading.read_items.Given as goal

abbrev pub invariant-loop-items : goal.invariant-loop-items
invariant-loop-items l = record {
  right : AreItems 0 l.items;
  text : l.bytes ≡ flat_map item_text l.items ++ l.rest;
  time : l.now ≡ last_of 0 l.items;
  empty : l.reader ≡ [];
  wants : Wants l.reader;
}

abbrev pub decreases-loop-items : goal.decreases-loop-items
decreases-loop-items l = length l.rest
