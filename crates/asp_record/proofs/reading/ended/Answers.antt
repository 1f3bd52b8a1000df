use Rattle.std.proofs.Common.{refl}
use Rattle.asp_record.proofs.Refusals.{refused_end, refused_item, refused_long, stands}
use Rattle.asp_record.proofs.reading.ended.Goals as goal

pub returns-then-at-gt-MOST_BYTES-clause-refused : goal.returns-then-at-gt-MOST_BYTES-clause-refused
returns-then-at-gt-MOST_BYTES-clause-refused c =
    refused_long c.args.bytes.now c.args.rest.now c.args.recording c.requires.text c.requires.sound
    c.if-at-gt-MOST_BYTES.true

pub returns-in-None-clause-refused : goal.returns-in-None-clause-refused
returns-in-None-clause-refused c =
    refused_item c.args.bytes.now c.args.rest.now c.args.recording _ c.requires.text c.requires.sound c.requires.last
    c.in-None.ensures refl
    c.if-at-gt-MOST_BYTES.false

pub returns-then-at-gt-MOST_BYTES-2-clause-refused : goal.returns-then-at-gt-MOST_BYTES-2-clause-refused
returns-then-at-gt-MOST_BYTES-2-clause-refused c =
    refused_end c.args.bytes.now c.args.rest.now c.in-Some.field-0.now c.args.recording c.requires.text c.requires.sound
    c.in-Some.ensures
    c.if-at-gt-MOST_BYTES-2.true

pub returns-else-at-gt-MOST_BYTES-2-clause-recording : goal.returns-else-at-gt-MOST_BYTES-2-clause-recording
returns-else-at-gt-MOST_BYTES-2-clause-recording c =
    stands c.args.bytes.now c.args.rest.now c.in-Some.field-0.now c.args.recording _ c.requires.text c.requires.sound
    c.in-Some.ensures refl
    c.if-at-gt-MOST_BYTES-2.false
