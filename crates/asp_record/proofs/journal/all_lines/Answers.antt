use Rattle.std.proofs.Common.{◌≢◌, [], length, refl, sym, ap, subst, arith}
use Rattle.std.proofs.lemmas.List.{nil_from_length}
use Rattle.asp_record.specs.Journal.{AreLines}
use Rattle.asp_record.proofs.Journals.{all_read, lines_more, refused_here, shorter, text_more}
use Rattle.asp_record.proofs.LinesRead.{line_right}
use Rattle.asp_record.proofs.journal.all_lines.Goals as goal

pub returns-in_default-clause-refused : goal.returns-in_default-clause-refused
returns-in_default-clause-refused c =
    let before = c.loop-rest.invariant in
    let some : c.loop-rest.rest.now ≢ [] = λ none. let size = ap length none in omega (arith, size) in
    refused_here c.args.bytes.now c.loop-rest.rest.now c.loop-rest.lines _ before.right before.text some
    (rw c.in_default.is at c.in_ok-line.ensures) refl

pub loop-rest-smaller : goal.loop-rest-smaller
loop-rest-smaller c =
    let read = line_right c.loop-rest.rest.now c.in-Some.line c.in-Some.after.now
    (rw c.in-Some.is at c.in_ok-line.ensures) in
    shorter c.in-Some.line c.loop-rest.rest.now c.in-Some.after.now read.right read.text

pub loop-rest-preserved : goal.loop-rest-preserved
loop-rest-preserved c =
    let before = c.loop-rest.invariant in
    let read = line_right c.loop-rest.rest.now c.in-Some.line c.in-Some.after.now
    (rw c.in-Some.is at c.in_ok-line.ensures) in
    let pushed = c.in_ok-push.ensures in
    record {
      right = subst AreLines (sym pushed) (lines_more c.loop-rest.lines c.in-Some.line before.right read.right);
      text = text_more c.loop-rest.lines c.push.new.self c.in-Some.line c.args.bytes.now c.loop-rest.rest.now
          c.in-Some.after.now
          before.text read.text pushed;
    }

pub returns-clause-lines : goal.returns-clause-lines
returns-clause-lines c =
    let before = c.loop-rest.invariant in
    all_read c.args.bytes.now c.loop-rest.rest.now c.loop-rest.lines before.right before.text
    (nil_from_length c.loop-rest.rest.now (omega arith))
