use Rattle.std.proofs.Common.{◌≡◌, ◌+◌, ◌++◌, take, drop, get_or, sym, ◌∙◌, ap, subst, arith}
use Rattle.std.specs.List.{flat_map}
use Rattle.std.proofs.lemmas.Result.{err_from_is_err_and}
use Rattle.asp_io.specs.Copying.{AddsPart}
use Rattle.asp_io.specs.Sink.{with_bytes}
use Rattle.asp_record.specs.Entries.{entry_text}
use Rattle.asp_replay.proofs.Pieces.{part_all, part_longer, part_more, stopped_part, stopped_text, texts_more}
use Rattle.asp_replay.proofs.Pieces.{texts_split, wrote_more}
use Rattle.asp_replay.proofs.Ranged.{ranged_more}
use Rattle.asp_replay.proofs.writing.write_lines.Goals as goal

pub returns-in_err-line-clause-wrote : goal.returns-in_err-line-clause-wrote
returns-in_err-line-clause-wrote g c =
    let journal = c.args.journal.now in
    let at = c.loop-entry.entry-index in
    let before = g.K.Sink.held c.args.sink.now in
    let now = g.K.Sink.held c.loop-entry.sink in
    let part = part_all before now (flat_map entry_text (take at journal)) (flat_map entry_text (drop at journal))
    c.loop-entry.invariant.0 in
    let all = subst (AddsPart before now) (texts_split entry_text journal at) part in
    let p = err_from_is_err_and c.from_residual.result c.from_residual.ensures.1 in rw (p.1, p.2) all

pub returns-in_err-write_piece-clause-wrote : goal.returns-in_err-write_piece-clause-wrote
returns-in_err-write_piece-clause-wrote g c =
    let journal = c.args.journal.now in
    let at = c.loop-entry.entry-index in
    let before = g.K.Sink.held c.args.sink.now in
    let old = g.K.Sink.held c.loop-entry.sink in
    let new = g.K.Sink.held c.write_piece.new.sink in
    let ended = c.in_err-write_piece.field-0.0 in
    let wrote = c.in_err-write_piece.ensures.wrote in
    let line = c.as_slice.result.now in
    let part = part_more before old new (flat_map entry_text (take at journal)) line c.loop-entry.invariant.0
    (stopped_part ended old new line wrote) in
    let more = flat_map entry_text (drop (at + 1) journal) in
    let longer = part_longer before new (flat_map entry_text (take at journal) ++ line) more part in
    let is : line ≡ entry_text (get_or journal at c.entry-item.result) =
    c.as_slice.ensures ∙ c.in_ok-line.ensures.text ∙ ap entry_text c.entry-item.is in
    let text = ap (λ text. (flat_map entry_text (take at journal) ++ text) ++ more) is
    ∙ ap (λ text. text ++ more) (sym (texts_more entry_text journal at c.entry-item.result c.loop-entry-test.true))
    ∙ texts_split entry_text journal (at + 1) in
    let all = subst (AddsPart before new) text longer in
    let p = err_from_is_err_and c.from_residual-in_err-write_piece.result
    c.from_residual-in_err-write_piece.ensures.1 in
    rw (p.1, p.2) (stopped_text ended before old new line (flat_map entry_text journal) wrote all)

pub loop-entry-preserved : goal.loop-entry-preserved
loop-entry-preserved g c =
    let journal = c.args.journal.now in
    let at = c.loop-entry.entry-index in
    let cause = c.in_ok-write_piece.ensures.cause in
    let before = g.K.Sink.held c.args.sink.now in
    let old = g.K.Sink.held c.loop-entry.sink in
    let new = g.K.Sink.held c.write_piece.new.sink in
    let line = c.as_slice.result.now in
    let is : line ≡ entry_text (get_or journal at c.entry-item.result) =
    c.as_slice.ensures ∙ c.in_ok-line.ensures.text ∙ ap entry_text c.entry-item.is in
    let wrote = wrote_more before old new (flat_map entry_text (take at journal)) line c.loop-entry.invariant.0
    c.in_ok-write_piece.ensures.wrote in
    let text = ap (λ text. flat_map entry_text (take at journal) ++ text) is
    ∙ sym (texts_more entry_text journal at c.entry-item.result c.loop-entry-test.true) in (
      wrote ∙ ap (with_bytes before) text,
      omega (arith, cause.later),
      λ below. cause.within (c.loop-entry.invariant.2 below),
      ranged_more journal at c.entry-item.result c.entry-item.is c.loop-entry-test.true c.loop-entry.invariant.3
          c.in_ok-line.ensures.ranged,
    )
