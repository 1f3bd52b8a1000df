use Rattle.std.proofs.Common.{◌∷◌, ◌++◌, [], length, ap, ◌∙◌}
use Rattle.asp_feed.specs.Shown.{head_line}
use Rattle.asp_replay.proofs.writing.record_of.Goals as goal

pub returns : goal.returns
returns c =
    let text = c.in_ok-text.text in
    let first = c.in_ok-bytes.ensures ∙ c.as_bytes.ensures.value ∙ c.in_ok-head.ensures
    ∙ ap (head_line c.args.run) c.len.ensures in
    let both = c.in_ok-append_slice.ensures ∙ ap (λ bytes. bytes ++ c.as_slice.result.now) first
    ∙ ap (λ bytes. head_line c.args.run (length text) ++ bytes) c.as_slice.ensures in
    let all = c.in_ok-append_slice-2.ensures ∙ ap (λ bytes. bytes ++ 10 ∷ []) both in
    record { text = text; is_text = c.in_ok-text.ensures; bytes_are = all }
