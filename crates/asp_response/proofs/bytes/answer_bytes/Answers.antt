use Rattle.std.proofs.Common.{◌++◌, ap, ◌∙◌}
use Rattle.asp_response.specs.AnswerText.{answer_text}
use Rattle.asp_response.proofs.bytes.answer_bytes.Goals as goal

pub returns : goal.returns
returns c = record {
  date = c.to_bytes-date.result;
  is_date = record { date = c.date_of.result; second = c.date_of.ensures; shown = c.to_bytes-date.ensures };
  written = c.in_ok-push_answer.ensures ∙ ap (λ b. b ++ answer_text c.args.answer.now c.to_bytes-date.result) c.new-bytes.ensures;
}
