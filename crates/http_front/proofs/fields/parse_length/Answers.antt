use Rattle.std.proofs.Common.{◌≡◌, ◌&&◌, get_or, sym, ◌∙◌, arith}
use Rattle.std.specs.Char.{digit_value, is_ascii_digit}
use Rattle.std.proofs.lemmas.Bool.Decides.{nat_tests}
use Rattle.std.proofs.lemmas.Int.Digits.{digits_value_more}
use Rattle.std.proofs.lemmas.List.Folds.{list_all_more}
use Rattle.http_front.proofs.fields.parse_length.Goals as goal

pub loop-b-preserved : goal.loop-b-preserved
loop-b-preserved c =
    let digit : digit_value (get_or c.args.value.now c.loop-b.b-index 0) ≡ c.from.result = grind (arith, nat_tests) in record {
      number = omega (
        arith,
        digits_value_more 10 c.args.value.now _ c.loop-b-test.true,
        c.min-n.ensures,
        c.loop-b.invariant.number,
      );
      digits = list_all_more is_ascii_digit _ _ 0 c.loop-b-test.true
          ∙ (λ k. c.loop-b.invariant.digits k && sym c.if-not-is_ascii_digit.ensures.value k);
    }
