use Rattle.std.proofs.Common.{arith, refl}
use Rattle.std.proofs.lemmas.Bool.{false≢true}
use Rattle.asp_command.proofs.Numbers.{is_number, no_greater, no_reading, no_text}
use Rattle.asp_command.proofs.number.number_to.Goals as goal

pub returns-then-not-begins_as_number : goal.returns-then-not-begins_as_number
returns-then-not-begins_as_number c =
    no_text c.args.most c.args.word.now (omega arith)
    (λ begins. false≢true (c.if-not-begins_as_number.ensures.1 begins))

pub returns-in_default : goal.returns-in_default
returns-in_default c =
    no_reading c.args.most c.args.word.now _ c.in_default.field-0 (omega arith) c.parse.ensures.value.0 c.in_default.is

pub returns-then-number-most : goal.returns-then-number-most
returns-then-number-most c =
    is_number c.args.most c.args.word.now _ c.in-Ok.number c.parse.ensures.value.0 c.in-Ok.is
    (c.if-not-begins_as_number.ensures.0 refl) (omega arith)

pub returns-else-number-most : goal.returns-else-number-most
returns-else-number-most c =
    no_greater c.args.most c.args.word.now _ c.in-Ok.number (omega arith) c.parse.ensures.value.0 c.in-Ok.is
    (omega arith)
