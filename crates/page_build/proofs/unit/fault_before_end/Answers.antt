use Rattle.std.proofs.Common.{[], ◌∷◌, ◌++◌, ◌∙◌, ap, sym}
use Rattle.vb_value.specs.declared.token.Token.{Token}
use Rattle.page_build.proofs.Within.{ends_there, found_fault, within_shorter}
use Rattle.page_build.proofs.unit.fault_before_end.Goals as goal

pub returns-then-at-end : goal.returns-then-at-end
returns-then-at-end c =
    let tokens = c.args.tokens in
    let last = c.line_end.result in
    let line_is = ap (λ (token : Token). token.line) c.line_end.ensures in
    ends_there c.one_fault.ensures tokens last c.args.kind c.in-Some.other c.args.line c.in-Some.at c.requires
    (found_fault c.as_slice.result.now (tokens ++ last ∷ []) c.in_ok-first_fault.field-0 c.in-Some.other c.in-Some.at
    c.in_ok-first_fault.ensures c.in-Some.is (c.as_slice.ensures ∙ c.in_ok-push.ensures))
    (c.if-at-end.true ∙ sym line_is) (λ is. c.other_line-end.ensures (sym line_is ∙ is))

pub returns : goal.returns
returns c =
    let tokens = c.args.tokens in
    let last = c.line_end.result in
    let line_is = ap (λ (token : Token). token.line) c.line_end.ensures in
    within_shorter tokens last c.in-Some.other c.in-Some.at
    (found_fault c.as_slice.result.now (tokens ++ last ∷ []) c.in_ok-first_fault.field-0 c.in-Some.other c.in-Some.at
    c.in_ok-first_fault.ensures c.in-Some.is (c.as_slice.ensures ∙ c.in_ok-push.ensures))
    (λ is. c.if-at-end.false (is ∙ line_is))
