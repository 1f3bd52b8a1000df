use Rattle.std.proofs.Common.{◌≡◌, ◌+◌, ◌-◌, suc, ap, arith, length, List, sym, ◌∙◌, Some}
use Rattle.page_read.specs.Attributes.{attributes_within}
use Rattle.page_read.specs.Reading.{shown_attribute}
use Rattle.page_read.specs.declared.attribute.Attribute.{Attribute}
use Rattle.page_read.proofs.Attributes.{none_read, all_read, none_next, next_read, none_left, renumbered, with_more}
use Rattle.page_read.proofs.attribute.attributes.Goals as goal

pub loop-read-init : goal.loop-read-init
loop-read-init c =
    let none = none_read c.args.text.now ∙ ap (λ (found : List Attribute). with_more found (attributes_within
    (length c.args.text.now + 1) c.args.text.now)) (sym c.new-found.ensures) in
    renumbered (length c.args.text.now + 1) (length c.args.text.now + 1 - 0) c.args.text.now c.new-found.result _
    (omega arith) none

pub returns-then-is_blank_text : goal.returns-then-is_blank_text
returns-then-is_blank_text c =
    let most = length c.args.text.now - c.loop-read.read in
    let same : length c.args.text.now + 1 - c.loop-read.read ≡ suc most = omega (arith, c.loop-read-test.true) in
    all_read most c.loop-read.rest.now c.loop-read.found _
    (renumbered _ (suc most) c.loop-read.rest.now c.loop-read.found _ same c.loop-read.invariant)
    (sym c.is_blank_text.ensures ∙ c.if-is_blank_text.true)

pub returns-in_default : goal.returns-in_default
returns-in_default c =
    let most = length c.args.text.now - c.loop-read.read in
    let same : length c.args.text.now + 1 - c.loop-read.read ≡ suc most = omega (arith, c.loop-read-test.true) in
    none_next most c.loop-read.rest.now c.loop-read.found _
    (renumbered _ (suc most) c.loop-read.rest.now c.loop-read.found _ same c.loop-read.invariant)
    (sym c.is_blank_text.ensures ∙ c.if-is_blank_text.false)
    (sym c.first_attribute.ensures ∙ ap shown_attribute c.in_default.is)

pub returns : goal.returns
returns c =
    none_left _ c.loop-read.rest.now c.loop-read.found _ (omega (arith, c.loop-read-test.false)) c.loop-read.invariant

pub loop-read-preserved : goal.loop-read-preserved
loop-read-preserved c =
    let most = length c.args.text.now - c.loop-read.read in
    let same : length c.args.text.now + 1 - c.loop-read.read ≡ suc most = omega (arith, c.loop-read-test.true) in
    let less : most ≡ length c.args.text.now + 1 - (c.loop-read.read + 1) = omega (arith, c.loop-read-test.true) in
    renumbered most _ c.in-Some.behind.now c.push.new.self _ less
    (next_read most c.loop-read.rest.now c.in-Some.behind.now c.loop-read.found c.push.new.self c.in_ok-owned.field-0 _
    (renumbered _ (suc most) c.loop-read.rest.now c.loop-read.found _ same c.loop-read.invariant)
    (sym c.is_blank_text.ensures ∙ c.if-is_blank_text.false)
    (sym c.in-Some.ensures ∙ ap (λ (one : Attribute). Some (one, c.in-Some.behind.now)) (sym c.in_ok-owned.ensures))
    c.in_ok-push.ensures)
