use Rattle.std.proofs.Common.{◌≡◌, sym, subst, ◌∙◌}
use Rattle.http_front.proofs.OpenTargets.{shut_target, open_target, in_target, HasNoSpace, no_space_left, some_space_left}
use Rattle.http_front.proofs.open_target.may_go_on.Goals as goal

pub returns-in-Some-clause-open : goal.returns-in-Some-clause-open
returns-in-Some-clause-open c is ends =
    open_target c.args.window.now c.in-Some.target.now c.in-Some.ensures (c.may_become_text.ensures.open is) ends

pub returns-in-Some-clause-shut : goal.returns-in-Some-clause-shut
returns-in-Some-clause-shut c is =
    let none = no_space_left c.in-Some.target.now (sym c.contains.ensures.value ∙ c.if-not-contains.true) in
    shut_target c.args.window.now c.in-Some.target.now c.in-Some.ensures none (c.may_become_text.ensures.shut is)

pub returns-in_default-clause-open : goal.returns-in_default-clause-open
returns-in_default-clause-open c is ends =
    let t = in_target c.args.window.now ends in
    let same : t.0 ≡ c.in-Some.target.now = cc (t.1, c.in-Some.ensures) in
    absurd (some_space_left c.in-Some.target.now (sym c.contains.ensures.value ∙ c.if-not-contains.false)
    (subst HasNoSpace same t.2))

pub returns-in_default-2-clause-open : goal.returns-in_default-2-clause-open
returns-in_default-2-clause-open c is ends =
    let t = in_target c.args.window.now ends in
    let none = rw c.in_default.is at c.after_space.ensures in
    absurd (cc (t.1, none))
