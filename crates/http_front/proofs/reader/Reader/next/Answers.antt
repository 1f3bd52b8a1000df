use Rattle.std.proofs.Common.{◌≡◌, ◌+◌, ◌-◌, ◌<◌, length, take, drop, refl, ap, ◌∙◌, subst, arith, length-drop}
use Rattle.std.proofs.lemmas.List.{take_rest, drop-drop}
use Rattle.http_front.specs.Front.{IsFront, More, Request}
use Rattle.http_front.proofs.Finding.{waits_now}
use Rattle.http_front.proofs.reader.Reader.next.Goals as goal

pub returns-then-len-self-clause-ok : goal.returns-then-len-self-clause-ok
returns-then-len-self-clause-ok c =
    let items = c.self.inside.bytes.items in
    let few : length (drop c.self.inside.taken items) < c.self.inside.need =
    omega (arith, length-drop c.self.inside.taken items, c.len.ensures) in (
      subst (λ l. IsFront l More) c.self.view_is
          (waits_now (drop c.self.inside.taken items) c.self.inside.need c.self.invariant.waits few),
      refl,
    )

pub returns-in_ok-request-in-Request-clause-ok : goal.returns-in_ok-request-in-Request-clause-ok
returns-in_ok-request-in-Request-clause-ok c =
    let first = c.in_ok-request-in-Request.ensures in
    let items = c.self.inside.bytes.items in
    let taken = c.self.inside.taken in
    let end = c.in-Request.accepted.end in
    let pending : take (length c.deref.result.now - taken) (drop taken c.deref.result.now) ≡ drop taken items =
    take_rest c.deref.result.now taken ∙ ap (drop taken) c.deref.ensures.value in
    let here = subst (λ p. IsFront p (Request first.0 first.1 (drop end p))) pending first.3 in
    let left = subst (λ l. IsFront (drop taken items) (Request first.0 first.1 l)) (drop-drop end taken items) here in
    (first.0, first.1, first.2, subst (λ l. IsFront l (Request first.0 first.1 (drop (taken + end) items))) c.self.view_is left)
