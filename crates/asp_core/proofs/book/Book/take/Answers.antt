use Rattle.std.proofs.Common.{◌+◌, IsSome, ap, nat_eq, reverse, subst, sym, vec_capacity, ◌∙◌, List, ℕ}
use Rattle.std.specs.Map.{lookup}
use Rattle.asp_job.specs.declared.answer.Answer.{Answer}
use Rattle.asp_core.proofs.Booking.{take_room}
use Rattle.asp_core.proofs.book.Book.take.Goals as goal

pub invariant_of-self : goal.invariant_of-self
invariant_of-self c =
    let inside = c.self.inside in
    let some = subst (λ (xs : List (ℕ × Answer)). IsSome (lookup (nat_eq c.args.run) xs))
    (sym (ap (λ b. b.answers) c.self.view_is)) c.requires in
    let taken = c.take_answer.ensures in
    rw (taken.items, taken.capacity) (take_room (reverse inside.journal.items) inside.answers.items c.args.run
    inside.journal.capacity (vec_capacity inside.answers) some c.self.invariant.0 c.self.invariant.1).0

pub returns-clause-room : goal.returns-clause-room
returns-clause-room c =
    let inside = c.self.inside in
    let some = subst (λ (xs : List (ℕ × Answer)). IsSome (lookup (nat_eq c.args.run) xs))
    (sym (ap (λ b. b.answers) c.self.view_is)) c.requires in
    rw c.take_answer.ensures.items ((take_room (reverse inside.journal.items) inside.answers.items c.args.run
    inside.journal.capacity (vec_capacity inside.answers) some c.self.invariant.0 c.self.invariant.1).1
    ∙ ap (λ b. b.room + 1) c.self.view_is)
