use Rattle.std.proofs.Common.{◌≤◌, List, ap, length, reverse, subst, sym, vec_capacity, ◌∙◌}
use Rattle.asp_job.specs.declared.entry.Entry.{Entry}
use Rattle.asp_journal.specs.Tables.{AreFit}
use Rattle.asp_core.proofs.Booking.{add_places, add_room}
use Rattle.asp_core.proofs.book.Book.add.Goals as goal

pub invariant_of-self : goal.invariant_of-self
invariant_of-self c =
    let inside = c.self.inside in
    let more = c.args.more in
    let added = c.append_reserved.ensures in
    let fit = subst (λ (xs : List Entry). AreFit (reverse xs) more) (sym (ap (λ b. b.items) c.self.view_is))
    c.requires.fit in
    let fits = subst (λ n. length more ≤ n) (sym (ap (λ b. b.room) c.self.view_is)) c.requires.room in
    let room = add_room inside.journal.items c.append_reserved.new.self.items more (length inside.answers.items)
    inside.journal.capacity added.items fit c.requires.calm c.self.invariant.0 fits in
    let places = add_places inside.journal.items c.append_reserved.new.self.items more (length inside.answers.items)
    (vec_capacity inside.answers) added.items fit c.requires.calm c.self.invariant.1 in
    rw added.capacity (room.0, places.0)

pub returns-clause-room : goal.returns-clause-room
returns-clause-room c =
    let inside = c.self.inside in
    let more = c.args.more in
    let added = c.append_reserved.ensures in
    let fit = subst (λ (xs : List Entry). AreFit (reverse xs) more) (sym (ap (λ b. b.items) c.self.view_is))
    c.requires.fit in
    let fits = subst (λ n. length more ≤ n) (sym (ap (λ b. b.room) c.self.view_is)) c.requires.room in
    let room = add_room inside.journal.items c.append_reserved.new.self.items more (length inside.answers.items)
    inside.journal.capacity added.items fit c.requires.calm c.self.invariant.0 fits in
    let places = add_places inside.journal.items c.append_reserved.new.self.items more (length inside.answers.items)
    (vec_capacity inside.answers) added.items fit c.requires.calm c.self.invariant.1 in
    rw added.capacity (room.1 ∙ ap (λ b. b.room) c.self.view_is, places.1 ∙ ap (λ b. b.places) c.self.view_is)
