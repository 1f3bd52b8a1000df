use Rattle.std.proofs.Common.{List, subst}
use Rattle.asp_job.specs.declared.session.Named.{Named}
use Rattle.asp_objects.specs.Entries.{IsWithin}
use Rattle.asp_objects.proofs.Keeping.{may_remove}
use Rattle.asp_objects.proofs.session.HeldSession.remove.Goals as goal

pub invariant_of-self : goal.invariant_of-self
invariant_of-self c =
    may_remove c.self.inside.state c.place_of-at.result c.remove_at.new.entries c.self.invariant
    (subst (λ (entries : List Named). IsWithin c.place_of-at.result entries) c.as_slice.ensures c.place_of-at.ensures.within)
    c.remove_at.ensures
