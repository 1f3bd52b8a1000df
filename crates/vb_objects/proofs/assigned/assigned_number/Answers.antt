use Rattle.std.proofs.Common.{length, sym, ◌∙◌, refl}
use Rattle.std.proofs.lemmas.Option.{slice_get_read}
use Rattle.vb_meaning.specs.Objects as objects
use Rattle.vb_objects.proofs.Named.{named_found}
use Rattle.vb_objects.proofs.assigned.assigned_number.Goals as goal

pub returns-then-takes_assigned : goal.returns-then-takes_assigned
returns-then-takes_assigned c = named_found c.args.name (objects.takes_assigned c.args.how) c.args.procedures.now
    c.loop-procedure.number c.in-Some.procedure.now (slice_get_read c.args.procedures.now (length c.args.procedures.now)
    c.loop-procedure.number c.in-Some.procedure.now refl c.in-Some.ensures.lookup.3.0 c.in-Some.ensures.lookup.1)
    c.if-procedure-name.true
    (sym c.takes_assigned.ensures ∙ c.if-takes_assigned.true) ∙ sym c.loop-procedure.invariant
