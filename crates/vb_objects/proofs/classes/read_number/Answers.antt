use Rattle.std.proofs.Common.{length, sym, ◌∙◌, refl}
use Rattle.std.proofs.lemmas.Option.{slice_get_read}
use Rattle.vb_meaning.specs.Objects as spec
use Rattle.vb_objects.proofs.Named.{named_found}
use Rattle.vb_objects.proofs.classes.read_number.Goals as goal

pub returns-then-is_read : goal.returns-then-is_read
returns-then-is_read c = named_found c.args.name spec.is_read c.args.procedures.now c.loop-procedure.number
    c.in-Some.procedure.now (slice_get_read c.args.procedures.now (length c.args.procedures.now)
    c.loop-procedure.number c.in-Some.procedure.now refl c.in-Some.ensures.lookup.3.0 c.in-Some.ensures.lookup.1)
    c.if-procedure-name.true (sym c.is_read.ensures ∙ c.if-is_read.true)
    ∙ sym c.loop-procedure.invariant
