use Rattle.std.proofs.Common.{[], ◌∷◌, sym, subst}
use Rattle.vb_value.specs.declared.fault.VbFault.TheVariants.{Memory}
use Rattle.vb_value.specs.Errors.{reported}
use Rattle.vb_value.specs.Outcome.{Answers}
use Rattle.vb_strings.proofs.Bounds.{in_str_same}
use Rattle.vb_strings.proofs.searching.place_from.Goals as goal

pub returns : goal.returns
returns c =
    subst (λ answer. Answers c.first_place.result Memory (reported answer))
    (sym (in_str_same (c.args.i.now ∷ c.args.a.now ∷ c.args.b.now ∷ []))) (rw c.to_long.ensures at c.first_place.ensures)
