-- A step of a kind that reaches a frame is that step again, and what a list has from one of its items on.
use Rattle.std.proofs.Common.{◌≡◌, ℕ, ◌+◌, ◌<◌, List, [], ◌∷◌, length, drop, Bool, Some, None, inl, inr, refl}
use Rattle.std.proofs.Common.{add-one, drop-cons, drop_of_length-le}
use Rattle.std.specs.Prelude.{slice_get}
use Rattle.std.proofs.lemmas.Option.{slice_get_within, get_or_from_slice_get, slice_get_cases}
use Rattle.vb_value.specs.declared.value.Value.{Value}
use Rattle.vb_meaning.specs.declared.world.Exit.{Exit}
use Rattle.vb_meaning.specs.Step.{Step, Returns, Ends}
use Rattle.vb_frames.specs.declared.got.Got.TheVariants as got
use Rattle.vb_frames.specs.Caught.{mapped, nothing, as_value, as_truth, as_exit, as_done}

pub value_again : {S : Type 0} (st : Step S Value) → as_value (mapped got.Value st) ≡ st
value_again (Returns found s) = refl
value_again (Ends why s) = refl

pub truth_again : {S : Type 0} (st : Step S Bool) → as_truth (mapped got.Truth st) ≡ st
truth_again (Returns found s) = refl
truth_again (Ends why s) = refl

pub exit_again : {S : Type 0} (st : Step S Exit) → as_exit (mapped got.Exit st) ≡ st
exit_again (Returns found s) = refl
exit_again (Ends why s) = refl

pub done_again : {S : Type 0} (st : Step S (Unit {0})) → as_done (mapped nothing st) ≡ st
done_again (Returns tt s) = refl
done_again (Ends why s) = refl

pub drop_some : {X : Type 0} (xs : List X) (at : ℕ) (x : X) → slice_get xs at ≡ Some x → drop at xs ≡ x ∷ drop (at + 1) xs
drop_some xs at x h =
    let below : at < length xs = slice_get_within xs at x h in
    rw (add-one, drop-cons xs at x, get_or_from_slice_get xs at x x h)

pub drop_none : {X : Type 0} (xs : List X) (at : ℕ) → slice_get xs at ≡ None → drop at xs ≡ []
drop_none xs at h =
    elim ((slice_get_cases xs at).1) [ inl e ↦ cc | inr e ↦ drop_of_length-le xs e.0 ]
