-- Things by their numbers.
use Rattle.std.proofs.Common.{◌≡◌, ℕ, ◌+◌, List, [], ◌∷◌, ◌++◌, refl, ap, arith, true, false, cond, take, length}
use Rattle.std.proofs.Common.{get_or, ◌<◌}
use Rattle.std.specs.Map.{values_of}
use Rattle.std.proofs.lemmas.List.{take_more}
use Rattle.vb_value.specs.declared.value.Value.{Value}
use Rattle.vb_heap.specs.declared.place.CellNo.{CellNo}
use Rattle.vb_heap.specs.Below.{AreBelow, EachBelow}
use Rattle.vb_heap.specs.Releases.{without_all}
use Rattle.vb_heap.specs.Store.{is_number, without, replaced}

module _ {T : Type 0} where
  one_more : (things : List (ℕ × T)) (number : ℕ) (thing : T) → EachBelow number things
      → EachBelow (number + 1) (things ++ (number, thing) ∷ [])
  one_more [] number thing below = (omega arith, tt)
  one_more (first ∷ others) number thing below = (omega arith, one_more others number thing below.1)

  -- one more thing, and the numbers to come
  pub below_more : (things : List (ℕ × T)) (number : ℕ) (thing : T) → AreBelow number things
      → AreBelow (number + 1) (things ++ (number, thing) ∷ [])
  below_more things number thing below = record { each = one_more things number thing below.each }

  one_less : (things : List (ℕ × T)) (gone number : ℕ) → EachBelow number things
      → EachBelow number (without gone things)
  one_less [] gone number below = tt
  one_less (first ∷ others) gone number below =
      elim (is_number gone first.0) as (λ b. EachBelow number (cond b others (first ∷ without gone others))) [
        | true ↦ below.1
        | false ↦ (below.0, one_less others gone number below.1)
      ]

  -- one thing less
  pub below_less : (things : List (ℕ × T)) (gone number : ℕ) → AreBelow number things
      → AreBelow number (without gone things)
  below_less things gone number below = record { each = one_less things gone number below.each }

  one_other : (things : List (ℕ × T)) (at number : ℕ) (thing : T) → EachBelow number things
      → EachBelow number (replaced at thing things)
  one_other [] at number thing below = tt
  one_other (first ∷ others) at number thing below =
      elim (is_number at first.0)
      as (λ b. EachBelow number (cond b ((first.0, thing) ∷ others) (first ∷ replaced at thing others))) [
        | true ↦ below
        | false ↦ (below.0, one_other others at number thing below.1)
      ]

  -- another thing in the place of one
  pub below_other : (things : List (ℕ × T)) (at number : ℕ) (thing : T) → AreBelow number things
      → AreBelow number (replaced at thing things)
  below_other things at number thing below = record { each = one_other things at number thing below.each }

  -- the things of two lists
  pub values_both : (things others : List (ℕ × T)) → values_of (things ++ others) ≡ values_of things ++ values_of others
  values_both [] others = refl
  values_both (first ∷ rest) others = ap (λ values. first.1 ∷ values) (values_both rest others)

gone_last : (gone : List CellNo) (last : CellNo) (cells : List (ℕ × Value))
    → without_all (gone ++ last ∷ []) cells ≡ without last.0 (without_all gone cells)
gone_last [] last cells = refl
gone_last (first ∷ gone) last cells = gone_last gone last (without first.0 cells)

-- cells without so many and one more
pub gone_more : (gone : List CellNo) (at : ℕ) (default : CellNo) (cells : List (ℕ × Value)) → at < length gone
    → without_all (take (at + 1) gone) cells ≡ without (get_or gone at default).0 (without_all (take at gone) cells)
gone_more gone at default cells within =
    rw (take_more gone at default within) (gone_last (take at gone) (get_or gone at default) cells)
