-- `Boxed` in a type that holds itself: it is seen as what it holds, and laid out as std's `Box`.
-- The toolchain reads these names.
use mathlib.Core.Path.{refl}
use mathlib.Core.Former.{Former, this, const, pair, via}
use base.Stored.{gnil}
use base.Fml.{ftrue}
use denote.RattleType.{RattleType}
use denote.Memory.{part_of}
use denote.RawPtr.{Ptr}
use denote.Sharing.{nothing}
use denote.HoleLaws.{Alike}
use denote.HolePlaces.{Recodes, struct_places, laid, one_value}
use denote.Hole.Fix.{over}
use denote.Param.Weighed.{Weighed}
use denote.Model.Placed.{view_places}
use Rattle.std.specs.declared.boxed.Box.{Box}
use Rattle.std.specs.contracts.boxed.Box as box
use Rattle.std.specs.declared.alloc.Global.{Global}
use Rattle.std.specs.contracts.alloc.Global as global
use Rattle.std.specs.contracts.impls.GlobalAllocator.TheImpl.{ghosts}
use Rattle.vb_value.specs.declared.boxed.Boxed.TheInside.{Inside}
use Rattle.vb_value.specs.declared.boxed.Boxed.TheView.{view, invariant}
use Rattle.vb_value.specs.contracts.boxed.Boxed as declared
use Rattle.vb_value.specs.contracts.boxed.Boxed.TheInside as inside

-- what the box holds
abbrev pub the_former : Former {0} → Former {0}
the_former held = held

-- it weighs what it holds
abbrev pub the_weighed : {held : Former {0}} → Weighed held → Weighed (the_former held)
the_weighed weighed = weighed

-- the one field, which is a `Box`: a pointer and an allocator beside the value
abbrev the_fields : Former {0}
the_fields = via (pair (const (Ptr × Global)) this) Inside (λ X a. ((a.inner.ptr, a.inner.alloc), a.inner.value))
    (λ X v. record { inner = record { ptr = v.0.0; alloc = v.0.1; value = v.1 } }) (λ X a. refl) (λ X v. refl)

-- the same block with another value
abbrev holding : {X Y : Type 0} → Box X Global → Y → Box Y Global
holding block value = record { ptr = block.ptr; alloc = block.alloc; value = value }

abbrev box_row : RattleType → RattleType
box_row held = box.the_row held global.the_row ghosts

module _ (From To : RattleType) (change : From.Denot → To.Denot) where
  box_places : Alike From To change → Alike (box_row From) (box_row To) (λ block. holding block (change block.value))
  unfolding part_of
  box_places alike = record {
    mir_same = λ i. (box_row (one_value From (alike.mir_same i) (λ _. ftrue) (λ _ _. nothing) gnil)).mir;
    own_same = λ b i. (box_row (one_value From (alike.mir_same i) (alike.own_same b.value i)
        (alike.shr_same b.value i) gnil)).own_val (holding b tt);
    shr_same = λ b i. (box_row (one_value From (alike.mir_same i) (alike.own_same b.value i)
        (alike.shr_same b.value i) gnil)).shr_at (holding b tt);
  }

  pub the_places : Alike From To change
      → Alike (declared.the_row From) (declared.the_row To) ((the_former this).map From.Denot To.Denot change)
  the_places alike = view_places the_fields this view (λ X Y k u. refl) (λ X u. refl)
      From.Denot To.Denot change (declared.the_row From).coded (declared.the_row To).coded
      (invariant From.Denot) (invariant To.Denot) (λ u p q. refl) (λ u p q. refl) (λ u e. tt) (λ u e. tt)
      (over (inside.the_row From)) (over (inside.the_row To))
      (struct_places (inside.the_type From) (inside.the_type To) ((λ b. holding b (change b.value)), tt) _
      (λ d. refl) refl
      (laid _ _ _ (box_places alike), tt))

  pub the_codes_placed : Recodes From To change
      → Recodes (declared.the_row From) (declared.the_row To) ((the_former this).map From.Denot To.Denot change)
  the_codes_placed recodes held = recodes held
