-- `List` in a type that holds itself: how a list of such values is built, weighed, mapped and laid out.
-- The toolchain reads these names; its `Vec` has the same, on which these stand.
use mathlib.Core.Path.{◌≡◌, refl, sym}
use mathlib.Core.List as Core
use mathlib.Core.Former.{Former, this, list, via, children}
use base.Stored.{code_map}
use denote.RattleType.{RattleType}
use denote.HoleLaws.{Alike}
use denote.HolePlaces.{Recodes, struct_places, laid}
use denote.Hole.Carrier.{listed, list-listed}
use denote.Hole.Fix.{over}
use denote.Param.Weighed.{Weighed, w_list}
use denote.Model.Placed.{view_places}
use Rattle.std.specs.formers.vec.Vec as vec
use Rattle.std.specs.declared.alloc.Global.{Global}
use Rattle.std.specs.contracts.alloc.Global as global
use Rattle.std.specs.contracts.impls.GlobalAllocator.TheImpl.{ghosts}
use Rattle.vb_value.specs.declared.list.List.TheInside.{Inside}
use Rattle.vb_value.specs.declared.list.List.TheView.{view, invariant}
use Rattle.vb_value.specs.contracts.list.List as declared
use Rattle.vb_value.specs.contracts.list.List.TheInside as inside

-- a list of what the type holds
abbrev pub the_former : Former {0} → Former {0}
the_former item = list item

-- it weighs what its items weigh
abbrev pub the_weighed : {item : Former {0}} → Weighed item → Weighed (the_former item)
the_weighed weighed = w_list weighed

pub the_empty : Core.List ⊥
the_empty = Core.[]

-- its items are those of the list
abbrev pub the_items : (X : Type 0) → Core.List X → Core.List X
the_items X items = items

pub the_items_listed : (X : Type 0) (items : Core.List X)
    → listed _ (children (the_former this) X items) ≡ the_items X items
the_items_listed X items = list-listed X items

-- the one field, which is a `Vec`
abbrev the_fields : Former {0}
the_fields = via (vec.the_former this Global) Inside (λ X a. a.items) (λ X v. record {
  items =
      v;
}) (λ X a. refl) (λ X v. refl)

module _ (From To : RattleType) (change : From.Denot → To.Denot) where
  pub the_places : Alike From To change
      → Alike (declared.the_row From) (declared.the_row To) ((the_former this).map From.Denot To.Denot change)
  the_places alike = view_places the_fields (list this) view (λ X Y k u. refl) (λ X u. refl)
      From.Denot To.Denot change (declared.the_row From).coded (declared.the_row To).coded
      (invariant From.Denot) (invariant To.Denot) (λ u p q. refl) (λ u p q. refl) (λ u e. tt) (λ u e. tt)
      (over (inside.the_row From)) (over (inside.the_row To))
      (struct_places (inside.the_type From) (inside.the_type To) (vec.mapped change, tt) _ (λ d. refl) refl
      (laid _ _ _ (vec.the_places global.the_row ghosts From To change alike), tt))

  pub the_codes_placed : Recodes From To change
      → Recodes (declared.the_row From) (declared.the_row To) ((the_former this).map From.Denot To.Denot change)
  the_codes_placed recodes items =
      sym (code_map From.coded.code To.coded.code change (λ item. sym (recodes item)) items)
