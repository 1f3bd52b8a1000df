-- Laws of the objects of a page: which has no reference, what a value refers to, and which numbers are new.
use Rattle.std.specs.Prelude.{ℕ, ◌+◌, ◌<◌, ◌≤◌, ◌≡◌, ◌≢◌, false, Bool, ℤ, List, [], ◌∷◌, Some, None, Ok}
use Rattle.std.specs.List.{flat_map}
use Rattle.vb_value.specs.declared.value.Array.{Array}
use Rattle.vb_value.specs.declared.value.ObjNo.{ObjNo}
use Rattle.vb_value.specs.declared.value.Value.{Value, Empty, Null, Bool as Boolean, Int, Long, Cur, Str, Obj, Nothing}
use Rattle.vb_value.specs.declared.value.Value.TheViews.{Arr}
use Rattle.vb_heap.specs.declared.object.Object.{Object}
use Rattle.vb_heap.specs.Below.{EachBelow}
use Rattle.vb_heap.specs.Entries.{with_new_table}
use Rattle.vb_heap.specs.declared.place.CellNo.{CellNo}
use Rattle.vb_heap.specs.Cells.{new_cell_of, with_new_cell}
use Rattle.vb_heap.specs.Objects.{field_in, with_new_object}
use Rattle.vb_heap.specs.References.{references, references_to}
use Rattle.vb_heap.specs.Releases.{oldest_live, oldest_loose}
use Rattle.vb_heap.specs.Store.{Store, numbered}

-- ---- the order of numbers

-- each thing has a number above that one
abbrev pub EachAbove : {T : Type 0} → ℕ → List (ℕ × T) → Type 0
EachAbove number [] = Unit {0}
EachAbove number (thing ∷ things) = (number < thing.0) × EachAbove number things

-- things stand in the order of their numbers
abbrev pub InOrder : {T : Type 0} → List (ℕ × T) → Type 0
InOrder [] = Unit {0}
InOrder (first ∷ others) = EachAbove first.0 others × InOrder others

-- ---- release points

-- the object that a release point ends is live, and nothing refers to it
abbrev pub EndedIsLoose : Type 0
EndedIsLoose = (store : Store) (object : ℕ) → InOrder store.objects → oldest_loose store ≡ Some object
    → (found : Object) × (numbered object store.objects ≡ Some found) × (found.ending ≡ false)
    × (references_to object store ≡ 0)

-- something refers to each live object of a smaller number
abbrev pub OlderAreHeld : Type 0
OlderAreHeld = (store : Store) (object older : ℕ) (found : Object) → InOrder store.objects
    → oldest_loose store ≡ Some object → older < object → numbered older store.objects ≡ Some found
    → found.ending ≡ false → references_to older store ≢ 0

-- where it ends none, something refers to each live object
abbrev pub NoneIsLoose : Type 0
NoneIsLoose = (store : Store) (object : ℕ) (found : Object) → oldest_loose store ≡ None
    → numbered object store.objects ≡ Some found → found.ending ≡ false → references_to object store ≢ 0

-- The object that the page's end ends is live, and no live object is older. Where it ends none, none is live.
abbrev pub LastIsOldest : Type 0
LastIsOldest = (store : Store) (object older : ℕ) (found : Object) → InOrder store.objects
    → oldest_live store ≡ Some object → numbered older store.objects ≡ Some found → older < object
    → found.ending ≢ false

abbrev pub NoneIsLive : Type 0
NoneIsLive = (store : Store) (object : ℕ) (found : Object) → oldest_live store ≡ None
    → numbered object store.objects ≡ Some found → found.ending ≢ false

-- ---- references

-- the reference of an object is the object itself
abbrev pub ObjectRefersToItself : Type 0
ObjectRefersToItself = (object : ObjNo) → references (Obj object) ≡ object.0 ∷ []

-- those of an array are those of its items, in their order
abbrev pub ArrayRefersByItems : Type 0
ArrayRefersByItems = (array : Array) → references (Arr array) ≡ flat_map references array.items

-- no other value refers to anything
pub record OthersReferToNone : Type 0 where
  pub empty : references Empty ≡ []
  pub null : references Null ≡ []
  pub boolean : (truth : Bool) → references (Boolean truth) ≡ []
  pub int : (number : ℤ) → references (Int number) ≡ []
  pub long : (number : ℤ) → references (Long number) ≡ []
  pub currency : (amount : ℤ) → references (Cur amount) ≡ []
  pub text : (text : List ℕ) → references (Str text) ≡ []
  pub nothing : references Nothing ≡ []

-- ---- new objects

-- The number that a new object of a class or a new dictionary gets is one that no object has, where the objects that
-- are there have numbers of made ones. So have those that are there then, and they stand in order.
pub record IsNew (store after : Store) : Type 0 where
  pub free : numbered store.objects_made store.objects ≡ None
  pub made : after.objects_made ≡ store.objects_made + 1
  pub below : EachBelow after.objects_made after.objects
  pub in_order : InOrder after.objects

abbrev pub NumbersAreNew : Type 0
NumbersAreNew = (store : Store) → EachBelow store.objects_made store.objects → InOrder store.objects
    → ((class fields : ℕ) → IsNew store (with_new_object class fields store)) × IsNew store (with_new_table store)

-- ---- cells

-- The cell of a new variable has the number that the next cell is to have, and so has the first field of a new object,
-- the others those behind it, one for one. From then on the next number is greater by as many. No cell that is there
-- has a number from the next on, where those that are there have numbers of made ones.
pub record CellsAreNew : Type 0 where
  pub free : (store : Store) (number : ℕ) → EachBelow store.cells_made store.cells → store.cells_made ≤ number
      → numbered number store.cells ≡ None
  pub variable : (value : Value) (store : Store) (cell : CellNo) → new_cell_of value store ≡ Ok cell
      → (cell.0 ≡ store.cells_made) × ((with_new_cell value store).cells_made ≡ store.cells_made + 1)
  pub field : (class fields field : ℕ) (store : Store) (thing : Object) (cell : CellNo)
      → numbered store.objects_made (with_new_object class fields store).objects ≡ Some thing
      → numbered store.objects_made store.objects ≡ None
      → field_in field thing.content ≡ Ok cell
      → (cell.0 ≡ store.cells_made + field) × (cell.0 < (with_new_object class fields store).cells_made)
