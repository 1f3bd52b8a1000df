-- A script without a fault has at most 65,535 names.
use Rattle.std.proofs.Common.{◌≡◌, ℕ, ◌≤◌, ◌<◌, Bool, true, false, not, ◌&&◌, List, [], ◌∷◌, ◌++◌, length, nat_lt}
use Rattle.std.proofs.Common.{map, fold}
use Rattle.std.proofs.Common.{Option, Some, None, if◌then◌else◌, refl, sym, ap, subst, ◌∙◌, ◌+◌, lit≤, arith}
use Rattle.std.proofs.lemmas.Bool.{ltb-true}
use Rattle.std.proofs.lemmas.List.{length_push}
use Rattle.vb_syntax.specs.declared.note.NoteKind.{NoteKind}
use Rattle.vb_syntax.specs.declared.note.NoteKind.TheVariants as say
use Rattle.vb_syntax.specs.declared.note.ScopeFault.{ScopeFault}
use Rattle.vb_syntax.specs.declared.note.ScopeFault.TheVariants as fault
use Rattle.vb_syntax.specs.declared.unit.Class.{Class}
use Rattle.vb_syntax.specs.declared.unit.ClassMember.{ClassMember}
use Rattle.vb_syntax.specs.declared.unit.Item.{Item}
use Rattle.vb_syntax.specs.declared.unit.Item.TheVariants as item
use Rattle.vb_syntax.specs.declared.unit.Unit.{Unit as Script}
use Rattle.vb_syntax.specs.scope.Faults.{Faults, SoFar, fresh, where_true, in_line, kind_faults, after_kind}
use Rattle.vb_syntax.specs.scope.Faults.{notes_faults}
use Rattle.vb_syntax.specs.scope.Faults.{after_notes, name_faults, declaration_faults, is_declared, is_constant}
use Rattle.vb_syntax.specs.scope.Faults.{is_object}
use Rattle.vb_syntax.specs.scope.Faults.{is_bare, after_body, body_faults, bodies_faults, member_faults, after_member}
use Rattle.vb_syntax.specs.scope.Faults.{members_faults, after_members, class_faults, after_class, inside_faults}
use Rattle.vb_syntax.specs.scope.Faults.{after_inside}
use Rattle.vb_syntax.specs.scope.Faults.{item_faults, after_item, items_faults, after_items, faults_of, names_of}
use Rattle.vb_syntax.specs.scope.Names.{Name, has_name, add_name}
use Rattle.vb_syntax.specs.scope.Notes.{Notes}
use Rattle.vb_syntax.specs.scope.Programs.{Parts, program_of}
use Rattle.vb_syntax.specs.scope.Resolving.{Resolves}
use Rattle.vb_syntax.specs.scope.Scopes.{Scopes, Declarations, named_in, object_in, body_scopes, on_page_in, scopes_of}
use Rattle.vb_syntax.specs.scope.Scopes.{nothing_declared, class_scope, page_scope}
use Rattle.vb_syntax.specs.scope.Units.{Body, in_body, body_of, item_notes, member_notes, member_body}

-- not more names than there may be
abbrev Within : List Name → Type 0
Within names = length names ≤ 65535

no_cons : {A : Type 0} (first : A) (more : List A) → first ∷ more ≡ [] → ⊥
no_cons first more is = cc

none_of_both : {A : Type 0} (some more : List A) → some ++ more ≡ [] → (some ≡ []) × (more ≡ [])
none_of_both [] more none = (refl, none)
none_of_both (first ∷ some) more none = absurd (no_cons first (some ++ more) none)

none_in_line : (line : ℕ) (found : List ScopeFault) → in_line line found ≡ [] → found ≡ []
none_in_line line [] none = refl
none_in_line line (first ∷ found) none = absurd (no_cons (first, line) (in_line line found) none)

add-within : (names : List Name) (name : Name) → name_faults names name ≡ [] → Within names
    → Within (add_name names name)
add-within names name = go (has_name names name) (nat_lt (length names) 65535) refl
  where
    go : (has lt : Bool) → nat_lt (length names) 65535 ≡ lt → where_true (not has && not lt) fault.TooMany ≡ []
        → length names ≤ 65535 → length (if has then names else names ++ name ∷ []) ≤ 65535
    go true lt is none within = within
    go false true is none within =
        let below : length names < 65535 = ltb-true (length names) 65535 is in
        let one : length (names ++ name ∷ []) ≡ length names + 1 = length_push names name in
        omega arith
    go false false is none within = absurd (no_cons fault.TooMany [] none)

kind-within : (scopes : Scopes) (before : SoFar) (kind : NoteKind) → kind_faults scopes before kind ≡ []
    → Within before.names → Within (after_kind before kind).names
kind-within scopes before (say.Fault found) none within = within
kind-within scopes before (say.Variable found) none within = add-within before.names found.name
    (none_of_both (where_true (is_declared before.declared found.name None) fault.Redefined)
    (name_faults before.names found.name) none).1 within
kind-within scopes before (say.Constant found) none within = add-within before.names found.name
    (none_of_both (where_true (is_declared before.declared found.name None) fault.Redefined)
    (name_faults before.names found.name) none).1 within
kind-within scopes before (say.Procedure name) none within = add-within before.names name
    (none_of_both (where_true (is_declared before.declared name None) fault.Redefined)
    (name_faults before.names name) none).1 within
kind-within scopes before (say.Class name) none within = add-within before.names name
    (none_of_both (where_true (is_declared before.declared name None) fault.Redefined)
    (name_faults before.names name) none).1 within
kind-within scopes before (say.Member name accessor) none within = add-within before.names name
    (none_of_both (where_true (is_declared before.declared name accessor) fault.Redefined)
    (name_faults before.names name) none).1 within
kind-within scopes before (say.Result name) none within = add-within before.names name
    (none_of_both (where_true (is_declared before.declared name None) fault.Redefined)
    (name_faults before.names name) none).1 within
kind-within scopes before (say.Use name steps is_group) none within = add-within before.names name
    (none_of_both (where_true (is_bare scopes name steps is_group) fault.BadMember)
    (name_faults before.names name) none).1 within
kind-within scopes before (say.Write name) none within = add-within before.names name
    (none_of_both (where_true (is_constant (named_in scopes false name)) fault.ConstTarget
    ++ where_true (is_object (object_in scopes name)) fault.BadMember) (name_faults before.names name) none).1 within
kind-within scopes before (say.Resize name) none within = add-within before.names name
    (none_of_both (where_true (is_constant (named_in scopes false name)) fault.ConstTarget
    ++ where_true (is_object (object_in scopes name)) fault.BadMember) (name_faults before.names name) none).1 within
kind-within scopes before (say.Part name) none within = add-within before.names name none within

notes-within : (scopes : Scopes) (before : SoFar) (notes : Notes) → notes_faults scopes before notes ≡ []
    → Within before.names → Within (after_notes before notes).names
notes-within scopes before [] none within = within
notes-within scopes before (note ∷ notes) none within =
    let both = none_of_both (in_line note.line (kind_faults scopes before note.kind))
    (notes_faults scopes (after_kind before note.kind) notes) none in
    notes-within scopes (after_kind before note.kind) notes both.1
    (kind-within scopes before note.kind (none_in_line note.line (kind_faults scopes before note.kind) both.0) within)

module _ (explicit : Bool) (page : Declarations) where
  bodies-within : (class : Declarations) (names : List Name) (bodies : List Body)
      → bodies_faults explicit page class names bodies ≡ [] → Within names → Within (fold after_body names bodies)
  bodies-within class names [] none within = within
  bodies-within class names (body ∷ bodies) none within =
      let both = none_of_both (body_faults explicit page class names body)
      (bodies_faults explicit page class (after_body names body) bodies) none in
      bodies-within class (after_body names body) bodies both.1
      (notes-within (body_scopes explicit page class body) (fresh names) (in_body body) both.0 within)

  member-within : (class : Declarations) (before : SoFar) (found : ClassMember)
      → member_faults explicit page class before found ≡ [] → Within before.names
      → Within (after_member before found).names
  member-within class before found none within =
      let both = none_of_both (notes_faults (scopes_of page class nothing_declared) before (member_notes found))
      (bodies_faults explicit page class (after_notes before (member_notes found)).names (member_body found)) none in
      bodies-within class (after_notes before (member_notes found)).names (member_body found) both.1
      (notes-within (scopes_of page class nothing_declared) before (member_notes found) both.0 within)

  members-within : (class : Declarations) (before : SoFar) (members : List ClassMember)
      → members_faults explicit page class before members ≡ [] → Within before.names
      → Within (after_members before members).names
  members-within class before [] none within = within
  members-within class before (found ∷ members) none within =
      let both = none_of_both (member_faults explicit page class before found)
      (members_faults explicit page class (after_member before found) members) none in
      members-within class (after_member before found) members both.1
      (member-within class before found both.0 within)

  inside-within : (names : List Name) (found : Item) → inside_faults explicit page names found ≡ []
      → Within names → Within (after_inside names found)
  inside-within names (item.Statement found) none within = within
  inside-within names (item.Variables line access variables) none within = within
  inside-within names (item.Procedure found) none within = notes-within
      (body_scopes explicit page nothing_declared (body_of false found)) (fresh names) (in_body (body_of false found))
      none within
  inside-within names (item.Class found) none within =
      members-within (class_scope found) (fresh names) found.members none within

  item-within : (before : SoFar) (found : Item) → item_faults explicit page before found ≡ [] → Within before.names
      → Within (after_item before found).names
  item-within before found none within =
      let both = none_of_both (notes_faults (on_page_in page) before (item_notes found))
      (inside_faults explicit page (after_notes before (item_notes found)).names found) none in
      inside-within (after_notes before (item_notes found)).names found both.1
      (notes-within (on_page_in page) before (item_notes found) both.0 within)

  items-within : (before : SoFar) (items : List Item) → items_faults explicit page before items ≡ []
      → Within before.names → Within (after_items before items).names
  items-within before [] none within = within
  items-within before (found ∷ items) none within =
      let both = none_of_both (item_faults explicit page before found)
      (items_faults explicit page (after_item before found) items) none in
      items-within (after_item before found) items both.1 (item-within before found both.0 within)

names-within : (script : Script) → faults_of script ≡ [] → Within (names_of script)
unfolding faults_of names_of
names-within script none =
    let empty : Within [] = lit≤ tt in
    items-within script.option_explicit (page_scope script) (fresh []) script.items none empty

program_names : (script : Script) → (program_of script).unit.names ≡ names_of script
unfolding program_of
program_names script = refl

pub few_names_lem : (script : Script) (program : Parts) → Resolves script program
    → length program.unit.names ≤ 65535
few_names_lem script program resolves = subst (λ (names : List Name). length names ≤ 65535)
    (sym (ap (λ (found : Parts). found.unit.names) resolves.is ∙ program_names script))
    (names-within script resolves.faultless)
