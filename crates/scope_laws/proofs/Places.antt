-- The lines of the faults of a script, by those of its scopes.
use Rattle.std.proofs.Common.{◌≡◌, ℕ, ◌+◌, Bool, true, false, nat_eq, List, [], ◌∷◌, ◌++◌, map, fold, if◌then◌else◌}
use Rattle.std.proofs.Common.{refl, sym, ap, subst, ◌∙◌, append_assoc, arith}
use Rattle.std.specs.List.{flat_map}
use Rattle.std.proofs.lemmas.List.{append-nil}
use Rattle.vb_syntax.specs.declared.note.Note.{Note}
use Rattle.vb_syntax.specs.declared.note.ScopeFault.{ScopeFault}
use Rattle.vb_syntax.specs.declared.unit.Class.{Class}
use Rattle.vb_syntax.specs.declared.unit.ClassMember.{ClassMember}
use Rattle.vb_syntax.specs.declared.unit.Item.{Item}
use Rattle.vb_syntax.specs.declared.unit.Item.TheVariants as item
use Rattle.vb_syntax.specs.declared.unit.Unit.{Unit as Script}
use Rattle.vb_syntax.specs.scope.Faults.{Faults, SoFar, fresh, notes_faults, after_kind, after_notes, after_body}
use Rattle.vb_syntax.specs.scope.Faults.{body_faults, bodies_faults, member_faults, after_member, members_faults}
use Rattle.vb_syntax.specs.scope.Faults.{inside_faults, item_faults, after_item, items_faults, faults_of}
use Rattle.vb_syntax.specs.scope.Names.{Name}
use Rattle.vb_syntax.specs.scope.Notes.{Notes}
use Rattle.vb_syntax.specs.scope.Scopes.{Scopes, Declarations, body_scopes, class_scope, nothing_declared, on_page_in}
use Rattle.vb_syntax.specs.scope.Scopes.{page_scope, scopes_of}
use Rattle.vb_syntax.specs.scope.Units.{Body, in_body, on_page_of, in_class_of, bodies_in, body_of, item_notes}
use Rattle.vb_syntax.specs.scope.Units.{member_notes, member_body}
use Rattle.scope_laws.specs.Places.{Place, place_of, places_inside, places_in, how_often}
use Rattle.scope_laws.specs.Unique.{lines_where, Declaration, said, is_redefined, is_const_target, later_clashes}
use Rattle.scope_laws.specs.Unique.{told_line, clash_line, written_constants, constant_line, written}
use Rattle.scope_laws.proofs.Lines.{Tells, tells-none, tells-after, lines-append, redefined-from, constants_written_lem}

often-append : (line : ℕ) (some more : List ℕ) → how_often line (some ++ more) ≡ how_often line some + how_often line
    more
often-append line [] more = omega arith
often-append line (first ∷ some) more =
    let later : how_often line (some ++ more) ≡ how_often line some + how_often line more =
    often-append line some more in omega arith

-- what notes declare
abbrev declared_by : Notes → List Declaration
declared_by = flat_map (λ (note : Note). said note.kind)

tells-notes : (before : SoFar) (earlier : List Declaration) (notes : Notes) → Tells before.declared earlier
    → Tells (after_notes before notes).declared (earlier ++ declared_by notes)
tells-notes before earlier [] tells = subst (λ (e : List Declaration). Tells before.declared e)
    (sym (append-nil earlier)) tells
tells-notes before earlier (note ∷ notes) tells =
    subst (λ (e : List Declaration). Tells (after_notes (after_kind before note.kind) notes).declared e)
    (append_assoc earlier (said note.kind) (declared_by notes))
    (tells-notes (after_kind before note.kind) (earlier ++ said note.kind) notes
    (tells-after before earlier note.kind tells))

-- The faults of a kind, and the lines of what is said in a scope behind some declarations: those of a longer text are
-- those of its parts.
module _ (test : ScopeFault → Bool) (lines_of : Scopes → List Declaration → Notes → List ℕ)
    (from : (scopes : Scopes) (before : SoFar) (earlier : List Declaration) (notes : Notes)
    → Tells before.declared earlier
    → lines_where test (notes_faults scopes before notes) ≡ lines_of scopes earlier notes)
    (none : (scopes : Scopes) (earlier : List Declaration) → lines_of scopes earlier [] ≡ [])
    (joined : (scopes : Scopes) (earlier : List Declaration) (some more : Notes)
    → lines_of scopes earlier (some ++ more)
    ≡ lines_of scopes earlier some ++ lines_of scopes (earlier ++ declared_by some) more) (line : ℕ) where
  -- how often the line is told among faults
  abbrev told : Faults → ℕ
  told faults = how_often line (lines_where test faults)

  -- how often it is a line of a scope
  abbrev due : List Place → ℕ
  due places = how_often line (flat_map (λ (place : Place). lines_of place.0 [] place.1) places)

  told-append : (some more : Faults) → told (some ++ more) ≡ told some + told more
  told-append some more = ap (how_often line) (lines-append test some more)
      ∙ often-append line (lines_where test some) (lines_where test more)

  flat-append : (some more : List Place) → flat_map (λ (place : Place). lines_of place.0 [] place.1) (some ++ more)
      ≡ flat_map (λ (place : Place). lines_of place.0 [] place.1) some
      ++ flat_map (λ (place : Place). lines_of place.0 [] place.1) more
  flat-append [] more = refl
  flat-append (place ∷ some) more = ap (λ l. lines_of place.0 [] place.1 ++ l) (flat-append some more)
      ∙ sym (append_assoc (lines_of place.0 [] place.1)
      (flat_map (λ (place : Place). lines_of place.0 [] place.1) some)
      (flat_map (λ (place : Place). lines_of place.0 [] place.1) more))

  due-append : (some more : List Place) → due (some ++ more) ≡ due some + due more
  due-append some more = ap (how_often line) (flat-append some more) ∙ often-append line _ _

  due-first : (place : Place) (more : List Place)
      → due (place ∷ more) ≡ how_often line (lines_of place.0 [] place.1) + due more
  due-first place more = often-append line (lines_of place.0 [] place.1)
      (flat_map (λ (place : Place). lines_of place.0 [] place.1) more)

  joined-often : (scopes : Scopes) (earlier : List Declaration) (some more : Notes)
      → how_often line (lines_of scopes earlier (some ++ more))
      ≡ how_often line (lines_of scopes earlier some)
      + how_often line (lines_of scopes (earlier ++ declared_by some) more)
  joined-often scopes earlier some more = ap (how_often line) (joined scopes earlier some more)
      ∙ often-append line (lines_of scopes earlier some) (lines_of scopes (earlier ++ declared_by some) more)

  module _ (explicit : Bool) (page : Declarations) where
    told-bodies : (class : Declarations) (names : List Name) (bodies : List Body)
        → told (bodies_faults explicit page class names bodies) ≡ due (map (place_of explicit page class) bodies)
    told-bodies class names [] = refl
    told-bodies class names (body ∷ bodies) =
        let first : told (body_faults explicit page class names body)
        ≡ how_often line (lines_of (body_scopes explicit page class body) [] (in_body body)) =
        ap (how_often line) (from (body_scopes explicit page class body) (fresh names) [] (in_body body)
        (tells-none names)) in
        let parts = told-append (body_faults explicit page class names body)
        (bodies_faults explicit page class (after_body names body) bodies) in
        let later = told-bodies class (after_body names body) bodies in
        let all = due-first (place_of explicit page class body) (map (place_of explicit page class) bodies) in
        parts ∙ ap (λ n. n + told (bodies_faults explicit page class (after_body names body) bodies)) first
        ∙ ap (λ n. how_often line (lines_of (body_scopes explicit page class body) [] (in_body body)) + n) later
        ∙ sym all

    map-append : (class : Declarations) (some more : List Body) → map (place_of explicit page class) (some ++ more)
        ≡ map (place_of explicit page class) some ++ map (place_of explicit page class) more
    map-append class [] more = refl
    map-append class (body ∷ some) more = ap (λ l. place_of explicit page class body ∷ l) (map-append class some more)

    told-members : (class : Declarations) (before : SoFar) (earlier : List Declaration) (members : List ClassMember)
        → Tells before.declared earlier → told (members_faults explicit page class before members)
        ≡ how_often line (lines_of (scopes_of page class nothing_declared) earlier (flat_map member_notes members))
        + due (map (place_of explicit page class) (flat_map member_body members))
    told-members class before earlier [] tells =
        sym (ap (λ l. how_often line l + 0) (none (scopes_of page class nothing_declared) earlier))
    told-members class before earlier (found ∷ members) tells =
        let own = notes_faults (scopes_of page class nothing_declared) before (member_notes found) in
        let names = (after_notes before (member_notes found)).names in
        let inside = bodies_faults explicit page class names (member_body found) in
        let more = members_faults explicit page class (after_member before found) members in
        let outer = scopes_of page class nothing_declared in
        let first : told own ≡ how_often line (lines_of outer earlier (member_notes found)) =
        ap (how_often line) (from outer before earlier (member_notes found) tells) in
        let second : told inside ≡ due (map (place_of explicit page class) (member_body found)) =
        told-bodies class names (member_body found) in
        let third : told more ≡ how_often line (lines_of outer (earlier ++ declared_by (member_notes found))
        (flat_map member_notes members)) + due (map (place_of explicit page class) (flat_map member_body members)) =
        told-members class (after_member before found) (earlier ++ declared_by (member_notes found)) members
        (tells-notes before earlier (member_notes found) tells) in
        let split : told ((own ++ inside) ++ more) ≡ told (own ++ inside) + told more =
        told-append (own ++ inside) more in
        let split_own : told (own ++ inside) ≡ told own + told inside = told-append own inside in
        let notes : how_often line (lines_of outer earlier (member_notes found ++ flat_map member_notes members))
        ≡ how_often line (lines_of outer earlier (member_notes found))
        + how_often line (lines_of outer (earlier ++ declared_by (member_notes found)) (flat_map member_notes
        members)) =
        joined-often outer earlier (member_notes found) (flat_map member_notes members) in
        let bodies : due (map (place_of explicit page class) (member_body found ++ flat_map member_body members))
        ≡ due (map (place_of explicit page class) (member_body found))
        + due (map (place_of explicit page class) (flat_map member_body members)) =
        ap due (map-append class (member_body found) (flat_map member_body members))
        ∙ due-append (map (place_of explicit page class) (member_body found))
        (map (place_of explicit page class) (flat_map member_body members)) in
        omega arith

    told-inside : (names : List Name) (found : Item) → told (inside_faults explicit page names found)
        ≡ due (places_inside explicit page found)
    told-inside names (item.Statement found) = refl
    told-inside names (item.Variables number access variables) = refl
    told-inside names (item.Procedure found) =
        let body = body_of false found in
        let first : told (body_faults explicit page nothing_declared names body)
        ≡ how_often line (lines_of (body_scopes explicit page nothing_declared body) [] (in_body body)) =
        ap (how_often line) (from (body_scopes explicit page nothing_declared body) (fresh names) [] (in_body body)
        (tells-none names)) in
        let all = due-first (place_of explicit page nothing_declared body) [] in
        omega arith
    told-inside names (item.Class found) =
        told-members (class_scope found) (fresh names) [] found.members (tells-none names)
        ∙ sym (due-first (scopes_of page (class_scope found) nothing_declared, in_class_of found)
        (map (place_of explicit page (class_scope found)) (bodies_in found)))

    told-items : (before : SoFar) (earlier : List Declaration) (items : List Item) → Tells before.declared earlier
        → told (items_faults explicit page before items)
        ≡ how_often line (lines_of (on_page_in page) earlier (flat_map item_notes items))
        + due (flat_map (places_inside explicit page) items)
    told-items before earlier [] tells = sym (ap (λ l. how_often line l + 0) (none (on_page_in page) earlier))
    told-items before earlier (found ∷ items) tells =
        let outer = on_page_in page in
        let own = notes_faults outer before (item_notes found) in
        let names = (after_notes before (item_notes found)).names in
        let inside = inside_faults explicit page names found in
        let more = items_faults explicit page (after_item before found) items in
        let first : told own ≡ how_often line (lines_of outer earlier (item_notes found)) =
        ap (how_often line) (from outer before earlier (item_notes found) tells) in
        let second : told inside ≡ due (places_inside explicit page found) = told-inside names found in
        let third : told more ≡ how_often line (lines_of outer (earlier ++ declared_by (item_notes found))
        (flat_map item_notes items)) + due (flat_map (places_inside explicit page) items) =
        told-items (after_item before found) (earlier ++ declared_by (item_notes found)) items
        (tells-notes before earlier (item_notes found) tells) in
        let split : told ((own ++ inside) ++ more) ≡ told (own ++ inside) + told more =
        told-append (own ++ inside) more in
        let split_own : told (own ++ inside) ≡ told own + told inside = told-append own inside in
        let notes : how_often line (lines_of outer earlier (item_notes found ++ flat_map item_notes items))
        ≡ how_often line (lines_of outer earlier (item_notes found))
        + how_often line (lines_of outer (earlier ++ declared_by (item_notes found)) (flat_map item_notes items)) =
        joined-often outer earlier (item_notes found) (flat_map item_notes items) in
        let places : due (places_inside explicit page found ++ flat_map (places_inside explicit page) items)
        ≡ due (places_inside explicit page found) + due (flat_map (places_inside explicit page) items) =
        due-append (places_inside explicit page found) (flat_map (places_inside explicit page) items) in
        omega arith

  told-script : (script : Script) → told (faults_of script) ≡ due (places_in script)
  unfolding faults_of
  told-script script = told-items script.option_explicit (page_scope script) (fresh []) [] script.items (tells-none [])
      ∙ sym (due-first (on_page_in (page_scope script), on_page_of script)
      (flat_map (places_inside script.option_explicit (page_scope script)) script.items))

-- ---- names that are declared again

later-joined : (earlier : List Declaration) (some more : Notes) → later_clashes earlier (some ++ more)
    ≡ later_clashes earlier some ++ later_clashes (earlier ++ declared_by some) more
later-joined earlier [] more = ap (λ (e : List Declaration). later_clashes e more) (sym (append-nil earlier))
later-joined earlier (note ∷ some) more =
    let own = told_line is_redefined note.line note.kind ++ clash_line earlier note.line (said note.kind) in
    let next = earlier ++ said note.kind in
    ap (λ l. own ++ l) (later-joined next some more
    ∙ ap (λ (e : List Declaration). later_clashes next some ++ later_clashes e more)
    (append_assoc earlier (said note.kind) (declared_by some)))
    ∙ sym (append_assoc own (later_clashes next some)
    (later_clashes (earlier ++ (said note.kind ++ declared_by some)) more))

pub redefined_places_lem : (script : Script) (line : ℕ)
    → how_often line (lines_where is_redefined (faults_of script))
    ≡ how_often line (flat_map (λ (place : Place). later_clashes [] place.1) (places_in script))
redefined_places_lem script line = told-script is_redefined (λ scopes earlier notes. later_clashes earlier notes)
    redefined-from (λ scopes earlier. refl) (λ scopes earlier some more. later-joined earlier some more) line script

-- ---- constants that are written

written-joined : (scopes : Scopes) (some more : Notes) → written_constants scopes (some ++ more)
    ≡ written_constants scopes some ++ written_constants scopes more
written-joined scopes [] more = refl
written-joined scopes (note ∷ some) more =
    let own = told_line is_const_target note.line note.kind ++ constant_line scopes note.line (written note.kind) in
    ap (λ l. own ++ l) (written-joined scopes some more)
    ∙ sym (append_assoc own (written_constants scopes some) (written_constants scopes more))

pub constants_places_lem : (script : Script) (line : ℕ)
    → how_often line (lines_where is_const_target (faults_of script))
    ≡ how_often line (flat_map (λ (place : Place). written_constants place.0 place.1) (places_in script))
constants_places_lem script line = told-script is_const_target (λ scopes earlier notes. written_constants scopes notes)
    (λ scopes before earlier notes tells. constants_written_lem scopes before notes) (λ scopes earlier. refl)
    (λ scopes earlier some more. written-joined scopes some more) line script
