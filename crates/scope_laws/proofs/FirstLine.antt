-- The first fault of a script stands in the least line.
use Rattle.std.proofs.Common.{◌≡◌, ℕ, ◌≤◌, Bool, false, List, [], ◌∷◌, ◌++◌, map, refl, sym, ap, subst, ◌∙◌}
use Rattle.std.proofs.Common.{append_assoc, arith}
use Rattle.std.specs.List.{flat_map}
use Rattle.vb_syntax.specs.declared.note.Note.{Note}
use Rattle.vb_syntax.specs.declared.note.ScopeFault.{ScopeFault}
use Rattle.vb_syntax.specs.declared.unit.ClassMember.{ClassMember}
use Rattle.vb_syntax.specs.declared.unit.Item.{Item}
use Rattle.vb_syntax.specs.declared.unit.Item.TheVariants as item
use Rattle.vb_syntax.specs.declared.unit.Unit.{Unit as Script}
use Rattle.vb_syntax.specs.scope.Faults.{Faults, SoFar, fresh, notes_faults, kind_faults, in_line, after_kind}
use Rattle.vb_syntax.specs.scope.Faults.{after_notes}
use Rattle.vb_syntax.specs.scope.Faults.{after_body, body_faults, bodies_faults, member_faults, after_member}
use Rattle.vb_syntax.specs.scope.Faults.{members_faults, inside_faults, item_faults, after_item, items_faults}
use Rattle.vb_syntax.specs.scope.Faults.{faults_of}
use Rattle.vb_syntax.specs.scope.Names.{Name}
use Rattle.vb_syntax.specs.scope.Notes.{Notes}
use Rattle.vb_syntax.specs.scope.Resolving.{IsFirstFault}
use Rattle.vb_syntax.specs.scope.Scopes.{Scopes, Declarations, body_scopes, class_scope, nothing_declared, on_page_in}
use Rattle.vb_syntax.specs.scope.Scopes.{page_scope, scopes_of}
use Rattle.vb_syntax.specs.scope.Units.{Body, in_body, body_of, item_notes, member_notes, member_body}
use Rattle.scope_laws.specs.Places.{lines_of, member_lines, inside_lines, item_lines, script_lines, NoneBelow}
use Rattle.scope_laws.specs.Places.{IsAscending, fault_lines}

-- a line, and the faults in it
abbrev Block : Type 0
Block = ℕ × List ScopeFault

-- the faults of some lines
abbrev in_blocks : List Block → Faults
in_blocks = flat_map (λ (block : Block). in_line block.0 block.1)

-- these lines
abbrev lines_in : List Block → List ℕ
lines_in = map (λ (block : Block). block.0)

-- faults stand in these lines, in their order
record InOrder (faults : Faults) (lines : List ℕ) : Type 0 where
  blocks : List Block
  are : faults ≡ in_blocks blocks
  line_by_line : lines ≡ lines_in blocks

blocks-append : (some more : List Block) → in_blocks (some ++ more) ≡ in_blocks some ++ in_blocks more
blocks-append [] more = refl
blocks-append (block ∷ some) more = ap (λ l. in_line block.0 block.1 ++ l) (blocks-append some more)
    ∙ sym (append_assoc (in_line block.0 block.1) (in_blocks some) (in_blocks more))

lines-append : (some more : List Block) → lines_in (some ++ more) ≡ lines_in some ++ lines_in more
lines-append [] more = refl
lines-append (block ∷ some) more = ap (λ l. block.0 ∷ l) (lines-append some more)

both : (some more : Faults) (lines others : List ℕ) → InOrder some lines → InOrder more others
    → InOrder (some ++ more) (lines ++ others)
both some more lines others one other = record {
  blocks = one.blocks ++ other.blocks;
  are = ap (λ l. l ++ more) one.are ∙ ap (λ l. in_blocks one.blocks ++ l) other.are
      ∙ sym (blocks-append one.blocks other.blocks);
  line_by_line = ap (λ l. l ++ others) one.line_by_line ∙ ap (λ l. lines_in one.blocks ++ l) other.line_by_line
      ∙ sym (lines-append one.blocks other.blocks);
}

nothing : InOrder [] []
nothing = record { blocks = []; are = refl; line_by_line = refl }

order-notes : (scopes : Scopes) (before : SoFar) (notes : Notes)
    → InOrder (notes_faults scopes before notes) (lines_of notes)
order-notes scopes before [] = nothing
order-notes scopes before (note ∷ notes) =
    let later = order-notes scopes (after_kind before note.kind) notes in
    record {
      blocks = (note.line, kind_faults scopes before note.kind) ∷ later.blocks;
      are = ap (λ l. in_line note.line (kind_faults scopes before note.kind) ++ l) later.are;
      line_by_line = ap (λ l. note.line ∷ l) later.line_by_line;
    }

module _ (explicit : Bool) (page : Declarations) where
  order-bodies : (class : Declarations) (names : List Name) (bodies : List Body)
      → InOrder (bodies_faults explicit page class names bodies) (flat_map (λ (body : Body). lines_of (in_body body))
      bodies)
  order-bodies class names [] = nothing
  order-bodies class names (body ∷ bodies) = both (body_faults explicit page class names body)
      (bodies_faults explicit page class (after_body names body) bodies) (lines_of (in_body body))
      (flat_map (λ (body : Body). lines_of (in_body body)) bodies)
      (order-notes (body_scopes explicit page class body) (fresh names) (in_body body))
      (order-bodies class (after_body names body) bodies)

  order-members : (class : Declarations) (before : SoFar) (members : List ClassMember)
      → InOrder (members_faults explicit page class before members) (flat_map member_lines members)
  order-members class before [] = nothing
  order-members class before (found ∷ members) = both (member_faults explicit page class before found)
      (members_faults explicit page class (after_member before found) members) (member_lines found)
      (flat_map member_lines members)
      (both (notes_faults (scopes_of page class nothing_declared) before (member_notes found))
      (bodies_faults explicit page class (after_notes before (member_notes found)).names (member_body found))
      (lines_of (member_notes found)) (flat_map (λ (body : Body). lines_of (in_body body)) (member_body found))
      (order-notes (scopes_of page class nothing_declared) before (member_notes found))
      (order-bodies class (after_notes before (member_notes found)).names (member_body found)))
      (order-members class (after_member before found) members)

  order-inside : (names : List Name) (found : Item)
      → InOrder (inside_faults explicit page names found) (inside_lines found)
  order-inside names (item.Statement found) = nothing
  order-inside names (item.Variables line access variables) = nothing
  order-inside names (item.Procedure found) =
      order-notes (body_scopes explicit page nothing_declared (body_of false found)) (fresh names)
      (in_body (body_of false found))
  order-inside names (item.Class found) = order-members (class_scope found) (fresh names) found.members

  order-items : (before : SoFar) (items : List Item)
      → InOrder (items_faults explicit page before items) (flat_map item_lines items)
  order-items before [] = nothing
  order-items before (found ∷ items) = both (item_faults explicit page before found)
      (items_faults explicit page (after_item before found) items) (item_lines found) (flat_map item_lines items)
      (both (notes_faults (on_page_in page) before (item_notes found))
      (inside_faults explicit page (after_notes before (item_notes found)).names found) (lines_of (item_notes found))
      (inside_lines found) (order-notes (on_page_in page) before (item_notes found))
      (order-inside (after_notes before (item_notes found)).names found))
      (order-items (after_item before found) items)

order-script : (script : Script) → InOrder (faults_of script) (script_lines script)
unfolding faults_of
order-script script = order-items script.option_explicit (page_scope script) (fresh []) script.items

-- ---- the least line

below-append : (line : ℕ) (some more : Faults) → NoneBelow line (fault_lines some) → NoneBelow line (fault_lines more)
    → NoneBelow line (fault_lines (some ++ more))
below-append line [] more one other = other
below-append line (found ∷ some) more one other = (one.0, below-append line some more one.1 other)

below-line : (line other : ℕ) (found : List ScopeFault) → line ≤ other → NoneBelow line (fault_lines (in_line other
    found))
below-line line other [] le = tt
below-line line other (first ∷ found) le = (le, below-line line other found le)

below-blocks : (line : ℕ) (blocks : List Block) → NoneBelow line (lines_in blocks)
    → NoneBelow line (fault_lines (in_blocks blocks))
below-blocks line [] below = tt
below-blocks line (block ∷ blocks) below = below-append line (in_line block.0 block.1) (in_blocks blocks)
    (below-line line block.0 block.1 below.0) (below-blocks line blocks below.1)

no_fault : (fault : ScopeFault × ℕ) (later : Faults) → [] ≡ fault ∷ later → ⊥
no_fault fault later is = cc

same_first : (first fault : ScopeFault) (line number : ℕ) (some later : Faults)
    → (first, line) ∷ some ≡ (fault, number) ∷ later → line ≡ number
same_first first fault line number some later is =
    let pairs : (first, line) ≡ (fault, number) = cc in ap (λ (p : ScopeFault × ℕ). p.1) pairs

first-least : (blocks : List Block) (fault : ScopeFault) (line : ℕ) (later : Faults) → IsAscending (lines_in blocks)
    → in_blocks blocks ≡ (fault, line) ∷ later → NoneBelow line (fault_lines (in_blocks blocks))
first-least [] fault line later ascending is = absurd (no_fault (fault, line) later is)
first-least ((number, []) ∷ blocks) fault line later ascending is =
    first-least blocks fault line later ascending.1 is
first-least ((number, first ∷ found) ∷ blocks) fault line later ascending is =
    let same : number ≡ line = same_first first fault number line (in_line number found ++ in_blocks blocks) later is in
    let le : line ≤ number = omega arith in (
      le,
      below-append line (in_line number found) (in_blocks blocks) (below-line line number found le)
          (below-blocks line blocks (subst (λ (n : ℕ). NoneBelow n (lines_in blocks)) same ascending.0)),
    )

pub first_least_lem : (script : Script) (fault : ScopeFault) (line : ℕ) → IsAscending (script_lines script)
    → IsFirstFault script fault line → NoneBelow line (fault_lines (faults_of script))
first_least_lem script fault line ascending first =
    let order = order-script script in
    subst (λ (faults : Faults). NoneBelow line (fault_lines faults)) (sym order.are)
    (first-least order.blocks fault line first.0 (subst IsAscending order.line_by_line ascending)
    (sym order.are ∙ first.1))
