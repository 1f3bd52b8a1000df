-- What items say, parted by how many notes each has.
use Rattle.std.proofs.Common.{◌≡◌, ◌≤◌, ℕ, ◌+◌, List, [], ◌∷◌, ◌++◌, length, map, sum, drop, refl, ap, ◌∙◌, arith}
use Rattle.std.proofs.Common.{length-append}
use Rattle.std.proofs.lemmas.List.Sums.{sum_by-cons}
use Rattle.std.proofs.Math.Seq.{take-append_seam, drop-append_seam}
use Rattle.std.specs.List.{flat_map}
use Rattle.vb_syntax.specs.declared.note.Note.{Note}
use Rattle.vb_syntax.specs.declared.unit.Item.{Item}
use Rattle.vb_syntax.specs.scope.Units.{item_notes}
use Rattle.vb_scope.specs.Parts.{parts_by}

-- how many notes an item has
abbrev pub note_count : Item → ℕ
note_count item = length (item_notes item)

parts : (items : List Item) → parts_by (map note_count items) (flat_map item_notes items) ≡ map item_notes items
parts [] = refl
parts (item ∷ items) =
    let own = item_notes item in
    let later = flat_map item_notes items in
    ap (λ (l : List Note). l ∷ parts_by (map note_count items) (drop (length own) (own ++ later)))
    (take-append_seam own later)
    ∙ ap (λ (l : List Note). own ∷ parts_by (map note_count items) l) (drop-append_seam own later)
    ∙ ap (λ (l : List (List Note)). own ∷ l) (parts items)

within : (items : List Item) → sum (map note_count items) ≤ length (flat_map item_notes items)
within [] = omega arith
within (item ∷ items) =
    let first : sum (map note_count (item ∷ items)) ≡ note_count item + sum (map note_count items)
    = sum_by-cons (λ (x : ℕ). x) (note_count item) (map note_count items) in
    let more : length (flat_map item_notes (item ∷ items)) ≡ note_count item + length (flat_map item_notes items)
    = length-append (item_notes item) (flat_map item_notes items) in
    omega (arith, first, more, within items)

pub parts_are : (items : List Item) (counts : List ℕ) (notes : List Note)
    → counts ≡ map note_count items → notes ≡ flat_map item_notes items
    → parts_by counts notes ≡ map item_notes items
parts_are items counts notes a b =
    ap (λ (l : List ℕ). parts_by l notes) a ∙ ap (λ (l : List Note). parts_by (map note_count items) l) b ∙ parts items

pub parts_within : (items : List Item) (counts : List ℕ) (notes : List Note)
    → counts ≡ map note_count items → notes ≡ flat_map item_notes items → sum counts ≤ length notes
parts_within items counts notes a b = rw a (rw b (within items))
