-- Texts with `,` between them, one after the other.
use Rattle.std.proofs.Common.{◌≡◌, ℕ, suc, ◌+◌, ◌<◌, Bool, true, ltb, List, [], ◌∷◌, ◌++◌, length, get_or, take}
use Rattle.std.proofs.Common.{map, sym, ap, ◌∙◌, arith, append_assoc, append-nil, length-take-le}
use Rattle.std.specs.Prelude.{codes}
use Rattle.std.specs.List.{flat_map}
use Rattle.std.proofs.lemmas.Bool.Decides.{nat_tests}
use Rattle.std.proofs.lemmas.Grind.{flat_map-append}
use Rattle.std.proofs.lemmas.List.{length-map, map-append, take_more}
use Rattle.asp_record.specs.Lines.{mark, with_commas}

-- one text more
commas_push : (texts : List (List ℕ)) (text : List ℕ)
    → with_commas (texts ++ text ∷ []) ≡ with_commas texts ++ (mark (ltb 0 (length texts)) ++ text)
unfolding with_commas
commas_push [] text = append-nil text
commas_push (first ∷ texts) text =
    let behind = λ (other : List ℕ). codes "," ++ other in
    let some : ltb 0 (suc (length texts)) ≡ true = grind (arith, nat_tests) in
    ap (λ l. first ++ l) (flat_map-append behind texts (text ∷ [])
    ∙ ap (λ l. flat_map behind texts ++ l) (append-nil (behind text)))
    ∙ sym (append_assoc first (flat_map behind texts) (behind text))
    ∙ ap (λ more. (first ++ flat_map behind texts) ++ (mark more ++ text)) (sym some)

-- one item more of a list, whose texts are written
pub next_written : {A : Type 0} (f : A → List ℕ) (items : List A) (i : ℕ) (d : A) (more : Bool)
    (initial before marked after : List ℕ) → more ≡ ltb 0 i → i < length items
    → before ≡ initial ++ with_commas (map f (take i items)) → marked ≡ before ++ mark more
    → after ≡ marked ++ f (get_or items i d) → after ≡ initial ++ with_commas (map f (take (i + 1) items))
next_written f items i d more initial before marked after is inside was mark_is after_is =
    let item = get_or items i d in
    let texts = map f (take i items) in
    let size : length texts ≡ i = length-map (take i items) f ∙ length-take-le i items (omega arith) in
    let same : mark more ≡ mark (ltb 0 (length texts)) = ap mark (is ∙ ap (ltb 0) (sym size)) in
    let pushed : map f (take (i + 1) items) ≡ texts ++ f item ∷ [] =
    ap (map f) (take_more items i d inside) ∙ map-append f (take i items) (item ∷ []) in
    let joined : with_commas (map f (take (i + 1) items)) ≡ with_commas texts ++ (mark more ++ f item) =
    ap with_commas pushed ∙ commas_push texts (f item) ∙ ap (λ m. with_commas texts ++ (m ++ f item)) (sym same) in
    after_is ∙ ap (λ l. l ++ f item) (mark_is ∙ ap (λ l. l ++ mark more) was)
    ∙ append_assoc (initial ++ with_commas texts) (mark more) (f item)
    ∙ append_assoc initial (with_commas texts) (mark more ++ f item)
    ∙ ap (λ l. initial ++ l) (sym joined)

-- the same of an item that is read where it lies
pub next_item : {A : Type 0} (f : A → List ℕ) (items : List A) (i : ℕ) (item : A) (more : Bool)
    (initial before marked after : List ℕ) → item ≡ get_or items i item → more ≡ ltb 0 i → i < length items
    → before ≡ initial ++ with_commas (map f (take i items)) → marked ≡ before ++ mark more
    → after ≡ marked ++ f item → after ≡ initial ++ with_commas (map f (take (i + 1) items))
next_item f items i item more initial before marked after here is inside was mark_is after_is =
    next_written f items i item more initial before marked after is inside was mark_is
    (after_is ∙ ap (λ one. marked ++ f one) here)

-- before the first
pub none_written : (initial : List ℕ) → initial ≡ initial ++ with_commas []
unfolding with_commas
none_written initial = sym (append-nil initial)

pub one_behind : (i : ℕ) → true ≡ ltb 0 (i + 1)
one_behind i = grind (arith, nat_tests)
