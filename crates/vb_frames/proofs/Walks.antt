-- The references beside a stack of frames.
use Rattle.std.proofs.Common.{◌≡◌, List, [], ◌∷◌, ◌++◌, map, refl, sym, ap, ◌∙◌}
use Rattle.std.proofs.lemmas.List.{map_push}
use Rattle.vb_syntax.specs.declared.program.Program.{Program}
use Rattle.vb_frames.specs.declared.node.Node.{Node}
use Rattle.vb_frames.specs.declared.stack.Placed.{Placed}
use Rattle.vb_frames.specs.Places.{At, Root, seen, part}
use Rattle.vb_frames.specs.Stacks.{placed, top, Tied}

-- ---- one frame more

pub top_push : (p : Program) (base : At) (frames : List Placed) (f : Placed)
    → top p base (frames ++ f ∷ []) ≡ part p f.place (top p base frames)
top_push p base [] f = refl
top_push p base (g ∷ frames) f = top_push p (part p g.place base) frames f

placed_push : (p : Program) (base : At) (frames : List Placed) (f : Placed)
    → placed p base (frames ++ f ∷ []) ≡ placed p base frames ++ part p f.place (top p base frames) ∷ []
placed_push p base [] f = refl
placed_push p base (g ∷ frames) f =
    ap (λ l. part p g.place base ∷ l) (placed_push p (part p g.place base) frames f)

pub tied_push : (p : Program) (nodes : List Node) (frames : List Placed) (n : Node) (f : Placed)
    → Tied p nodes frames → seen n ≡ part p f.place (top p Root frames) → Tied p (nodes ++ n ∷ []) (frames ++ f ∷ [])
tied_push p nodes frames n f tied is = map_push seen nodes n ∙ ap (λ l. l ++ seen n ∷ []) tied
    ∙ ap (λ a. placed p Root frames ++ a ∷ []) is ∙ sym (placed_push p Root frames f)

-- ---- one frame fewer

-- the last of a list
abbrev last_or : {X : Type 0} → X → List X → X
last_or d [] = d
last_or d (x ∷ xs) = last_or x xs

abbrev but_last : {X : Type 0} → List X → List X
but_last [] = []
but_last (x ∷ []) = []
but_last (x ∷ y ∷ xs) = x ∷ but_last (y ∷ xs)

last_push : {X : Type 0} (d : X) (xs : List X) (x : X) → last_or d (xs ++ x ∷ []) ≡ x
last_push d [] x = refl
last_push d (y ∷ xs) x = last_push y xs x

but_last_push : {X : Type 0} (xs : List X) (x : X) → but_last (xs ++ x ∷ []) ≡ xs
but_last_push [] x = refl
but_last_push (y ∷ []) x = refl
but_last_push (y ∷ z ∷ xs) x = ap (λ l. y ∷ l) (but_last_push (z ∷ xs) x)

popped : (p : Program) (nodes : List Node) (n : Node) (frames : List Placed) (f : Placed)
    → Tied p (nodes ++ n ∷ []) (frames ++ f ∷ [])
    → map seen nodes ++ seen n ∷ [] ≡ placed p Root frames ++ part p f.place (top p Root frames) ∷ []
popped p nodes n frames f tied = sym (map_push seen nodes n) ∙ tied ∙ placed_push p Root frames f

both : (p : Program) (old nodes : List Node) (n : Node) (was frames : List Placed) (f : Placed)
    → old ≡ nodes ++ n ∷ [] → was ≡ frames ++ f ∷ [] → Tied p old was → Tied p (nodes ++ n ∷ []) (frames ++ f ∷ [])
both p old nodes n was frames f is same tied = ap (map seen) (sym is) ∙ tied ∙ ap (placed p Root) same

pub tied_pop : (p : Program) (old nodes : List Node) (n : Node) (was frames : List Placed) (f : Placed)
    → old ≡ nodes ++ n ∷ [] → was ≡ frames ++ f ∷ [] → Tied p old was → Tied p nodes frames
tied_pop p old nodes n was frames f is same tied = sym (but_last_push (map seen nodes) (seen n))
    ∙ ap but_last (popped p nodes n frames f (both p old nodes n was frames f is same tied))
    ∙ but_last_push (placed p Root frames) (part p f.place (top p Root frames))

pub tied_popped : (p : Program) (old nodes : List Node) (n : Node) (was frames : List Placed) (f : Placed)
    → old ≡ nodes ++ n ∷ [] → was ≡ frames ++ f ∷ [] → Tied p old was → seen n ≡ part p f.place (top p Root frames)
tied_popped p old nodes n was frames f is same tied = sym (last_push Root (map seen nodes) (seen n))
    ∙ ap (last_or Root) (popped p nodes n frames f (both p old nodes n was frames f is same tied))
    ∙ last_push Root (placed p Root frames) (part p f.place (top p Root frames))

-- ---- the walk

assoc : {X : Type 0} (xs : List X) (x : X) (ys : List X) → (xs ++ x ∷ []) ++ ys ≡ xs ++ x ∷ ys
assoc [] x ys = refl
assoc (z ∷ xs) x ys = ap (λ l. z ∷ l) (assoc xs x ys)

append_none : {X : Type 0} (xs : List X) → xs ++ [] ≡ xs
append_none [] = refl
append_none (x ∷ xs) = ap (λ l. x ∷ l) (append_none xs)

-- the nodes so far, and those of the frames that are left
pub walk_more : (p : Program) (all : List Placed) (nodes : List Node) (n : Node) (base : At) (f : Placed) (left : List Placed)
    → map seen nodes ++ placed p base (f ∷ left) ≡ placed p Root all → seen n ≡ part p f.place base
    → map seen (nodes ++ n ∷ []) ++ placed p (seen n) left ≡ placed p Root all
walk_more p all nodes n base f left so is = ap (λ l. l ++ placed p (seen n) left) (map_push seen nodes n)
    ∙ assoc (map seen nodes) (seen n) (placed p (seen n) left) ∙ ap (λ a. map seen nodes ++ a ∷ placed p a left) is ∙ so

pub walked : (nodes : List At) (all : List At) → nodes ++ [] ≡ all → nodes ≡ all
walked nodes all is = sym (append_none nodes) ∙ is
