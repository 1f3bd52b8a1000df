-- A name is declared already exactly where an earlier declaration clashes with it.
use Rattle.std.proofs.Common.{◌≡◌, ℕ, Bool, true, false, ◌||◌, ◌&&◌, cond, List, [], ◌∷◌, ◌++◌, ◌+◌}
use Rattle.std.proofs.Common.{Option, Some, None, is_some, nat_eq, if◌then◌else◌, refl, sym, ap, ◌∙◌}
use Rattle.std.specs.List.{position_from}
use Rattle.std.specs.Cmp.Lexicographic.{pointwise}
use Rattle.vb_value.specs.Folding.{folded, same_name}
use Rattle.vb_syntax.specs.declared.unit.PropertyKind.{PropertyKind}
use Rattle.vb_syntax.specs.declared.unit.PropertyKind.TheVariants as property
use Rattle.vb_syntax.specs.scope.Faults.{DeclaredNames, declare, is_declared}
use Rattle.vb_syntax.specs.scope.Names.{Name, has_name}
use Rattle.scope_laws.specs.Unique.{Declaration, clash, clashes}

-- ---- booleans

comm : (a b : Bool) → (a || b) ≡ (b || a)
comm true true = refl
comm true false = refl
comm false true = refl
comm false false = refl

swap : (a b c : Bool) → ((a || b) || c) ≡ ((a || c) || b)
swap true b c = refl
swap false b c = comm b c

assoc : (a b c : Bool) → (a || (b || c)) ≡ ((a || b) || c)
assoc true b c = refl
assoc false b c = refl

with-true : (a : Bool) → (a && true) ≡ a
with-true true = refl
with-true false = refl

apart : (a b : Bool) → a ≡ (a || (b && false))
apart true b = refl
apart false true = refl
apart false false = refl

-- ---- names

position-found : (test : Name → Bool) (at : ℕ) (names : List Name) (name : Name)
    → is_some (position_from test at (names ++ name ∷ [])) ≡ (is_some (position_from test at names) || test name)
position-found test at [] name = go (test name)
  where
    go : (passes : Bool) → is_some (cond passes (Some at) None) ≡ (false || passes)
    go true = refl
    go false = refl
position-found test at (first ∷ names) name = go (test first) (position-found test (at + 1) names name)
  where
    go : (passes : Bool) → is_some (position_from test (at + 1) (names ++ name ∷ []))
        ≡ (is_some (position_from test (at + 1) names) || test name)
        → is_some (cond passes (Some at) (position_from test (at + 1) (names ++ name ∷ [])))
        ≡ (is_some (cond passes (Some at) (position_from test (at + 1) names)) || test name)
    go true later = refl
    go false later = later

has_name-push : (names : List Name) (new name : Name)
    → has_name (names ++ new ∷ []) name ≡ (has_name names name || same_name name new)
has_name-push names new name = position-found (λ (other : Name). pointwise nat_eq (folded name) (folded other)) 0
    names new

-- ---- declarations

-- one declaration more
pub declared-push : (d : DeclaredNames) (new : Name) (kind : Option PropertyKind) (name : Name)
    (accessor : Option PropertyKind) → is_declared (declare d new kind) name accessor
    ≡ (is_declared d name accessor || clash (name, accessor) (new, kind))
declared-push d new None name None =
    ap (λ x. ((x || (has_name d.gets name)) || (has_name d.lets name)) || (has_name d.sets name)) (has_name-push
    d.others new name) ∙ ap (λ x. (x || (has_name d.lets name)) || (has_name d.sets name)) (swap (has_name
    d.others name) (same_name name new) (has_name d.gets name))
    ∙ ap (λ x. x || (has_name d.sets name)) (swap ((has_name d.others name) || (has_name d.gets name)) (same_name
    name new) (has_name d.lets name)) ∙ swap (((has_name d.others name) || (has_name d.gets name)) || (has_name
    d.lets name)) (same_name name new) (has_name d.sets name)
    ∙ ap (λ x. ((((has_name d.others name) || (has_name d.gets name)) || (has_name d.lets name)) || (has_name d.sets
    name)) || x) (sym (with-true (same_name name new)))
declared-push d new (Some property.Get) name None =
    ap (λ x. (((has_name d.others name) || x) || (has_name d.lets name)) || (has_name d.sets name)) (has_name-push
    d.gets new name) ∙ ap (λ x. (x || (has_name d.lets name)) || (has_name d.sets name)) (assoc (has_name
    d.others name) (has_name d.gets name) (same_name name new))
    ∙ ap (λ x. x || (has_name d.sets name)) (swap ((has_name d.others name) || (has_name d.gets name)) (same_name
    name new) (has_name d.lets name)) ∙ swap (((has_name d.others name) || (has_name d.gets name)) || (has_name
    d.lets name)) (same_name name new) (has_name d.sets name)
    ∙ ap (λ x. ((((has_name d.others name) || (has_name d.gets name)) || (has_name d.lets name)) || (has_name d.sets
    name)) || x) (sym (with-true (same_name name new)))
declared-push d new (Some property.Let) name None =
    ap (λ x. (((has_name d.others name) || (has_name d.gets name)) || x) || (has_name d.sets name)) (has_name-push
    d.lets new name) ∙ ap (λ x. x || (has_name d.sets name)) (assoc ((has_name d.others name) || (has_name d.gets
    name)) (has_name d.lets name) (same_name name new))
    ∙ swap (((has_name d.others name) || (has_name d.gets name)) || (has_name d.lets name)) (same_name name new)
    (has_name d.sets name)
    ∙ ap (λ x. ((((has_name d.others name) || (has_name d.gets name)) || (has_name d.lets name)) || (has_name d.sets
    name)) || x) (sym (with-true (same_name name new)))
declared-push d new (Some property.Set) name None =
    ap (λ x. (((has_name d.others name) || (has_name d.gets name)) || (has_name d.lets name)) || x) (has_name-push
    d.sets new name) ∙ assoc (((has_name d.others name) || (has_name d.gets name)) || (has_name d.lets name))
    (has_name d.sets name) (same_name name new)
    ∙ ap (λ x. ((((has_name d.others name) || (has_name d.gets name)) || (has_name d.lets name)) || (has_name d.sets
    name)) || x) (sym (with-true (same_name name new)))
declared-push d new None name (Some property.Get) =
    ap (λ x. x || (has_name d.gets name)) (has_name-push d.others new name) ∙ swap (has_name d.others name)
    (same_name name new) (has_name d.gets name)
    ∙ ap (λ x. ((has_name d.others name) || (has_name d.gets name)) || x) (sym (with-true (same_name name new)))
declared-push d new (Some property.Get) name (Some property.Get) =
    ap (λ x. (has_name d.others name) || x) (has_name-push d.gets new name) ∙ assoc (has_name d.others name)
    (has_name d.gets name) (same_name name new)
    ∙ ap (λ x. ((has_name d.others name) || (has_name d.gets name)) || x) (sym (with-true (same_name name new)))
declared-push d new (Some property.Let) name (Some property.Get) =
    apart ((has_name d.others name) || (has_name d.gets name)) (same_name name new)
declared-push d new (Some property.Set) name (Some property.Get) =
    apart ((has_name d.others name) || (has_name d.gets name)) (same_name name new)
declared-push d new None name (Some property.Let) =
    ap (λ x. x || (has_name d.lets name)) (has_name-push d.others new name) ∙ swap (has_name d.others name)
    (same_name name new) (has_name d.lets name)
    ∙ ap (λ x. ((has_name d.others name) || (has_name d.lets name)) || x) (sym (with-true (same_name name new)))
declared-push d new (Some property.Get) name (Some property.Let) =
    apart ((has_name d.others name) || (has_name d.lets name)) (same_name name new)
declared-push d new (Some property.Let) name (Some property.Let) =
    ap (λ x. (has_name d.others name) || x) (has_name-push d.lets new name) ∙ assoc (has_name d.others name)
    (has_name d.lets name) (same_name name new)
    ∙ ap (λ x. ((has_name d.others name) || (has_name d.lets name)) || x) (sym (with-true (same_name name new)))
declared-push d new (Some property.Set) name (Some property.Let) =
    apart ((has_name d.others name) || (has_name d.lets name)) (same_name name new)
declared-push d new None name (Some property.Set) =
    ap (λ x. x || (has_name d.sets name)) (has_name-push d.others new name) ∙ swap (has_name d.others name)
    (same_name name new) (has_name d.sets name)
    ∙ ap (λ x. ((has_name d.others name) || (has_name d.sets name)) || x) (sym (with-true (same_name name new)))
declared-push d new (Some property.Get) name (Some property.Set) =
    apart ((has_name d.others name) || (has_name d.sets name)) (same_name name new)
declared-push d new (Some property.Let) name (Some property.Set) =
    apart ((has_name d.others name) || (has_name d.sets name)) (same_name name new)
declared-push d new (Some property.Set) name (Some property.Set) =
    ap (λ x. (has_name d.others name) || x) (has_name-push d.sets new name) ∙ assoc (has_name d.others name)
    (has_name d.sets name) (same_name name new)
    ∙ ap (λ x. ((has_name d.others name) || (has_name d.sets name)) || x) (sym (with-true (same_name name new)))

pub clashes-push : (earlier : List Declaration) (last one : Declaration)
    → clashes (earlier ++ last ∷ []) one ≡ (clashes earlier one || clash one last)
clashes-push [] last one = go (clash one last)
  where
    go : (passes : Bool) → (if passes then true else false) ≡ (false || passes)
    go true = refl
    go false = refl
clashes-push (first ∷ earlier) last one = go (clash one first) (clashes-push earlier last one)
  where
    go : (passes : Bool) → clashes (earlier ++ last ∷ []) one ≡ (clashes earlier one || clash one last)
        → (if passes then true else clashes (earlier ++ last ∷ []) one)
        ≡ ((if passes then true else clashes earlier one) || clash one last)
    go true later = refl
    go false later = later
