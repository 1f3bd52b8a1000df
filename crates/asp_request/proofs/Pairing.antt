-- The names and the values of pairs, when one more pair comes.
use Rattle.std.proofs.Common.{◌≡◌, ℕ, Bool, true, false, not, cond, List, [], ◌∷◌, ◌++◌, map, refl, sym, ap, ◌∙◌}
use Rattle.std.proofs.Common.{Option, Some, None, unwrap_or, nat_cmp}
use Rattle.std.specs.Prelude.{bytes_eq, filter}
use Rattle.std.specs.BTreeMap.{BTreeMap, get, is_at}
use Rattle.std.specs.Cmp.Lexicographic.{slice_cmp}
use Rattle.std.proofs.lemmas.List.{append-nil, map-append}
use Rattle.std.proofs.lemmas.List.Elements.{filter-append}
use Rattle.std.proofs.lemmas.Map.Text.{is_eq-slice_cmp}
use Rattle.std.proofs.lemmas.Slice.Eq.{bytes_eq-Decides}
use Rattle.vb_value.specs.Folding.{folded, same_name}
use Rattle.asp_request.specs.Pairs.{Pair, is_named, values_in, firsts, names_in}
use Rattle.asp_request.specs.Collection.{values_at, new_name, Collects}
use Rattle.asp_request.specs.declared.collection.Collection.{Collection}

abbrev Groups : Type 0
Groups = BTreeMap (List ℕ) (List (List ℕ))

-- ---- values

single : (b : Bool) (pair : Pair) → map (λ (p : Pair). p.1) (cond b (pair ∷ []) []) ≡ cond b (pair.1 ∷ []) []
single true pair = refl
single false pair = refl

pub values_more : (pairs : List Pair) (pair : Pair) (name : List ℕ)
    → values_in (pairs ++ pair ∷ []) name ≡ values_in pairs name ++ cond (same_name pair.0 name) (pair.1 ∷ []) []
unfolding values_in
values_more pairs pair name =
    let second : Pair → List ℕ = λ p. p.1 in
    ap (map second) (filter-append (is_named name) pairs (pair ∷ []))
    ∙ map-append second (filter (is_named name) pairs) (filter (is_named name) (pair ∷ []))
    ∙ ap (λ l. map second (filter (is_named name) pairs) ++ l) (single (same_name pair.0 name) pair)

-- ---- the first pairs

-- a pair, where its name has no values yet
abbrev pub new_pair : List (List ℕ) → Pair → List Pair
new_pair [] pair = pair ∷ []
new_pair (value ∷ values) pair = []

-- a new pair among those of other names than the first
other_pair : (first : List ℕ) (pair : Pair) (values : List (List ℕ)) (same : Bool) → same_name first pair.0 ≡ same
    → filter (λ (p : Pair). not (same_name first p.0)) (new_pair values pair) ≡ cond same [] (new_pair values pair)
other_pair first pair (value ∷ values) true is = refl
other_pair first pair (value ∷ values) false is = refl
other_pair first pair [] true is = ap (λ t. cond (not t) (pair ∷ []) []) is
other_pair first pair [] false is = ap (λ t. cond (not t) (pair ∷ []) []) is

new_of : (same : Bool) (first : Pair) (pairs : List Pair) (pair : Pair)
    → cond same [] (new_pair (map (λ (p : Pair). p.1) pairs) pair)
    ≡ new_pair (map (λ (p : Pair). p.1) (cond same (first ∷ pairs) pairs)) pair
new_of true first pairs pair = refl
new_of false first pairs pair = refl

pub firsts_more : (pairs : List Pair) (pair : Pair)
    → firsts (pairs ++ pair ∷ []) ≡ firsts pairs ++ new_pair (values_in pairs pair.0) pair
unfolding firsts values_in
firsts_more [] pair = refl
firsts_more (first ∷ pairs) pair =
    let other : Pair → Bool = λ p. not (same_name first.0 p.0) in
    let values = values_in pairs pair.0 in
    ap (λ l. first ∷ filter other l) (firsts_more pairs pair)
    ∙ ap (λ l. first ∷ l) (filter-append other (firsts pairs) (new_pair values pair)
    ∙ ap (λ l. filter other (firsts pairs) ++ l)
    (other_pair first.0 pair values (same_name first.0 pair.0) refl
    ∙ new_of (same_name first.0 pair.0) first (filter (is_named pair.0) pairs) pair))

name_of_new : (values : List (List ℕ)) (pair : Pair) → map (λ (p : Pair). p.0) (new_pair values pair) ≡ new_name values pair.0
name_of_new [] pair = refl
name_of_new (value ∷ values) pair = refl

pub names_more : (pairs : List Pair) (pair : Pair)
    → names_in (pairs ++ pair ∷ []) ≡ names_in pairs ++ new_name (values_in pairs pair.0) pair.0
names_more pairs pair =
    let name : Pair → List ℕ = λ p. p.0 in
    ap (map name) (firsts_more pairs pair) ∙ map-append name (firsts pairs) (new_pair (values_in pairs pair.0) pair)
    ∙ ap (λ l. names_in pairs ++ l) (name_of_new (values_in pairs pair.0) pair)

-- ---- what is kept

pub same_from : (one other : List ℕ) → same_name one other ≡ true → folded one ≡ folded other
same_from one other is = (bytes_eq-Decides (folded one) (folded other)).0 is

-- the values of a name go by the name folded
pub values_alike : (pairs : List Pair) (one other : List ℕ) → folded one ≡ folded other
    → values_in pairs one ≡ values_in pairs other
unfolding values_in
values_alike pairs one other same =
    ap (λ (f : List ℕ). map (λ (p : Pair). p.1) (filter (λ (p : Pair). bytes_eq (folded p.0) f) pairs)) same

put_there : (same : Bool) (values : List (List ℕ)) (value : List ℕ) (there : Option (List (List ℕ)))
    → (same ≡ true → values ≡ unwrap_or there [])
    → unwrap_or (cond same (Some (values ++ value ∷ [])) (cond same None there)) []
    ≡ unwrap_or there [] ++ cond same (value ∷ []) []
put_there true values value there is = ap (λ l. l ++ value ∷ []) (is refl)
put_there false values value there is = sym (append-nil (unwrap_or there []))

pub collects_more : (old : Collection) (names : List (List ℕ)) (taken groups : Groups) (pairs : List Pair)
    (name value : List ℕ) (values updated : List (List ℕ)) → Collects old pairs
    → values ≡ values_at old.groups (folded name) → names ≡ old.names ++ new_name values name
    → updated ≡ values ++ value ∷ []
    → ((other : List ℕ) → get (slice_cmp nat_cmp) taken other
    ≡ cond (is_at (slice_cmp nat_cmp (folded name)) other) None (get (slice_cmp nat_cmp) old.groups other))
    → ((other : List ℕ) → get (slice_cmp nat_cmp) groups other
    ≡ cond (is_at (slice_cmp nat_cmp (folded name)) other) (Some updated) (get (slice_cmp nat_cmp) taken other))
    → Collects (record { names = names; groups = groups }) (pairs ++ (name, value) ∷ [])
collects_more old names taken groups pairs name value values updated is was named pushed out in_ = record {
  names = named ∙ ap (λ l. l ++ new_name values name) is.names
      ∙ ap (λ v. names_in pairs ++ new_name v name) (was ∙ is.values name) ∙ sym (names_more pairs (name, value));
  values = λ other.
      let key = folded other in
      let there = get (slice_cmp nat_cmp) old.groups key in
      let here = is_at (slice_cmp nat_cmp (folded name)) key in
      let test : here ≡ same_name name other = is_eq-slice_cmp (folded name) key in
      ap (λ o. unwrap_or o []) (in_ key
      ∙ ap (λ u. cond here (Some u) (get (slice_cmp nat_cmp) taken key)) pushed
      ∙ ap (cond here (Some (values ++ value ∷ []))) (out key)
      ∙ ap (λ t. cond t (Some (values ++ value ∷ [])) (cond t None there)) test)
      ∙ put_there (same_name name other) values value there
      (λ same. was ∙ ap (values_at old.groups) (same_from name other same))
      ∙ ap (λ l. l ++ cond (same_name name other) (value ∷ []) []) (is.values other)
      ∙ sym (values_more pairs (name, value) other);
}
