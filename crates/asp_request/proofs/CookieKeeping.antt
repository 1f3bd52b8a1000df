-- The cookies that are kept, when one more cookie comes.
use Rattle.std.proofs.Common.{◌≡◌, ℕ, Bool, true, false, cond, List, [], ◌∷◌, ◌++◌, map, refl, sym, ap, subst, ◌∙◌}
use Rattle.std.proofs.Common.{Some, is_some, nat_cmp}
use Rattle.vb_value.specs.Folding.{folded, same_name}
use Rattle.std.specs.BTreeMap.{BTreeMap, get, is_at}
use Rattle.std.specs.Cmp.Lexicographic.{slice_cmp}
use Rattle.std.proofs.lemmas.Bool.{false≢true}
use Rattle.std.proofs.lemmas.List.{append-nil, map-append}
use Rattle.std.proofs.lemmas.Map.Text.{is_eq-slice_cmp}
use Rattle.asp_request.specs.Collection.{Collects}
use Rattle.asp_request.specs.Cookies.{CollectsCookies}
use Rattle.asp_request.specs.Pairs.{Pair, values_in, firsts, first_of}
use Rattle.asp_request.specs.Request.{decoded, with_decoded}
use Rattle.asp_request.specs.declared.collection.Collection.{Collection}
use Rattle.asp_request.specs.declared.cookies.Cookies.{Cookies}
use Rattle.asp_request.proofs.Pairing.{new_pair, firsts_more, values_alike, values_more, same_from}

first_kept : (values more : List (List ℕ)) → is_some (first_of values) ≡ true → first_of (values ++ more) ≡ first_of values
first_kept [] more there = absurd (false≢true there)
first_kept (value ∷ values) more there = refl

not_new : (values : List (List ℕ)) (pair : Pair) → is_some (first_of values) ≡ true → new_pair values pair ≡ []
not_new [] pair there = absurd (false≢true there)
not_new (value ∷ values) pair there = refl

no_values : (values : List (List ℕ)) → is_some (first_of values) ≡ false → values ≡ []
no_values [] none = refl
no_values (value ∷ values) none = absurd (false≢true (sym none))

pub cookies_there : (kept : Cookies) (pairs : List Pair) (name value : List ℕ) → CollectsCookies kept pairs
    → is_some (get (slice_cmp nat_cmp) kept.raw (folded name)) ≡ true → CollectsCookies kept (pairs ++ (name, value) ∷ [])
cookies_there kept pairs name value is there =
    let pair : Pair = (name, value) in
    let some : is_some (first_of (values_in pairs name)) ≡ true = ap is_some (sym (is.raw name)) ∙ there in
    let same : firsts pairs ≡ firsts (pairs ++ pair ∷ []) =
    sym (firsts_more pairs pair ∙ ap (λ l. firsts pairs ++ l) (not_new (values_in pairs name) pair some)
    ∙ append-nil (firsts pairs)) in
    let Kept : List Pair → Type 0 = λ l. Collects kept.kept (map with_decoded l) in record {
      first = subst Kept same is.first;
      raw = λ other. is.raw other ∙ stays pairs name value other some (same_name name other) refl
          ∙ sym (ap first_of (values_more pairs pair other));
    }
  where
    stays : (pairs : List Pair) (name value other : List ℕ) → is_some (first_of (values_in pairs name)) ≡ true
        → (same : Bool) → same_name name other ≡ same
        → first_of (values_in pairs other) ≡ first_of (values_in pairs other ++ cond same (value ∷ []) [])
    stays pairs name value other some true e = sym (first_kept (values_in pairs other) (value ∷ [])
        (ap (λ v. is_some (first_of v)) (values_alike pairs other name (sym (same_from name other e))) ∙ some))
    stays pairs name value other some false e = ap first_of (sym (append-nil (values_in pairs other)))

comes : (pairs : List Pair) (name value bytes other : List ℕ) → values_in pairs name ≡ [] → bytes ≡ value
    → (same : Bool) → same_name name other ≡ same
    → cond same (Some bytes) (first_of (values_in pairs other))
    ≡ first_of (values_in pairs other ++ cond same (value ∷ []) [])
comes pairs name value bytes other none written true e =
    ap Some written ∙ sym (ap (λ l. first_of (l ++ value ∷ []))
    (values_alike pairs other name (sym (same_from name other e)) ∙ none))
comes pairs name value bytes other none written false e = ap first_of (sym (append-nil (values_in pairs other)))

pub cookies_new : (old : Cookies) (kept : Collection) (raw : BTreeMap (List ℕ) (List ℕ)) (pairs : List Pair)
    (name value copied text bytes key : List ℕ) → CollectsCookies old pairs
    → is_some (get (slice_cmp nat_cmp) old.raw (folded name)) ≡ false → key ≡ folded name → copied ≡ name → text ≡ decoded value → bytes ≡ value
    → ((more : List Pair) → Collects old.kept more → Collects kept (more ++ (copied, text) ∷ []))
    → ((other : List ℕ) → get (slice_cmp nat_cmp) raw other
    ≡ cond (is_at (slice_cmp nat_cmp key) other) (Some bytes) (get (slice_cmp nat_cmp) old.raw other))
    → CollectsCookies (record { kept = kept; raw = raw }) (pairs ++ (name, value) ∷ [])
cookies_new old kept raw pairs name value copied text bytes key is absent keyed named shown written adds puts =
    let pair : Pair = (name, value) in
    let none : values_in pairs name ≡ [] =
    no_values (values_in pairs name)
    (ap is_some (sym (is.raw name)) ∙ absent) in
    let fresh : new_pair (values_in pairs name) pair ≡ pair ∷ [] = ap (λ v. new_pair v pair) none in
    let before = map with_decoded (firsts pairs) in
    let last : ◌≡◌ {A = Pair} (copied, text) (name, decoded value) = λ i. (named i, shown i) in
    let all : before ++ (copied, text) ∷ [] ≡ map with_decoded (firsts (pairs ++ pair ∷ [])) =
    ap (λ p. before ++ p ∷ []) last
    ∙ sym (ap (map with_decoded) (firsts_more pairs pair ∙ ap (λ l. firsts pairs ++ l) fresh)
    ∙ map-append with_decoded (firsts pairs) (pair ∷ [])) in
    let Kept : List Pair → Type 0 = λ l. Collects kept l in record {
      first = subst Kept all (adds before is.first);
      raw = λ other.
          let there = get (slice_cmp nat_cmp) old.raw (folded other) in
          puts (folded other)
          ∙ ap (λ k. cond (is_at (slice_cmp nat_cmp k) (folded other)) (Some bytes) there) keyed
          ∙ ap (λ t. cond t (Some bytes) there) (is_eq-slice_cmp (folded name) (folded other))
          ∙ ap (cond (same_name name other) (Some bytes)) (is.raw other)
          ∙ comes pairs name value bytes other none written (same_name name other) refl
          ∙ sym (ap first_of (values_more pairs pair other));
    }
