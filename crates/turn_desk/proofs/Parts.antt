-- A lane's own entries, and what a longer history leaves as it was.
use Rattle.std.proofs.Common.{◌≡◌, ℕ, suc, List, [], ◌∷◌, ◌++◌, refl, sym, ap, ◌∙◌, arith, append_assoc, All, ◌≢◌}
use Rattle.std.proofs.Common.{◌<◌, ◌≤◌, Bool, true, false, cond, eqb, append-nil, eq-eqb, ne_eqb, lt-ltb, le-ltb, ltb}
use Rattle.std.proofs.lemmas.List.Elements.{filter-append}
use Rattle.turn_desk.specs.declared.view.Known.{Known}
use Rattle.turn_desk.specs.Histories.{total, Every, BeginsWith, own_part}
use Rattle.turn_desk.specs.Rule.{one_where, one_below}

pub one_where-same : (x y : ℕ) → x ≡ y → one_where x y ≡ 1
one_where-same x y e = ap (λ b. cond b 1 0) (eq-eqb x y e)

pub one_where-apart : (x y : ℕ) → x ≢ y → one_where x y ≡ 0
one_where-apart x y n = ap (λ b. cond b 1 0) (ne_eqb x y n)

pub one_where_zero : (x y : ℕ) → one_where x y ≡ 0 → x ≢ y
one_where_zero x y z e = absurd (omega (arith, one_where-same x y e))

pub one_where_le : (x y : ℕ) → one_where x y ≤ 1
one_where_le x y = at (eqb x y)
  where
    at : (b : Bool) → cond b 1 0 ≤ 1
    at true = omega arith
    at false = omega arith

pub one_below-no : (k count : ℕ) → count ≤ k → one_below k count ≡ 0
one_below-no k count h = ap (λ b. cond b 1 0) (le-ltb k count h)

pub one_below-yes : (k count : ℕ) → k < count → one_below k count ≡ 1
one_below-yes k count h = ap (λ b. cond b 1 0) (lt-ltb k count h)

pub one_below_le : (k count : ℕ) → one_below k count ≤ 1
one_below_le k count = at (ltb k count)
  where
    at : (b : Bool) → cond b 1 0 ≤ 1
    at true = omega arith
    at false = omega arith

module _ {A : Type 0} where
  pub begins-self : (l : List A) → BeginsWith l l
  begins-self l = ([], sym (append-nil l))

  pub begins-longer : (l m more : List A) → BeginsWith l m → BeginsWith (l ++ more) m
  begins-longer l m more s = (s.0 ++ more, ap (λ w. w ++ more) s.1 ∙ append_assoc m s.0 more)

  pub Every-map : (P Q : A → Type 0) (l : List A) → ((x : A) → P x → Q x) → Every P l → Every Q l
  Every-map P Q [] h e = tt
  Every-map P Q (x ∷ xs) h e = (h x e.0, Every-map P Q xs h e.1)

  pub Every-both : (P Q R : A → Type 0) (l : List A) → ((x : A) → P x → Q x → R x) → Every P l → Every Q l → Every R l
  Every-both P Q R [] h e d = tt
  Every-both P Q R (x ∷ xs) h e d = (h x e.0 d.0, Every-both P Q R xs h e.1 d.1)

  pub Every-append : (P : A → Type 0) (l m : List A) → Every P l → Every P m → Every P (l ++ m)
  Every-append P [] m e d = d
  Every-append P (x ∷ xs) m e d = (e.0, Every-append P xs m e.1 d)

module _ {E : Type 0} (lane_of : E → ℕ) where
  -- entries of one lane are none of another's
  pub own_part-others : (n k : ℕ) (more : List E) → n ≢ k → All (λ e. lane_of e ≡ n) more
      → own_part lane_of k more ≡ []
  own_part-others n k [] apart h = refl
  own_part-others n k (e ∷ es) apart h =
      let first : lane_of e ≡ n = h 0 e (omega arith) in
      let no = ne_eqb (lane_of e) k (λ q. apart (sym first ∙ q)) in
      ap (λ b. cond b (e ∷ own_part lane_of k es) (own_part lane_of k es)) no
      ∙ own_part-others n k es apart (λ i d lt. h (suc i) d (omega arith))

  -- entries of one lane are all its own
  pub own_part-own : (n : ℕ) (more : List E) → All (λ e. lane_of e ≡ n) more → own_part lane_of n more ≡ more
  own_part-own n [] h = refl
  own_part-own n (e ∷ es) h =
      let yes = eq-eqb (lane_of e) n (h 0 e (omega arith)) in
      ap (λ b. cond b (e ∷ own_part lane_of n es) (own_part lane_of n es)) yes
      ∙ ap (λ l. e ∷ l) (own_part-own n es (λ i d lt. h (suc i) d (omega arith)))

  pub own_part-kept : (n k : ℕ) (history more : List E) → n ≢ k → All (λ e. lane_of e ≡ n) more
      → own_part lane_of k (history ++ more) ≡ own_part lane_of k history
  own_part-kept n k history more apart h =
      filter-append (λ e. eqb (lane_of e) k) history more
      ∙ (ap (λ l. own_part lane_of k history ++ l) (own_part-others n k more apart h)
      ∙ append-nil (own_part lane_of k history))

  pub own_part-grows : (n : ℕ) (history more : List E) → All (λ e. lane_of e ≡ n) more
      → own_part lane_of n (history ++ more) ≡ own_part lane_of n history ++ more
  own_part-grows n history more h = filter-append (λ e. eqb (lane_of e) n) history more
      ∙ ap (λ l. own_part lane_of n history ++ l) (own_part-own n more h)

-- no lane of a list has the number k
pub lanes-apart : {E : Type 0} (k : ℕ) (lanes : List (Known E)) → total (λ l. one_where l.number k) lanes ≡ 0
    → Every (λ l. k ≢ l.number) lanes
lanes-apart k [] z = tt
lanes-apart k (l ∷ ls) z = ((λ e. one_where_zero l.number k (omega arith) (sym e)), lanes-apart k ls (omega arith))
