-- The session numbers that are gathered.
use Rattle.std.proofs.Common.{◌≡◌, ℕ, ◌<◌, Bool, true, false, cond, if◌then◌else◌, ◌||◌, nat_eq, List, [], ◌∷◌, refl}
use Rattle.std.proofs.Common.{ap, sym, subst, ◌∙◌}
use Rattle.std.specs.Cmp.{nat_eq_equiv}
use Rattle.std.specs.List.{list_any}
use Rattle.std.specs.Set.{distinct_count}
use Rattle.std.proofs.lemmas.Bool.{lt-ltb}
use Rattle.std.proofs.lemmas.Map.Made.{hash_set_len-from_list}
use Rattle.indexmap.specs.IndexSet.{IndexSet, contains, index_set_len, IsEmpty, IsUnique, Updates}
use Rattle.asp_summary.specs.Gathered.{Holds, IsWith, with_serial}

or_of : (b x : Bool) → cond b true x ≡ (b || x)
or_of true x = refl
or_of false x = refl

module _ {S : Type 0} where
  pub none_held : (set : IndexSet ℕ S) → IsEmpty set → IsUnique nat_eq set → Holds [] set
  none_held set empty unique = ((λ q. ap (list_any (nat_eq q)) empty), unique)

  -- a number is put in
  put : (serial : ℕ) (serials : List ℕ) (old new : IndexSet ℕ S) → Holds serials old
      → Updates nat_eq old new serial true → IsUnique nat_eq new → Holds (serial ∷ serials) new
  put serial serials old new held updates unique = (
    (λ q. updates.0 q ∙ (or_of (nat_eq serial q) (contains nat_eq old q)
        ∙ (ap (λ b. b || contains nat_eq old q) (nat_eq_equiv.symm serial q)
        ∙ ap (λ x. nat_eq q serial || x) (held.0 q)))),
    unique,
  )

  pub one_more : (serial : ℕ) (old new : IndexSet ℕ S) → 0 < serial → Updates nat_eq old new serial true
      → IsUnique nat_eq new → IsWith serial old new
  one_more serial old new above updates unique = λ serials held.
      subst (λ (b : Bool). Holds (if b then serial ∷ serials else serials) new) (sym (lt-ltb 0 serial above))
      (put serial serials old new held updates unique)

  -- 0 is not
  pub none_more : (serial : ℕ) (set : IndexSet ℕ S) → serial ≡ 0 → IsWith serial set set
  none_more serial set none = λ serials held.
      subst (λ (s : ℕ). Holds (with_serial s serials) set) (sym none) held

  -- the set is as large as there are different numbers
  pub counted : (serials : List ℕ) (set : IndexSet ℕ S) → Holds serials set
      → index_set_len set ≡ distinct_count nat_eq serials
  counted serials set held = hash_set_len-from_list nat_eq_equiv serials set held
