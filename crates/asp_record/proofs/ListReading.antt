-- Lists with `,` between their items, read one after the other.
use Rattle.std.proofs.Common.{◌≡◌, ℕ, zero, suc, ◌+◌, List, [], ◌∷◌, ◌++◌, length, Option, Some, None, refl, sym}
use Rattle.std.proofs.Common.{ap, ◌∙◌}
use Rattle.std.proofs.Common.{append_assoc, arith, ◌≢◌, eqb, false}
use Rattle.std.proofs.lemmas.Bool.Decides.{nat_tests}
use Rattle.std.specs.Prelude.{codes}
use Rattle.asp_record.specs.Fields.{◌>>=◌, behind}
use Rattle.asp_record.specs.ReadingValues.{array_by, first_by, list_at, list_by, more_at, more_by, simple_by}
use Rattle.asp_record.specs.ReadingValues.{value_at, value_by}

-- what was read before, and more
abbrev pub joined : {A : Type 0} → List A → Option (List A × List ℕ) → Option (List A × List ℕ)
joined before (Some more) = Some (before ++ more.0, more.1)
joined before None = None

joined_twice : {A : Type 0} (before : List A) (x : A) (more : Option (List A × List ℕ))
    → joined before (more >>= λ m. Some (x ∷ m.0, m.1)) ≡ joined (before ++ x ∷ []) more
joined_twice before x (Some m) = ap (λ l. Some (l, m.1)) (sym (append_assoc before (x ∷ []) m.0))
joined_twice before x None = refl

module _ {A : Type 0} (one : List ℕ → Option (A × List ℕ)) (stop : List ℕ) where
  step : (count : ℕ) (bytes rest : List ℕ) (x : A) → one bytes ≡ Some (x, rest)
      → more_at one stop (suc count) bytes ≡ more_by x (behind stop rest)
      (behind (codes ",") rest >>= more_at one stop count)
  unfolding more_at
  step count bytes rest x found = rw found refl

  -- an item, and `,` behind it
  pub one_more : (count left : ℕ) (bytes rest next : List ℕ) (before longer : List A) (x : A)
      (whole : Option (List A × List ℕ))
      → whole ≡ joined before (more_at one stop left bytes) → left ≡ count + 1 → one bytes ≡ Some (x, rest)
      → behind stop rest ≡ None → behind (codes ",") rest ≡ Some next → longer ≡ before ++ x ∷ []
      → whole ≡ joined longer (more_at one stop count next)
  one_more count left bytes rest next before longer x whole is more found unended comma pushed =
      let suc_is : left ≡ suc count = omega (arith, more) in
      let steps = step count bytes rest x found in
      is ∙ ap (λ n. joined before (more_at one stop n bytes)) suc_is ∙ ap (joined before) steps
      ∙ ap (λ o. joined before (more_by x o (behind (codes ",") rest >>= more_at one stop count))) unended
      ∙ ap (λ o. joined before (more_by x None (o >>= more_at one stop count))) comma
      ∙ joined_twice before x (more_at one stop count next)
      ∙ ap (λ l. joined l (more_at one stop count next)) (sym pushed)

  -- the last item
  pub last_one : (count left : ℕ) (bytes rest end : List ℕ) (before longer : List A) (x : A)
      (whole : Option (List A × List ℕ))
      → whole ≡ joined before (more_at one stop left bytes) → left ≡ count + 1 → one bytes ≡ Some (x, rest)
      → behind stop rest ≡ Some end → longer ≡ before ++ x ∷ [] → whole ≡ Some (longer, end)
  last_one count left bytes rest end before longer x whole is more found ends pushed =
      let suc_is : left ≡ suc count = omega (arith, more) in
      let steps = step count bytes rest x found in
      is ∙ ap (λ n. joined before (more_at one stop n bytes)) suc_is ∙ ap (joined before) steps
      ∙ ap (λ o. joined before (more_by x o (behind (codes ",") rest >>= more_at one stop count))) ends
      ∙ ap (λ l. Some (l, end)) (sym pushed)

  -- an item with neither behind it
  pub cut_off : (count left : ℕ) (bytes rest : List ℕ) (before : List A) (x : A) (whole : Option (List A × List ℕ))
      → whole ≡ joined before (more_at one stop left bytes) → left ≡ count + 1 → one bytes ≡ Some (x, rest)
      → behind stop rest ≡ None → behind (codes ",") rest ≡ None → whole ≡ None
  cut_off count left bytes rest before x whole is more found unended comma =
      let suc_is : left ≡ suc count = omega (arith, more) in
      let steps = step count bytes rest x found in
      is ∙ ap (λ n. joined before (more_at one stop n bytes)) suc_is ∙ ap (joined before) steps
      ∙ ap (λ o. joined before (more_by x o (behind (codes ",") rest >>= more_at one stop count))) unended
      ∙ ap (λ o. joined before (more_by x None (o >>= more_at one stop count))) comma

  no_more : (left : ℕ) (bytes : List ℕ) → one bytes ≡ None → more_at one stop left bytes ≡ None
  unfolding more_at
  no_more zero bytes none = refl
  no_more (suc left) bytes none = rw none refl

  -- no item
  pub no_item : (left : ℕ) (bytes : List ℕ) (before : List A) (whole : Option (List A × List ℕ))
      → whole ≡ joined before (more_at one stop left bytes) → one bytes ≡ None → whole ≡ None
  no_item left bytes before whole is none = is ∙ ap (joined before) (no_more left bytes none)

  -- no item is left to be read
  pub none_left : (left : ℕ) (bytes : List ℕ) (before : List A) (whole : Option (List A × List ℕ))
      → whole ≡ joined before (more_at one stop left bytes) → left ≡ 0 → whole ≡ None
  unfolding more_at
  none_left left bytes before whole is zero_is = is ∙ ap (λ n. joined before (more_at one stop n bytes)) zero_is

  joined_none : (more : Option (List A × List ℕ)) → more ≡ joined [] more
  joined_none (Some m) = refl
  joined_none None = refl

  pub first_one : (bytes : List ℕ) → behind stop bytes ≡ None
      → list_at one stop bytes ≡ joined [] (more_at one stop (length bytes) bytes)
  first_one bytes unended = ap (λ o. list_by o (more_at one stop (length bytes) bytes)) unended ∙ joined_none _

-- how values are read, by how deep their arrays nest
pub value_is : (depth : ℕ) (bytes : List ℕ) → value_at depth bytes ≡ first_by (value_by (array_by value_at depth)) bytes
unfolding value_at
value_is zero bytes = refl
value_is (suc depth) bytes = refl

-- a value that is no array
pub simple_is : (depth letter : ℕ) (bytes rest : List ℕ) → bytes ≡ letter ∷ rest → letter ≢ 91 → letter ≢ 33
    → value_at depth bytes ≡ simple_by letter rest
simple_is depth letter bytes rest is other another =
    let first : eqb letter 91 ≡ false = grind (arith, nat_tests) in
    let second : eqb letter 33 ≡ false = grind (arith, nat_tests) in
    ap (value_at depth) is ∙ value_is depth (letter ∷ rest) ∙ rw (first, second) refl
