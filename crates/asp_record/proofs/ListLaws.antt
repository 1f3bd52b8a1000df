-- A list that is read is the list that was written, and what was written is read again.
use Rattle.std.proofs.Common.{◌≡◌, ℕ, zero, suc, ◌<◌, ◌≤◌, List, [], ◌∷◌, ◌++◌, length, Option, Some, None, map}
use Rattle.std.proofs.Common.{refl, sym, ap, ◌∙◌, subst, append_assoc, arith}
use Rattle.std.specs.Prelude.{codes}
use Rattle.std.specs.List.{flat_map}
use Rattle.std.proofs.lemmas.Option.{some_pair_parts}
use Rattle.std.proofs.lemmas.List.{length-append}
use Rattle.asp_record.specs.Fields.{◌>>=◌, behind}
use Rattle.asp_record.specs.Lines.{with_commas}
use Rattle.asp_record.specs.ReadingValues.{list_at, list_by, more_at, more_by}
use Rattle.asp_record.proofs.FieldLaws.{behind_again, behind_is, step_is}
use Rattle.asp_record.proofs.SignedLaws.{IsCut}

-- each item of a list is good
abbrev pub AreGood : {A : Type 0} → (A → Type 0) → List A → Type 0
AreGood good [] = Unit {0}
AreGood good (x ∷ items) = good x × AreGood good items

module _ {A : Type 0} (one : List ℕ → Option (A × List ℕ)) (text : A → List ℕ) (good : A → Type 0) where
  -- texts behind a first, each behind `,`
  abbrev pub commas : List A → List ℕ
  commas items = flat_map (λ other. codes "," ++ other) (map text items)

  -- what was written is read again, where something follows that ends an item
  abbrev pub ReadsAgain : Type 0
  ReadsAgain = (x : A) (rest : List ℕ) → good x → IsCut rest → one (text x ++ rest) ≡ Some (x, rest)

  -- what is read was written
  abbrev pub ReadsRight : Type 0
  ReadsRight = (bytes : List ℕ) (x : A) (rest : List ℕ) → one bytes ≡ Some (x, rest) → (bytes ≡ text x ++ rest) × good x

  -- a word that ends a list: it ends an item, and is not `,`
  pub record IsStop (stop : List ℕ) : Type 0 where
    pub cuts : (rest : List ℕ) → IsCut (stop ++ rest)
    pub apart : (rest : List ℕ) → behind stop (codes "," ++ rest) ≡ None

  pub more_again : (stop rest : List ℕ) (count : ℕ) (x : A) (items : List A) → ReadsAgain → IsStop stop → good x
      → AreGood good items
      → length items < count
      → more_at one stop count (text x ++ (commas items ++ (stop ++ rest))) ≡ Some (x ∷ items, rest)
  unfolding more_at
  more_again stop rest zero x items again ends right all fits = absurd (omega (arith, fits))
  more_again stop rest (suc count) x [] again ends right all fits =
      rw (again x (stop ++ rest) right (ends.cuts rest), behind_again stop rest) refl
  more_again stop rest (suc count) x (y ∷ items) again ends right all fits =
      let later = text y ++ (commas items ++ (stop ++ rest)) in
      let parts : commas (y ∷ items) ++ (stop ++ rest) ≡ codes "," ++ later =
      append_assoc (codes "," ++ text y) (commas items) (stop ++ rest) in
      let next = more_again stop rest count y items again ends all.0 all.1 (omega (arith, fits)) in
      rw (parts, again x (codes "," ++ later) right refl, ends.apart later, next) refl

  -- one item or more, read
  pub record IsMore (stop bytes : List ℕ) (items : List A) (rest : List ℕ) : Type 0 where
    pub first : A
    pub others : List A
    pub items_are : items ≡ first ∷ others
    pub text_is : bytes ≡ text first ++ (commas others ++ (stop ++ rest))
    pub right : good first
    pub all : AreGood good others

  more_by_right : (stop : List ℕ) (count : ℕ) (bytes later : List ℕ) (x : A) (items : List A) (rest : List ℕ)
      (o : Option (List ℕ))
      → (bytes ≡ text x ++ later) × good x
      → ((next : List ℕ) (m : List A × List ℕ) → more_at one stop count next ≡ Some m → IsMore stop next m.0 m.1)
      → behind stop later ≡ o → more_by x o (behind (codes ",") later >>= more_at one stop count) ≡ Some (items, rest)
      → IsMore stop bytes items rest
  more_by_right stop count bytes later x items rest (Some end) found more ends e =
      let parts = some_pair_parts (x ∷ []) items end rest e in
      record {
        first = x;
        others = [];
        items_are = sym parts.0;
        text_is = found.0 ∙ ap (λ l. text x ++ l) (behind_is stop later end ends)
            ∙ ap (λ l. text x ++ (stop ++ l)) parts.1;
        right = found.1;
        all = tt;
      }
  more_by_right stop count bytes later x items rest None found more ends e =
      let b = step_is (behind (codes ",") later >>= more_at one stop count) (λ m. Some (x ∷ m.0, m.1))
      (items, rest) e in
      let m = b.0 in
      let c = step_is (behind (codes ",") later) (more_at one stop count) m b.1 in
      let parts = some_pair_parts (x ∷ m.0) items m.1 rest b.2 in
      let next = more c.0 m c.2 in
      let comma = behind_is (codes ",") later c.0 c.1 in
      let split = sym (append_assoc (codes "," ++ text next.first) (commas next.others) (stop ++ m.1)) in
      record {
        first = x;
        others = next.first ∷ next.others;
        items_are = sym parts.0 ∙ ap (λ l. x ∷ l) next.items_are;
        text_is = found.0 ∙ ap (λ l. text x ++ l) (comma ∙ ap (λ l. codes "," ++ l) next.text_is ∙ split)
            ∙ ap (λ r. text x ++ (commas (next.first ∷ next.others) ++ (stop ++ r))) parts.1;
        right = found.1;
        all = (next.right, next.all);
      }

  pub more_right : (stop : List ℕ) (count : ℕ) (bytes : List ℕ) (m : List A × List ℕ) → ReadsRight
      → more_at one stop count bytes ≡ Some m → IsMore stop bytes m.0 m.1
  unfolding more_at
  more_right stop zero bytes m right e = absurd cc
  more_right stop (suc count) bytes m right e =
      let a = step_is (one bytes) (λ x. more_by x.0 (behind stop x.1)
      (behind (codes ",") x.1 >>= more_at one stop count)) m e in
      more_by_right stop count bytes a.0.1 a.0.0 m.0 m.1 (behind stop a.0.1) (right bytes a.0.0 a.0.1 a.1)
      (λ next n found. more_right stop count next n right found) refl a.2

  pub commas_size : (items : List A) → length items ≤ length (commas items)
  commas_size [] = omega arith
  commas_size (x ∷ items) =
      let more = commas_size items in
      let sum = length-append (codes "," ++ text x) (commas items) in
      omega (arith, more, sum)

  pub list_again : (stop rest : List ℕ) (items : List A) → ReadsAgain → IsStop stop → 0 < length stop
      → ((x : A) (later : List ℕ) → good x → behind stop (text x ++ later) ≡ None) → AreGood good items
      → list_at one stop (with_commas (map text items) ++ (stop ++ rest)) ≡ Some (items, rest)
  unfolding with_commas
  list_again stop rest [] again ends some starts all = rw (behind_again stop rest) refl
  list_again stop rest (x ∷ items) again ends some starts all =
      let later = commas items ++ (stop ++ rest) in
      let parts : with_commas (map text (x ∷ items)) ++ (stop ++ rest) ≡ text x ++ later =
      append_assoc (text x) (commas items) (stop ++ rest) in
      let size = commas_size items in
      let a = length-append (text x) later in
      let b = length-append (commas items) (stop ++ rest) in
      let c = length-append stop rest in
      let fits : length items < length (text x ++ later) = omega (arith, size, a, b, c, some) in
      ap (list_at one stop) parts
      ∙ ap (λ o. list_by o (more_at one stop (length (text x ++ later)) (text x ++ later))) (starts x later all.0)
      ∙ more_again stop rest (length (text x ++ later)) x items again ends all.0 all.1 fits

  list_by_right : (stop bytes : List ℕ) (items : List A) (rest : List ℕ) (o : Option (List ℕ)) → ReadsRight
      → behind stop bytes ≡ o
      → list_by o (more_at one stop (length bytes) bytes) ≡ Some (items, rest)
      → (bytes ≡ with_commas (map text items) ++ (stop ++ rest)) × AreGood good items
  unfolding with_commas
  list_by_right stop bytes items rest (Some end) right ends e =
      let parts = some_pair_parts [] items end rest e in (
        behind_is stop bytes end ends ∙ ap (λ l. stop ++ l) parts.1
            ∙ ap (λ l. with_commas (map text l) ++ (stop ++ rest)) parts.0,
        subst (AreGood good) parts.0 tt,
      )
  list_by_right stop bytes items rest None right ends e =
      let m = more_right stop (length bytes) bytes (items, rest) right e in (
        m.text_is ∙ sym (append_assoc (text m.first) (commas m.others) (stop ++ rest))
            ∙ ap (λ l. with_commas (map text l) ++ (stop ++ rest)) (sym m.items_are),
        subst (AreGood good) (sym m.items_are) (m.right, m.all),
      )

  pub list_right : (stop bytes : List ℕ) (items : List A) (rest : List ℕ) → ReadsRight
      → list_at one stop bytes ≡ Some (items, rest)
      → (bytes ≡ with_commas (map text items) ++ (stop ++ rest)) × AreGood good items
  list_right stop bytes items rest right e = list_by_right stop bytes items rest (behind stop bytes) right refl e
