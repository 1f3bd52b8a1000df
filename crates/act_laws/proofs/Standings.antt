-- What a world says of the objects that are there: whether a terminator has begun, and the class.
use Rattle.std.proofs.Common.{ℕ, ◌≡◌, ◌<◌, ◌⊎◌, Bool, true, false, cond, List, [], ◌∷◌, ◌++◌, Option, Some, None}
use Rattle.std.proofs.Common.{refl, sym, ap, ◌∙◌, inl, inr, arith}
use Rattle.std.proofs.lemmas.Bool.{cases_lt}
use Rattle.std.proofs.lemmas.Map.Steps.{set_value_same}
use Rattle.std.specs.Option.{option_map}
use Rattle.vb_heap.specs.declared.object.Object.{Object}
use Rattle.vb_heap.specs.Objects.{class_in}
use Rattle.vb_heap.specs.Store.{is_number, numbered, replaced, without}
use Rattle.vb_meaning.specs.World.{World}
use Rattle.act_laws.specs.Entries.{standing, standings}
use Rattle.act_laws.specs.Objects.{Account, HasBegun, IsLive, account_of, marks}

-- what is said of one object
abbrev pub looks : Bool → Option ℕ → Bool × Option ℕ
looks begun class = (begun, class)

abbrev pub look : Object → Bool × Option ℕ
look object = looks object.ending (class_in object.content)

pub looked_at : (objects : List (ℕ × Object)) (number : ℕ)
    → numbered number (standings objects) ≡ option_map look (numbered number objects)
looked_at [] number = refl
looked_at (first ∷ others) number = elim (is_number number first.0)
    as (λ b. cond b (Some (look first.1)) (numbered number (standings others))
    ≡ option_map look (cond b (Some first.1) (numbered number others))) [
      | true ↦ refl
      | false ↦ looked_at others number
    ]

-- the marks of an account are told by it

pub mark_of : (objects : List (ℕ × Object)) (number : ℕ)
    → numbered number (marks objects) ≡ option_map (λ (told : Bool × Option ℕ). told.0)
    (numbered number (standings objects))
mark_of [] number = refl
mark_of (first ∷ others) number = elim (is_number number first.0)
    as (λ b. cond b (Some first.1.ending) (numbered number (marks others))
    ≡ option_map (λ (told : Bool × Option ℕ). told.0)
    (cond b (Some (look first.1)) (numbered number (standings others)))) [
      | true ↦ refl
      | false ↦ mark_of others number
    ]

pub standings_replaced : (objects : List (ℕ × Object)) (number : ℕ) (object : Object)
    → standings (replaced number object objects) ≡ replaced number (look object) (standings objects)
standings_replaced [] number object = refl
standings_replaced (first ∷ others) number object = elim (is_number number first.0)
    as (λ b. standings (cond b ((first.0, object) ∷ others) (first ∷ replaced number object others))
    ≡ cond b ((first.0, look object) ∷ standings others)
    ((first.0, look first.1) ∷ replaced number (look object) (standings others))) [
      | true ↦ refl
      | false ↦ ap (λ rest. (first.0, look first.1) ∷ rest) (standings_replaced others number object)
    ]

pub standings_without : (objects : List (ℕ × Object)) (number : ℕ)
    → standings (without number objects) ≡ without number (standings objects)
standings_without [] number = refl
standings_without (first ∷ others) number = elim (is_number number first.0)
    as (λ b. standings (cond b others (first ∷ without number others))
    ≡ cond b (standings others) ((first.0, look first.1) ∷ without number (standings others))) [
      | true ↦ refl
      | false ↦ ap (λ rest. (first.0, look first.1) ∷ rest) (standings_without others number)
    ]

-- an object that is replaced by one of the same standing
pub standings_same : (objects : List (ℕ × Object)) (number : ℕ) (object changed : Object)
    → numbered number objects ≡ Some object → look changed ≡ look object
    → standings (replaced number changed objects) ≡ standings objects
standings_same objects number object changed is same = standings_replaced objects number changed
    ∙ ap (λ told. replaced number told (standings objects)) same
    ∙ set_value_same (is_number number) (standings objects) (look object)
    (looked_at objects number ∙ ap (λ found. option_map look found) is)

pub standings_more : (objects others : List (ℕ × Object))
    → standings (objects ++ others) ≡ standings objects ++ standings others
standings_more [] others = refl
standings_more (first ∷ rest) others = ap (λ more. (first.0, look first.1) ∷ more) (standings_more rest others)

-- what is there stays where more stands behind it
pub still_there : {T : Type 0} (things others : List (ℕ × T)) (number : ℕ) (thing : T)
    → numbered number things ≡ Some thing → numbered number (things ++ others) ≡ Some thing
still_there [] others number thing is = absurd (cc)
still_there {T} (first ∷ rest) others number thing is =
    at (is_number number first.0) (still_there rest others number thing) is
  where
    at : (b : Bool) → (numbered number rest ≡ Some thing → numbered number (rest ++ others) ≡ Some thing)
        → cond b (Some first.1) (numbered number rest) ≡ Some thing
        → cond b (Some first.1) (numbered number (rest ++ others)) ≡ Some thing
    at true later found = found
    at false later found = later found

-- a standing, and the class that it tells of
abbrev pub known : Bool → Option ℕ → Option (Bool × Option ℕ)
known begun class = Some (begun, class)

abbrev class_told : Option (Bool × Option ℕ) → Option ℕ
class_told (Some found) = found.1
class_told None = None

pub same_class : (begun again : Bool) (class other : Option ℕ) → known begun class ≡ known again other → other ≡ class
same_class begun again class other same = sym (ap class_told same)

-- ---- live objects

pub live_by : (number : ℕ) (world : World) (class : Option ℕ) → standing number world ≡ Some (false, class)
    → IsLive number (account_of world)
live_by number world class is = mark_of world.store.objects number
    ∙ ap (λ found. option_map (λ (told : Bool × Option ℕ). told.0) found) is

-- what is marked has a standing
marked_standing : (mark : Bool) (found : Option (Bool × Option ℕ))
    → option_map (λ (told : Bool × Option ℕ). told.0) found ≡ Some mark
    → (class : Option ℕ) × (found ≡ Some (mark, class))
marked_standing mark None is = absurd (cc)
marked_standing mark (Some told) is = (told.1, ap (λ b. Some (b, told.1)) (inside told.0 mark is))
  where
    inside : (b c : Bool) → Some b ≡ Some c → b ≡ c
    inside b c same = cc

pub standing_of : (number : ℕ) (world : World) (mark : Bool)
    → numbered number (account_of world).objects ≡ Some mark
    → (class : Option ℕ) × (standing number world ≡ Some (mark, class))
standing_of number world mark is = marked_standing mark (standing number world)
    (sym (mark_of world.store.objects number) ∙ is)

-- an object has begun to end, or it has not
pub begun_or_not : (number : ℕ) (account : Account)
    → HasBegun number account ⊎ (HasBegun number account → ⊥)
begun_or_not number account = elim (cases_lt number account.made) [
  | inl below ↦ by below (numbered number account.objects) refl
  | inr above ↦ inr (λ has. absurd (omega (arith, above, has.0)))
]
  where
    by : number < account.made → (found : Option Bool) → numbered number account.objects ≡ found
        → HasBegun number account ⊎ (HasBegun number account → ⊥)
    by below None is = inl (below, λ live. let both : None ≡ Some false = sym is ∙ live in absurd (cc))
    by below (Some true) is = inl (below, λ live. let both : Some true ≡ Some false = sym is ∙ live in absurd (cc))
    by below (Some false) is = inr (λ has. absurd (has.1 is))

-- one that was made and has not begun to end is live
pub not_begun_live : (number : ℕ) (account : Account) → number < account.made
    → (HasBegun number account → ⊥) → IsLive number account
not_begun_live number account below not = by (numbered number account.objects) refl
  where
    by : (found : Option Bool) → numbered number account.objects ≡ found → IsLive number account
    by (Some false) is = is
    by (Some true) is =
        absurd (not (below, λ live. let both : Some true ≡ Some false = sym is ∙ live in absurd (cc)))
    by None is = absurd (not (below, λ live. let both : None ≡ Some false = sym is ∙ live in absurd (cc)))
