-- The numbers of names, when one more name comes.
use Rattle.std.proofs.Common.{◌≡◌, ℕ, ◌+◌, Bool, true, false, cond, if◌then◌else◌, List, [], ◌∷◌, ◌++◌}
use Rattle.std.proofs.Common.{zero, suc, ◌<◌, ◌^◌, length, length-append, drop, Option, Some, None, Result, Ok, is_some}
use Rattle.std.proofs.Common.{nat_eq, refl, sym, ap, ◌∙◌, arith}
use Rattle.std.specs.HashMap.{HashMap, get, IsUnchanged}
use Rattle.std.specs.Map.{lookup}
use Rattle.std.specs.Cmp.Lexicographic.{pointwise}
use Rattle.std.specs.List.{position_from}
use Rattle.std.proofs.lemmas.Slice.Eq.{bytes_eq-Decides}
use Rattle.std.proofs.lemmas.Bool.{false≢true, eqb-true, eq-eqb}
use Rattle.std.proofs.lemmas.Bool.Decides.{Decides-eqb, same_from_decides}
use Rattle.std.specs.Prelude.{unwrap_or}
use Rattle.vb_value.specs.Folding.{folded}
use Rattle.vb_value.specs.declared.memory.Memory.{Memory}
use Rattle.vb_syntax.specs.scope.Names.{Name, number_of_key, add_name}
use Rattle.vb_names.specs.Names.{IsNumbered, hashed, number_of_hash}

-- the first of a number that is found and another one
abbrev pub or_else : Option ℕ → Option ℕ → Option ℕ
or_else None other = other
or_else (Some found) other = Some found

-- the place in a longer list
pub position-push : (test : Name → Bool) (at : ℕ) (names : List Name) (name : Name)
    → position_from test at (names ++ name ∷ [])
    ≡ or_else (position_from test at names) (cond (test name) (Some (at + length names)) None)
position-push test at [] name = ap (λ n. cond (test name) (Some n) None) (omega arith)
position-push test at (first ∷ names) name = go (test first) (position-push test (at + 1) names name)
  where
    more : at + 1 + length names ≡ at + length (first ∷ names)
    more = omega arith

    go : (passes : Bool) → position_from test (at + 1) (names ++ name ∷ [])
        ≡ or_else (position_from test (at + 1) names) (cond (test name) (Some (at + 1 + length names)) None)
        → cond passes (Some at) (position_from test (at + 1) (names ++ name ∷ []))
        ≡ or_else (cond passes (Some at) (position_from test (at + 1) names))
        (cond (test name) (Some (at + length (first ∷ names))) None)
    go true later = refl
    go false later = later
        ∙ ap (λ n. or_else (position_from test (at + 1) names) (cond (test name) (Some n) None)) more

or_else-some : (number : Option ℕ) (other : Option ℕ) → is_some number ≡ true → or_else number other ≡ number
or_else-some (Some number) other is = refl
or_else-some None other is = absurd (false≢true is)

or_else-none : (number : Option ℕ) → or_else number None ≡ number
or_else-none (Some number) = refl
or_else-none None = refl

-- where one test finds nothing, a narrower one finds nothing
pub position-none : (wide narrow : Name → Bool) → ((name : Name) → narrow name ≡ true → wide name ≡ true)
    → (at : ℕ) (names : List Name) → position_from wide at names ≡ None → position_from narrow at names ≡ None
position-none wide narrow holds at [] none = refl
position-none wide narrow holds at (first ∷ names) none =
    go (wide first) (narrow first) refl refl (position-none wide narrow holds (at + 1) names) none
  where
    go : (w n : Bool) → wide first ≡ w → narrow first ≡ n
        → (position_from wide (at + 1) names ≡ None → position_from narrow (at + 1) names ≡ None)
        → cond w (Some at) (position_from wide (at + 1) names) ≡ None
        → cond n (Some at) (position_from narrow (at + 1) names) ≡ None
    go true n is _ later found = absurd (false≢true (sym (ap is_some found)))
    go false true is so later found = absurd (false≢true (sym is ∙ holds first so))
    go false false is so later found = later found

-- where one test finds a name behind some, a narrower one finds none among those
pub position-skip : (wide narrow : Name → Bool) → ((name : Name) → narrow name ≡ true → wide name ≡ true)
    → (at : ℕ) (names : List Name) (before : ℕ)
    → position_from wide at names ≡ Some (at + before)
    → position_from narrow (at + before) (drop before names) ≡ position_from narrow at names
position-skip wide narrow holds at names zero first = ap (λ n. position_from narrow n names) (omega arith)
position-skip wide narrow holds at [] (suc before) first = absurd (false≢true (ap is_some first))
position-skip wide narrow holds at (name ∷ names) (suc before) first =
    go (wide name) (narrow name) refl refl (position-skip wide narrow holds (at + 1) names before) first
  where
    more : at + 1 + before ≡ at + suc before
    more = omega arith

    go : (w n : Bool) → wide name ≡ w → narrow name ≡ n
        → (position_from wide (at + 1) names ≡ Some (at + 1 + before)
        → position_from narrow (at + 1 + before) (drop before names) ≡ position_from narrow (at + 1) names)
        → cond w (Some at) (position_from wide (at + 1) names) ≡ Some (at + suc before)
        → position_from narrow (at + suc before) (drop before names)
        ≡ cond n (Some at) (position_from narrow (at + 1) names)
    go true n so _ later found =
        let same : at ≡ at + suc before = ap (λ n. unwrap_or n 0) found in absurd (omega (arith, same))
    go false true so isn later found = absurd (false≢true (sym so ∙ holds name isn))
    go false false so isn later found = ap (λ n. position_from narrow n (drop before names)) (sym more)
        ∙ later (found ∙ ap Some (sym more))

-- what is equal has one number
same_hash : (key name : Name) → pointwise nat_eq key (folded name) ≡ true
    → nat_eq (hashed key) (hashed (folded name)) ≡ true
same_hash key name same = eq-eqb _ _ (ap hashed ((bytes_eq-Decides key (folded name)).0 same))

-- where no name's key has the hash, none is the key
pub unhashed : (names : List Name) (key : Name) → number_of_hash names (hashed key) ≡ None
    → number_of_key names key ≡ None
unhashed names key none = position-none (λ name. nat_eq (hashed key) (hashed (folded name)))
    (λ name. pointwise nat_eq key (folded name)) (same_hash key) 0 names none

-- no name has the key before the first whose key has its hash
pub hashed_from : (names : List Name) (key : Name) (first : ℕ) → number_of_hash names (hashed key) ≡ Some first
    → position_from (λ name. pointwise nat_eq key (folded name)) first (drop first names) ≡ number_of_key names key
hashed_from names key first is =
    ap (λ n. position_from (λ name. pointwise nat_eq key (folded name)) n (drop first names)) whole
    ∙ position-skip (λ name. nat_eq (hashed key) (hashed (folded name)))
    (λ name. pointwise nat_eq key (folded name)) (same_hash key) 0 names first (is ∙ ap Some whole)
  where
    whole : first ≡ 0 + first
    whole = omega arith

-- a hash that is there already changes no number
pub number_of_hash-again : (names : List Name) (name : Name) (hash : ℕ)
    → is_some (number_of_hash names (hashed (folded name))) ≡ true
    → number_of_hash (names ++ name ∷ []) hash ≡ number_of_hash names hash
number_of_hash-again names name hash there =
    position-push (λ other. nat_eq hash (hashed (folded other))) 0 names name
    ∙ go (nat_eq hash (hashed (folded name))) refl
  where
    go : (same : Bool) → nat_eq hash (hashed (folded name)) ≡ same
        → or_else (number_of_hash names hash) (cond same (Some (0 + length names)) None) ≡ number_of_hash names hash
    go true is = or_else-some (number_of_hash names hash) (Some (0 + length names))
        (ap (λ k. is_some (number_of_hash names k)) (eqb-true hash (hashed (folded name)) is) ∙ there)
    go false is = or_else-none (number_of_hash names hash)

-- a new hash gets the next number
pub number_of_hash-new : (names : List Name) (name : Name) (hash : ℕ) → number_of_hash names (hashed (folded name)) ≡ None
    → number_of_hash (names ++ name ∷ []) hash
    ≡ cond (nat_eq (hashed (folded name)) hash) (Some (length names)) (number_of_hash names hash)
number_of_hash-new names name hash absent =
    position-push (λ other. nat_eq hash (hashed (folded other))) 0 names name
    ∙ go (nat_eq (hashed (folded name)) hash) refl
  where
    turned : nat_eq hash (hashed (folded name)) ≡ nat_eq (hashed (folded name)) hash
    turned = same_from_decides _ _ (Decides-eqb hash (hashed (folded name)))
        (λ e. sym ((Decides-eqb (hashed (folded name)) hash).0 e), λ e. (Decides-eqb (hashed (folded name)) hash).1 (sym e))

    zero_more : 0 + length names ≡ length names
    zero_more = omega arith

    go : (same : Bool) → nat_eq (hashed (folded name)) hash ≡ same
        → or_else (number_of_hash names hash) (cond (nat_eq hash (hashed (folded name))) (Some (0 + length names)) None)
        ≡ cond same (Some (length names)) (number_of_hash names hash)
    go true is =
        ap (λ b. or_else (number_of_hash names hash) (cond b (Some (0 + length names)) None)) (turned ∙ is)
        ∙ ap (λ number. or_else number (Some (0 + length names)))
        (ap (number_of_hash names) (sym (eqb-true (hashed (folded name)) hash is)) ∙ absent)
        ∙ ap Some zero_more
    go false is =
        ap (λ b. or_else (number_of_hash names hash) (cond b (Some (0 + length names)) None)) (turned ∙ is)
        ∙ or_else-none (number_of_hash names hash)

-- one more name whose hash is there already
pub numbered_again : {S : Type 0} (numbers after : HashMap ℕ ℕ S) (names more : List Name) (name : Name) (hash : ℕ)
    → IsNumbered numbers names → more ≡ names ++ name ∷ [] → hash ≡ hashed (folded name) → length names < 2 ^ 32
    → is_some (get nat_eq numbers hash) ≡ true → IsUnchanged numbers after → IsNumbered after more
numbered_again numbers after names more name hash are all is few there same =
    let found : is_some (number_of_hash names (hashed (folded name))) ≡ true =
    ap (λ k. is_some (number_of_hash names k)) (sym is) ∙ ap is_some (sym (are.numbered hash)) ∙ there in
    let count : length more ≡ length names + 1 = ap length all ∙ length-append names (name ∷ []) in
    record {
      numbered = λ other. ap (lookup (nat_eq other)) same ∙ are.numbered other
          ∙ sym (ap (λ l. number_of_hash l other) all ∙ number_of_hash-again names name other found);
      few = omega (arith, count, few);
    }

-- one more name with a new hash
pub numbered_new : {S : Type 0} (numbers after : HashMap ℕ ℕ S) (names more : List Name) (name : Name) (hash number : ℕ)
    → IsNumbered numbers names → more ≡ names ++ name ∷ [] → hash ≡ hashed (folded name) → number ≡ length names
    → length names < 2 ^ 32 → get nat_eq numbers hash ≡ None
    → ((other : ℕ) → get nat_eq after other ≡ cond (nat_eq hash other) (Some number) (get nat_eq numbers other))
    → IsNumbered after more
numbered_new numbers after names more name hash number are all is next few absent puts =
    let new : number_of_hash names (hashed (folded name)) ≡ None =
    ap (number_of_hash names) (sym is) ∙ sym (are.numbered hash) ∙ absent in
    let count : length more ≡ length names + 1 = ap length all ∙ length-append names (name ∷ []) in
    record {
      numbered = λ other. puts other
          ∙ ap (λ k. cond (nat_eq k other) (Some number) (get nat_eq numbers other)) is
          ∙ ap (λ n. cond (nat_eq (hashed (folded name)) other) (Some n) (get nat_eq numbers other)) next
          ∙ ap (λ n. cond (nat_eq (hashed (folded name)) other) (Some (length names)) n) (are.numbered other)
          ∙ sym (ap (λ l. number_of_hash l other) all ∙ number_of_hash-new names name other new);
      few = omega (arith, count, few);
    }

-- a map with the same entries
pub numbered_same : {S : Type 0} (numbers after : HashMap ℕ ℕ S) (names : List Name) → IsUnchanged numbers after
    → IsNumbered numbers names → IsNumbered after names
numbered_same numbers after names same are = record {
  numbered = λ hash. ap (lookup (nat_eq hash)) same ∙ are.numbered hash;
  few = are.few;
}

-- one more name, whose number was put at its hash if none was there
pub numbered_put : {S : Type 0} (result : Result Bool Memory) (numbers after : HashMap ℕ ℕ S) (names more : List Name)
    (name : Name) (hash number : ℕ) (is_new : Bool)
    → IsNumbered numbers names → more ≡ names ++ name ∷ [] → hash ≡ hashed (folded name) → number ≡ length names
    → length names < 2 ^ 32 → result ≡ Ok is_new
    → (result ≡ Ok true → get nat_eq numbers hash ≡ None)
    → (result ≡ Ok true → (other : ℕ) → get nat_eq after other
    ≡ cond (nat_eq hash other) (Some number) (get nat_eq numbers other))
    → (result ≡ Ok false → is_some (get nat_eq numbers hash) ≡ true)
    → (result ≡ Ok false → IsUnchanged numbers after)
    → IsNumbered after more
numbered_put result numbers after names more name hash number true are all is next few answer absent puts there kept =
    numbered_new numbers after names more name hash number are all is next few (absent answer) (puts answer)
numbered_put result numbers after names more name hash number false are all is next few answer absent puts there kept =
    numbered_again numbers after names more name hash are all is few (there answer) (kept answer)

-- a name whose hash has no number is none of the names
pub absent_name : {S : Type 0} (numbers : HashMap ℕ ℕ S) (names seen : List Name) (name : Name) (hash : ℕ)
    → IsNumbered numbers names → seen ≡ names → hash ≡ hashed (folded name) → None ≡ get nat_eq numbers hash
    → number_of_key seen (folded name) ≡ None
absent_name numbers names seen name hash are same is none = ap (λ l. number_of_key l (folded name)) same
    ∙ unhashed names (folded name) (ap (number_of_hash names) (sym is) ∙ sym (are.numbered hash) ∙ sym none)

-- so it is added
pub added_name : (names more : List Name) (name : Name) → more ≡ names ++ name ∷ []
    → number_of_key names (folded name) ≡ None → more ≡ add_name names name
added_name names more name all absent = all ∙ sym (ap (λ n. if is_some n then names else names ++ name ∷ []) absent)
