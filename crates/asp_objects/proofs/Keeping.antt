-- The entries of a session stay such as a session may have, as they change.
use Rattle.std.proofs.Common.{◌≡◌, ◌≢◌, ◌∙◌, ℕ, ◌+◌, ◌-◌, ◌^◌, ◌<◌, ◌≤◌, min, Bool, true, false, List, [], ◌∷◌, ◌++◌}
use Rattle.std.proofs.Common.{length, get_or, Option, Some, None, zero, suc, cond, nat_lt, refl, sym, ap, subst, arith}
use Rattle.std.specs.List.{All, AllPairs, position, position_or_len, remove, sum_by}
use Rattle.std.specs.Prelude.{slice_set}
use Rattle.std.specs.Cmp.Lexicographic.{pointwise, bytes_decides}
use Rattle.std.proofs.lemmas.Bool.{le-ltb, lt-ltb}
use Rattle.std.proofs.lemmas.Bool.Decides.{nat_tests}
use Rattle.std.proofs.lemmas.List.{length-set}
use Rattle.std.proofs.lemmas.List.Elements.{All-set, All-push, All-take, All-drop, All-append}
use Rattle.std.proofs.lemmas.List.Quantifiers.{all_pairs_push, all_pairs_remove, position-Some}
use Rattle.std.proofs.lemmas.List.Sums.{sum_by-set, sum_by_push, sum_by-remove, get_or-le-sum_by, fails_before_first}
use Rattle.std.specs.Prelude.{Result, Ok, Err}
use Rattle.vb_value.specs.declared.memory.Memory.{Memory}
use Rattle.vb_value.specs.declared.value.Value.{Value}
use Rattle.vb_value.specs.Outcome.{Changes}
use Rattle.asp_job.specs.Calls.{IsName, IsShared}
use Rattle.asp_job.specs.declared.session.Named.{Named}
use Rattle.asp_job.specs.declared.session.SessionState.{SessionState}
use Rattle.asp_job.specs.Session.{Differ, IsEntry, IsSession, entry_weight}
use Rattle.asp_objects.specs.Entries.{IsWithin, entry_at, has_name, held_weight, is_full, place_of, put_at, removed_at}
use Rattle.asp_objects.specs.Entries.{with_value, without, weight_of_entries}

-- ---- weights

-- an entry that is put takes the place of what was there
pub put_weight : (at : Option ℕ) (entry : Named) (entries : List Named) → IsWithin at entries
    → weight_of_entries (put_at at entry entries) + held_weight at entries
    ≡ weight_of_entries entries + entry_weight entry
put_weight None entry entries within = let pushed = sum_by_push entry_weight entries entry in omega arith
put_weight (Some at) entry entries within = sum_by-set entry_weight entries at entry _ within

pub held_within : (at : Option ℕ) (entries : List Named) → IsWithin at entries
    → held_weight at entries ≤ weight_of_entries entries
held_within None entries within = omega arith
held_within (Some at) entries within = get_or-le-sum_by entry_weight entries at _ within

-- the sum that the code finds is the weight with the entry, as far as numbers of 64 bits go
pub sum_is_weight : (at : Option ℕ) (entry : Named) (entries : List Named) (total held one sum : ℕ) → IsWithin at entries
    → weight_of_entries entries ≤ 262144
    → total ≡ min (weight_of_entries entries) (2 ^ 64 - 1) → held ≡ min (held_weight at entries) (2 ^ 64 - 1)
    → one ≡ min (entry_weight entry) (2 ^ 64 - 1) → sum ≡ min (total - held + one) (2 ^ 64 - 1)
    → sum ≡ min (weight_of_entries (put_at at entry entries)) (2 ^ 64 - 1)
sum_is_weight at entry entries total held one sum within light total_is held_is one_is sum_is =
    let changed = put_weight at entry entries within in
    let less = held_within at entries within in
    omega arith

pub too_heavy : (entries : List Named) → 262144 < weight_of_entries entries → is_full entries ≡ true
too_heavy entries heavy = lt-ltb 262144 (weight_of_entries entries) heavy

pub light_enough : (entries : List Named) → weight_of_entries entries ≤ 262144 → is_full entries ≡ false
light_enough entries light = le-ltb 262144 (weight_of_entries entries) light

removed_weight : (at : Option ℕ) (entries : List Named) → IsWithin at entries
    → weight_of_entries (removed_at at entries) ≤ weight_of_entries entries
removed_weight None entries within = omega arith
removed_weight (Some at) entries within =
    let less = sum_by-remove entry_weight entries at (entry_at entries at) within in omega arith

-- ---- entries

put_entries : (at : Option ℕ) (entry : Named) (entries : List Named) → IsEntry entry → All IsEntry entries
    → All IsEntry (put_at at entry entries)
put_entries None entry entries is all = All-push IsEntry entries entry all is
put_entries (Some at) entry entries is all = All-set IsEntry entries at entry is all

removed_entries : (at : Option ℕ) (entries : List Named) → All IsEntry entries → All IsEntry (removed_at at entries)
removed_entries None entries all = all
removed_entries (Some at) entries all =
    All-append IsEntry _ _ (All-take IsEntry at entries all) (All-drop IsEntry (suc at) entries all)

-- ---- names

-- the name at each place stays, where an entry takes the place of one of its name
names_stay : (entries : List Named) (at : ℕ) (entry : Named) (d : Named) → at < length entries
    → (get_or entries at d).name ≡ entry.name → (k : ℕ)
    → (get_or (slice_set entries at entry) k d).name ≡ (get_or entries k d).name
names_stay [] at entry d within same k = absurd (omega arith)
names_stay (first ∷ entries) zero entry d within same zero = sym same
names_stay (first ∷ entries) zero entry d within same (suc k) = refl
names_stay (first ∷ entries) (suc at) entry d within same zero = refl
names_stay (first ∷ entries) (suc at) entry d within same (suc k) =
    names_stay entries at entry d (omega arith) same k

-- where no entry passes, each fails
fails_without : (p : Named → Bool) (entries : List Named) → position p entries ≡ None → (k : ℕ) (d : Named)
    → k < length entries → p (get_or entries k d) ≡ false
fails_without p entries is k d within = by (nat_lt (position_or_len p entries) (length entries)) refl is
  where
    by : (found : Bool) → nat_lt (position_or_len p entries) (length entries) ≡ found
        → cond found (Some (position_or_len p entries)) None ≡ None → p (get_or entries k d) ≡ false
    by true there same = absurd (cc)
    by false there same =
        let behind : length entries ≤ position_or_len p entries = grind (arith, nat_tests) in
        fails_before_first p entries k d (omega arith)

-- the place of a name has it, and where there is no place none has
place_has : (name : List ℕ) (entries : List Named) (at : ℕ) (d : Named) → place_of name entries ≡ Some at
    → (get_or entries at d).name ≡ name
place_has name entries at d is =
    (bytes_decides (get_or entries at d).name name).0 (position-Some (has_name name) entries at d is).1

none_has : (name : List ℕ) (entries : List Named) → place_of name entries ≡ None → (k : ℕ) (d : Named)
    → k < length entries → (get_or entries k d).name ≢ name
none_has name entries is k d within same =
    let yes = (bytes_decides (get_or entries k d).name name).1 same in
    let no = fails_without (has_name name) entries is k d within in
    absurd (cc)

put_differ : (name : List ℕ) (value : Value) (entries : List Named) (at : Option ℕ) → place_of name entries ≡ at
    → IsWithin at entries → AllPairs Differ entries
    → AllPairs Differ (put_at at (record { name = name; value = value }) entries)
put_differ name value entries None is within pairs =
    all_pairs_push Differ entries _ pairs (none_has name entries is)
put_differ name value entries (Some at) is within pairs =
    let entry : Named = record { name = name; value = value } in
    λ i j d low high same. pairs i j d low (rw (sym (length-set entries at entry)) high)
    (sym (names_stay entries at entry d within (place_has name entries at d is) i) ∙ same
    ∙ names_stay entries at entry d within (place_has name entries at d is) j)

removed_differ : (at : Option ℕ) (entries : List Named) → IsWithin at entries → AllPairs Differ entries
    → AllPairs Differ (removed_at at entries)
removed_differ None entries within pairs = pairs
removed_differ (Some at) entries within pairs = all_pairs_remove Differ entries at within pairs

-- ---- sessions

with_entries : (session : SessionState) (entries values : List Named) → entries ≡ values
    → IsSession (record session { values = values }) → IsSession (record session { values = entries })
with_entries session entries values same may =
    subst (λ (values : List Named). IsSession (record session { values = values })) (sym same) may

-- a session with an entry more that fits stays one that may be, and one that is as it was
pub may_put : (session : SessionState) (name : List ℕ) (value : Value) (at : Option ℕ)
    (result : Result (Unit {0}) Memory) (entries : List Named) → IsSession session
    → at ≡ place_of name session.values → IsWithin at session.values → IsName name → IsShared value
    → Changes result session.values entries (put_at at (record { name = name; value = value }) session.values)
    → weight_of_entries (put_at at (record { name = name; value = value }) session.values) ≤ 262144
    → IsSession (record session { values = entries })
may_put session name value at (Ok done) entries may is within named shared after light =
    with_entries session entries (put_at at (record { name = name; value = value }) session.values) after (record {
      counted = may.counted;
      few = may.few;
      lasts = may.lasts;
      ends = may.ends;
      entries =
          put_entries at (record { name = name; value = value }) session.values
          (record { name = named; plain = shared.0; sound = shared.1 }) may.entries;
      differ = put_differ name value session.values at (sym is) within may.differ;
      light = light;
      bare = may.bare;
    })
may_put session name value at (Err memory) entries may is within named shared after light =
    with_entries session entries session.values after may

-- a session without an entry
pub may_remove : (session : SessionState) (at : Option ℕ) (entries : List Named) → IsSession session
    → IsWithin at session.values → entries ≡ removed_at at session.values
    → IsSession (record session { values = entries })
may_remove session at entries may within after =
    let less = removed_weight at session.values within in
    with_entries session entries (removed_at at session.values) after (record {
      counted = may.counted;
      few = may.few;
      lasts = may.lasts;
      ends = may.ends;
      entries = removed_entries at session.values may.entries;
      differ = removed_differ at session.values within may.differ;
      light = let old = may.light in omega arith;
      bare = may.bare;
    })
