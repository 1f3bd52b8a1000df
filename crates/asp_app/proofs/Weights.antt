-- What the entries weigh as they change.
use Rattle.std.proofs.Common.{◌≡◌, ℕ, ◌+◌, ◌-◌, ◌*◌, ◌^◌, min, ◌<◌, ◌≤◌, Bool, true, false, cond, if◌then◌else◌, List, [], ◌∷◌, length}
use Rattle.std.proofs.Common.{Some, refl, sym, ap, ◌∙◌, arith}
use Rattle.std.proofs.lemmas.Bool.{le-ltb, lt-ltb}
use Rattle.std.proofs.lemmas.List.Sums.{sum_by-cons}
use Rattle.std.specs.Cmp.Lexicographic.{bytes_decides}
use Rattle.std.specs.Map.{lookup}
use Rattle.std.specs.Option.{option_map_or}
use Rattle.vb_value.specs.declared.value.Value.{Value}
use Rattle.vb_value.specs.Weight.{weight_of}
use Rattle.asp_job.specs.Application.{is_name, is_full, most_weight, with_value, without, weight_of_entry, weight_of_entries}
use Rattle.asp_app.specs.Held.{held_weight}

-- one entry more in front
in_front : (entry : List ℕ × Value) (entries : List (List ℕ × Value))
    → weight_of_entries (entry ∷ entries) ≡ weight_of_entry entry + weight_of_entries entries
in_front entry entries = sum_by-cons weight_of_entry entry entries

-- entries of one name and one value weigh the same
alike : (name other : List ℕ) (value : Value) → is_name name other ≡ true
    → weight_of_entry (name, value) ≡ weight_of_entry (other, value)
alike name other value same = ap (λ name. weight_of_entry (name, value)) ((bytes_decides name other).0 same)

-- a value put under a name takes the place of what it had
pub put_weight : (name : List ℕ) (value : Value) (entries : List (List ℕ × Value))
    → weight_of_entries (with_value name value entries) + held_weight name entries
    ≡ weight_of_entries entries + weight_of_entry (name, value)
put_weight name value [] = omega arith
put_weight name value (entry ∷ entries) = by (is_name name entry.0) refl (put_weight name value entries)
  where
    by : (same : Bool) → is_name name entry.0 ≡ same
        → weight_of_entries (with_value name value entries) + held_weight name entries
        ≡ weight_of_entries entries + weight_of_entry (name, value)
        → weight_of_entries (if same then (entry.0, value) ∷ entries else entry ∷ with_value name value entries)
        + option_map_or (λ value. weight_of_entry (name, value)) (cond same (Some entry.1) (lookup (is_name name) entries)) 0
        ≡ weight_of_entries (entry ∷ entries) + weight_of_entry (name, value)
    by true is rest =
        let old = in_front entry entries in
        let new = in_front (entry.0, value) entries in
        let one = alike name entry.0 value is in
        let other : weight_of_entry (name, entry.1) ≡ weight_of_entry entry = alike name entry.0 entry.1 is in
        omega arith
    by false differs rest =
        let old = in_front entry entries in
        let new = in_front entry (with_value name value entries) in
        omega arith

-- without a name they weigh less by its entry
pub remove_weight : (name : List ℕ) (entries : List (List ℕ × Value))
    → weight_of_entries (without name entries) + held_weight name entries ≡ weight_of_entries entries
remove_weight name [] = refl
remove_weight name (entry ∷ entries) = by (is_name name entry.0) refl (remove_weight name entries)
  where
    by : (same : Bool) → is_name name entry.0 ≡ same
        → weight_of_entries (without name entries) + held_weight name entries ≡ weight_of_entries entries
        → weight_of_entries (cond same entries (entry ∷ without name entries))
        + option_map_or (λ value. weight_of_entry (name, value)) (cond same (Some entry.1) (lookup (is_name name) entries)) 0
        ≡ weight_of_entries (entry ∷ entries)
    by true is rest =
        let old = in_front entry entries in
        let other : weight_of_entry (name, entry.1) ≡ weight_of_entry entry = alike name entry.0 entry.1 is in
        omega arith
    by false differs rest =
        let old = in_front entry entries in
        let new = in_front entry (without name entries) in
        omega arith

-- the entry of a name weighs no more than all
pub held_within : (name : List ℕ) (entries : List (List ℕ × Value)) → held_weight name entries ≤ weight_of_entries entries
held_within name entries = let all = remove_weight name entries in omega arith

-- the sum that the code finds is the weight with a value under a name, as far as numbers of 64 bits go
pub sum_is_weight : (name : List ℕ) (value : Value) (entries : List (List ℕ × Value)) (weight held one sum : ℕ)
    → weight ≡ weight_of_entries entries → weight ≤ most_weight → held ≡ min (held_weight name entries) (2 ^ 64 - 1)
    → one ≡ min (weight_of_entry (name, value)) (2 ^ 64 - 1) → sum ≡ min (weight - held + one) (2 ^ 64 - 1)
    → sum ≡ min (weight_of_entries (with_value name value entries)) (2 ^ 64 - 1)
sum_is_weight name value entries weight held one sum weighed light held_is one_is sum_is =
    let changed = put_weight name value entries in
    let within = held_within name entries in
    omega arith

-- each entry weighs 32 at least
pub few_entries : (entries : List (List ℕ × Value)) → 32 * length entries ≤ weight_of_entries entries
few_entries [] = omega arith
few_entries (entry ∷ entries) =
    let old = in_front entry entries in
    let rest = few_entries entries in
    let least : 32 ≤ weight_of_entry entry = omega arith in
    omega arith

-- entries of more weight are too heavy
pub too_heavy : (entries : List (List ℕ × Value)) → most_weight < weight_of_entries entries → is_full entries ≡ true
too_heavy entries heavy = lt-ltb most_weight (weight_of_entries entries) heavy

-- others are not
pub light_enough : (entries : List (List ℕ × Value)) → weight_of_entries entries ≤ most_weight → is_full entries ≡ false
light_enough entries light = le-ltb most_weight (weight_of_entries entries) light
