-- The live keys as what is kept of one of them changes.
use Rattle.std.proofs.Common.{◌≡◌, ℕ, ◌+◌, ◌<◌, ◌≤◌, Bool, true, false, cond, if◌then◌else◌, is_some, ◌||◌, nat_eq}
use Rattle.std.proofs.Common.{List, [], ◌∷◌, ◌++◌}
use Rattle.std.proofs.Common.{Option, Some, None, refl, sym, ap, subst, ◌∙◌, arith}
use Rattle.std.proofs.lemmas.Bool.{ne_eqb}
use Rattle.std.proofs.lemmas.List.Elements.{All-cons, All-head, All-nil, All-tail}
use Rattle.std.specs.List.{All}
use Rattle.std.specs.Map.{lookup, remove_entry, set_value}
use Rattle.indexmap.specs.IndexMap.{insert_entry}
use Rattle.std.specs.Option.{option_map_or}
use Rattle.std.specs.Prelude.{IfSome}
use Rattle.asp_job.specs.declared.session.SessionState.{SessionState}
use Rattle.asp_job.specs.Session.{IsSession}
use Rattle.asp_session.specs.declared.after.After.{After}
use Rattle.asp_session.specs.declared.after.After.TheVariants.{Kept, Now}
use Rattle.asp_session.specs.declared.key.KeyState.{KeyState}
use Rattle.asp_session.specs.declared.key.Waiter.{Waiter}
use Rattle.asp_session.specs.Account.{waits}
use Rattle.asp_session.specs.Kept.{IsKeyOf}
use Rattle.asp_session.specs.Reading.{session_in}
use Rattle.asp_session.specs.Steps.{changed, forgotten, left_by}

-- what the map does as one of its values is written
pub written : (change : KeyState → KeyState) (key : ℕ) (state : KeyState) (entries : List (ℕ × KeyState))
    → Some state ≡ lookup (nat_eq key) entries
    → set_value (nat_eq key) entries (change state) ≡ changed change key entries
written change key state [] found = refl
written change key state (entry ∷ entries) found =
    by (nat_eq key entry.0) (written change key state entries) found
  where
    by : (same : Bool)
        → (Some state ≡ lookup (nat_eq key) entries
        → set_value (nat_eq key) entries (change state) ≡ changed change key entries)
        → Some state ≡ cond same (Some entry.1) (lookup (nat_eq key) entries)
        → cond same ((entry.0, change state) ∷ entries) (entry ∷ set_value (nat_eq key) entries (change state))
        ≡ (if same then (entry.0, change entry.1) ∷ entries else entry ∷ changed change key entries)
    by true rest found =
        let it : state ≡ entry.1 = cc in
        ap (λ (state : KeyState). (entry.0, change state) ∷ entries) it
    by false rest found = ap (λ (entries : List (ℕ × KeyState)). entry ∷ entries) (rest found)

-- nothing changes where the key is not there
pub unchanged : (change : KeyState → KeyState) (key : ℕ) (entries : List (ℕ × KeyState))
    → None ≡ lookup (nat_eq key) entries → changed change key entries ≡ entries
unchanged change key [] none = refl
unchanged change key (entry ∷ entries) none = by (nat_eq key entry.0) (unchanged change key entries) none
  where
    by : (same : Bool) → (None ≡ lookup (nat_eq key) entries → changed change key entries ≡ entries)
        → None ≡ cond same (Some entry.1) (lookup (nat_eq key) entries)
        → (if same then (entry.0, change entry.1) ∷ entries else entry ∷ changed change key entries) ≡ entry ∷ entries
    by true rest none = absurd (cc)
    by false rest none = ap (λ (entries : List (ℕ × KeyState)). entry ∷ entries) (rest none)

-- they stay what they may be where the change keeps it
pub changed_keys : (made : ℕ) (change : KeyState → KeyState) (key : ℕ) (entries : List (ℕ × KeyState))
    → ((entry : ℕ × KeyState) → IsKeyOf made entry → IsKeyOf made (entry.0, change entry.1))
    → All (IsKeyOf made) entries → All (IsKeyOf made) (changed change key entries)
changed_keys made change key [] keeps all = all
changed_keys made change key (entry ∷ entries) keeps all =
    by (nat_eq key entry.0) (changed_keys made change key entries keeps (All-tail (IsKeyOf made) entry entries all))
  where
    by : (same : Bool) → All (IsKeyOf made) (changed change key entries)
        → All (IsKeyOf made) (if same then (entry.0, change entry.1) ∷ entries else entry ∷ changed change key entries)
    by true rest =
        All-cons (IsKeyOf made) (entry.0, change entry.1) entries
        (keeps entry (All-head (IsKeyOf made) entry entries all)) (All-tail (IsKeyOf made) entry entries all)
    by false rest =
        All-cons (IsKeyOf made) entry (changed change key entries) (All-head (IsKeyOf made) entry entries all) rest

-- so they do without a key
pub remaining_keys : (made key : ℕ) (entries : List (ℕ × KeyState)) → All (IsKeyOf made) entries
    → All (IsKeyOf made) (remove_entry (nat_eq key) entries)
remaining_keys made key [] all = all
remaining_keys made key (entry ∷ entries) all =
    by (nat_eq key entry.0) (remaining_keys made key entries (All-tail (IsKeyOf made) entry entries all))
  where
    by : (same : Bool) → All (IsKeyOf made) (remove_entry (nat_eq key) entries)
        → All (IsKeyOf made) (cond same entries (entry ∷ remove_entry (nat_eq key) entries))
    by true rest = All-tail (IsKeyOf made) entry entries all
    by false rest =
        All-cons (IsKeyOf made) entry (remove_entry (nat_eq key) entries) (All-head (IsKeyOf made) entry entries all)
        rest

-- so they do where a key may be forgotten
pub forgotten_keys : (made key : ℕ) (waiting : List Waiter) (entries : List (ℕ × KeyState)) → All (IsKeyOf made) entries
    → All (IsKeyOf made) (forgotten key waiting entries)
forgotten_keys made key waiting entries all = by (is_some (session_in key entries) || waits key waiting)
  where
    by : (stays : Bool) → All (IsKeyOf made) (if stays then entries else remove_entry (nat_eq key) entries)
    by true = all
    by false = remaining_keys made key entries all

-- and with one more
pub more_keys : (made : ℕ) (state : KeyState) (entries : List (ℕ × KeyState)) → IsKeyOf (made + 1) (made + 1, state)
    → All (IsKeyOf made) entries → All (IsKeyOf (made + 1)) (entries ++ (made + 1, state) ∷ [])
more_keys made state [] new all = All-cons (IsKeyOf (made + 1)) (made + 1, state) [] new (All-nil (IsKeyOf (made + 1)))
more_keys made state (entry ∷ entries) new all =
    let first = All-head (IsKeyOf made) entry entries all in
    let below : entry.0 ≤ made + 1 = let was = first.below in omega arith in
    All-cons (IsKeyOf (made + 1)) entry (entries ++ (made + 1, state) ∷ []) (record { below = below; session = first.session })
    (more_keys made state entries new (All-tail (IsKeyOf made) entry entries all))

-- a number below is another
differ : (made number : ℕ) → number ≤ made → nat_eq (made + 1) number ≡ false
differ made number below = ne_eqb (made + 1) number (λ same. let one : made + 1 ≡ number = same in omega arith)

-- a key that was not made yet comes last
pub new_last : (made : ℕ) (state : KeyState) (entries : List (ℕ × KeyState)) → All (IsKeyOf made) entries
    → insert_entry nat_eq entries (made + 1) state ≡ entries ++ (made + 1, state) ∷ []
new_last made state [] all = refl
new_last made state (entry ∷ entries) all =
    let first = All-head (IsKeyOf made) entry entries all in
    let other : nat_eq (made + 1) entry.0 ≡ false = differ made entry.0 first.below in
    let rest = new_last made state entries (All-tail (IsKeyOf made) entry entries all) in
    λ i. if other i then (entry.0, state) ∷ entries else entry ∷ rest i

-- a session that is found may be
pub found_session : (made key : ℕ) (entries : List (ℕ × KeyState)) (session : SessionState)
    → All (IsKeyOf made) entries → Some session ≡ session_in key entries → IsSession session
found_session made key [] session all found = absurd (cc)
found_session made key (entry ∷ entries) session all found =
    by (nat_eq key entry.0) (found_session made key entries session (All-tail (IsKeyOf made) entry entries all)) found
  where
    by : (same : Bool) → (Some session ≡ session_in key entries → IsSession session)
        → Some session ≡ option_map_or (λ (state : KeyState). state.session)
        (cond same (Some entry.1) (lookup (nat_eq key) entries)) None
        → IsSession session
    by true rest is =
        subst (λ (found : Option SessionState). IfSome found IsSession) (sym is)
        (All-head (IsKeyOf made) entry entries all).session
    by false rest is = rest is

-- so may one that a run left
pub finished_may : (after : After) (before : Option SessionState)
    → ((session : SessionState) → after ≡ Now (Some session) → IsSession session)
    → IfSome before IsSession → IfSome (left_by after before) IsSession
finished_may Kept before may was = was
finished_may (Now None) before may was = tt
finished_may (Now (Some session)) before may was = may session refl

-- so may the session of a key, if it has one
pub kept_session : (made key : ℕ) (entries : List (ℕ × KeyState)) → All (IsKeyOf made) entries
    → IfSome (session_in key entries) IsSession
kept_session made key entries all =
    by (session_in key entries) (λ session found. found_session made key entries session all found)
  where
    by : (found : Option SessionState) → ((session : SessionState) → Some session ≡ found → IsSession session)
        → IfSome found IsSession
    by None may = tt
    by (Some session) may = may session refl
