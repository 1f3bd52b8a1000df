-- The oldest object that passes a test, found by the keys of a pool.
use Rattle.std.proofs.Common.{◌≡◌, ℕ, ◌+◌, ◌<◌, ◌≤◌, ◌++◌, ◌∷◌, [], List, Option, Some, None}
use Rattle.std.proofs.Common.{length, take, drop, get_or, ◌≢◌, ◌&&◌, ◌==◌, not, zero, suc}
use Rattle.std.proofs.Common.{filter_map, Bool, true, false, cond, refl, sym, ap, ◌∙◌, arith, append_assoc, inl, inr}
use Rattle.std.proofs.lemmas.Bool.{cases_lt}
use Rattle.std.proofs.lemmas.Bool.Decides.{nat_tests}
use Rattle.std.proofs.lemmas.List.{take-append-drop, take_all}
use Rattle.std.proofs.lemmas.List.Elements.{filter_map-append}
use Rattle.std.specs.Cmp.{nat_cmp_is}
use Rattle.std.specs.Ordering.{nat_cmp}
use Rattle.std.specs.declared.cmp.Ordering.TheVariants.{Greater}
use Rattle.slot_pool.specs.declared.key.SlotKey.{SlotKey}
use Rattle.slot_pool.specs.Pool.{Pool, NumbersRise, led_to, numbered}
use Rattle.vb_heap.specs.declared.object.Object.{Object}
use Rattle.vb_heap.specs.Releases.{oldest}
use Rattle.vb_heap.specs.Store.{numbered as found_in}
use Rattle.vb_heap.proofs.Walking.{one_more}

module _ {T : Type 0} where
  -- numbers that rise to a number
  bounds : (things : List (ℕ × T)) (low high : ℕ) → NumbersRise low things high → low ≤ high
  bounds [] low high rise = rise
  bounds (first ∷ others) low high rise = omega (arith, rise.0, bounds others (first.0 + 1) high rise.1)

  none_above : (things : List (ℕ × T)) (low high number : ℕ) → NumbersRise low things high → high ≤ number
      → found_in number things ≡ None
  none_above [] low high number rise above = refl
  none_above (first ∷ others) low high number rise above =
      let greater : nat_cmp number first.0 ≡ Greater =
      sym (nat_cmp_is number first.0 Greater (omega (arith, above, bounds others (first.0 + 1) high rise.1))) in
      rw greater (none_above others (first.0 + 1) high number rise.1 above)

  -- the number of a thing is below the next one
  pub below_next : (things : List (ℕ × T)) (low high number : ℕ) (thing : T) → NumbersRise low things high
      → found_in number things ≡ Some thing → number < high
  below_next things low high number thing rise there = elim (cases_lt number high) [
    | inl below ↦ below
    | inr above ↦ let none = none_above things low high number rise above in absurd (cc)
  ]

behind_first : (number : ℕ) (b : Bool) (rest both behind : Option ℕ) → cond b (Some number) rest ≡ None
    → (rest ≡ None → both ≡ behind) → cond b (Some number) both ≡ behind
behind_first number true rest both behind none same = absurd (cc)
behind_first number false rest both behind none same = same none

module _ (test : ℕ → Object → Bool) where
  -- where none of the first passes
  behind : (objects others : List (ℕ × Object)) → oldest test objects ≡ None
      → oldest test (objects ++ others) ≡ oldest test others
  behind [] others none = refl
  behind (first ∷ rest) others none =
      behind_first first.0 (test first.0 first.1) (oldest test rest) (oldest test (rest ++ others)) (oldest test others)
      none (behind rest others)

  module _ (pool : Pool Object) (keys : List SlotKey) (at : ℕ) where
    module _ (default : SlotKey) (within : at < length keys)
        (none : oldest test (filter_map (led_to pool) (take at keys)) ≡ None) where
      -- a key that leads nowhere
      pub nothing_there : numbered (get_or keys at default).number pool ≡ None
          → oldest test (filter_map (led_to pool) (take (at + 1) keys)) ≡ None
      nothing_there there =
          rw (one_more pool keys at default within)
          (behind (filter_map (led_to pool) (take at keys)) _ none ∙ rw there refl)

      module _ (object : Object) (there : numbered (get_or keys at default).number pool ≡ Some object) where
        -- an object that doesn't pass
        pub not_passed : test (get_or keys at default).number object ≡ false
            → oldest test (filter_map (led_to pool) (take (at + 1) keys)) ≡ None
        not_passed fails =
            rw (one_more pool keys at default within)
            (behind (filter_map (led_to pool) (take at keys)) _ none ∙ rw (there, fails) refl)

        -- one that passes
        pub passed : filter_map (led_to pool) keys ≡ pool.entries → test (get_or keys at default).number object ≡ true
            → oldest test pool.entries ≡ Some (get_or keys at default).number
        passed whole passes =
            rw (sym whole)
            (ap (λ all. oldest test (filter_map (led_to pool) all)) (sym (take-append-drop (at + 1) keys))
            ∙ (ap (oldest test) (filter_map-append (led_to pool) (take (at + 1) keys) (drop (at + 1) keys))
            ∙ (ap (λ some. oldest test (some ++ filter_map (led_to pool) (drop (at + 1) keys)))
            (one_more pool keys at default within)
            ∙ (ap (oldest test) (append_assoc (filter_map (led_to pool) (take at keys)) _ _)
            ∙ (behind (filter_map (led_to pool) (take at keys)) _ none ∙ rw (there, passes) refl)))))

    -- once each key was looked at
    pub none_passed : filter_map (led_to pool) keys ≡ pool.entries → length keys ≤ at
        → oldest test (filter_map (led_to pool) (take at keys)) ≡ None → oldest test pool.entries ≡ None
    none_passed whole seen none =
        rw (sym whole) (ap (λ all. oldest test (filter_map (led_to pool) all)) (sym (take_all at keys seen)) ∙ none)

-- a live object without references
pub passes_loose : (ending : Bool) (count : ℕ) → ending ≡ false → count ≡ 0 → not ending && (count == 0) ≡ true
passes_loose ending count live none = rw (live, none) refl

-- one with references, or one that is ending
pub fails_held : (ending : Bool) (count : ℕ) → count ≢ 0 → not ending && (count == 0) ≡ false
fails_held true count some = refl
fails_held false zero some = absurd (some refl)
fails_held false (suc count) some = grind (arith, nat_tests)
