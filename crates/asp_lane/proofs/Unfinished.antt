-- Which runs are unfinished, where one run begins or ends and no other is unfinished.
use Rattle.std.proofs.Common.{◌≡◌, ℕ, zero, suc, ◌+◌, ◌<◌, ◌≤◌, ◌==◌, Bool, true, false, if◌then◌else◌, List, [], ◌∷◌}
use Rattle.std.proofs.Common.{◌++◌, length, filter, refl, ap, sym, ◌∙◌, arith, append-nil, inl, inr, Option, Some, None}
use Rattle.std.proofs.lemmas.Bool.{cases_Bool, eqb-true}
use Rattle.std.proofs.lemmas.List.Elements.{filter-append}
use Rattle.vb_value.specs.declared.application.AppCall.{AppCall}
use Rattle.asp_job.specs.declared.entry.EndKind.{EndKind}
use Rattle.asp_job.specs.declared.entry.Entry.{Entry}
use Rattle.asp_job.specs.declared.entry.Stage.TheVariants.{Unfinished, Waiting}
use Rattle.asp_job.specs.declared.entry.What.TheVariants.{Begin, End}
use Rattle.asp_job.specs.Application.{blocker_of, has_lock, is_guarded}
use Rattle.asp_job.specs.History.{held_by, with_lane}
use Rattle.asp_job.specs.Journal.{AreRight}
use Rattle.asp_job.specs.Rules.{Rules}
use Rattle.asp_job.specs.Runs.{drawn, is_stage_unfinished, is_unfinished, numbers, stage_of, unfinished}
use Rattle.asp_job.specs.Turns.{may_begin}
use Rattle.asp_core.proofs.Counts.{fewer_unfinished, smaller}
use Rattle.asp_core.proofs.Holding.{holder_unfinished}
use Rattle.asp_journal.proofs.Others.{own_number, stage_other}
use Rattle.asp_core.proofs.Right.{is_drawn, may_begin_waits, numbered, unfinished_is}

-- ---- numbers that pass a test

append_empty : (xs ys : List ℕ) → xs ++ ys ≡ [] → (xs ≡ []) × (ys ≡ [])
append_empty [] ys e = (refl, e)
append_empty (x ∷ xs) ys e = absurd cc

one_empty : (b : Bool) (n : ℕ) → (if b then n ∷ [] else []) ≡ [] → b ≡ false
one_empty true n e = absurd cc
one_empty false n e = refl

-- where no number up to n passes, a given one does not
filter_empty : (p : ℕ → Bool) (n k : ℕ) → filter p (numbers n) ≡ [] → 0 < k → k ≤ n → p k ≡ false
filter_empty p zero k e low high = absurd (omega arith)
filter_empty p (suc n) k e low high =
    let split = sym (filter-append p (numbers n) (suc n ∷ [])) ∙ e in
    let parts = append_empty (filter p (numbers n)) (filter p (suc n ∷ [])) split in
    let last : p (suc n) ≡ false = one_empty (p (suc n)) (suc n) parts.1 in
    elim (cases_Bool (k == suc n)) [
      | inl own ↦ (let is : k ≡ suc n = eqb-true k (suc n) own in ap p is ∙ last)
      | inr other ↦ filter_empty p n k parts.0 low (smaller k n high other)
    ]

last_only : (xs : List ℕ) (a r : ℕ) → xs ++ a ∷ [] ≡ r ∷ [] → (xs ≡ []) × (a ≡ r)
last_only [] a r e = (refl, cc)
last_only (x ∷ []) a r e = absurd cc
last_only (x ∷ y ∷ rest) a r e = absurd cc

-- where one number alone passes, each that does is that one
only_one : (p : ℕ → Bool) (n r k : ℕ) → filter p (numbers n) ≡ r ∷ [] → 0 < k → k ≤ n → p k ≡ true → k ≡ r
only_one p zero r k e low high holds = absurd (omega arith)
only_one p (suc n) r k e low high holds =
    let front = filter p (numbers n) in
    let split : front ++ filter p (suc n ∷ []) ≡ r ∷ [] = sym (filter-append p (numbers n) (suc n ∷ [])) ∙ e in
    elim (cases_Bool (p (suc n))) [
      | inl last ↦ (let one : filter p (suc n ∷ []) ≡ suc n ∷ [] = rw last refl in
          let parts = last_only front (suc n) r (ap (λ ys. front ++ ys) (sym one) ∙ split) in
          elim (cases_Bool (k == suc n)) [
            | inl own ↦ eqb-true k (suc n) own ∙ parts.1
            | inr other ↦ absurd (let fails = filter_empty p n k parts.0 low (smaller k n high other) in
                let both : true ≡ false = sym holds ∙ fails in cc)
          ])
      | inr none ↦ (let one : filter p (suc n ∷ []) ≡ [] = rw none refl in
          let kept : front ≡ r ∷ [] = sym (append-nil front) ∙ ap (λ ys. front ++ ys) (sym one) ∙ split in
          elim (cases_Bool (k == suc n)) [
            | inl own ↦ absurd (let is : k ≡ suc n = eqb-true k (suc n) own in
                let both : true ≡ false = sym holds ∙ ap p is ∙ none in cc)
            | inr other ↦ only_one p n r k kept low (smaller k n high other) holds
          ])
    ]

-- where none up to n passes, the list is empty
none_pass : (p : ℕ → Bool) (n : ℕ) → ((k : ℕ) → k ≤ n → p k ≡ false) → filter p (numbers n) ≡ []
none_pass p zero none = refl
none_pass p (suc n) none =
    let front : filter p (numbers n) ≡ [] = none_pass p n (λ k l. none k (omega arith)) in
    let last : p (suc n) ≡ false = none (suc n) (omega arith) in
    let one : filter p (suc n ∷ []) ≡ [] = rw last refl in
    filter-append p (numbers n) (suc n ∷ []) ∙ ap (λ xs. xs ++ filter p (suc n ∷ [])) front ∙ one

not_same : (r other n : ℕ) → r ≡ suc n → other ≤ n → (r == other) ≡ false
not_same r other n is l = grind arith

-- where one number passes and no other does, the list has it alone
pass_one : (p : ℕ → Bool) (n r : ℕ) → 0 < r → r ≤ n → p r ≡ true
    → ((other : ℕ) → (r == other) ≡ false → p other ≡ false) → filter p (numbers n) ≡ r ∷ []
pass_one p zero r low high holds others = absurd (omega arith)
pass_one p (suc n) r low high holds others = elim (cases_Bool (r == suc n)) [
  | inl own ↦ (let is : r ≡ suc n = eqb-true r (suc n) own in
      let front : filter p (numbers n) ≡ [] = none_pass p n (λ k l. others k (not_same r k n is l)) in
      let last : p (suc n) ≡ true = ap p (sym is) ∙ holds in
      let one : filter p (suc n ∷ []) ≡ suc n ∷ [] = rw last refl in
      filter-append p (numbers n) (suc n ∷ []) ∙ ap (λ xs. xs ++ filter p (suc n ∷ [])) front ∙ one
      ∙ ap (λ k. k ∷ []) (sym is))
  | inr other ↦ (let front = pass_one p n r low (smaller r n high other) holds others in
      let last : p (suc n) ≡ false = others (suc n) other in
      let one : filter p (suc n ∷ []) ≡ [] = rw last refl in
      filter-append p (numbers n) (suc n ∷ []) ∙ ap (λ xs. xs ++ filter p (suc n ∷ [])) front
      ∙ ap (λ ys. (r ∷ []) ++ ys) one)
]

-- ---- the runs that are unfinished

-- where no run is unfinished, a given one is not
pub not_unfinished : (m : Rules) (past : List Entry) → AreRight m past → unfinished past ≡ [] → (r : ℕ)
    → is_unfinished past r ≡ false
not_unfinished m past right none r = elim (cases_Bool (is_unfinished past r)) [
  | inl busy ↦ (let stage : stage_of past r ≡ Unfinished = unfinished_is (stage_of past r) busy in
      let known = numbered m past right r (ap is_drawn stage) in
      filter_empty (is_unfinished past) (drawn past) r none known.0 known.1)
  | inr idle ↦ idle
]

-- where one run alone is unfinished, each that is unfinished is that one
pub only_unfinished : (m : Rules) (past : List Entry) (run r : ℕ) → AreRight m past → unfinished past ≡ run ∷ []
    → is_unfinished past r ≡ true → r ≡ run
only_unfinished m past run r right alone busy =
    let stage : stage_of past r ≡ Unfinished = unfinished_is (stage_of past r) busy in
    let known = numbered m past right r (ap is_drawn stage) in
    only_one (is_unfinished past) (drawn past) run r alone known.0 known.1 busy

-- the run that begins is the only one
pub begun_alone : (m : Rules) (past : List Entry) (lane run serial : ℕ) → AreRight m past → unfinished past ≡ []
    → may_begin past run ≡ true → unfinished (with_lane lane (Begin run serial) ∷ past) ≡ run ∷ []
begun_alone m past lane run serial right none may =
    let new = with_lane lane (Begin run serial) ∷ past in
    let stage : stage_of past run ≡ Waiting = may_begin_waits past run may in
    let known = numbered m past right run (ap is_drawn stage) in
    let own = own_number run in
    let after : stage_of new run ≡ Unfinished = rw own refl in
    pass_one (is_unfinished new) (drawn past) run known.0 known.1 (ap is_stage_unfinished after)
    (λ other apart. ap is_stage_unfinished (stage_other past lane other (Begin run serial) apart)
    ∙ not_unfinished m past right none other)

empty_if : (xs : List ℕ) → length xs + 1 ≡ 1 → xs ≡ []
empty_if [] e = refl
empty_if (x ∷ xs) e = absurd (omega arith)

-- none is left after the End of the only one
pub ended_none : (m : Rules) (past : List Entry) (lane run : ℕ) (kind : EndKind) (status size n1 n2 : ℕ)
    → AreRight m past → is_unfinished past run ≡ true → unfinished past ≡ run ∷ []
    → unfinished (with_lane lane (End run kind status size n1 n2) ∷ past) ≡ []
ended_none m past lane run kind status size n1 n2 right busy alone =
    let fewer = fewer_unfinished m past lane run kind status size n1 n2 right busy in
    empty_if (unfinished (with_lane lane (End run kind status size n1 n2) ∷ past)) (fewer ∙ ap length alone)

-- ---- its calls

blocked_by : (own guarded : Bool) (holder : Option ℕ) (r : ℕ)
    → (if own then None else if guarded then holder else None) ≡ Some r → (own ≡ false) × (holder ≡ Some r)
blocked_by true guarded holder r e = absurd cc
blocked_by false true holder r e = (refl, e)
blocked_by false false holder r e = absurd cc

-- no lock keeps a call of the only unfinished run out, under either rule
pub never_blocked : (m : Rules) (strict : Bool) (past : List Entry) (run holder : ℕ) (call : AppCall) → AreRight m past
    → unfinished past ≡ run ∷ [] → blocker_of strict (held_by past) run call ≡ Some holder → ⊥
never_blocked m strict past run holder call right alone e =
    let held = held_by past in
    let blocked = blocked_by (has_lock run held) (is_guarded strict call) held.holder holder e in
    let holds : held.holder ≡ Some holder = blocked.1 in
    let without : has_lock run held ≡ false = blocked.0 in
    let same : holder ≡ run =
    only_unfinished m past run holder right alone (holder_unfinished m past holder right holds) in
    let other : (holder == run) ≡ false = rw holds at without in
    let own : (holder == run) ≡ true = rw same (own_number run) in cc
