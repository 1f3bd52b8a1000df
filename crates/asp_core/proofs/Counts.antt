-- How many of the runs pass a test, where one run has changed.
use Rattle.std.proofs.Common.{◌≡◌, ℕ, zero, suc, ◌+◌, ◌<◌, ◌≤◌, ◌==◌, Bool, true, false, if◌then◌else◌, List, [], ◌∷◌}
use Rattle.std.proofs.Common.{◌++◌, length, filter, refl, ap, sym, ◌∙◌, arith, append-nil, inl, inr, length-append}
use Rattle.std.proofs.lemmas.Bool.{cases_Bool, eqb-true}
use Rattle.std.proofs.lemmas.List.Elements.{filter-append}
use Rattle.asp_job.specs.History.{with_lane}
use Rattle.asp_job.specs.Journal.{AreRight}
use Rattle.asp_job.specs.Rules.{Rules}
use Rattle.asp_job.specs.Runs.{drawn, is_stage_unfinished, is_unfinished, numbers, stage_of, unfinished}
use Rattle.asp_job.specs.declared.entry.EndKind.{EndKind}
use Rattle.asp_job.specs.declared.entry.Entry.{Entry}
use Rattle.asp_job.specs.declared.entry.Stage.TheVariants.{Ended, Unfinished}
use Rattle.asp_job.specs.declared.entry.What.TheVariants.{End}
use Rattle.asp_journal.proofs.Numbers.{filter_same}
use Rattle.asp_journal.proofs.Others.{own_number, stage_other}
use Rattle.asp_core.proofs.Right.{is_drawn, numbered, unfinished_is}

not_same : (r other n : ℕ) → r ≡ suc n → other ≤ n → (r == other) ≡ false
not_same r other n is l = grind arith

pub smaller : (r n : ℕ) → r ≤ suc n → (r == suc n) ≡ false → r ≤ n
smaller r n l e = grind arith

joined_own : (x y xs : List ℕ) (last : ℕ) → x ≡ xs → y ≡ xs ++ last ∷ [] → length x + 1 ≡ length y
joined_own x y xs last e f = rw (e, f) (sym (length-append xs (last ∷ [])))

joined_other : (x y xs ys a b : List ℕ) → x ≡ xs ++ a → y ≡ ys ++ b → a ≡ b → length xs + 1 ≡ length ys → length x + 1
    ≡ length y
joined_other x y xs ys a b e f g h =
    let left : length x ≡ length xs + length a = ap length e ∙ length-append xs a in
    let right : length y ≡ length ys + length b = ap length f ∙ length-append ys b in
    let same : length a ≡ length b = ap length g in
    omega arith

-- one number less passes p than passes q
pub filter_one : (p q : ℕ → Bool) (n r : ℕ) → 0 < r → r ≤ n → q r ≡ true → p r ≡ false
    → ((other : ℕ) → (r == other) ≡ false → p other ≡ q other) → length (filter p (numbers n)) + 1
    ≡ length (filter q (numbers n))
filter_one p q zero r low high holds fails same = absurd (omega arith)
filter_one p q (suc n) r low high holds fails same = elim (cases_Bool (r == suc n)) [
  | inl own ↦ (let is : r ≡ suc n = eqb-true r (suc n) own in
      let front : filter p (numbers n) ≡ filter q (numbers n) = filter_same p q n
      (λ other l. same other (not_same r other n is l)) in
      let one : p (suc n) ≡ false = ap p (sym is) ∙ fails in
      let two : q (suc n) ≡ true = ap q (sym is) ∙ holds in
      let a : filter p (numbers (suc n)) ≡ filter p (numbers n) ++ filter p (suc n ∷ []) = filter-append p (numbers n)
      (suc n ∷ []) in
      let b : filter q (numbers (suc n)) ≡ filter q (numbers n) ++ filter q (suc n ∷ []) = filter-append q (numbers n)
      (suc n ∷ []) in
      let a2 : filter p (suc n ∷ []) ≡ [] = rw one refl in
      let b2 : filter q (suc n ∷ []) ≡ suc n ∷ [] = rw two refl in
      joined_own (filter p (numbers (suc n))) (filter q (numbers (suc n))) (filter p (numbers n)) (suc n)
      (a ∙ ap (λ x. filter p (numbers n) ++ x) a2 ∙ append-nil _) (b ∙ ap (λ x. filter q (numbers n) ++ x) b2
      ∙ ap (λ x. x ++ suc n ∷ []) (sym front)))
  | inr other ↦ (let less : r ≤ n = smaller r n high other in
      let ih = filter_one p q n r low less holds fails same in
      let last : p (suc n) ≡ q (suc n) = same (suc n) other in
      let a : filter p (numbers (suc n)) ≡ filter p (numbers n) ++ filter p (suc n ∷ []) = filter-append p (numbers n)
      (suc n ∷ []) in
      let b : filter q (numbers (suc n)) ≡ filter q (numbers n) ++ filter q (suc n ∷ []) = filter-append q (numbers n)
      (suc n ∷ []) in
      let c : filter p (suc n ∷ []) ≡ filter q (suc n ∷ []) = ap (λ t. if t then suc n ∷ [] else []) last in
      joined_other (filter p (numbers (suc n))) (filter q (numbers (suc n))) (filter p (numbers n))
      (filter q (numbers n)) (filter p (suc n ∷ [])) (filter q (suc n ∷ [])) a b c ih)
]

-- one run less is unfinished after an End
pub fewer_unfinished : (m : Rules) (past : List Entry) (lane run : ℕ) (kind : EndKind) (status size n1 n2 : ℕ)
    → AreRight m past → is_unfinished past run ≡ true
    → length (unfinished (with_lane lane (End run kind status size n1 n2) ∷ past)) + 1 ≡ length (unfinished past)
fewer_unfinished m past lane run kind status size n1 n2 right open_ =
    let what = End run kind status size n1 n2 in
    let new = with_lane lane what ∷ past in
    let own = own_number run in
    let stage : stage_of past run ≡ Unfinished = unfinished_is (stage_of past run) open_ in
    let known = numbered m past right run (ap is_drawn stage) in
    let after : stage_of new run ≡ Ended = rw own refl in
    filter_one (is_unfinished new) (is_unfinished past) (drawn past) run known.0 known.1 open_
    (ap is_stage_unfinished after)
    (λ other apart. ap is_stage_unfinished (stage_other past lane other what apart))
