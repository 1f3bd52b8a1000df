-- A line that is read is the line that was written.
use Rattle.std.proofs.Common.{◌≡◌, ℕ, ◌^◌, ◌<◌, eqb, inl, inr, List, [], ◌∷◌, ◌++◌}
use Rattle.std.proofs.Common.{Option, Some, refl, sym, ap, subst, ◌∙◌}
use Rattle.std.specs.Prelude.{codes}
use Rattle.std.specs.Fmt.{decimal}
use Rattle.std.proofs.lemmas.Option.{some_pair_parts}
use Rattle.asp_job.specs.declared.entry.EndKind.{EndKind}
use Rattle.asp_job.specs.declared.entry.EndKind.TheVariants as kind
use Rattle.asp_job.specs.declared.job.Work.TheVariants as work
use Rattle.asp_record.specs.declared.journal.Line.{Line}
use Rattle.asp_record.specs.declared.journal.LineWhat.{LineWhat}
use Rattle.asp_record.specs.declared.journal.LineWhat.TheVariants as what
use Rattle.asp_record.specs.Entries.{kind_text}
use Rattle.asp_record.specs.Fields.{◌>>=◌, behind, marked_at}
use Rattle.asp_record.specs.Journal.{IsLine, IsWhat, line_text}
use Rattle.asp_record.specs.Values.{call_text}
use Rattle.asp_record.specs.ReadingLines.{admit_at, app_at, begin_at, call_at, end_at, kind_at, laned_at}
use Rattle.asp_record.specs.ReadingLines.{lettered, line_at, line_by, narrow_at, queue_at, refuse_at, reply_at}
use Rattle.asp_record.specs.ReadingLines.{session_key_at}
use Rattle.asp_record.specs.ReadingLines.{run_at, run_by, short_at, stop_at, time_at, what_by}
use Rattle.asp_record.proofs.CallsRead.{call_right, chosen, reply_right}
use Rattle.asp_record.proofs.FieldLaws.{behind_is, marked_is, step_is}
use Rattle.asp_record.proofs.LineLaws.{admit_text, app_line, begin_text, end_text, ended_text, halt_text}
use Rattle.asp_record.proofs.LineLaws.{narrow_right, of_run, refuse_text, session_key_right, short_right, start_text}
use Rattle.asp_record.proofs.LineLaws.{stop_text, text_of}
use Rattle.asp_record.proofs.LineLaws.{tick_text}
use Rattle.asp_record.proofs.ValuesRead.{letter_is, tested}

-- what stands behind the run was written
record RunRight (letter run : ℕ) (bytes : List ℕ) (done : LineWhat) (rest : List ℕ) : Type 0 where
  text : (lane : ℕ) → of_run letter lane run bytes ≡ text_of lane done rest
  right : IsWhat done

run_from : (letter run : ℕ) (bytes : List ℕ) (made done : LineWhat) (left rest : List ℕ)
    → ((lane : ℕ) → of_run letter lane run bytes ≡ text_of lane made left) → IsWhat made
    → ◌≡◌ {A = Option (LineWhat × List ℕ)} (Some (made, left)) (Some (done, rest)) → RunRight letter run bytes done rest
run_from letter run bytes made done left rest text right e =
    let same = some_pair_parts made done left rest e in
    record {
      text = λ lane. text lane ∙ ap (λ w. text_of lane w left) same.0 ∙ ap (λ r. text_of lane done r) same.1;
      right = subst IsWhat same.0 right;
    }

queue_right : (run : ℕ) (bytes : List ℕ) (done : LineWhat) (rest : List ℕ) → run < 2 ^ 32 →
    queue_at run bytes ≡ Some (done, rest)
    → RunRight 81 run bytes done rest
unfolding queue_at
queue_right run bytes done rest small e = elim (chosen (behind (codes "start\n") bytes) _ _ (done, rest) e) [
  | inl a ↦ run_from 81 run bytes (what.Queue run work.Start 0) done a.0 rest
      (λ lane. ap (of_run 81 lane run) (behind_is (codes "start\n") bytes a.0 a.1) ∙ sym (start_text lane run 0 a.0))
      (small, refl) a.2
  | inr a ↦ elim (chosen (behind (codes "stop\n") bytes) _ _ (done, rest) a) [
    | inl b ↦ run_from 81 run bytes (what.Queue run work.Stop 0) done b.0 rest
        (λ lane. ap (of_run 81 lane run) (behind_is (codes "stop\n") bytes b.0 b.1) ∙ sym (stop_text lane run 0 b.0))
        (small, refl) b.2
    | inr b ↦
        let c = step_is (behind (codes "end ") bytes) (λ l. session_key_at l >>= λ key. Some
        (what.Queue run work.SessionEnd key.0, key.1)) (done, rest) b in
        let d = step_is (session_key_at c.0) (λ key. Some (what.Queue run work.SessionEnd key.0, key.1))
        (done, rest) c.2 in
        let key = session_key_right c.0 d.0.0 d.0.1 d.1 in
        run_from 81 run bytes (what.Queue run work.SessionEnd d.0.0) done d.0.1 rest
        (λ lane. ap (of_run 81 lane run) (behind_is (codes "end ") bytes c.0 c.1 ∙ ap (λ l. codes "end " ++ l) key.0)
        ∙ sym (end_text lane run d.0.0 d.0.1))
        (small, (key.1, key.2)) d.2
  ]
]

admit_right : (run : ℕ) (bytes : List ℕ) (done : LineWhat) (rest : List ℕ) → run < 2 ^ 32 →
    admit_at run bytes ≡ Some (done, rest)
    → RunRight 65 run bytes done rest
unfolding admit_at
admit_right run bytes done rest small e =
    let a = step_is (narrow_at (codes " ") bytes) (λ key. marked_at (codes "\n") key.1 >>= λ m. Some
    (what.Admit run key.0 m.0, m.1)) (done, rest) e in
    let b = step_is (marked_at (codes "\n") a.0.1) (λ m. Some (what.Admit run a.0.0 m.0, m.1)) (done, rest) a.2 in
    let key = narrow_right 32 bytes a.0.0 a.0.1 a.1 in
    let moment = marked_is (codes "\n") a.0.1 b.0.0 b.0.1 b.1 in
    run_from 65 run bytes (what.Admit run a.0.0 b.0.0) done b.0.1 rest
    (λ lane. ap (of_run 65 lane run) (key.0 ∙ ap (λ l. decimal a.0.0 ++ 32 ∷ l) moment.0)
    ∙ sym (admit_text lane run a.0.0 b.0.0 b.0.1))
    (small, key.1, moment.1) b.2

refuse_right : (run : ℕ) (bytes : List ℕ) (done : LineWhat) (rest : List ℕ) → run < 2 ^ 32 →
    refuse_at run bytes ≡ Some (done, rest)
    → RunRight 88 run bytes done rest
unfolding refuse_at
refuse_right run bytes done rest small e =
    let b = step_is (marked_at (codes "\n") bytes) (λ m. Some (what.Refuse run m.0, m.1)) (done, rest) e in
    let moment = marked_is (codes "\n") bytes b.0.0 b.0.1 b.1 in
    run_from 88 run bytes (what.Refuse run b.0.0) done b.0.1 rest
    (λ lane. ap (of_run 88 lane run) moment.0 ∙ sym (refuse_text lane run b.0.0 b.0.1)) (small, moment.1) b.2

begin_right : (run : ℕ) (bytes : List ℕ) (done : LineWhat) (rest : List ℕ) → run < 2 ^ 32 →
    begin_at run bytes ≡ Some (done, rest)
    → RunRight 66 run bytes done rest
unfolding begin_at
begin_right run bytes done rest small e =
    let b = step_is (narrow_at (codes "\n") bytes) (λ m. Some (what.Begin run m.0, m.1)) (done, rest) e in
    let serial = narrow_right 10 bytes b.0.0 b.0.1 b.1 in
    run_from 66 run bytes (what.Begin run b.0.0) done b.0.1 rest
    (λ lane. ap (of_run 66 lane run) serial.0 ∙ sym (begin_text lane run b.0.0 b.0.1)) (small, serial.1) b.2

app_right : (run : ℕ) (bytes : List ℕ) (done : LineWhat) (rest : List ℕ) → run < 2 ^ 32 →
    app_at run bytes ≡ Some (done, rest)
    → RunRight 80 run bytes done rest
unfolding app_at
app_right run bytes done rest small e =
    let a = step_is (call_at bytes) (λ asked. behind (codes " ") asked.1 >>= λ l. reply_at l >>= λ g. Some
    (what.App run asked.0 g.0, g.1)) (done, rest) e in
    let b = step_is (behind (codes " ") a.0.1) (λ l. reply_at l >>= λ g. Some (what.App run a.0.0 g.0, g.1))
    (done, rest) a.2 in
    let c = step_is (reply_at b.0) (λ g. Some (what.App run a.0.0 g.0, g.1)) (done, rest) b.2 in
    let asked = call_right bytes a.0.0 a.0.1 a.1 in
    let given = reply_right b.0 c.0.0 c.0.1 c.1 in
    run_from 80 run bytes (what.App run a.0.0 c.0.0) done c.0.1 rest
    (λ lane. ap (of_run 80 lane run) (asked.text ∙ ap (λ l. call_text a.0.0 ++ l)
    (behind_is (codes " ") a.0.1 b.0 b.1 ∙ ap (λ l. 32 ∷ l) given.text))
    ∙ sym (app_line lane run a.0.0 c.0.0 c.0.1)) (small, asked.right, given.right, asked.ranged, given.ranged) c.2

kind_right : (bytes : List ℕ) (ended : EndKind) (rest : List ℕ) → kind_at bytes ≡ Some (ended, rest) →
    bytes ≡ kind_text ended ++ 32 ∷ rest
unfolding kind_at
kind_right bytes ended rest e = elim (chosen (behind (codes "done ") bytes) _ _ (ended, rest) e) [
  | inl a ↦ kind_from bytes kind.Done ended a.0 rest (behind_is (codes "done ") bytes a.0 a.1) a.2
  | inr a ↦ elim (chosen (behind (codes "memory ") bytes) _ _ (ended, rest) a) [
    | inl b ↦ kind_from bytes kind.Memory ended b.0 rest (behind_is (codes "memory ") bytes b.0 b.1) b.2
    | inr b ↦ elim (chosen (behind (codes "journal ") bytes) _ _ (ended, rest) b) [
      | inl c ↦ kind_from bytes kind.JournalFull ended c.0 rest (behind_is (codes "journal ") bytes c.0 c.1) c.2
      | inr c ↦ absurd cc
    ]
  ]
]
  where
    kind_from : (bytes : List ℕ) (made ended : EndKind) (left rest : List ℕ) → bytes ≡ kind_text made ++ 32 ∷ left
        → ◌≡◌ {A = Option (EndKind × List ℕ)} (Some (made, left)) (Some (ended, rest))
        → bytes ≡ kind_text ended ++ 32 ∷ rest
    kind_from bytes made ended left rest text e =
        let same = some_pair_parts made ended left rest e in
        text ∙ ap (λ k. kind_text k ++ 32 ∷ left) same.0 ∙ ap (λ l. kind_text ended ++ 32 ∷ l) same.1

end_right : (run : ℕ) (bytes : List ℕ) (done : LineWhat) (rest : List ℕ) → run < 2 ^ 32 →
    end_at run bytes ≡ Some (done, rest)
    → RunRight 69 run bytes done rest
unfolding end_at
end_right run bytes done rest small e =
    let a = step_is (kind_at bytes) (λ k. short_at (codes " ") k.1 >>= λ s. narrow_at (codes " ") s.1 >>= λ z. narrow_at
    (codes " ") z.1 >>= λ m. narrow_at (codes "\n") m.1 >>= λ f. Some (what.End run k.0 s.0 z.0 m.0 f.0, f.1))
    (done, rest) e in
    let k = a.0 in
    let b = step_is (short_at (codes " ") k.1) (λ s. narrow_at (codes " ") s.1 >>= λ z. narrow_at
    (codes " ") z.1 >>= λ m. narrow_at (codes "\n") m.1 >>= λ f. Some (what.End run k.0 s.0 z.0 m.0 f.0, f.1))
    (done, rest) a.2 in
    let s = b.0 in
    let c = step_is (narrow_at (codes " ") s.1) (λ z. narrow_at (codes " ") z.1 >>= λ m. narrow_at
    (codes "\n") m.1 >>= λ f. Some (what.End run k.0 s.0 z.0 m.0 f.0, f.1)) (done, rest) b.2 in
    let z = c.0 in
    let d = step_is (narrow_at (codes " ") z.1) (λ m. narrow_at (codes "\n") m.1 >>= λ f. Some
    (what.End run k.0 s.0 z.0 m.0 f.0, f.1)) (done, rest) c.2 in
    let m = d.0 in
    let g = step_is (narrow_at (codes "\n") m.1) (λ f. Some (what.End run k.0 s.0 z.0 m.0 f.0, f.1)) (done, rest) d.2 in
    let f = g.0 in
    let one = kind_right bytes k.0 k.1 a.1 in
    let two = short_right 32 k.1 s.0 s.1 b.1 in
    let three = narrow_right 32 s.1 z.0 z.1 c.1 in
    let four = narrow_right 32 z.1 m.0 m.1 d.1 in
    let five = narrow_right 10 m.1 f.0 f.1 g.1 in
    run_from 69 run bytes (what.End run k.0 s.0 z.0 m.0 f.0) done f.1 rest
    (λ lane. ap (of_run 69 lane run) (one ∙ ap (λ l. kind_text k.0 ++ 32 ∷ l)
    (two.0 ∙ ap (λ l. decimal s.0 ++ 32 ∷ l) (three.0
    ∙ ap (λ l. decimal z.0 ++ 32 ∷ l) (four.0 ∙ ap (λ l. decimal m.0 ++ 32 ∷ l) five.0))))
    ∙ sym (ended_text lane run k.0 s.0 z.0 m.0 f.0 f.1)) (small, two.1, three.1, four.1, five.1) g.2

run_right : (letter run : ℕ) (bytes : List ℕ) (done : LineWhat) (rest : List ℕ) → run < 2 ^ 32 →
    run_by letter run bytes ≡ Some (done, rest)
    → RunRight letter run bytes done rest
run_right letter run bytes done rest small e = elim (tested (eqb letter 81) _ _ (done, rest) e) [
  | inl a ↦ subst (λ l. RunRight l run bytes done rest) (sym (letter_is letter 81 a.0))
      (queue_right run bytes done rest small a.1)
  | inr a ↦ elim (tested (eqb letter 65) _ _ (done, rest) a.1) [
    | inl b ↦ subst (λ l. RunRight l run bytes done rest) (sym (letter_is letter 65 b.0))
        (admit_right run bytes done rest small b.1)
    | inr b ↦ elim (tested (eqb letter 88) _ _ (done, rest) b.1) [
      | inl c ↦ subst (λ l. RunRight l run bytes done rest) (sym (letter_is letter 88 c.0))
          (refuse_right run bytes done rest small c.1)
      | inr c ↦ elim (tested (eqb letter 66) _ _ (done, rest) c.1) [
        | inl d ↦ subst (λ l. RunRight l run bytes done rest) (sym (letter_is letter 66 d.0))
            (begin_right run bytes done rest small d.1)
        | inr d ↦ elim (tested (eqb letter 80) _ _ (done, rest) d.1) [
          | inl f ↦ subst (λ l. RunRight l run bytes done rest) (sym (letter_is letter 80 f.0))
              (app_right run bytes done rest small f.1)
          | inr f ↦ elim (tested (eqb letter 69) _ _ (done, rest) f.1) [
            | inl g ↦ subst (λ l. RunRight l run bytes done rest) (sym (letter_is letter 69 g.0))
                (end_right run bytes done rest small g.1)
            | inr g ↦ let no = g.1 in absurd cc
          ]
        ]
      ]
    ]
  ]
]

-- ---- lines

-- the line was written
pub record LineRight (bytes : List ℕ) (l : Line) (rest : List ℕ) : Type 0 where
  pub text : bytes ≡ line_text l ++ rest
  pub right : IsLine l

line_from : (bytes : List ℕ) (lane : ℕ) (done : LineWhat) (l : Line) (left rest : List ℕ) →
    bytes ≡ text_of lane done left → lane < 2 ^ 32
    → IsWhat done → ◌≡◌ {A = Option (Line × List ℕ)} (Some (record { lane = lane; what = done }, left)) (Some (l, rest))
    → LineRight bytes l rest
line_from bytes lane done l left rest text low right e =
    let made : Line = record { lane = lane; what = done } in
    let same = some_pair_parts made l left rest e in
    let is : IsLine made = record { lane = low; right = right } in
    record {
      text = text ∙ ap (λ m. line_text m ++ left) same.0 ∙ ap (λ r. line_text l ++ r) same.1;
      right = subst IsLine same.0 is;
    }

stop_right : (bytes : List ℕ) (l : Line) (rest : List ℕ) → stop_at bytes ≡ Some (l, rest) →
    LineRight (83 ∷ 32 ∷ bytes) l rest
unfolding stop_at
stop_right bytes l rest e =
    let a = step_is (narrow_at (codes "\n") bytes) (λ lane. Some (record { lane = lane.0; what = what.Stop }, lane.1))
    (l, rest) e in
    let lane = narrow_right 10 bytes a.0.0 a.0.1 a.1 in
    line_from (83 ∷ 32 ∷ bytes) a.0.0 what.Stop l a.0.1 rest
    (ap (λ m. 83 ∷ 32 ∷ m) lane.0 ∙ sym (halt_text a.0.0 a.0.1)) lane.1 tt a.2

-- what stands behind the lane was written
record WhatRight (letter : ℕ) (bytes : List ℕ) (done : LineWhat) (rest : List ℕ) : Type 0 where
  text : (lane : ℕ) → letter ∷ 32 ∷ (decimal lane ++ 32 ∷ bytes) ≡ text_of lane done rest
  right : IsWhat done

time_right : (bytes : List ℕ) (done : LineWhat) (rest : List ℕ) → time_at bytes ≡ Some (done, rest) →
    WhatRight 84 bytes done rest
unfolding time_at
time_right bytes done rest e =
    let a = step_is (marked_at (codes "\n") bytes) (λ m. Some (what.Tick m.0, m.1)) (done, rest) e in
    let moment = marked_is (codes "\n") bytes a.0.0 a.0.1 a.1 in
    let same = some_pair_parts (what.Tick a.0.0) done a.0.1 rest a.2 in
    record {
      text = λ lane. ap (λ m. 84 ∷ 32 ∷ (decimal lane ++ 32 ∷ m)) moment.0 ∙ sym (tick_text lane a.0.0 a.0.1)
          ∙ ap (λ w. text_of lane w a.0.1) same.0 ∙ ap (λ r. text_of lane done r) same.1;
      right = subst IsWhat same.0 moment.1;
    }

with_run : (letter : ℕ) (bytes : List ℕ) (done : LineWhat) (rest : List ℕ) → run_at letter bytes ≡ Some (done, rest) →
    WhatRight letter bytes done rest
unfolding run_at
with_run letter bytes done rest e =
    let a = step_is (narrow_at (codes " ") bytes) (λ run. run_by letter run.0 run.1) (done, rest) e in
    let run = narrow_right 32 bytes a.0.0 a.0.1 a.1 in
    let right = run_right letter a.0.0 a.0.1 done rest run.1 a.2 in
    record {
      text = λ lane. ap (λ m. letter ∷ 32 ∷ (decimal lane ++ 32 ∷ m)) run.0 ∙ right.text lane;
      right = right.right;
    }

what_right : (letter : ℕ) (bytes : List ℕ) (done : LineWhat) (rest : List ℕ) →
    what_by letter bytes ≡ Some (done, rest) → WhatRight letter bytes done rest
what_right letter bytes done rest e = elim (tested (eqb letter 84) _ _ (done, rest) e) [
  | inl a ↦ subst (λ l. WhatRight l bytes done rest) (sym (letter_is letter 84 a.0)) (time_right bytes done rest a.1)
  | inr a ↦ with_run letter bytes done rest a.1
]

laned_right : (letter : ℕ) (bytes : List ℕ) (l : Line) (rest : List ℕ) → laned_at letter bytes ≡ Some (l, rest) →
    LineRight (letter ∷ 32 ∷ bytes) l rest
unfolding laned_at
laned_right letter bytes l rest e =
    let a = step_is (narrow_at (codes " ") bytes) (λ lane. what_by letter lane.1 >>= λ done. Some
    (record { lane = lane.0; what = done.0 }, done.1)) (l, rest) e in
    let b = step_is (what_by letter a.0.1) (λ done. Some (record { lane = a.0.0; what = done.0 }, done.1))
    (l, rest) a.2 in
    let lane = narrow_right 32 bytes a.0.0 a.0.1 a.1 in
    let right = what_right letter a.0.1 b.0.0 b.0.1 b.1 in
    line_from (letter ∷ 32 ∷ bytes) a.0.0 b.0.0 l b.0.1 rest
    (ap (λ m. letter ∷ 32 ∷ m) lane.0 ∙ right.text a.0.0) lane.1 right.right b.2

lettered_right : (bytes : List ℕ) (l : Line) (rest : List ℕ) → lettered bytes ≡ Some (l, rest) → LineRight bytes l rest
lettered_right [] l rest e = absurd cc
lettered_right (letter ∷ more) l rest e =
    let a = step_is (behind (codes " ") more) (line_by letter) (l, rest) e in
    let space = behind_is (codes " ") more a.0 a.1 in
    let whole : LineRight (letter ∷ 32 ∷ a.0) l rest = elim (tested (eqb letter 83) _ _ (l, rest) a.2) [
      | inl b ↦ subst (λ k. LineRight (k ∷ 32 ∷ a.0) l rest) (sym (letter_is letter 83 b.0)) (stop_right a.0 l rest b.1)
      | inr b ↦ laned_right letter a.0 l rest b.1
    ] in
    subst (λ m. LineRight (letter ∷ m) l rest) (sym space) whole

pub line_right : (bytes : List ℕ) (l : Line) (rest : List ℕ) → line_at bytes ≡ Some (l, rest) → LineRight bytes l rest
unfolding line_at
line_right bytes l rest e = lettered_right bytes l rest e
