-- A line that is read is the line that was written, and what was written is read again.
use Rattle.std.proofs.Common.{◌≡◌, ℕ, ◌^◌, ◌<◌, true, false, cond, ltb, eqb, List, [], ◌∷◌, ◌++◌}
use Rattle.std.proofs.Common.{Some, None, refl, sym, ap, subst, ◌∙◌, append_assoc, arith}
use Rattle.std.specs.Prelude.{codes}
use Rattle.std.specs.Fmt.{decimal}
use Rattle.std.proofs.lemmas.Bool.{lt-ltb, ltb-true}
use Rattle.std.proofs.lemmas.Option.{cond_some, some_pair_parts}
use Rattle.vb_value.specs.declared.application.AppCall.{AppCall}
use Rattle.vb_value.specs.declared.application.AppReply.{AppReply}
use Rattle.asp_job.specs.declared.entry.EndKind.{EndKind}
use Rattle.asp_job.specs.declared.entry.EndKind.TheVariants as kind
use Rattle.asp_job.specs.declared.job.Work.TheVariants as work
use Rattle.asp_record.specs.declared.journal.Line.{Line}
use Rattle.asp_record.specs.declared.journal.LineWhat.{LineWhat}
use Rattle.asp_record.specs.declared.journal.LineWhat.TheVariants as what
use Rattle.asp_record.specs.Entries.{kind_text}
use Rattle.asp_record.specs.Fields.{is_digit, marked_at}
use Rattle.asp_record.specs.Journal.{IsLine, IsWhat, line_text}
use Rattle.asp_record.specs.Values.{call_text, reply_text}
use Rattle.asp_record.specs.ReadingLines.{admit_at, app_at, begin_at, end_at, kind_at, laned_at}
use Rattle.asp_record.specs.ReadingLines.{line_at, narrow_at, queue_at, refuse_at}
use Rattle.asp_record.specs.ReadingLines.{run_at, run_by, session_key_at, short_at, stop_at, time_at}
use Rattle.asp_record.proofs.CallLaws.{call_again, reply_again}
use Rattle.asp_record.proofs.FieldLaws.{marked_again, marked_is, step_is}

-- ---- numbers

narrow_again : (n mark : ℕ) (rest : List ℕ) → n < 2 ^ 32 → is_digit mark ≡ false
    → narrow_at (mark ∷ []) (decimal n ++ mark ∷ rest) ≡ Some (n, rest)
unfolding narrow_at
narrow_again n mark rest small none =
    let low : ltb n 4294967296 ≡ true = lt-ltb n 4294967296 small in
    rw (marked_again n mark [] rest (omega (arith, small)) none, low) refl

short_again : (n mark : ℕ) (rest : List ℕ) → n < 2 ^ 16 → is_digit mark ≡ false
    → short_at (mark ∷ []) (decimal n ++ mark ∷ rest) ≡ Some (n, rest)
unfolding short_at
short_again n mark rest small none =
    let low : ltb n 65536 ≡ true = lt-ltb n 65536 small in
    rw (marked_again n mark [] rest (omega (arith, small)) none, low) refl

pub narrow_right : (mark : ℕ) (bytes : List ℕ) (n : ℕ) (rest : List ℕ) → narrow_at (mark ∷ []) bytes ≡ Some (n, rest)
    → (bytes ≡ decimal n ++ mark ∷ rest) × (n < 2 ^ 32)
unfolding narrow_at
narrow_right mark bytes n rest e =
    let a = step_is (marked_at (mark ∷ []) bytes) (λ m. cond (ltb m.0 4294967296) (Some m) None) (n, rest) e in
    let g = cond_some (ltb a.0.0 4294967296) a.0 (n, rest) a.2 in
    let same = some_pair_parts a.0.0 n a.0.1 rest (ap (λ p. Some p) g.1) in
    let text = marked_is (mark ∷ []) bytes a.0.0 a.0.1 a.1 in (
      text.0 ∙ ap (λ m. decimal m ++ mark ∷ a.0.1) same.0 ∙ ap (λ l. decimal n ++ mark ∷ l) same.1,
      subst (λ m. m < 2 ^ 32) same.0 (ltb-true a.0.0 4294967296 g.0),
    )

session_key_again : (key : ℕ) (rest : List ℕ) → 0 < key → key < 2 ^ 32
    → session_key_at (decimal key ++ 10 ∷ rest) ≡ Some (key, rest)
unfolding session_key_at
session_key_again key rest some small =
    let other : ltb 0 key ≡ true = lt-ltb 0 key some in
    rw (narrow_again key 10 rest small refl, other) refl

pub session_key_right : (bytes : List ℕ) (key : ℕ) (rest : List ℕ) → session_key_at bytes ≡ Some (key, rest)
    → (bytes ≡ decimal key ++ 10 ∷ rest) × (0 < key) × (key < 2 ^ 32)
unfolding session_key_at
session_key_right bytes key rest e =
    let a = step_is (narrow_at (codes "\n") bytes) (λ k. cond (ltb 0 k.0) (Some k) None) (key, rest) e in
    let g = cond_some (ltb 0 a.0.0) a.0 (key, rest) a.2 in
    let same = some_pair_parts a.0.0 key a.0.1 rest (ap (λ p. Some p) g.1) in
    let text = narrow_right 10 bytes a.0.0 a.0.1 a.1 in (
      text.0 ∙ ap (λ m. decimal m ++ 10 ∷ a.0.1) same.0 ∙ ap (λ l. decimal key ++ 10 ∷ l) same.1,
      subst (λ m. 0 < m) same.0 (ltb-true 0 a.0.0 g.0),
      subst (λ m. m < 2 ^ 32) same.0 text.1,
    )

pub short_right : (mark : ℕ) (bytes : List ℕ) (n : ℕ) (rest : List ℕ) → short_at (mark ∷ []) bytes ≡ Some (n, rest)
    → (bytes ≡ decimal n ++ mark ∷ rest) × (n < 2 ^ 16)
unfolding short_at
short_right mark bytes n rest e =
    let a = step_is (marked_at (mark ∷ []) bytes) (λ m. cond (ltb m.0 65536) (Some m) None) (n, rest) e in
    let g = cond_some (ltb a.0.0 65536) a.0 (n, rest) a.2 in
    let same = some_pair_parts a.0.0 n a.0.1 rest (ap (λ p. Some p) g.1) in
    let text = marked_is (mark ∷ []) bytes a.0.0 a.0.1 a.1 in (
      text.0 ∙ ap (λ m. decimal m ++ mark ∷ a.0.1) same.0 ∙ ap (λ l. decimal n ++ mark ∷ l) same.1,
      subst (λ m. m < 2 ^ 16) same.0 (ltb-true a.0.0 65536 g.0),
    )

-- ---- the text of each line, field by field

made : ℕ → LineWhat → Line
made lane done = record { lane = lane; what = done }

-- a letter, the lane, the run and what follows
abbrev pub of_run : ℕ → ℕ → ℕ → List ℕ → List ℕ
of_run letter lane run more = letter ∷ 32 ∷ (decimal lane ++ 32 ∷ (decimal run ++ 32 ∷ more))

abbrev pub text_of : ℕ → LineWhat → List ℕ → List ℕ
text_of lane done rest = line_text (record { lane = lane; what = done }) ++ rest

pub start_text : (lane run key : ℕ) (rest : List ℕ) →
    text_of lane (what.Queue run work.Start key) rest ≡ of_run 81 lane run (codes "start\n" ++ rest)
start_text lane run key rest = simp append_assoc

pub stop_text : (lane run key : ℕ) (rest : List ℕ) →
    text_of lane (what.Queue run work.Stop key) rest ≡ of_run 81 lane run (codes "stop\n" ++ rest)
stop_text lane run key rest = simp append_assoc

five : (a b c d e rest : List ℕ) → ((((a ++ b) ++ c) ++ d) ++ e) ++ rest ≡ a ++ (b ++ (c ++ (d ++ (e ++ rest))))
five a b c d e rest = simp append_assoc

end_parts : (lane run word key rest : List ℕ) →
    ((((81 ∷ []) ++ (32 ∷ lane)) ++ (32 ∷ run)) ++ (32 ∷ (word ++ (32 ∷ key))) ++ (10 ∷ [])) ++ rest
    ≡ 81 ∷ 32 ∷ (lane ++ 32 ∷ (run ++ 32 ∷ (word ++ 32 ∷ (key ++ 10 ∷ rest))))
end_parts lane run word key rest =
    five (81 ∷ []) (32 ∷ lane) (32 ∷ run) (32 ∷ (word ++ (32 ∷ key))) (10 ∷ []) rest
    ∙ ap (λ t. 81 ∷ 32 ∷ (lane ++ 32 ∷ (run ++ 32 ∷ t))) (append_assoc word (32 ∷ key) (10 ∷ rest))

pub end_text : (lane run key : ℕ) (rest : List ℕ)
    → text_of lane (what.Queue run work.SessionEnd key) rest
    ≡ of_run 81 lane run (codes "end " ++ (decimal key ++ 10 ∷ rest))
end_text lane run key rest = end_parts (decimal lane) (decimal run) (codes "end") (decimal key) rest

pub admit_text : (lane run key moment : ℕ) (rest : List ℕ)
    → text_of lane (what.Admit run key moment) rest ≡ of_run 65 lane run
    (decimal key ++ 32 ∷ (decimal moment ++ 10 ∷ rest))
admit_text lane run key moment rest = simp append_assoc

pub refuse_text : (lane run moment : ℕ) (rest : List ℕ) →
    text_of lane (what.Refuse run moment) rest ≡ of_run 88 lane run (decimal moment ++ 10 ∷ rest)
refuse_text lane run moment rest = simp append_assoc

pub begin_text : (lane run serial : ℕ) (rest : List ℕ) →
    text_of lane (what.Begin run serial) rest ≡ of_run 66 lane run (decimal serial ++ 10 ∷ rest)
begin_text lane run serial rest = simp append_assoc

app_parts : (lane run call reply rest : List ℕ) →
    (((((80 ∷ []) ++ (32 ∷ lane)) ++ (32 ∷ run)) ++ (32 ∷ call)) ++ (32 ∷ reply) ++ (10 ∷ [])) ++ rest
    ≡ 80 ∷ 32 ∷ (lane ++ 32 ∷ (run ++ 32 ∷ (call ++ 32 ∷ (reply ++ 10 ∷ rest))))
app_parts lane run call reply rest = simp append_assoc

pub app_line : (lane run : ℕ) (asked : AppCall) (given : AppReply) (rest : List ℕ)
    → text_of lane (what.App run asked given) rest ≡ of_run 80 lane run
    (call_text asked ++ 32 ∷ (reply_text given ++ 10 ∷ rest))
app_line lane run asked given rest = app_parts (decimal lane) (decimal run) (call_text asked) (reply_text given) rest

ended_parts : (lane run kind status size made finished rest : List ℕ)
    → ((((((((69 ∷ []) ++ (32 ∷ lane)) ++ (32 ∷ run)) ++ (32 ∷ kind)) ++ (32 ∷ status)) ++ (32 ∷ size)) ++ (32 ∷ made))
    ++ (32 ∷ finished) ++ (10 ∷ [])) ++ rest
    ≡ 69 ∷ 32 ∷ (lane ++ 32 ∷
    (run ++ 32 ∷ (kind ++ 32 ∷ (status ++ 32 ∷ (size ++ 32 ∷ (made ++ 32 ∷ (finished ++ 10 ∷ rest)))))))
ended_parts lane run kind status size made finished rest = simp append_assoc

pub ended_text : (lane run : ℕ) (ended : EndKind) (status size made finished : ℕ) (rest : List ℕ)
    → text_of lane (what.End run ended status size made finished) rest ≡ of_run 69 lane run
    (kind_text ended ++ 32 ∷
    (decimal status ++ 32 ∷ (decimal size ++ 32 ∷ (decimal made ++ 32 ∷ (decimal finished ++ 10 ∷ rest)))))
ended_text lane run ended status size made finished rest =
    ended_parts (decimal lane) (decimal run) (kind_text ended) (decimal status) (decimal size) (decimal made)
    (decimal finished) rest

pub tick_text : (lane moment : ℕ) (rest : List ℕ) →
    text_of lane (what.Tick moment) rest ≡ 84 ∷ 32 ∷ (decimal lane ++ 32 ∷ (decimal moment ++ 10 ∷ rest))
tick_text lane moment rest = simp append_assoc

pub halt_text : (lane : ℕ) (rest : List ℕ) → text_of lane what.Stop rest ≡ 83 ∷ 32 ∷ (decimal lane ++ 10 ∷ rest)
halt_text lane rest = simp append_assoc

-- ---- what was written is read again

kind_again : (ended : EndKind) (rest : List ℕ) → kind_at (kind_text ended ++ 32 ∷ rest) ≡ Some (ended, rest)
unfolding kind_at
kind_again kind.Done rest = refl
kind_again kind.Memory rest = refl
kind_again kind.JournalFull rest = refl

-- what a line of a run is read as, where what follows the run is read
of_run_again : (letter lane run : ℕ) (more rest : List ℕ) (done : LineWhat) → eqb letter 83 ≡ false →
    eqb letter 84 ≡ false
    → lane < 2 ^ 32 → run < 2 ^ 32 → run_by letter run more ≡ Some (done, rest)
    → line_at (of_run letter lane run more) ≡ Some (made lane done, rest)
unfolding line_at laned_at run_at made
of_run_again letter lane run more rest done other another low small reads =
    rw (
      other,
      narrow_again lane 32 (decimal run ++ 32 ∷ more) low refl,
      another,
      narrow_again run 32 more small refl,
      reads,
    ) refl

run_again : (lane : ℕ) (done : LineWhat) (rest : List ℕ) → lane < 2 ^ 32 → IsWhat done
    → line_at (text_of lane done rest) ≡ Some (made lane done, rest)
unfolding queue_at admit_at refuse_at begin_at app_at end_at line_at laned_at time_at stop_at made
run_again lane (what.Queue run work.Start key) rest low right =
    ap line_at (start_text lane run key rest) ∙ of_run_again 81 lane run (codes "start\n" ++ rest) rest
    (what.Queue run work.Start 0) refl refl low right.0 refl
    ∙ ap (λ k. Some (made lane (what.Queue run work.Start k), rest)) (sym right.1)
run_again lane (what.Queue run work.Stop key) rest low right =
    ap line_at (stop_text lane run key rest) ∙ of_run_again 81 lane run (codes "stop\n" ++ rest) rest
    (what.Queue run work.Stop 0) refl refl low right.0 refl
    ∙ ap (λ k. Some (made lane (what.Queue run work.Stop k), rest)) (sym right.1)
run_again lane (what.Queue run work.SessionEnd key) rest low right =
    ap line_at (end_text lane run key rest)
    ∙ of_run_again 81 lane run (codes "end " ++ (decimal key ++ 10 ∷ rest)) rest
    (what.Queue run work.SessionEnd key) refl refl low right.0
    (rw (session_key_again key rest right.1.0 right.1.1) refl)
run_again lane (what.Queue run (work.Page request) key) rest low right = absurd right.1
run_again lane (what.Admit run key moment) rest low right =
    let wide : moment < 18446744073709551616 = right.2 in
    ap line_at (admit_text lane run key moment rest)
    ∙ of_run_again 65 lane run (decimal key ++ 32 ∷ (decimal moment ++ 10 ∷ rest)) rest
    (what.Admit run key moment) refl refl low right.0
    (rw (narrow_again key 32 (decimal moment ++ 10 ∷ rest) right.1 refl, marked_again moment 10 [] rest wide refl) refl)
run_again lane (what.Refuse run moment) rest low right =
    ap line_at (refuse_text lane run moment rest)
    ∙ of_run_again 88 lane run (decimal moment ++ 10 ∷ rest) rest (what.Refuse run moment) refl refl low right.0
    (rw (marked_again moment 10 [] rest right.1 refl) refl)
run_again lane (what.Begin run serial) rest low right =
    ap line_at (begin_text lane run serial rest)
    ∙ of_run_again 66 lane run (decimal serial ++ 10 ∷ rest) rest (what.Begin run serial) refl refl low right.0
    (rw (narrow_again serial 10 rest right.1 refl) refl)
run_again lane (what.App run asked given) rest low right =
    ap line_at (app_line lane run asked given rest)
    ∙ of_run_again 80 lane run (call_text asked ++ 32 ∷ (reply_text given ++ 10 ∷ rest)) rest
    (what.App run asked given) refl refl low right.0
    (rw (call_again asked (reply_text given ++ 10 ∷ rest) right.1 right.3, reply_again given rest right.2 right.4) refl)
run_again lane (what.End run ended status size done finished) rest low right =
    let four = decimal finished ++ 10 ∷ rest in
    let three = decimal done ++ 32 ∷ four in
    let two = decimal size ++ 32 ∷ three in
    let one = decimal status ++ 32 ∷ two in
    ap line_at (ended_text lane run ended status size done finished rest)
    ∙ of_run_again 69 lane run (kind_text ended ++ 32 ∷ one) rest
    (what.End run ended status size done finished) refl refl low right.0
    (rw (
      kind_again ended one,
      short_again status 32 two right.1 refl,
      narrow_again size 32 three right.2 refl,
      narrow_again done 32 four right.3 refl,
      narrow_again finished 10 rest right.4 refl,
    ) refl)
run_again lane (what.Tick moment) rest low right =
    ap line_at (tick_text lane moment rest)
    ∙ rw (narrow_again lane 32 (decimal moment ++ 10 ∷ rest) low refl, marked_again moment 10 [] rest right refl) refl
run_again lane what.Stop rest low right = ap line_at (halt_text lane rest)
    ∙ rw (narrow_again lane 10 rest low refl) refl

pub line_again : (l : Line) (rest : List ℕ) → IsLine l → line_at (line_text l ++ rest) ≡ Some (l, rest)
unfolding made
line_again l rest right = run_again l.lane l.what rest right.lane right.right
