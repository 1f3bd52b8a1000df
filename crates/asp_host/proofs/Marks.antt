-- Marks of runs, and the answers of a journal.
use Rattle.std.proofs.Common.{◌≡◌, ℕ, zero, suc, ◌+◌, ◌<◌, ◌==◌, Bool, true, false, List, [], ◌∷◌, ◌++◌}
use Rattle.std.proofs.Common.{Option, Some, None, is_some, length, slice_set, unwrap_or, refl, ap, sym, ◌∙◌}
use Rattle.std.proofs.Common.{arith, length-append, inl, inr, get_or, reverse, take}
use Rattle.std.specs.Option.{option_map}
use Rattle.std.proofs.lemmas.Bool.{cases_Bool, eqb-true}
use Rattle.std.proofs.lemmas.Grind.{get_or-set_at}
use Rattle.std.proofs.lemmas.List.{get_or-set_other, reverse-append, take_more}
use Rattle.asp_core.specs.Ready.{IsAnswered, IsAnsweredBy}
use Rattle.asp_journal.proofs.Past.{page_more}
use Rattle.asp_job.specs.declared.entry.Entry.{Entry}
use Rattle.asp_job.specs.declared.entry.What.{What}
use Rattle.asp_job.specs.declared.entry.What.TheVariants.{Queue, Admit, Refuse, Tick, Begin, App, End, Take, Stop, Halt}
use Rattle.asp_job.specs.declared.answer.Answer.{Answer}
use Rattle.asp_job.specs.declared.job.Work.{Work}
use Rattle.asp_job.specs.declared.job.Work.TheVariants as work
use Rattle.asp_job.specs.Output.{answer_by, unavailable_in}
use Rattle.asp_job.specs.Rules.{Rules, TooManySessions}
use Rattle.asp_job.specs.Running.{is_page}
use Rattle.asp_job.specs.Runs.{job_in, job_of}
use Rattle.asp_feed.specs.Shown.{Shown, shown_of, with_shown}
use Rattle.asp_host.specs.Answered.{AreMarkedBy, AreMarks, AreSameMarks, IsMarked, leaves_answer, one_if}

-- a place without a mark changes none
pub place_more : (pages : List Bool) → AreSameMarks pages (pages ++ false ∷ [])
place_more [] zero = refl
place_more [] (suc run) = refl
place_more (page ∷ pages) zero = refl
place_more (page ∷ pages) (suc run) = place_more pages run

eqb_of : (a b : ℕ) → a ≡ b → (a == b) ≡ true
eqb_of a b e = grind arith

differ : (run other : ℕ) → (run == other) ≡ false → run ≡ other → ⊥
differ run other apart same = cc (eqb_of run other same)

-- a mark that is put in its place
pub mark_put : (pages : List Bool) (run : ℕ) (page : Bool) → run < length pages
    → IsMarked run page pages (slice_set pages run page)
mark_put pages run page within other = elim (cases_Bool (run == other)) [
  | inl same ↦ (let is : run ≡ other = eqb-true run other same in
      let found = get_or-set_at pages run other page false (sym is) within in rw same found)
  | inr apart ↦ (let found = get_or-set_other pages run other page false (λ e. differ run other apart (sym e)) in
      rw apart found)
]

pub no_marks : AreMarks [] []
no_marks zero = refl
no_marks (suc run) = refl

-- the marks after one entry more
pub marks_more : (past : List Entry) (entry : Entry) (old new : List Bool) → AreMarks past old
    → AreMarkedBy entry.what old new → AreMarks (entry ∷ past) new
marks_more past entry old new marks marked run =
    marked run ∙ (ap (unwrap_or (option_map (λ job. is_page job.work) (job_in run entry.what))) (marks run)
    ∙ sym (page_more (job_in run entry.what) (job_of past run)))

-- ---- answers

shown_length : (shown : List Shown) (run moment : ℕ) (answer : Option Answer)
    → length (with_shown shown run moment answer) ≡ length shown + one_if (is_some answer)
shown_length shown run moment None = omega arith
shown_length shown run moment (Some answer) = length-append shown _

unavailable_some : (rules : Rules) (asked : Work) → is_some (unavailable_in rules TooManySessions asked) ≡ is_page asked
unavailable_some rules (work.Page request) = refl
unavailable_some rules work.Start = refl
unavailable_some rules work.SessionEnd = refl
unavailable_some rules work.Stop = refl

answers_by : (rules : Rules) (past : List Entry) (lane : ℕ) (what : What) (pages : List Bool) → AreMarks past pages
    → IsAnsweredBy rules past what
    → length (shown_of rules (record { lane = lane; what = what } ∷ past))
    ≡ length (shown_of rules past) + one_if (leaves_answer pages what)
answers_by rules past lane (End run kind status size made finished) pages marks answered =
    shown_length (shown_of rules past) run (job_of past run).moment (answer_by rules past run kind)
    ∙ ap (λ one. length (shown_of rules past) + one_if one) (answered ∙ sym (marks run))
answers_by rules past lane (Refuse run job) pages marks answered =
    shown_length (shown_of rules past) run job.moment (unavailable_in rules TooManySessions job.work)
    ∙ ap (λ one. length (shown_of rules past) + one_if one) (unavailable_some rules job.work)
answers_by rules past lane (Queue run asked key) pages marks answered = omega arith
answers_by rules past lane (Admit run key fresh job) pages marks answered = omega arith
answers_by rules past lane (Tick moment) pages marks answered = omega arith
answers_by rules past lane (Begin run serial) pages marks answered = omega arith
answers_by rules past lane (App run call reply) pages marks answered = omega arith
answers_by rules past lane (Take run) pages marks answered = omega arith
answers_by rules past lane Stop pages marks answered = omega arith
answers_by rules past lane Halt pages marks answered = omega arith

-- the answers of a journal are so many
abbrev pub AreCounted : List Entry → ℕ → Type 0
AreCounted past count = (rules : Rules) → IsAnswered rules past → count ≡ length (shown_of rules past)

-- one entry more leaves one answer more, or none
pub counted_more : (past : List Entry) (entry : Entry) (pages : List Bool) (count : ℕ) → AreMarks past pages
    → AreCounted past count → AreCounted (entry ∷ past) (count + one_if (leaves_answer pages entry.what))
counted_more past entry pages count marks counted rules answered =
    ap (λ before. before + one_if (leaves_answer pages entry.what)) (counted rules answered.1)
    ∙ sym (answers_by rules past entry.lane entry.what pages marks answered.0)

pub none_counted : AreCounted [] 0
none_counted rules answered = refl

-- the past of a journal read one entry further
pub past_more : (journal : List Entry) (i : ℕ) (d : Entry) → i < length journal
    → reverse (take (i + 1) journal) ≡ get_or journal i d ∷ reverse (take i journal)
past_more journal i d h = ap reverse (take_more journal i d h)
    ∙ reverse-append (take i journal) (get_or journal i d ∷ [])
