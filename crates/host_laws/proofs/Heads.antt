-- Each answer that a journal has for a run is sound.
use Rattle.std.proofs.Common.{ℕ, zero, suc, ◌+◌, ◌*◌, ◌-◌, ◌/◌, ◌%◌, ◌≡◌, ◌<◌, ◌==◌, Bool, true, false, if◌then◌else◌}
use Rattle.std.proofs.Common.{List, [], ◌∷◌, Option, Some, None, IfSome, refl, subst, arith}
use Rattle.std.specs.List.{All}
use Rattle.std.proofs.lemmas.List.Elements.{All-append, All-cons, All-nil}
use Rattle.std.proofs.Math.Nat.{mod-lt}
use Rattle.asp_core.specs.declared.setting.Setting.{Setting}
use Rattle.asp_core.specs.Kernel.{rules_by, unavailable_by}
use Rattle.asp_job.specs.declared.answer.Answer.{Answer}
use Rattle.asp_job.specs.declared.answer.Finished.{Finished}
use Rattle.asp_job.specs.declared.entry.EndKind.{EndKind}
use Rattle.asp_job.specs.declared.entry.EndKind.TheVariants as kind
use Rattle.asp_job.specs.declared.entry.Entry.{Entry}
use Rattle.asp_job.specs.declared.entry.What.{What}
use Rattle.asp_job.specs.declared.entry.What.TheVariants.{End, Refuse}
use Rattle.asp_job.specs.declared.job.Work.{Work}
use Rattle.asp_job.specs.declared.job.Work.TheVariants as work
use Rattle.asp_job.specs.declared.request.Request.{Request}
use Rattle.asp_job.specs.Keys.{told}
use Rattle.asp_job.specs.Output.{answer_by, answer_in, answer_of_run, unavailable_in}
use Rattle.asp_job.specs.Rules.{Cause, JournalFull, OutOfMemory, Rules, TooManySessions}
use Rattle.asp_job.specs.Runs.{draw_of, job_of}
use Rattle.asp_job.specs.Told.{Ends, Outcome, Told, Wants}
use Rattle.asp_response.specs.declared.fixed.Unavailable.{Unavailable}
use Rattle.asp_response.specs.declared.fixed.Unavailable.TheVariants as cause
use Rattle.asp_response.specs.AnswerText.{IsAnswerText}
use Rattle.asp_response.specs.Fixed.{unavailable_of}
use Rattle.asp_response.specs.Sound.{ArePrintable, HasWholeLines, IsGraphic, IsPrintable, IsSound}
use Rattle.asp_acts.specs.Running.{does, meaning_of}
use Rattle.asp_session.specs.Letters.{letter, letters_of, number_letters, word_letters}
use Rattle.asp_site.specs.declared.site.Site.{Site}
use Rattle.host_laws.specs.Heads.{HeadsStayWhole}

-- the laws of answers and of runs
abbrev pub HeadsWhole : Type 0
HeadsWhole = (answer : Answer) (moment : ℕ) (bytes : List ℕ) → IsSound answer → IsAnswerText answer moment bytes
    → HasWholeLines bytes

abbrev pub CausesSound : Type 0
CausesSound = (cause : Unavailable) (head_only close : Bool) → IsSound (unavailable_of cause head_only close)

abbrev pub RunsSound : Type 0
RunsSound = (site : Site) (told : Told) (finished : Finished) → ArePrintable told.cookie
    → does site told ≡ Ends finished → IfSome finished.answer IsSound

-- ---- the letters of keys

letter_graphic : (number : ℕ) → IsGraphic (letter number)
letter_graphic number =
    let below : number % 26 < 26 = mod-lt number {m = 26} (omega arith) in
    record { least = omega (arith, below); most = omega (arith, below) }

number_graphic : (count number : ℕ) → All IsGraphic (number_letters count number)
number_graphic zero number = All-nil IsGraphic
number_graphic (suc count) number = All-append IsGraphic (number_letters count (number / 26)) (letter number ∷ [])
    (number_graphic count (number / 26))
    (All-cons IsGraphic (letter number) [] (letter_graphic number) (All-nil IsGraphic))

words_graphic : (seed : List ℕ) (count place : ℕ) → All IsGraphic (word_letters seed count place)
words_graphic seed zero place = All-nil IsGraphic
words_graphic seed (suc count) place = All-cons IsGraphic _ (word_letters seed count (place + 1)) (letter_graphic _)
    (words_graphic seed count (place + 1))

letters_printable : (seed : List ℕ) (key : ℕ) → IsPrintable (letters_of seed key)
letters_printable seed key = record {
  each = All-append IsGraphic (number_letters 8 key) (word_letters seed 16 (16 * (key - 1))) (number_graphic 8 key)
      (words_graphic seed 16 (16 * (key - 1)));
}

module _ (causes : CausesSound) (runs : RunsSound) (site : Site) (setting : Setting) where
  abbrev rules : Rules
  rules = rules_by (meaning_of site) setting

  choice : (test : Bool) (first second : Option Answer) → IfSome first IsSound → IfSome second IsSound
      → IfSome (if test then first else second) IsSound
  choice true first second one other = one
  choice false first second one other = other

  fresh : (test : Bool) (key : ℕ) → ArePrintable (if test then Some (letters_of setting.seed key) else None)
  fresh true key = letters_printable setting.seed key
  fresh false key = tt

  -- ---- one entry

  stands_in : (why : Cause) (request : Request) → IsSound (unavailable_by why request)
  stands_in TooManySessions request = causes cause.TooManySessions _ request.close
  stands_in OutOfMemory request = causes cause.OutOfMemory _ request.close
  stands_in JournalFull request = causes cause.JournalFull _ request.close

  unavailable_sound : (why : Cause) (what : Work) → IfSome (unavailable_in rules why what) IsSound
  unavailable_sound why (work.Page request) = stands_in why request
  unavailable_sound why work.Start = tt
  unavailable_sound why work.SessionEnd = tt
  unavailable_sound why work.Stop = tt

  outcome_sound : (told : Told) → ArePrintable told.cookie → (outcome : Outcome) → does site told ≡ outcome
      → IfSome (answer_in outcome) IsSound
  outcome_sound told letters (Wants call) is = tt
  outcome_sound told letters (Ends left) is = runs site told left letters is

  by_sound : (past : List Entry) (run : ℕ) (how : EndKind) → IfSome (answer_by rules past run how) IsSound
  by_sound past run kind.Done = outcome_sound (told rules past run)
      (fresh (draw_of past run).fresh (draw_of past run).key) (does site (told rules past run)) refl
  by_sound past run kind.Memory = unavailable_sound OutOfMemory (job_of past run).work
  by_sound past run kind.JournalFull = unavailable_sound JournalFull (job_of past run).work

  entry_sound : (past : List Entry) (r lane : ℕ) (what : What) → IfSome (answer_of_run rules past r) IsSound
      → IfSome (answer_of_run rules (record { lane = lane; what = what } ∷ past) r) IsSound
  entry_sound past r lane (End run how status size made finished) rest = choice (run == r) _ _ (by_sound past run how) rest
  entry_sound past r lane (Refuse run job) rest =
      choice (run == r) _ _ (unavailable_sound TooManySessions job.work) rest
  entry_sound past r lane _ rest = rest

  -- ---- a journal

  past_sound : (past : List Entry) (r : ℕ) → IfSome (answer_of_run rules past r) IsSound
  past_sound [] r = tt
  past_sound (entry ∷ past) r = entry_sound past r entry.lane entry.what (past_sound past r)

pub heads_stay : HeadsWhole → CausesSound → RunsSound → HeadsStayWhole
heads_stay whole causes runs site setting past run answer moment bytes is text = whole answer moment bytes
    (subst (λ (found : Option Answer). IfSome found IsSound) is (past_sound causes runs site setting past run)) text
