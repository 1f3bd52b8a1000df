-- What a journal comes to. All of it is our own. A past is a journal with its newest entry first.
use Rattle.std.specs.Prelude.{ℕ, ◌+◌, ◌==◌, nat_eq, nat_lt, ℤ, pos, Bool, false, if◌then◌else◌, List, [], ◌∷◌, map}
use Rattle.std.specs.Prelude.{filter, codes, Option, Some, None, unwrap_or}
use Rattle.std.specs.Set.{distinct_count}
use Rattle.vb_value.specs.declared.application.AppCall.{AppCall}
use Rattle.vb_value.specs.declared.application.AppCall.TheVariants as call
use Rattle.vb_value.specs.declared.value.Value.{Value, Int, Long}
use Rattle.asp_job.specs.declared.entry.Entry.{Entry}
use Rattle.asp_job.specs.declared.entry.What.{What}
use Rattle.asp_job.specs.declared.entry.What.TheVariants.{App, Begin, End}
use Rattle.asp_job.specs.Application.{is_name}
use Rattle.asp_summary.specs.declared.summary.Summary.{Summary}

-- ---- answers

-- whether a run ends with an answer of status 200; that of an event has status 0
abbrev pub is_answer : What → Bool
is_answer (End run kind status size made finished) = status == 200
is_answer _ = false

-- how many runs of pages ended with an answer of status 200
abbrev pub answers_in : List Entry → ℕ
answers_in [] = 0
answers_in (entry ∷ past) = if is_answer entry.what then answers_in past + 1 else answers_in past

-- ---- sessions

-- the session number of a Begin entry; 0 where the run has no session, and for any other entry
abbrev pub serial_in : What → ℕ
serial_in (Begin run serial) = serial
serial_in _ = 0

-- the session numbers above 0 that stand in the Begin entries, each as often as it stands there
abbrev pub serials_in : List Entry → List ℕ
serials_in past = filter (nat_lt 0) (map (λ entry. serial_in entry.what) past)

-- how many different ones these are: those that are equal count once
abbrev pub sessions_in : List Entry → ℕ
sessions_in past = distinct_count nat_eq (serials_in past)

-- ---- the total

-- the whole number that a value is; a value of another kind counts as 0
abbrev pub number_of : Value → ℤ
number_of (Int number) = number
number_of (Long number) = number
number_of _ = pos 0

-- the number that a call of the Application object puts under the name `n`, if it puts one; its reply is not looked at
abbrev pub put_by : AppCall → Option ℤ
put_by (call.Put name value) = if is_name (codes "n") name then Some (number_of value) else None
put_by _ = None

abbrev pub put_in : What → Option ℤ
put_in (App run call reply) = put_by call
put_in _ = None

-- the last one that was put, 0 where none was
abbrev pub last_total : List Entry → ℤ
last_total [] = pos 0
last_total (entry ∷ past) = unwrap_or (put_in entry.what) (last_total past)

-- ---- the summary

-- the summary after so many requests
abbrev pub summary_of : ℕ → List Entry → Summary
summary_of requests past = record {
  requests = requests;
  answers = answers_in past;
  sessions = sessions_in past;
  total = last_total past;
}
