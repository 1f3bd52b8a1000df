-- The lines of a valid journal determine its entries, but for their jobs.
use Rattle.std.proofs.Common.{◌≡◌, ℕ, ◌+◌, ◌≤◌, Bool, true, false, cond, not, ◌&&◌, eqb, leb, List, [], ◌∷◌, map}
use Rattle.std.proofs.Common.{Option, refl, sym, ap, ◌∙◌, arith}
use Rattle.std.proofs.lemmas.Bool.{leb-true}
use Rattle.std.proofs.lemmas.Bool.Decides.{nat_tests}
use Rattle.asp_job.specs.declared.entry.Entry.{Entry}
use Rattle.asp_job.specs.declared.entry.What.{What}
use Rattle.asp_job.specs.declared.entry.What.TheVariants as entry
use Rattle.asp_job.specs.declared.job.Asked.TheVariants.{Fresh}
use Rattle.asp_job.specs.declared.job.Job.{Job}
use Rattle.asp_job.specs.declared.job.Work.{Work}
use Rattle.asp_job.specs.declared.job.Work.TheVariants as work
use Rattle.asp_job.specs.declared.session.SessionState.{SessionState}
use Rattle.asp_job.specs.History.{with_lane}
use Rattle.asp_job.specs.Journal.{AreRight}
use Rattle.asp_job.specs.Keys.{is_askable, is_closing, is_live, made, session_of}
use Rattle.asp_job.specs.Rules.{Rules}
use Rattle.asp_job.specs.Turns.{IsAdmit, IsNext, MayFollow, key_asked_by, key_for, needs_key, owed}
use Rattle.asp_record.specs.declared.journal.Line.{Line}
use Rattle.asp_record.specs.declared.journal.LineWhat.{LineWhat}
use Rattle.asp_record.specs.declared.journal.LineWhat.TheVariants as what
use Rattle.asp_record.specs.EntryLines.{lines_in, printed}

-- ---- entries without their jobs

-- a job of which nothing is known but its moment
abbrev pub bare_job : Job → Job
bare_job job = record { work = work.Start; moment = job.moment; asked = Fresh }

abbrev pub bare : What → What
bare (entry.Admit run key fresh job) = entry.Admit run key fresh (bare_job job)
bare (entry.Refuse run job) = entry.Refuse run (bare_job job)
bare done = done

abbrev pub bare_entry : Entry → Entry
bare_entry one = with_lane one.lane (bare one.what)

-- ---- entries by their lines

-- the entry of a line, where so many keys were made before: it is without a job
abbrev pub rebuilt : ℕ → LineWhat → What
rebuilt count (what.Queue run work key) = entry.Queue run work key
rebuilt count (what.Admit run key moment) =
    entry.Admit run key (eqb key (count + 1)) (record { work = work.Start; moment = moment; asked = Fresh })
rebuilt count (what.Refuse run moment) =
    entry.Refuse run (record { work = work.Start; moment = moment; asked = Fresh })
rebuilt count (what.Tick moment) = entry.Tick moment
rebuilt count (what.Begin run serial) = entry.Begin run serial
rebuilt count (what.App run call reply) = entry.App run call reply
rebuilt count (what.End run kind status size first last) = entry.End run kind status size first last
rebuilt count what.Stop = entry.Stop

abbrev pub all_rebuilt : List Line → List Entry
all_rebuilt [] = []
all_rebuilt (l ∷ lines) = with_lane l.lane (rebuilt (made (all_rebuilt lines)) l.what) ∷ all_rebuilt lines

-- ---- keys that were made

second : (a b c d : Bool) → (a && b && c && d) ≡ true → b ≡ true
second true true c d e = refl
second true false true true e = absurd cc
second true false true false e = absurd cc
second true false false d e = absurd cc
second false true c d e = refl
second false false true true e = absurd cc
second false false true false e = absurd cc
second false false false d e = absurd cc

-- a key that may be asked for was made
askable_made : (sessions : ℕ → Option SessionState) (past : List Entry) (key : ℕ)
    → is_askable sessions past key ≡ true → key ≤ made past
askable_made sessions past key e =
    leb-true key (made past)
    (second (not (eqb key 0)) (leb key (made past)) (is_live sessions past key) (not (is_closing past key)) e)

by_askable : (askable : Bool) (asked count : ℕ) → (askable ≡ true → asked ≤ count)
    → not askable ≡ eqb (cond (not askable) (count + 1) asked) (count + 1)
by_askable true asked count within =
    let low : asked ≤ count = within refl in
    let other : eqb asked (count + 1) ≡ false = grind (arith, nat_tests) in
    sym other
by_askable false asked count within =
    let same : eqb (count + 1) (count + 1) ≡ true = grind (arith, nat_tests) in
    sym same

-- a key is new where its number is the next
new_key : (keyed : Bool) (asked : ℕ) (sessions : ℕ → Option SessionState) (past : List Entry)
    → needs_key keyed asked sessions past ≡ eqb (key_for keyed asked sessions past) (made past + 1)
new_key true asked sessions past =
    by_askable (is_askable sessions past asked) asked (made past) (askable_made sessions past asked)
new_key false asked sessions past =
    let other : eqb 0 (made past + 1) ≡ false = grind (arith, nat_tests) in
    sym other

admit_comes : (rules : Rules) (past : List Entry) (owing : List (Work × ℕ)) (lane run key : ℕ) (fresh : Bool)
    (job : Job) → MayFollow rules past owing (with_lane lane (entry.Admit run key fresh job))
    → IsAdmit rules past run key fresh job
admit_comes rules past [] lane run key fresh job may = may
admit_comes rules past (first ∷ rest) lane run key fresh job may = absurd (let no = may.0 in cc)

fresh_is : (rules : Rules) (past : List Entry) (run key : ℕ) (fresh : Bool) (job : Job)
    → IsAdmit rules past run key fresh job → fresh ≡ eqb key (made past + 1)
fresh_is rules past run key fresh job is =
    is.fresh_is
    ∙ new_key (rules.meaning.is_keyed job) (key_asked_by rules job) (session_of rules past) past
    ∙ ap (λ some. eqb some (made past + 1)) (sym is.key_is)

-- ---- journals by their lines

-- the entries that are printed are those that their lines give, but for their jobs
pub record IsRebuilt (past : List Entry) : Type 0 where
  pub entries : map bare_entry (printed past) ≡ all_rebuilt (lines_in past)
  pub keys : made (all_rebuilt (lines_in past)) ≡ made past

by_what : (rules : Rules) (lane : ℕ) (done : What) (past : List Entry) → IsNext rules past (with_lane lane done)
    → IsRebuilt past → IsRebuilt (with_lane lane done ∷ past)
by_what rules lane (entry.Admit run key fresh job) past turn is =
    let may = admit_comes rules past (owed rules past) lane run key fresh job turn in
    let left = all_rebuilt (lines_in past) in
    let new : fresh ≡ eqb key (made left + 1) =
    fresh_is rules past run key fresh job may ∙ ap (λ count. eqb key (count + 1)) (sym is.keys) in
    let old = sym new in
    let entries = is.entries in
    let keys = is.keys in
    record {
      entries = λ i. with_lane lane (entry.Admit run key (new i) (bare_job job)) ∷ entries i;
      keys = λ i. cond (old i) (keys i + 1) (keys i);
    }
by_what rules lane (entry.Queue run work key) past turn is = record {
  entries = ap (λ left. with_lane lane (entry.Queue run work key) ∷ left) is.entries;
  keys = is.keys;
}
by_what rules lane (entry.Refuse run job) past turn is = record {
  entries = ap (λ left. with_lane lane (entry.Refuse run (bare_job job)) ∷ left) is.entries;
  keys = is.keys;
}
by_what rules lane (entry.Tick moment) past turn is = record {
  entries = ap (λ left. with_lane lane (entry.Tick moment) ∷ left) is.entries;
  keys = is.keys;
}
by_what rules lane (entry.Begin run serial) past turn is = record {
  entries = ap (λ left. with_lane lane (entry.Begin run serial) ∷ left) is.entries;
  keys = is.keys;
}
by_what rules lane (entry.App run call reply) past turn is = record {
  entries = ap (λ left. with_lane lane (entry.App run call reply) ∷ left) is.entries;
  keys = is.keys;
}
by_what rules lane (entry.End run kind status size first last) past turn is = record {
  entries = ap (λ left. with_lane lane (entry.End run kind status size first last) ∷ left) is.entries;
  keys = is.keys;
}
by_what rules lane (entry.Take run) past turn is = record { entries = is.entries; keys = is.keys }
by_what rules lane entry.Stop past turn is = record {
  entries = ap (λ left. with_lane lane entry.Stop ∷ left) is.entries;
  keys = is.keys;
}
by_what rules lane entry.Halt past turn is = record { entries = is.entries; keys = is.keys }

pub is_rebuilt : (rules : Rules) (past : List Entry) → AreRight rules past → IsRebuilt past
is_rebuilt rules [] right = record { entries = refl; keys = refl }
is_rebuilt rules (one ∷ past) right =
    by_what rules one.lane one.what past right.0.turn (is_rebuilt rules past right.1)
