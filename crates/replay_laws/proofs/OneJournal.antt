-- The items and the lines determine a journal, but for the entries that have no line.
use Rattle.std.proofs.Common.{◌≡◌, ℕ, cond, List, [], ◌∷◌, map, drop, get_or, reverse, refl, sym, ap, ◌∙◌}
use Rattle.asp_job.specs.declared.entry.Entry.{Entry}
use Rattle.asp_job.specs.declared.entry.What.{What}
use Rattle.asp_job.specs.declared.entry.What.TheVariants as entry
use Rattle.asp_job.specs.History.{with_lane}
use Rattle.asp_job.specs.Rules.{Rules}
use Rattle.asp_record.specs.declared.recording.Item.{Item}
use Rattle.asp_record.specs.EntryLines.{lines_in, printed}
use Rattle.asp_feed.specs.Feeding.{comes, events_of}
use Rattle.replay_laws.specs.Laws.{IsJournalOf}
use Rattle.replay_laws.proofs.OneJob.{OneFront}
use Rattle.replay_laws.proofs.Rebuilt.{all_rebuilt, bare, bare_entry, bare_job, is_rebuilt}
use Rattle.replay_laws.proofs.SameJobs.{same_events}

-- ---- entries and events

-- the entries, with these events in place of those that came from outside
abbrev with_events : List Entry → List What → List Entry
with_events [] events = []
with_events (one ∷ past) events =
    cond (comes one.what) (with_lane one.lane (get_or events 0 one.what)) one
    ∷ with_events past (cond (comes one.what) (drop 1 events) events)

-- what is printed, what came, and what is left of both without jobs
record IsPrinted (past : List Entry) : Type 0 where
  events : events_of (printed past) ≡ events_of past
  bare_events : map bare (events_of past) ≡ events_of (map bare_entry (printed past))
  filled : printed past ≡ with_events (map bare_entry (printed past)) (events_of (printed past))

by_what : (lane : ℕ) (done : What) (past : List Entry) → IsPrinted past → IsPrinted (with_lane lane done ∷ past)
by_what lane (entry.Queue run work key) past is = record {
  events = is.events;
  bare_events = is.bare_events;
  filled = ap (λ left. with_lane lane (entry.Queue run work key) ∷ left) is.filled;
}
by_what lane (entry.Admit run key fresh job) past is = record {
  events = ap (λ events. entry.Admit run key fresh job ∷ events) is.events;
  bare_events = ap (λ events. entry.Admit run key fresh (bare_job job) ∷ events) is.bare_events;
  filled = ap (λ left. with_lane lane (entry.Admit run key fresh job) ∷ left) is.filled;
}
by_what lane (entry.Refuse run job) past is = record {
  events = ap (λ events. entry.Refuse run job ∷ events) is.events;
  bare_events = ap (λ events. entry.Refuse run (bare_job job) ∷ events) is.bare_events;
  filled = ap (λ left. with_lane lane (entry.Refuse run job) ∷ left) is.filled;
}
by_what lane (entry.Tick moment) past is = record {
  events = ap (λ events. entry.Tick moment ∷ events) is.events;
  bare_events = ap (λ events. entry.Tick moment ∷ events) is.bare_events;
  filled = ap (λ left. with_lane lane (entry.Tick moment) ∷ left) is.filled;
}
by_what lane (entry.Begin run serial) past is = record {
  events = is.events;
  bare_events = is.bare_events;
  filled = ap (λ left. with_lane lane (entry.Begin run serial) ∷ left) is.filled;
}
by_what lane (entry.App run call reply) past is = record {
  events = is.events;
  bare_events = is.bare_events;
  filled = ap (λ left. with_lane lane (entry.App run call reply) ∷ left) is.filled;
}
by_what lane (entry.End run kind status size made finished) past is = record {
  events = is.events;
  bare_events = is.bare_events;
  filled = ap (λ left. with_lane lane (entry.End run kind status size made finished) ∷ left) is.filled;
}
by_what lane (entry.Take run) past is =
    record { events = is.events; bare_events = is.bare_events; filled = is.filled }
by_what lane entry.Stop past is = record {
  events = ap (λ events. entry.Stop ∷ events) is.events;
  bare_events = ap (λ events. entry.Stop ∷ events) is.bare_events;
  filled = ap (λ left. with_lane lane entry.Stop ∷ left) is.filled;
}
by_what lane entry.Halt past is =
    record { events = is.events; bare_events = is.bare_events; filled = is.filled }

is_printed : (past : List Entry) → IsPrinted past
is_printed [] = record { events = refl; bare_events = refl; filled = refl }
is_printed (one ∷ past) = by_what one.lane one.what past (is_printed past)

-- ---- journals

pub one_journal_of_lines : OneFront → (rules other_rules : Rules) (items : List Item) (past other : List Entry)
    → IsJournalOf rules items past → IsJournalOf other_rules items other → lines_in past ≡ lines_in other
    → printed past ≡ printed other
one_journal_of_lines fronts rules other_rules items past other is also lines =
    let here = is_printed past in
    let there = is_printed other in
    let built = is_rebuilt rules past is.valid.entries in
    let built_there = is_rebuilt other_rules other also.valid.entries in
    let bare_same : map bare_entry (printed past) ≡ map bare_entry (printed other) =
    built.entries ∙ ap all_rebuilt lines ∙ sym built_there.entries in
    let came : map bare (events_of past) ≡ map bare (events_of other) =
    here.bare_events ∙ ap events_of bare_same ∙ sym there.bare_events in
    let all : entry.Stop ∷ map bare is.fed.before ≡ entry.Stop ∷ map bare also.fed.before =
    sym (ap (map bare) is.fed.stop) ∙ came ∙ ap (map bare) also.fed.stop in
    let rest : map bare is.fed.before ≡ map bare also.fed.before = cc in
    let before = same_events fronts (reverse items) is.fed.before also.fed.before is.fed.clients also.fed.clients
    is.fed.items_are also.fed.items_are rest in
    let events : events_of (printed past) ≡ events_of (printed other) =
    here.events ∙ is.fed.stop ∙ ap (λ some. entry.Stop ∷ some) before.0 ∙ sym also.fed.stop ∙ sym there.events in
    here.filled ∙ (λ i. with_events (bare_same i) (events i)) ∙ sym there.filled
