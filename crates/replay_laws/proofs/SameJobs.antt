-- The items give the events of a journal their jobs.
use Rattle.std.proofs.Common.{◌≡◌, ℕ, List, [], ◌∷◌, ◌++◌, map, refl, sym, ap, subst, ◌∙◌}
use Rattle.asp_job.specs.declared.entry.What.{What}
use Rattle.asp_job.specs.declared.entry.What.TheVariants as entry
use Rattle.asp_job.specs.declared.job.Job.{Job}
use Rattle.asp_record.specs.declared.recording.Item.{Item}
use Rattle.asp_record.specs.declared.recording.Item.TheVariants as item
use Rattle.asp_feed.specs.Feeding.{AreItems, CameFrom, Clients, IsJobOf, clients_after, moment_by, tick_to}
use Rattle.replay_laws.proofs.OneJob.{OneFront, one_job}
use Rattle.replay_laws.proofs.Rebuilt.{bare}

-- an event with this job
with_job : What → Job → What
with_job (entry.Admit run key fresh before) job = entry.Admit run key fresh job
with_job (entry.Refuse run before) job = entry.Refuse run job
with_job done job = done

-- the event of a client's request has its job
record HasJob (clients : Clients) (client moment : ℕ) (bytes : List ℕ) (done : What) : Type 0 where
  job : Job
  is_job : IsJobOf clients client moment bytes job
  done_is : done ≡ with_job (bare done) job

has_job : (clients : Clients) (client moment : ℕ) (bytes : List ℕ) (done : What)
    → CameFrom clients client moment bytes done → HasJob clients client moment bytes done
unfolding with_job
has_job clients client moment bytes (entry.Admit run key fresh job) came =
    record { job = job; is_job = came; done_is = refl }
has_job clients client moment bytes (entry.Refuse run job) came =
    record { job = job; is_job = came; done_is = refl }
has_job clients client moment bytes _ came = absurd came

module _ (fronts : OneFront) where
  same_event : (clients : Clients) (client moment : ℕ) (bytes : List ℕ) (done other : What)
      → CameFrom clients client moment bytes done → CameFrom clients client moment bytes other
      → bare done ≡ bare other → done ≡ other
  same_event clients client moment bytes done other came also same =
      let one = has_job clients client moment bytes done came in
      let two = has_job clients client moment bytes other also in
      let job = one_job fronts clients client moment bytes one.job two.job one.is_job two.is_job in
      one.done_is ∙ ap (λ some. with_job some one.job) same ∙ ap (λ some. with_job (bare other) some) job
      ∙ sym two.done_is

  -- the same before others is left out
  cut : (ticks before earlier : List What) → map bare (ticks ++ before) ≡ map bare (ticks ++ earlier)
      → map bare before ≡ map bare earlier
  cut [] before earlier same = same
  cut (tick ∷ ticks) before earlier same =
      let all : bare tick ∷ map bare (ticks ++ before) ≡ bare tick ∷ map bare (ticks ++ earlier) = same in
      cut ticks before earlier (cc)

  pub same_events : (items : List Item) (events others : List What) (clients left : Clients)
      → AreItems items events clients → AreItems items others left → map bare events ≡ map bare others
      → (events ≡ others) × (clients ≡ left)
  same_events [] events others clients left is also same = (is.0 ∙ sym also.0, is.1 ∙ sym also.1)
  same_events (item.Tick moment ∷ items) events others clients left is also same =
      let ticks = tick_to (moment_by items) moment in
      let rest = sym (ap (map bare) is.2) ∙ same ∙ ap (map bare) also.2 in
      let more = same_events items is.0 also.0 clients left is.1 also.1 (cut ticks is.0 also.0 rest) in
      (is.2 ∙ ap (λ before. ticks ++ before) more.0 ∙ sym also.2, more.1)
  same_events (item.Request client moment bytes ∷ items) events others clients left is also same =
      let ticks = tick_to (moment_by items) moment in
      let all : bare is.2 ∷ map bare (ticks ++ is.0) ≡ bare also.2 ∷ map bare (ticks ++ also.0) =
      sym (ap (map bare) is.6) ∙ same ∙ ap (map bare) also.6 in
      let first : bare is.2 ≡ bare also.2 = cc in
      let rest : map bare (ticks ++ is.0) ≡ map bare (ticks ++ also.0) = cc in
      let more = same_events items is.0 also.0 is.1 also.1 is.3 also.3 (cut ticks is.0 also.0 rest) in
      let before : is.0 ≡ also.0 = more.0 in
      let earlier : is.1 ≡ also.1 = more.1 in
      let came : CameFrom also.1 client moment bytes is.2 =
      subst (λ some. CameFrom some client moment bytes is.2) earlier is.4 in
      let done : is.2 ≡ also.2 = same_event also.1 client moment bytes is.2 also.2 came also.4 first in
      let both : is.2 ∷ ticks ++ is.0 ≡ also.2 ∷ ticks ++ also.0 = λ i. done i ∷ ticks ++ before i in (
        is.6 ∙ both ∙ sym also.6,
        is.5 ∙ (λ i. clients_after (earlier i) client (done i)) ∙ sym also.5,
      )
