-- A command refuses nothing without a cause.
use Rattle.std.proofs.Common.{◌≡◌, inl, inr, ℕ, ◌≤◌, Bool, List, Option, Some, None, IfSome, Err, length, false}
use Rattle.std.proofs.Common.{Ok as Given, map, arith, refl, subst}
use Rattle.vb_value.specs.declared.site_file.SiteFault.{SiteFault}
use Rattle.vb_value.specs.declared.site_file.SiteFile.{SiteFile}
use Rattle.asp_journal.specs.declared.full.Full.{Full}
use Rattle.asp_get.specs.Answered.{HasAnswered, HasFailed, WasTooMuch}
use Rattle.asp_get.specs.declared.stop.GetStop.TheVariants as stop
use Rattle.asp_io.specs.Folder.{AreSitePaths, path_of}
use Rattle.asp_job.specs.declared.answer.Answer.{Answer}
use Rattle.asp_job.specs.declared.answer.Fail.{Fail}
use Rattle.asp_job.specs.Rules.{Rules}
use Rattle.asp_record.specs.declared.recording.Item.{Item}
use Rattle.asp_record.specs.declared.recording.Recording.{Recording}
use Rattle.asp_record.specs.Generated.{count_files, generated}
use Rattle.asp_record.specs.Recorded.{IsRefusedAt, Stands}
use Rattle.asp_site.specs.declared.site.Site.{Site}
use Rattle.site_load.specs.Accepted.{IsAccepted, IsFolderFault}
use Rattle.asp_host.specs.declared.status.Status.{Status}
use Rattle.asp_host.specs.declared.status.Status.TheVariants.{Ok, Memory, Usage, SiteRefused, StartFailed}
use Rattle.asp_host.specs.declared.status.Status.TheVariants.{ReadFault, WriteFault, RecordRefused, JournalFull, AcceptFault}
use Rattle.asp_host.specs.Around.{Around}
use Rattle.asp_host.specs.Check.{CheckEnds}
use Rattle.asp_host.specs.Gen.{GenEnds, gen_workers}
use Rattle.asp_host.specs.Get.{GetEnds, site_rules}
use Rattle.asp_host.specs.Get as get
use Rattle.asp_host.specs.Input.{IsSourceRefusedAt}
use Rattle.asp_host.specs.Replay.{Fills, HasRefused, IsFor, ReplayEnds, rules_for}
use Rattle.asp_host.specs.Replay as replay
use Rattle.asp_host.specs.Replayed.{HasFilled, HasNotStarted}
use Rattle.asp_host.specs.Request.{job_of}
use Rattle.asp_host.specs.Serve.{ServeEnds, rules_from}
use Rattle.asp_host.specs.Serve as serve
use Rattle.asp_serve.specs.Hosts.{HasFailedToStart}
use Rattle.asp_core.specs.Laws.{NoneIs}
use Rattle.asp_replay.specs.Sequential.{is_memory_end}
use Rattle.host_laws.specs.Laws.{GeneratesUnrefused, IsNoRefusal, NeverFails, NeverFailsToStart, NeverFills}
use Rattle.host_laws.specs.Laws.{OneOutcome, OneSite, ReplaysUnrefused, ServesUnrefused, TellsFiles}
use Rattle.host_laws.specs.Laws.{TellsRecording, TellsSite}

-- ---- the laws that these stand on

-- a folder that is a site has no fault: the law of site_load
abbrev pub SiteOrFault : Type 0
SiteOrFault = (all : List SiteFile) (site : Site) (fault : SiteFault) → AreSitePaths (map path_of all)
    → IsAccepted all site → IsFolderFault all fault → ⊥

-- bytes have one recording at their front, and are then refused nowhere: the laws of asp_record
abbrev pub OneRecording : Type 0
OneRecording = (bytes : List ℕ) (one other : Recording) (end last : ℕ) → Stands bytes one end
    → Stands bytes other last → (one ≡ other) × (end ≡ last)

abbrev pub RecordingOrRefusal : Type 0
RecordingOrRefusal = (bytes : List ℕ) (recording : Recording) (end offset : ℕ) → Stands bytes recording end
    → IsRefusedAt bytes offset → ⊥

-- ---- what is told

-- what is said of a thing that is told
pub of_told : {A : Type 0} (told : Option A) (one : A) (P : A → Type 0) → told ≡ Some one → IfSome told P → P one
of_told told one P is holds = subst (λ (told : Option _). IfSome told P) is holds

-- ---- folders

module _ (sites : OneSite) (faultless : SiteOrFault) where
  -- the site that is said to be that of the files is theirs
  pub same_site : (around : Around) (files : List SiteFile) (site other : Site) → TellsFiles around files
      → IsAccepted files site → IfSome around.files (λ all. IsAccepted all other) → other ≡ site
  same_site around files site other tells accepted also = sites files other site tells.paths
      (of_told around.files files (λ all. IsAccepted all other) tells.told also) accepted

  no_folder_fault : (around : Around) (site : Site) (fault : SiteFault) → TellsSite around site
      → IfSome around.files (λ all. IsFolderFault all fault) → ⊥
  no_folder_fault around site fault tells faulty = faultless tells.files site fault tells.tells.paths tells.accepted
      (of_told around.files tells.files (λ all. IsFolderFault all fault) tells.tells.told faulty)

  pub check_refuses_none : (around : Around) (site : Site) (status : Status) → TellsSite around site
      → CheckEnds around status → IsNoRefusal status
  check_refuses_none around site Ok tells ends = tt
  check_refuses_none around site Memory tells ends = tt
  check_refuses_none around site ReadFault tells ends = tt
  check_refuses_none around site WriteFault tells ends = tt
  check_refuses_none around site AcceptFault tells ends = tt
  check_refuses_none around site (SiteRefused fault) tells ends = no_folder_fault around site fault tells ends.1.0
  check_refuses_none around site Usage tells ends = ends.1
  check_refuses_none around site (RecordRefused offset) tells ends = ends.1
  check_refuses_none around site (JournalFull full) tells ends = ends.1
  check_refuses_none around site (StartFailed fail) tells ends = ends.1

  -- ---- `get`

  module _ (outcomes : OneOutcome) where
    of_site : (around : Around) (site other : Site) (P : Site → Type 0) → TellsSite around site
        → IfSome around.files (λ all. IsAccepted all other) → P other → P site
    of_site around site other P tells accepted holds =
        subst P (same_site around tells.files site other tells.tells tells.accepted accepted) holds

    no_failure : (path query : List ℕ) (around : Around) (site : Site) (answer : Answer) (fail : Fail)
        → TellsSite around site → HasAnswered (site_rules site) (job_of path query) answer
        → get.FailsToBegin around.files fail → ⊥
    no_failure path query around site answer fail tells answered fails =
        let failed = of_site around site fails.site (λ site. HasFailed (site_rules site) fail) tells fails.accepted
        fails.failed in
        let both : Given answer ≡ Err (stop.StartFailed fail) = outcomes (site_rules site) (job_of path query)
        (Given answer) (Err (stop.StartFailed fail)) answered failed in
        cc

    not_full : (path query : List ℕ) (around : Around) (site : Site) (answer : Answer) (full : Full)
        → TellsSite around site → HasAnswered (site_rules site) (job_of path query) answer
        → get.IsFull path query around.files full → ⊥
    not_full path query around site answer full tells answered is =
        let much = of_site around site is.site
        (λ site. WasTooMuch (site_rules site) (job_of path query) full) tells is.accepted is.much in
        let both : Given answer ≡ Err (stop.JournalFull full) = outcomes (site_rules site)
        (job_of path query) (Given answer) (Err (stop.JournalFull full)) answered much in
        cc

    pub get_refuses_none : (path query : List ℕ) (around : Around) (site : Site) (answer : Answer) (status : Status)
        → TellsSite around site → HasAnswered (site_rules site) (job_of path query) answer
        → GetEnds path query around status → IsNoRefusal status
    get_refuses_none path query around site answer Ok tells answered ends = tt
    get_refuses_none path query around site answer Memory tells answered ends = tt
    get_refuses_none path query around site answer ReadFault tells answered ends = tt
    get_refuses_none path query around site answer WriteFault tells answered ends = tt
    get_refuses_none path query around site answer AcceptFault tells answered ends = tt
    get_refuses_none path query around site answer (SiteRefused fault) tells answered ends =
        no_folder_fault around site fault tells ends.1.0
    get_refuses_none path query around site answer (StartFailed fail) tells answered ends =
        no_failure path query around site answer fail tells answered ends.1.0
    get_refuses_none path query around site answer (JournalFull full) tells answered ends =
        not_full path query around site answer full tells answered ends.1.0
    get_refuses_none path query around site answer Usage tells answered ends = ends.1
    get_refuses_none path query around site answer (RecordRefused offset) tells answered ends = ends.1

  -- ---- `gen`

  not_started : (rules : Rules) (fail : Fail) (before after : Option (List ℕ)) → NeverFails rules
      → HasNotStarted rules fail before after → ⊥
  not_started rules fail before after never fails = never fails.past fail fails.account fails.failed

  never_filled : (workers : ℕ) (rules : Rules) (items : List Item) (full : Full) (before after : Option (List ℕ))
      → NeverFills workers rules items → (filled : HasFilled workers rules items full before after)
      → ¬ (NoneIs is_memory_end filled.0)
  never_filled workers rules items full before after never filled = never full (
    filled.0,
    record {
      account = filled.1.account;
      answered = filled.1.answered;
      fed = filled.1.fed;
      passed = filled.1.passed;
      wound_up = filled.1.wound_up;
      cause = filled.1.cause;
      written = record {
        first = filled.1.written.first;
        later = filled.1.written.later;
        shown_are = filled.1.written.shown_are;
        records = filled.1.written.records;
        are_records = filled.1.written.are_records;
        wrote = record {
          count = filled.1.written.wrote.count;
          within = filled.1.written.wrote.within;
          added = refl;
        };
      };
    },
  )

  pub gen_refuses_none : (count : ℕ) (journal : Bool) (around : Around) (status : Status)
      → ((site : Site) → IsAccepted count_files site → NeverFails (rules_for false site (generated count)))
      → ((site : Site) → IsAccepted count_files site
      → NeverFills gen_workers (rules_for false site (generated count)) (generated count).items)
      → GenEnds count journal around status → GeneratesUnrefused count status
  gen_refuses_none count journal around Ok never little ends = tt
  gen_refuses_none count journal around Memory never little ends = tt
  gen_refuses_none count journal around ReadFault never little ends = tt
  gen_refuses_none count journal around WriteFault never little ends = tt
  gen_refuses_none count journal around AcceptFault never little ends = tt
  gen_refuses_none count journal around (SiteRefused fault) never little ends = ends.1
  gen_refuses_none count journal around (JournalFull full) never little ends =
      let fills = ends.1.0 in (
        fills,
        never_filled gen_workers (rules_for false fills.site (generated count)) (generated count).items full None None
            (little fills.site fills.accepted) fills.filled,
      )
  gen_refuses_none count journal around (StartFailed fail) never little ends =
      let fails = ends.1.0 in
      not_started (rules_for false fails.site (generated count)) fail None None (never fails.site fails.accepted)
      fails.failed
  gen_refuses_none count journal around (RecordRefused offset) never little ends = ends.1
  gen_refuses_none count journal around Usage never little ends = ends.1

  -- ---- `serve`

  not_begun : (strict : Bool) (around : Around) (site : Site) (fail : Fail) → TellsSite around site
      → NeverFailsToStart (rules_from site around.seed strict) → serve.FailsToBegin around.files around.seed strict fail → ⊥
  not_begun strict around site fail tells never fails =
      let same = same_site around tells.files site fails.site tells.tells tells.accepted fails.accepted in
      never fail (subst (λ (site : Site). HasFailedToStart (rules_from site around.seed strict) fail) same fails.failed)

  pub serve_refuses_none : (requests : ℕ) (strict : Bool) (around : Around) (site : Site) (status : Status) → TellsSite around site
      → NeverFailsToStart (rules_from site around.seed strict) → ServeEnds requests strict around status
      → ServesUnrefused strict around status
  serve_refuses_none requests strict around site Ok tells never ends = tt
  serve_refuses_none requests strict around site Memory tells never ends = tt
  serve_refuses_none requests strict around site ReadFault tells never ends = tt
  serve_refuses_none requests strict around site WriteFault tells never ends = tt
  serve_refuses_none requests strict around site AcceptFault tells never ends = tt
  serve_refuses_none requests strict around site (SiteRefused fault) tells never ends =
      no_folder_fault around site fault tells ends.2
  serve_refuses_none requests strict around site (StartFailed fail) tells never ends =
      not_begun strict around site fail tells never ends.2
  serve_refuses_none requests strict around site (JournalFull full) tells never ends = ends.2
  serve_refuses_none requests strict around site (RecordRefused offset) tells never ends = ends.2
  serve_refuses_none requests strict around site Usage tells never ends = ends.2

  -- ---- `replay`

  module _ (recordings : OneRecording) (not_refused : RecordingOrRefusal) where
    -- a recording that is told is not refused
    recording_stands : (bytes : List ℕ) (recording : Recording) (offset : ℕ) → Stands bytes recording (length bytes)
        → IsSourceRefusedAt bytes offset → ⊥
    recording_stands bytes recording offset stands (inl refused) =
        not_refused bytes recording (length bytes) offset stands refused
    recording_stands bytes recording offset stands (inr (other, also, more)) =
        let ends = (recordings bytes recording other (length bytes) offset stands also).1 in
        absurd (omega (arith, ends, more))

    no_record_refused : (around : Around) (recording : Recording) (offset : ℕ) → TellsRecording around recording
        → HasRefused around.files around.source offset → ⊥
    no_record_refused around recording offset tells has = recording_stands tells.bytes recording offset tells.stands
        (of_told around.source.before tells.bytes (λ all. IsSourceRefusedAt all offset) tells.told has.refused)

    same_recording : (around : Around) (recording other : Recording) → TellsRecording around recording
        → IfSome around.source.before (λ all. Stands all other (length all)) → other ≡ recording
    same_recording around recording other tells stands = (recordings tells.bytes other recording (length tells.bytes)
        (length tells.bytes) (of_told around.source.before tells.bytes (λ all. Stands all other (length all)) tells.told
        stands) tells.stands).0

    -- what holds of a site and a recording that are said to be those of the files and the source, holds of theirs
    of_same : (around : Around) (site other : Site) (recording last : Recording) (P : Site → Recording → Type 0)
        → TellsSite around site → TellsRecording around recording → IsFor around.files around.source other last
        → P other last → P site recording
    of_same around site other recording last P tells also is_for holds = subst (P site)
        (same_recording around recording last also is_for.whole.stands)
        (subst (λ site. P site last)
        (same_site around tells.files site other tells.tells tells.accepted is_for.accepted) holds)

    no_start_failed : (strict : Bool) (around : Around) (site : Site) (recording : Recording) (fail : Fail) → TellsSite around site
        → TellsRecording around recording → NeverFails (rules_for strict site recording)
        → replay.FailsToBegin strict around.files around.source around.sink fail → ⊥
    no_start_failed strict around site recording fail tells also never fails =
        not_started (rules_for strict site recording) fail around.sink.before around.sink.after never
        (of_same around site fails.site recording fails.recording (λ site recording. HasNotStarted
        (rules_for strict site recording) fail around.sink.before around.sink.after) tells also fails.is_for fails.failed)

    no_journal_full : (workers : ℕ) (strict : Bool) (around : Around) (site : Site) (recording : Recording) (full : Full)
        → TellsSite around site → TellsRecording around recording
        → NeverFills workers (rules_for strict site recording) recording.items
        → (fills : Fills workers strict around.files around.source around.sink full)
        → ¬ (NoneIs is_memory_end fills.filled.0)
    no_journal_full workers strict around site recording full tells also never fills =
        of_same around site fills.site recording fills.recording (λ site recording. NeverFills workers
        (rules_for strict site recording) recording.items → ¬ (NoneIs is_memory_end fills.filled.0)) tells also fills.is_for
        (λ nowhere. never_filled workers (rules_for strict fills.site fills.recording) fills.recording.items full
        around.sink.before around.sink.after nowhere fills.filled) never

    pub replay_refuses_none : (workers : ℕ) (journal strict : Bool) (around : Around) (site : Site) (recording : Recording)
        (status : Status) → TellsSite around site → TellsRecording around recording
        → NeverFails (rules_for strict site recording) → NeverFills workers (rules_for strict site recording) recording.items
        → ReplayEnds workers journal strict around status → ReplaysUnrefused workers strict around status
    replay_refuses_none workers journal strict around site recording Ok tells also never little ends = tt
    replay_refuses_none workers journal strict around site recording Memory tells also never little ends = tt
    replay_refuses_none workers journal strict around site recording ReadFault tells also never little ends = tt
    replay_refuses_none workers journal strict around site recording WriteFault tells also never little ends = tt
    replay_refuses_none workers journal strict around site recording AcceptFault tells also never little ends = tt
    replay_refuses_none workers journal strict around site recording (SiteRefused fault) tells also never little ends =
        no_folder_fault around site fault tells ends.0
    replay_refuses_none workers journal strict around site recording (RecordRefused offset) tells also never little ends =
        no_record_refused around recording offset also ends.0
    replay_refuses_none workers journal strict around site recording (StartFailed fail) tells also never little ends =
        no_start_failed strict around site recording fail tells also never ends
    replay_refuses_none workers journal strict around site recording (JournalFull full) tells also never little ends =
        (ends, no_journal_full workers strict around site recording full tells also little ends)
    replay_refuses_none workers journal strict around site recording Usage tells also never little ends = ends
