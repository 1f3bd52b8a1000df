-- What is written behind what was written before.
use Rattle.std.proofs.Common.{◌≡◌, ℕ, List, ◌++◌, Option, Result, Ok, Err, IsErrAnd, OnOk, subst, sym}
use Rattle.std.proofs.lemmas.Result.{err_from_is_err_and}
use Rattle.asp_io.specs.Sink.{with_bytes}
use Rattle.asp_replay.specs.declared.stop.FeedStop.{FeedStop}
use Rattle.asp_replay.specs.declared.stop.FeedStop.TheVariants as stop
use Rattle.asp_replay.specs.Underway.{WritesText}
use Rattle.asp_replay.proofs.Pieces.{part_longer, part_more, wrote_more}

-- what holds whatever is given
pub on_ok : {T E P : Type 0} (result : Result T E) → P → OnOk result P
on_ok (Ok given) holds = holds
on_ok (Err ended) holds = tt

-- a text behind another
pub text_then : {T : Type 0} (result : Result T FeedStop) (before middle after : Option (List ℕ)) (first second : List ℕ)
    → middle ≡ with_bytes before first → WritesText second result middle after
    → WritesText (first ++ second) result before after
text_then (Ok given) before middle after first second was wrote = wrote_more before middle after first second was wrote
text_then (Err (stop.StartFailed fail)) before middle after first second was none = none
text_then (Err (stop.JournalFull full)) before middle after first second was none = none
text_then (Err stop.WriteFault) before middle after first second was part =
    part_more before middle after first second was part
text_then (Err stop.Memory) before middle after first second was part =
    part_more before middle after first second was part

-- a text whose beginning was not written whole
begun_so : (S T : Type 0) (ended : FeedStop) (before after : Option (List ℕ)) (first second : List ℕ)
    → WritesText {T = S} first (Err ended) before after → WritesText {T = T} (first ++ second) (Err ended) before after
begun_so S T (stop.StartFailed fail) before after first second none = none
begun_so S T (stop.JournalFull full) before after first second none = none
begun_so S T stop.WriteFault before after first second part = part_longer before after first second part
begun_so S T stop.Memory before after first second part = part_longer before after first second part

pub text_begun : (S : Type 0) {T : Type 0} (ended : FeedStop) (result : Result T FeedStop) (before after : Option (List ℕ))
    (first second : List ℕ) → IsErrAnd result (λ err. err ≡ ended) → WritesText {T = S} first (Err ended) before after
    → WritesText (first ++ second) result before after
text_begun S {T} ended result before after first second is wrote =
    let err = err_from_is_err_and result is in
    subst (λ (r : Result T FeedStop). WritesText (first ++ second) r before after) (sym err.1)
    (subst (λ (e : FeedStop). WritesText {T = T} (first ++ second) (Err e) before after) (sym err.2)
    (begun_so S T ended before after first second wrote))
