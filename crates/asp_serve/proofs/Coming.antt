-- What comes of one request, with all that was seen and heard before it.
use Rattle.std.proofs.Common.{◌≡◌, ◌⊎◌, ℕ, ◌+◌, ◌<◌, ◌++◌, Bool, true, false, List, length, refl, ap, sym, ◌∙◌, subst}
use Rattle.std.proofs.Common.{arith, inl, inr, reverse, Option, Some, None, IfNone, IfSome, Result, Ok, Err}
use Rattle.std.specs.Prelude.{◌||◌}
use Rattle.std.proofs.lemmas.Bool.Decides.{nat_tests}
use Rattle.asp_job.specs.declared.answer.Answer.{Answer}
use Rattle.asp_job.specs.declared.request.Request.{Request}
use Rattle.asp_job.specs.Journal.{AreRight}
use Rattle.asp_job.specs.Rules.{Rules}
use Rattle.asp_job.specs.Runs.{is_halted, is_stopping}
use Rattle.asp_core.specs.declared.admitted.Admitted.{Admitted}
use Rattle.http_front.specs.Reader.{ComesNext}
use Rattle.http_front.specs.declared.reader.Next.TheVariants as next
use Rattle.asp_response.specs.AnswerText.{IsAnswerText}
use Rattle.asp_response.specs.Fixed.{status_answer_of}
use Rattle.asp_desk.specs.declared.looking.Looked.{Looked}
use Rattle.asp_desk.specs.Calls.{IsTurn, Looks}
use Rattle.asp_serve.specs.declared.ending.LinkEnd.{LinkEnd}
use Rattle.asp_serve.specs.declared.ending.LinkEnd.TheVariants as end
use Rattle.asp_serve.specs.declared.reading.Heard.TheVariants as heard
use Rattle.asp_serve.specs.declared.writing.Sent.{Sent}
use Rattle.asp_serve.specs.declared.writing.Sent.TheVariants as sent
use Rattle.asp_serve.specs.Jobs.{closing, is_last}
use Rattle.asp_serve.specs.Served.{Lane, LinkView}
use Rattle.asp_serve.specs.Steps.{Asks, Comes, HasCome, HasHeard, Hinders, IsFree, IsFreeAfter, IsHindered, IsTold, Sends}
use Rattle.asp_serve.specs.Steps.{Waits, Works, closed_if}
use Rattle.asp_serve.specs.Steps.{end_after}
use Rattle.asp_serve.proofs.Asking.{asks_then, hindered_due, hindered_then}
use Rattle.asp_serve.proofs.Lanes.{works_then}
use Rattle.asp_serve.proofs.Collecting.{come_then, looks_halted, looks_stopping, looks_work}
use Rattle.asp_serve.proofs.Stepping.{comes_answered, comes_behind, comes_drained, comes_refused}

-- ---- the hand

pub free_after : {Run : Type 0} (ended : Option LinkEnd) (run : Option Run) → run ≡ None → IsFreeAfter ended run
free_after None run free = free
free_after (Some (end.Closed rest)) run free = free
free_after (Some end.Drained) run free = tt
free_after (Some (end.Refused status)) run free = free
free_after (Some end.ReadFault) run free = free
free_after (Some end.WriteFault) run free = free
free_after (Some (end.JournalFull full)) run free = tt
free_after (Some end.Memory) run free = tt

pub hinders_free : {F Run : Type 0} (m : Rules) (asked : Request → Type 0) (due : Bool) (a b : Lane F)
    (ended : LinkEnd) (run : Option Run) → Hinders m asked due a b ended → IsFree ended run
hinders_free m asked due a b (end.Closed rest) run why = absurd why
hinders_free m asked due a b end.Drained run why = tt
hinders_free m asked due a b (end.Refused status) run why = absurd why
hinders_free m asked due a b end.ReadFault run why = absurd why
hinders_free m asked due a b end.WriteFault run why = absurd why
hinders_free m asked due a b (end.JournalFull full) run why = tt
hinders_free m asked due a b end.Memory run why = tt

-- ---- the last request

none_open : (went : Sent) (close : Bool) (size : ℕ) → end_after went (closed_if close size) ≡ None → close ≡ false
none_open sent.Whole true size is = absurd cc
none_open sent.Whole false size is = refl
none_open sent.Fault close size is = absurd cc
none_open sent.Memory close size is = absurd cc

closing_open : (last : Bool) (read : Request) → (closing last read).close ≡ false → last ≡ false
closing_open true read is = absurd cc
closing_open false read is = refl

if_none : (ended : Option LinkEnd) (P : Type 0) → (ended ≡ None → P) → IfNone ended P
if_none None P h = h refl
if_none (Some e) P h = tt

-- where the connection goes on, the request was not the last
pub more_may_come : (count size : ℕ) (went : Sent) (close : Bool) (read : Request) (ended whole : Option LinkEnd)
    → count < 1000 → ended ≡ end_after went whole → whole ≡ closed_if close size
    → close ≡ (closing (is_last count) read).close → IfNone ended (count + 1 < 1000)
more_may_come count size went close read ended whole few is was same = if_none ended (count + 1 < 1000) (λ none.
    let goes : close ≡ false = none_open went close size (ap (end_after went) (sym was) ∙ sym is ∙ none) in
    let open_ : is_last count ≡ false = closing_open (is_last count) read (sym same ∙ goes) in
    grind (arith, nat_tests))

-- ---- looks

either : (a b : Bool) → a || b ≡ true → (a ≡ true) ⊎ (b ≡ true)
either true b is = inl refl
either false b is = inr is

module _ {F : Type 0} (m : Rules) (may_give : ℕ → Type 0) where
  pub comes_leaving : (count : ℕ) (first rest : List ℕ) (looked : Looked) (a b : Lane F) (link : LinkView)
      → IsTurn (Looks m) a looked b → looked.stopping || looked.halted ≡ true
      → Comes m may_give count first rest a b link link (Some end.Drained)
  comes_leaving count first rest looked a b link turn is = comes_drained m may_give count first rest a b link
      (looks_work m looked a b turn) (at (either looked.stopping looked.halted is))
    where
      at : (looked.stopping ≡ true) ⊎ (looked.halted ≡ true)
          → (is_stopping (reverse b.seen) ≡ true) ⊎ (is_halted (reverse b.seen) ≡ true)
      at (inl stopping) = inl (looks_stopping m looked a b turn stopping)
      at (inr halted) = inr (looks_halted m looked a b turn halted)

  -- ---- requests

  -- the request was answered, and the connection has ended so, if it has
  pub comes_ended : (count size : ℕ) (bytes rest : List ℕ) (read : Request) (told : Admitted) (answer : Answer)
      (went : Sent) (close : Bool) (ended whole : Option LinkEnd) (a b c : Lane F) (link after : LinkView)
      → ComesNext bytes (next.Request read) rest → IsTold m may_give (closing (is_last count) read) told a b
      → HasCome m told.run answer b c → Sends link after (IsAnswerText answer told.moment) went
      → ended ≡ end_after went whole → whole ≡ closed_if close size → close ≡ (closing (is_last count) read).close
      → size ≡ length rest → Comes m may_give count bytes rest a c link after ended
  comes_ended count size bytes rest read told answer went close ended whole a b c link after gives x come sends is was
      same long =
      let all : end_after went (closed_if (closing (is_last count) read).close (length rest)) ≡ ended =
      sym (is ∙ ap (end_after went) (was ∙ ap (λ t. closed_if t size) same
      ∙ ap (closed_if (closing (is_last count) read).close) long)) in
      subst (Comes m may_give count bytes rest a c link after) all
      (comes_answered m may_give count bytes rest read told answer went a b c link after gives x come sends)

  -- a request was heard after a look
  pub comes_requested : (count : ℕ) (first rest : List ℕ) (read : Request) (a b c : Lane F)
      (link heard_at after : LinkView) (ended : Option LinkEnd) → Works a b
      → HasHeard link heard_at first (heard.Request read) rest
      → ((bytes : List ℕ) → ComesNext bytes (next.Request read) rest
      → Comes m may_give count bytes rest b c heard_at after ended) → AreRight m (reverse c.seen)
      → Comes m may_give count first rest a c link after ended
  comes_requested count first rest read a b c link heard_at after ended works x comes right =
      comes_behind m may_give count first x.came rest a b c link heard_at after ended works x.moves
      (comes (first ++ x.came) x.hears) right

  -- what was heard is refused
  pub comes_refusing : (count status second : ℕ) (went : Sent) (first rest : List ℕ) (a b : Lane F)
      (link heard_at after : LinkView) (ended : Option LinkEnd) → Works a b
      → HasHeard link heard_at first (heard.Refused status) rest → may_give second
      → Sends heard_at after (IsAnswerText (status_answer_of status false true) second) went
      → ended ≡ end_after went (Some (end.Refused status)) → AreRight m (reverse b.seen)
      → Comes m may_give count first rest a b link after ended
  comes_refusing count status second went first rest a b link heard_at after ended works x may sends is right =
      subst (Comes m may_give count first rest a b link after) (sym is)
      (comes_behind m may_give count first x.came rest a b b link heard_at after
      (end_after went (Some (end.Refused status))) works x.moves
      (comes_refused m may_give went count status second (first ++ x.came) rest b heard_at after x.hears may sends)
      right)

-- ---- rounds of waiting and asking

module _ {F : Type 0} (m : Rules) where
  -- some work comes before a round of waiting
  pub waits_then : (run : ℕ) (a b c : Lane F) (came : Option (Result Answer LinkEnd)) → Works a b
      → Waits m run b came c → Waits m run a came c
  waits_then run a b c None before x = works_then a b c before x
  waits_then run a b c (Some (Ok answer)) before x = come_then m run answer a b c before x
  waits_then run a b c (Some (Err ended)) before x = hindered_then m (λ request. ⊥) false a b c ended before x

  -- what hinders where a request is due
  pub asks_hindered : (may_give : ℕ → Type 0) (request : Request) (a b : Lane F) (ended : LinkEnd)
      → IsHindered m (λ asked. ⊥) false a b ended → Asks m may_give request a (Err ended) b
  asks_hindered may_give request a b ended x = hindered_due m (λ asked. asked ≡ request) a b ended x

  -- some work comes before a round of asking
  pub asked_then : (P : ℕ → Type 0) (request : Request) (a b c : Lane F)
      (asked : Option (Result Admitted LinkEnd)) → Works a b
      → IfSome asked (λ told. Asks m P request b told c) → IfSome asked (λ told. Asks m P request a told c)
  asked_then P request a b c None before x = x
  asked_then P request a b c (Some told) before x = asks_then m P request a b c told before x

  pub again_then : (a b c : Lane F) (asked : Option (Result Admitted LinkEnd)) → Works a b
      → IfNone asked (Works b c) → IfNone asked (Works a c)
  again_then a b c None before x = works_then a b c before x
  again_then a b c (Some told) before x = x
