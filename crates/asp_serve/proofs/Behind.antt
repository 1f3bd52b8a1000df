-- One request of a connection after another.
use Rattle.std.proofs.Common.{◌≡◌, ◌⊎◌, ℕ, ◌+◌, ◌≤◌, ◌++◌, Bool, true, false, List, [], ◌∷◌, length, refl, ap, sym}
use Rattle.std.proofs.Common.{◌∙◌, subst, append-nil, append_assoc, inl, inr, reverse, arith, None}
use Rattle.std.proofs.Common.{IfSome, length-append}
use Rattle.std.specs.Prelude.{option_to_list}
use Rattle.turn_desk.specs.Histories.{BeginsWith}
use Rattle.asp_job.specs.declared.entry.Entry.{Entry}
use Rattle.asp_job.specs.declared.request.Request.{Request}
use Rattle.asp_job.specs.Journal.{AreRight, admit_entries}
use Rattle.asp_job.specs.Output.{answer_of_run}
use Rattle.asp_job.specs.Rules.{Rules}
use Rattle.asp_job.specs.Runs.{has_ended}
use Rattle.http_front.specs.Reader.{Wants}
use Rattle.http_front.proofs.Fronts.{takes-append, takes_then}
use Rattle.http_front.proofs.Streams.{are_requests-append}
use Rattle.asp_core.proofs.Kept.{past_of_more}
use Rattle.asp_core.proofs.Lasting.{lasts}
use Rattle.asp_serve.specs.declared.ending.LinkEnd.{LinkEnd}
use Rattle.asp_serve.specs.declared.ending.LinkEnd.TheVariants as end
use Rattle.asp_serve.specs.Jobs.{AreAdmitted, AreAnswered, Asking, IsAdmitted, IsAnswered, NoneBehindClose, closes}
use Rattle.asp_serve.specs.Jobs.{closing, has_closed, is_last, job_for}
use Rattle.asp_serve.specs.Served.{Ends, Grows, HasServed, IsNextOf, IsServedFrom, Lane, LinkView, Served}
use Rattle.asp_serve.specs.Served.{all_of}
use Rattle.asp_serve.specs.Steps.{GoesOn}
use Rattle.asp_serve.proofs.Asking.{full_then}
use Rattle.asp_serve.proofs.Lanes.{grows_then}
use Rattle.asp_serve.proofs.Links.{moves_then, risen_then}

-- ---- jobs and answers by a longer history

module _ (m : Rules) where
  pub admitted_later : (lane : ℕ) (may_give : ℕ → Type 0) (old new : List Entry) (request : Request) (asking : Asking)
      → BeginsWith new old → IsAdmitted m lane may_give old request asking
      → IsAdmitted m lane may_give new request asking
  admitted_later lane may_give old new request asking more x =
      let entries = admit_entries m (reverse x.before) lane (job_for request x.second) in
      record {
        before = x.before;
        after = x.after ++ more.0;
        second = x.second;
        may = x.may;
        seen_is = more.1 ∙ ap (λ l. l ++ more.0) x.seen_is ∙ append_assoc (x.before ++ entries) x.after more.0;
        asking_is = x.asking_is;
        job_is = x.job_is;
      }

  pub all_admitted_later : (lane : ℕ) (may_give : ℕ → Type 0) (count : ℕ) (old new : List Entry) (rs : List Request)
      (xs : List Asking) → BeginsWith new old → AreAdmitted m lane may_give count old rs xs
      → AreAdmitted m lane may_give count new rs xs
  all_admitted_later lane may_give count old new [] [] more x = tt
  all_admitted_later lane may_give count old new [] (a ∷ xs) more x = absurd x
  all_admitted_later lane may_give count old new (r ∷ rs) [] more x = absurd x
  all_admitted_later lane may_give count old new (r ∷ rs) (a ∷ xs) more x = (
    admitted_later lane may_give old new (closing (is_last count) r) a more x.0,
    all_admitted_later lane may_give (count + 1) old new rs xs more x.1,
  )

  pub admitted_both : (lane : ℕ) (may_give : ℕ → Type 0) (count : ℕ) (seen : List Entry) (rs qs : List Request)
      (xs ys : List Asking) → AreAdmitted m lane may_give count seen rs xs
      → AreAdmitted m lane may_give (count + length xs) seen qs ys
      → AreAdmitted m lane may_give count seen (rs ++ qs) (xs ++ ys)
  admitted_both lane may_give count seen [] qs [] ys x y =
      let same : count + 0 ≡ count = omega arith in
      subst (λ n. AreAdmitted m lane may_give n seen qs ys) same y
  admitted_both lane may_give count seen [] qs (a ∷ xs) ys x y = absurd x
  admitted_both lane may_give count seen (r ∷ rs) qs [] ys x y = absurd x
  admitted_both lane may_give count seen (r ∷ rs) qs (a ∷ xs) ys x y =
      let same : count + length (a ∷ xs) ≡ count + 1 + length xs = omega arith in (
        x.0,
        admitted_both lane may_give (count + 1) seen rs qs xs ys x.1
            (subst (λ n. AreAdmitted m lane may_give n seen qs ys) same y),
      )

  pub answered_later : (old new : List Entry) (asking : Asking) (text : List ℕ) → BeginsWith new old
      → AreRight m (reverse new) → IsAnswered m (reverse old) asking text → IsAnswered m (reverse new) asking text
  answered_later old new asking text more right x =
      let is = ap reverse more.1 ∙ past_of_more old more.0 in
      let stays = lasts m (reverse old) more.0 asking.0 (subst (AreRight m) is right) x.ended in
      record {
        ended = ap (λ past. has_ended past asking.0) is ∙ stays.0;
        answer = x.answer;
        answer_is = ap (λ past. answer_of_run m past asking.0) is ∙ stays.1 ∙ x.answer_is;
        text_is = x.text_is;
      }

  pub all_answered_later : (old new : List Entry) (xs : List Asking) (bytes : List ℕ) → BeginsWith new old
      → AreRight m (reverse new) → AreAnswered m (reverse old) xs bytes → AreAnswered m (reverse new) xs bytes
  all_answered_later old new [] bytes more right x = x
  all_answered_later old new (a ∷ xs) bytes more right x = (
    x.0,
    x.1,
    answered_later old new a x.0 more right x.2,
    all_answered_later old new xs x.1 more right x.3,
    x.4,
  )

  pub answered_both : (past : List Entry) (xs ys : List Asking) (first rest : List ℕ) → AreAnswered m past xs first
      → AreAnswered m past ys rest → AreAnswered m past (xs ++ ys) (first ++ rest)
  answered_both past [] ys first rest x y =
      let same : rest ≡ first ++ rest = sym (ap (λ l. l ++ rest) x) in
      subst (AreAnswered m past ys) same y
  answered_both past (a ∷ xs) ys first rest x y = (
    x.0,
    x.1 ++ rest,
    x.2,
    answered_both past xs ys x.1 rest x.3 y,
    ap (λ l. l ++ rest) x.4 ∙ append_assoc x.0 x.1 rest,
  )

-- ---- which jobs end the connection

pub closed_both : (closed : Bool) (xs ys : List Asking) → has_closed closed (xs ++ ys) ≡ has_closed (has_closed closed xs) ys
closed_both closed [] ys = refl
closed_both closed (a ∷ xs) ys = closed_both (closes a) xs ys

none_both : (closed : Bool) (xs ys : List Asking) → NoneBehindClose closed xs → NoneBehindClose (has_closed closed xs) ys
    → NoneBehindClose closed (xs ++ ys)
none_both closed [] ys x y = y
none_both closed (a ∷ xs) ys x y = (x.0, none_both (closes a) xs ys x.1 y)

-- ---- steps that come behind steps

-- with these jobs answered before
abbrev pub behind : List Asking → Served → Served
behind xs served = record {
  answered = xs ++ served.answered;
  unanswered = served.unanswered;
  rest = served.rest;
  tail = served.tail;
}

abbrev pub done : List Asking → List ℕ → Served
done xs rest = record { answered = xs; unanswered = None; rest = rest; tail = [] }

module _ {F : Type 0} (m : Rules) (may_give : ℕ → Type 0) where
  pub served_then : (count : ℕ) (a b c : Lane F) (bytes came written also mid : List ℕ) (xs : List Asking)
      (served : Served) → HasServed m may_give count a b bytes written (done xs mid) → has_closed false xs ≡ false
      → HasServed m may_give (count + length xs) b c (mid ++ came) also served → AreRight m (reverse c.seen)
      → HasServed m may_give count a c (bytes ++ came) (written ++ also) (behind xs served)
  served_then count a b c bytes came written also mid xs served x goes y right =
      let ys = all_of served in
      let left : all_of (done xs mid) ≡ xs = append-nil xs in
      let jobs : all_of (done xs mid) ++ ys ≡ all_of (behind xs served) =
      ap (λ l. l ++ ys) left ∙ sym (append_assoc xs served.answered (option_to_list served.unanswered)) in
      let whole : xs ++ ys ≡ all_of (behind xs served) = ap (λ l. l ++ ys) (sym left) ∙ jobs in
      record {
        grows = subst (Grows may_give a c) jobs (grows_then may_give a b c (all_of (done xs mid)) ys x.grows y.grows);
        taken = x.taken ++ y.taken;
        takes = takes_then (bytes ++ came) x.taken y.taken (mid ++ came) served.rest
            (takes-append bytes came x.taken mid x.takes) y.takes;
        requests = x.requests ++ y.requests;
        requests_are = are_requests-append x.taken y.taken x.requests y.requests x.requests_are y.requests_are;
        admitted = subst (AreAdmitted m a.number may_give count c.seen (x.requests ++ y.requests)) whole
            (admitted_both m a.number may_give count c.seen x.requests y.requests xs ys
            (all_admitted_later m a.number may_give count b.seen c.seen x.requests xs y.grows.seen
            (subst (AreAdmitted m a.number may_give count b.seen x.requests) left x.admitted))
            (subst (λ n. AreAdmitted m n may_give (count + length xs) c.seen y.requests ys) x.grows.number y.admitted));
        ends_it = subst (NoneBehindClose false) whole
            (none_both false xs ys (subst (NoneBehindClose false) left x.ends_it)
            (subst (λ closed. NoneBehindClose closed ys) (sym goes) y.ends_it));
        texts = x.texts ++ y.texts;
        answers = answered_both m (reverse c.seen) xs served.answered x.texts y.texts
            (all_answered_later m b.seen c.seen xs x.texts y.grows.seen right x.answers) y.answers;
        written_is = ap (λ l. l ++ also) (x.written_is ∙ append-nil x.texts) ∙ ap (λ l. x.texts ++ l) y.written_is
            ∙ sym (append_assoc x.texts y.texts served.tail);
      }

  pub ends_then : (a b c : Lane F) (la lb lc : LinkView) (xs : List Asking) (served : Served) (ended : LinkEnd)
      → BeginsWith b.seen a.seen → b.number ≡ a.number → la.faults ≤ lb.faults → has_closed false xs ≡ false
      → Ends m may_give b c lb lc served ended → Ends m may_give a c la lc (behind xs served) ended
  ends_then a b c la lb lc xs served (end.Closed rest) seen number later goes x = (x.0, x.1, at x.2)
    where
      at : (has_closed false served.answered ≡ true) ⊎ (Wants served.rest × IfSome lc.left (λ bytes. bytes ≡ []))
          → (has_closed false (xs ++ served.answered) ≡ true)
          ⊎ (Wants served.rest × IfSome lc.left (λ bytes. bytes ≡ []))
      at (inl closed) = inl (closed_both false xs served.answered
          ∙ ap (λ b. has_closed b served.answered) goes ∙ closed)
      at (inr over) = inr over
  ends_then a b c la lb lc xs served end.Drained seen number later goes x = (
    x.0,
    closed_both false xs served.answered ∙ ap (λ b. has_closed b served.answered) goes ∙ x.1,
    x.2,
  )
  ends_then a b c la lb lc xs served (end.Refused status) seen number later goes x = x
  ends_then a b c la lb lc xs served end.ReadFault seen number later goes x =
      (x.0, x.1, risen_then la.faults lb.faults lc.faults later x.2)
  ends_then a b c la lb lc xs served end.WriteFault seen number later goes x =
      (x.0, risen_then la.faults lb.faults lc.faults later x.1)
  ends_then a b c la lb lc xs served (end.JournalFull full) seen number later goes x =
      (x.0, full_then m (IsNextOf served.rest) a b c full seen number x.1)
  ends_then a b c la lb lc xs served end.Memory seen number later goes x = x

  -- more requests behind those that were answered
  pub goes_then : (count more also : ℕ) (a b c : Lane F) (la lb lc : LinkView) (first mid rest : List ℕ)
      → GoesOn m may_give count first mid a b la lb more → GoesOn m may_give (count + more) mid rest b c lb lc also
      → AreRight m (reverse c.seen) → GoesOn m may_give count first rest a c la lc (more + also)
  goes_then count more also a b c la lb lc first mid rest x y right = record {
    came = x.came ++ y.came;
    written = x.written ++ y.written;
    moves = moves_then la lb lc x.came y.came x.written y.written x.moves y.moves;
    answered = x.answered ++ y.answered;
    has = subst (λ bytes. HasServed m may_give count a c bytes (x.written ++ y.written)
        (done (x.answered ++ y.answered) rest)) (append_assoc first x.came y.came)
        (served_then count a b c (first ++ x.came) y.came x.written y.written mid x.answered (done y.answered rest)
        x.has x.goes_on (subst (λ n. HasServed m may_give n b c (mid ++ y.came) y.written (done y.answered rest))
        (ap (λ n. count + n) (sym x.count_is)) y.has) right);
    goes_on = closed_both false x.answered y.answered ∙ ap (λ b. has_closed b y.answered) x.goes_on ∙ y.goes_on;
    count_is = length-append x.answered y.answered ∙ ap (λ n. n + length y.answered) x.count_is
        ∙ ap (λ n. more + n) y.count_is;
  }

  -- an end behind them
  pub from_then : (count more : ℕ) (a b c : Lane F) (la lb lc : LinkView) (first mid : List ℕ) (ended : LinkEnd)
      → GoesOn m may_give count first mid a b la lb more
      → IsServedFrom m may_give (count + more) mid b c lb lc ended → AreRight m (reverse c.seen)
      → IsServedFrom m may_give count first a c la lc ended
  from_then count more a b c la lb lc first mid ended x y right = record {
    came = x.came ++ y.came;
    written = x.written ++ y.written;
    moves = moves_then la lb lc x.came y.came x.written y.written x.moves y.moves;
    served = behind x.answered y.served;
    has = subst (λ bytes. HasServed m may_give count a c bytes (x.written ++ y.written) (behind x.answered y.served))
        (append_assoc first x.came y.came)
        (served_then count a b c (first ++ x.came) y.came x.written y.written mid x.answered y.served x.has x.goes_on
        (subst (λ n. HasServed m may_give n b c (mid ++ y.came) y.written y.served) (ap (λ n. count + n)
        (sym x.count_is)) y.has) right);
    ends = ends_then a b c la lb lc x.answered y.served ended x.has.grows.seen x.has.grows.number x.moves.later
        x.goes_on y.ends;
  }
