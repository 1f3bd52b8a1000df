-- One step of a connection, and its ends.
use Rattle.std.proofs.Common.{◌≡◌, ◌⊎◌, ℕ, ◌+◌, ◌++◌, Bool, true, false, List, [], ◌∷◌, length, refl, ap}
use Rattle.std.proofs.Common.{sym, ◌∙◌, subst, append-nil, inl, inr, reverse, arith, Option, Some, None}
use Rattle.std.specs.Prelude.{max}
use Rattle.httparse.specs.Grammar.{RequestHead}
use Rattle.turn_desk.specs.Histories.{BeginsWith}
use Rattle.asp_job.specs.declared.answer.Answer.{Answer}
use Rattle.asp_job.specs.declared.job.Job.{Job}
use Rattle.asp_job.specs.declared.request.Request.{Request}
use Rattle.asp_job.specs.Journal.{AreRight}
use Rattle.asp_job.specs.Output.{answer_of_run}
use Rattle.asp_job.specs.Rules.{Rules}
use Rattle.asp_job.specs.Runs.{has_ended, is_halted, is_stopping, moment_of}
use Rattle.http_front.specs.Front as front
use Rattle.http_front.specs.Front.{IsFront}
use Rattle.http_front.specs.Reader.{ComesNext}
use Rattle.http_front.specs.declared.reader.Next.TheVariants as next
use Rattle.http_front.specs.Request.{IsRequestFor}
use Rattle.asp_response.specs.AnswerText.{IsAnswerText}
use Rattle.asp_response.specs.Fixed.{status_answer_of}
use Rattle.asp_core.specs.declared.admitted.Admitted.{Admitted}
use Rattle.asp_serve.specs.declared.ending.LinkEnd.{LinkEnd}
use Rattle.asp_serve.specs.declared.ending.LinkEnd.TheVariants as end
use Rattle.asp_serve.specs.declared.reading.Heard.TheVariants as heard
use Rattle.asp_serve.specs.declared.writing.Sent.{Sent}
use Rattle.asp_serve.specs.declared.writing.Sent.TheVariants as sent
use Rattle.asp_serve.specs.Jobs.{Asking, IsAdmitted, IsAnswered, closes, closing, is_last, job_for, work_closes}
use Rattle.asp_serve.specs.Served.{Ends, Grows, HasServed, IsNextOf, IsServedFrom, Lane, LinkView}
use Rattle.asp_serve.specs.Served.{Moves, Served}
use Rattle.asp_serve.specs.Steps.{Comes, GoesOn, HasCome, HasHeard, Hinders, IsHindered, IsTold, Sends, Works}
use Rattle.asp_serve.specs.Steps.{closed_if, end_after}
use Rattle.asp_serve.proofs.Asking.{full_more, full_then}
use Rattle.asp_serve.proofs.Lanes.{grows_before, works_grow, works_none}
use Rattle.asp_serve.proofs.Links.{moves_none}
use Rattle.asp_serve.proofs.Behind.{admitted_later, done, from_then, goes_then}

-- ---- what was served by one step

abbrev left : Asking → List ℕ → List ℕ → Served
left asking rest tail = record { answered = []; unanswered = Some asking; rest = rest; tail = tail }

abbrev none : List ℕ → List ℕ → Served
none rest tail = record { answered = []; unanswered = None; rest = rest; tail = tail }

closes_is : (count second : ℕ) (read : Request) (asking : Asking)
    → asking.1 ≡ job_for (closing (is_last count) read) second → closes asking ≡ (closing (is_last count) read).close
closes_is count second read asking is = ap (λ (j : Job). work_closes j.work) is

module _ {F : Type 0} (m : Rules) (may_give : ℕ → Type 0) where
  none_left : (count : ℕ) (a b : Lane F) (bytes tail : List ℕ) → Works a b
      → HasServed m may_give count a b bytes tail (none bytes tail)
  none_left count a b bytes tail works = record {
    grows = works_grow may_give a b works;
    taken = [];
    takes = refl;
    requests = [];
    requests_are = tt;
    admitted = tt;
    ends_it = tt;
    texts = [];
    answers = refl;
    written_is = refl;
  }

  -- the request that the bytes give first has come as this job
  pub record HasAsked (count : ℕ) (bytes rest : List ℕ) (read : Request) (a b : Lane F) (asking : Asking) : Type 0 where
    pub h : RequestHead
    pub body : List ℕ
    pub is_for : IsRequestFor h body read
    pub gives : IsFront bytes (front.Request h body rest)
    pub grows : Grows may_give a b (asking ∷ [])
    pub admitted : IsAdmitted m a.number may_give b.seen (closing (is_last count) read) asking

  one_left : (count : ℕ) (bytes rest tail : List ℕ) (read : Request) (a b : Lane F) (asking : Asking)
      → HasAsked count bytes rest read a b asking
      → HasServed m may_give count a b bytes tail (left asking rest tail)
  one_left count bytes rest tail read a b asking x = record {
    grows = x.grows;
    taken = (x.h, x.body) ∷ [];
    takes = (rest, x.gives, refl);
    requests = read ∷ [];
    requests_are = (x.is_for, tt);
    admitted = (x.admitted, tt);
    ends_it = (refl, tt);
    texts = [];
    answers = refl;
    written_is = refl;
  }

  one_done : (count : ℕ) (bytes rest text : List ℕ) (read : Request) (a b : Lane F) (asking : Asking)
      → HasAsked count bytes rest read a b asking → IsAnswered m (reverse b.seen) asking text
      → HasServed m may_give count a b bytes text (done (asking ∷ []) rest)
  one_done count bytes rest text read a b asking x answer = record {
    grows = x.grows;
    taken = (x.h, x.body) ∷ [];
    takes = (rest, x.gives, refl);
    requests = read ∷ [];
    requests_are = (x.is_for, tt);
    admitted = (x.admitted, tt);
    ends_it = (refl, tt);
    texts = text;
    answers = (text, [], answer, refl, sym (append-nil text));
    written_is = sym (append-nil text);
  }

  -- an end after which no byte came
  from_here : (count : ℕ) (bytes written : List ℕ) (a b : Lane F) (link after : LinkView) (served : Served)
      (ended : LinkEnd) → Moves link after [] written → HasServed m may_give count a b bytes written served
      → Ends m may_give a b link after served ended → IsServedFrom m may_give count bytes a b link after ended
  from_here count bytes written a b link after served ended moves has ends = record {
    came = [];
    written = written;
    moves = moves;
    served = served;
    has = subst (λ l. HasServed m may_give count a b l written served) (sym (append-nil bytes)) has;
    ends = ends;
  }

  -- ---- an answer

  comes_whole : (close : Bool) (count : ℕ) (bytes rest text : List ℕ) (read : Request) (a b : Lane F) (asking : Asking)
      (link after : LinkView) → HasAsked count bytes rest read a b asking → IsAnswered m (reverse b.seen) asking text
      → Moves link after [] text → closes asking ≡ close
      → Comes m may_give count bytes rest a b link after (closed_if close (length rest))
  comes_whole true count bytes rest text read a b asking link after x answer moves is =
      from_here count bytes text a b link after (done (asking ∷ []) rest) (end.Closed (length rest)) moves
      (one_done count bytes rest text read a b asking x answer) ((refl, refl), refl, inl is)
  comes_whole false count bytes rest text read a b asking link after x answer moves is = record {
    came = [];
    written = text;
    moves = moves;
    answered = asking ∷ [];
    has = subst (λ l. HasServed m may_give count a b l text (done (asking ∷ []) rest)) (sym (append-nil bytes))
        (one_done count bytes rest text read a b asking x answer);
    goes_on = is;
    count_is = refl;
  }

  comes_sent : (told : Sent) (close : Bool) (count : ℕ) (bytes rest : List ℕ) (read : Request) (a b : Lane F)
      (asking : Asking) (link after : LinkView) (IsText : List ℕ → Type 0)
      → HasAsked count bytes rest read a b asking
      → ((text : List ℕ) → IsText text → IsAnswered m (reverse b.seen) asking text) → Sends link after IsText told
      → closes asking ≡ close
      → Comes m may_give count bytes rest a b link after (end_after told (closed_if close (length rest)))
  comes_sent sent.Whole close count bytes rest read a b asking link after IsText x answer sends is =
      comes_whole close count bytes rest sends.0 read a b asking link after x (answer sends.0 sends.1) sends.2 is
  comes_sent sent.Fault close count bytes rest read a b asking link after IsText x answer sends is =
      from_here count bytes sends.1 a b link after (left asking rest sends.1) end.WriteFault sends.4
      (one_left count bytes rest sends.1 read a b asking x)
      (inl (asking, sends.0, refl, answer sends.0 sends.2, sends.3), sends.5)
  comes_sent sent.Memory close count bytes rest read a b asking link after IsText x answer sends is =
      from_here count bytes [] a b link after (left asking rest []) end.Memory
      (subst (λ l. Moves link l [] []) (sym sends) (moves_none link))
      (one_left count bytes rest [] read a b asking x) refl

  asked_is : (count : ℕ) (bytes rest : List ℕ) (read : Request) (told : Admitted) (a b c : Lane F) (h : RequestHead)
      (body : List ℕ) → IsRequestFor h body read → IsFront bytes (front.Request h body rest)
      → (x : IsTold m may_give (closing (is_last count) read) told a b) → Works b c
      → HasAsked count bytes rest read a c x.asking
  asked_is count bytes rest read told a b c h body is_for gives x works = record {
    h = h;
    body = body;
    is_for = is_for;
    gives = gives;
    grows = grows_before may_give a b c (x.asking ∷ []) x.grows works;
    admitted = admitted_later m a.number may_give b.seen c.seen (closing (is_last count) read) x.asking works.seen
        x.admitted;
  }

  its_answer : (run : ℕ) (answer : Answer) (moment : ℕ) (b c : Lane F) (asking : Asking) (text : List ℕ)
      → HasCome m run answer b c → run ≡ asking.0 → moment ≡ asking.1.moment → IsAnswerText answer moment text
      → IsAnswered m (reverse c.seen) asking text
  its_answer run answer moment b c asking text x run_is moment_is text_is = record {
    ended = subst (λ r. has_ended (reverse c.seen) r ≡ true) run_is x.ended;
    answer = answer;
    answer_is = subst (λ r. answer_of_run m (reverse c.seen) r ≡ Some answer) run_is x.answer_is;
    text_is = subst (λ n. IsAnswerText answer n text) moment_is text_is;
  }

  -- the request was answered, as far as its bytes went
  pub comes_answered : (count : ℕ) (bytes rest : List ℕ) (read : Request) (told : Admitted) (answer : Answer)
      (went : Sent) (a b c : Lane F) (link after : LinkView) → ComesNext bytes (next.Request read) rest
      → IsTold m may_give (closing (is_last count) read) told a b → HasCome m told.run answer b c
      → Sends link after (IsAnswerText answer told.moment) went
      → Comes m may_give count bytes rest a c link after
      (end_after went (closed_if (closing (is_last count) read).close (length rest)))
  comes_answered count bytes rest read told answer went a b c link after gives x come sends =
      comes_sent went (closing (is_last count) read).close count bytes rest read a c x.asking link after
      (IsAnswerText answer told.moment)
      (asked_is count bytes rest read told a b c gives.0 gives.1 gives.2 gives.3 x come.works)
      (λ text is. its_answer told.run answer told.moment b c x.asking text come x.run_is x.moment_is is) sends
      (closes_is count (max x.admitted.second (moment_of (reverse x.admitted.before))) read x.asking x.admitted.job_is)

  -- ---- what hinders

  hinders_none : (count : ℕ) (bytes : List ℕ) (read : Request) (a b : Lane F) (link : LinkView) (ended : LinkEnd)
      (asked : Request → Type 0) → ((r : Request) → asked r → IsNextOf bytes r) → Works a b
      → Hinders m asked true a b ended → IsServedFrom m may_give count bytes a b link link ended
  hinders_none count bytes read a b link (end.Closed rest) asked gives works why = absurd why
  hinders_none count bytes read a b link end.Drained asked gives works why =
      from_here count bytes [] a b link link (none bytes []) end.Drained (moves_none link)
      (none_left count a b bytes [] works) (refl, refl, at why)
    where
      at : Hinders m asked true a b end.Drained
          → (((none bytes []).unanswered ≡ None) × (is_stopping (reverse b.seen) ≡ true)) ⊎ (is_halted (reverse b.seen) ≡ true)
      at (inl y) = inl (refl, y.1)
      at (inr y) = inr y
  hinders_none count bytes read a b link (end.Refused status) asked gives works why = absurd why
  hinders_none count bytes read a b link end.ReadFault asked gives works why = absurd why
  hinders_none count bytes read a b link end.WriteFault asked gives works why = absurd why
  hinders_none count bytes read a b link (end.JournalFull full) asked gives works why =
      from_here count bytes [] a b link link (none bytes []) (end.JournalFull full) (moves_none link)
      (none_left count a b bytes [] works) (refl, full_more m asked (IsNextOf bytes) gives a b full why)
  hinders_none count bytes read a b link end.Memory asked gives works why =
      from_here count bytes [] a b link link (none bytes []) end.Memory (moves_none link)
      (none_left count a b bytes [] works) refl

  -- before the request came as a job
  pub comes_hindered : (count : ℕ) (bytes rest : List ℕ) (read : Request) (a b : Lane F) (link : LinkView)
      (ended : LinkEnd) → ComesNext bytes (next.Request read) rest
      → IsHindered m (λ asked. asked ≡ closing (is_last count) read) true a b ended
      → Comes m may_give count bytes rest a b link link (Some ended)
  comes_hindered count bytes rest read a b link ended gives x = hinders_none count bytes read a b link ended
      (λ asked. asked ≡ closing (is_last count) read)
      (λ r is. (gives.0, gives.1, rest, read, is_last count, gives.3, gives.2, is)) x.works x.why

  hinders_one : (count : ℕ) (bytes rest : List ℕ) (read : Request) (a b c : Lane F) (asking : Asking) (link : LinkView)
      (ended : LinkEnd) → HasAsked count bytes rest read a c asking → BeginsWith b.seen a.seen → b.number ≡ a.number
      → Hinders m (λ request. ⊥) false b c ended → IsServedFrom m may_give count bytes a c link link ended
  hinders_one count bytes rest read a b c asking link (end.Closed n) x seen number why = absurd why
  hinders_one count bytes rest read a b c asking link end.Drained x seen number why =
      from_here count bytes [] a c link link (left asking rest []) end.Drained (moves_none link)
      (one_left count bytes rest [] read a c asking x) (refl, refl, at why)
    where
      at : Hinders m (λ request. ⊥) false b c end.Drained
          → ((Some asking ≡ None) × (is_stopping (reverse c.seen) ≡ true)) ⊎ (is_halted (reverse c.seen) ≡ true)
      at (inl y) = absurd (let no : false ≡ true = y.0 in cc)
      at (inr y) = inr y
  hinders_one count bytes rest read a b c asking link (end.Refused status) x seen number why = absurd why
  hinders_one count bytes rest read a b c asking link end.ReadFault x seen number why = absurd why
  hinders_one count bytes rest read a b c asking link end.WriteFault x seen number why = absurd why
  hinders_one count bytes rest read a b c asking link (end.JournalFull full) x seen number why =
      from_here count bytes [] a c link link (left asking rest []) (end.JournalFull full) (moves_none link)
      (one_left count bytes rest [] read a c asking x) (
        refl,
        full_then m (IsNextOf rest) a b c full seen number
            (full_more m (λ request. ⊥) (IsNextOf rest) (λ r no. absurd no) b c full why),
      )
  hinders_one count bytes rest read a b c asking link end.Memory x seen number why =
      from_here count bytes [] a c link link (left asking rest []) end.Memory (moves_none link)
      (one_left count bytes rest [] read a c asking x) refl

  -- before its answer came
  pub comes_left : (count : ℕ) (bytes rest : List ℕ) (read : Request) (told : Admitted) (a b c : Lane F)
      (link : LinkView) (ended : LinkEnd) → ComesNext bytes (next.Request read) rest
      → IsTold m may_give (closing (is_last count) read) told a b
      → IsHindered m (λ request. ⊥) false b c ended
      → Comes m may_give count bytes rest a c link link (Some ended)
  comes_left count bytes rest read told a b c link ended gives x why = hinders_one count bytes rest read a b c x.asking
      link ended (asked_is count bytes rest read told a b c gives.0 gives.1 gives.2 gives.3 x why.works) x.grows.seen
      x.grows.number why.why

  -- ---- where no request came

  -- a refusal, as far as the fixed answer went
  pub comes_refused : (told : Sent) (count status second : ℕ) (bytes rest : List ℕ) (a : Lane F) (link after : LinkView)
      → IsFront bytes (front.Refused status) → may_give second
      → Sends link after (IsAnswerText (status_answer_of status false true) second) told
      → Comes m may_give count bytes rest a a link after (end_after told (Some (end.Refused status)))
  comes_refused sent.Whole count status second bytes rest a link after gives may sends =
      from_here count bytes sends.0 a a link after (none bytes sends.0) (end.Refused status) sends.2
      (none_left count a a bytes sends.0 (works_none a a refl))
      (refl, gives, record { second = second; may = may; text_is = sends.1 })
  comes_refused sent.Fault count status second bytes rest a link after gives may sends =
      from_here count bytes sends.1 a a link after (none bytes sends.1) end.WriteFault sends.4
      (none_left count a a bytes sends.1 (works_none a a refl)) (
        inr (
          status,
          sends.0,
          refl,
          gives,
          record { second = second; may = may; text_is = sends.2 },
          sends.3,
        ),
        sends.5,
      )
  comes_refused sent.Memory count status second bytes rest a link after gives may sends =
      from_here count bytes [] a a link after (none bytes []) end.Memory
      (subst (λ l. Moves link l [] []) (sym sends) (moves_none link))
      (none_left count a a bytes [] (works_none a a refl)) refl

  -- what was heard, and nothing was done with it
  heard_end : (count : ℕ) (first rest : List ℕ) (a b : Lane F) (link after : LinkView) (came : List ℕ) (ended : LinkEnd)
      → Works a b → Moves link after came [] → Ends m may_give a b link after (none (first ++ came) []) ended
      → Comes m may_give count first rest a b link after (Some ended)
  heard_end count first rest a b link after came ended works moves ends = record {
    came = came;
    written = [];
    moves = moves;
    served = none (first ++ came) [];
    has = none_left count a b (first ++ came) [] works;
    ends = ends;
  }

  pub comes_over : (count size : ℕ) (first rest : List ℕ) (a b : Lane F) (link after : LinkView) → Works a b
      → HasHeard link after first heard.End rest → size ≡ length rest
      → Comes m may_give count first rest a b link after (Some (end.Closed size))
  comes_over count size first rest a b link after works x is =
      heard_end count first rest a b link after x.came (end.Closed size) works x.moves
      ((refl, refl), is ∙ ap length x.hears.1, inr (x.hears.0, x.hears.2))

  pub comes_faulty : (count : ℕ) (first rest : List ℕ) (a b : Lane F) (link after : LinkView) → Works a b
      → HasHeard link after first heard.Fault rest
      → Comes m may_give count first rest a b link after (Some end.ReadFault)
  comes_faulty count first rest a b link after works x =
      heard_end count first rest a b link after x.came end.ReadFault works x.moves
      ((refl, refl), x.hears.0, x.hears.1)

  pub comes_unread : (count : ℕ) (first rest : List ℕ) (a b : Lane F) (link after : LinkView) → Works a b
      → HasHeard link after first heard.Memory rest
      → Comes m may_give count first rest a b link after (Some end.Memory)
  comes_unread count first rest a b link after works x =
      heard_end count first rest a b link after x.came end.Memory works x.moves refl

  -- the host stops or is halted
  pub comes_drained : (count : ℕ) (first rest : List ℕ) (a b : Lane F) (link : LinkView) → Works a b
      → (is_stopping (reverse b.seen) ≡ true) ⊎ (is_halted (reverse b.seen) ≡ true)
      → Comes m may_give count first rest a b link link (Some end.Drained)
  comes_drained count first rest a b link works why =
      from_here count first [] a b link link (none first []) end.Drained (moves_none link)
      (none_left count a b first [] works) (refl, refl, at why)
    where
      at : (is_stopping (reverse b.seen) ≡ true) ⊎ (is_halted (reverse b.seen) ≡ true)
          → (((none first []).unanswered ≡ None) × (is_stopping (reverse b.seen) ≡ true)) ⊎ (is_halted (reverse b.seen) ≡ true)
      at (inl y) = inl (refl, y)
      at (inr y) = inr y

  -- ---- behind what was read

  heard_goes : (count : ℕ) (first came : List ℕ) (a b : Lane F) (la lb : LinkView) → Works a b → Moves la lb came []
      → GoesOn m may_give count first (first ++ came) a b la lb 0
  heard_goes count first came a b la lb works moves = record {
    came = came;
    written = [];
    moves = moves;
    answered = [];
    has = none_left count a b (first ++ came) [] works;
    goes_on = refl;
    count_is = refl;
  }

  -- a look and what was read come before
  pub comes_behind : (count : ℕ) (first came rest : List ℕ) (a b c : Lane F) (la lb lc : LinkView)
      (ended : Option LinkEnd) → Works a b → Moves la lb came []
      → Comes m may_give count (first ++ came) rest b c lb lc ended → AreRight m (reverse c.seen)
      → Comes m may_give count first rest a c la lc ended
  comes_behind count first came rest a b c la lb lc None works moves x right =
      let same : count ≡ count + 0 = omega arith in
      goes_then m may_give count 0 1 a b c la lb lc first (first ++ came) rest
      (heard_goes count first came a b la lb works moves)
      (subst (λ n. GoesOn m may_give n (first ++ came) rest b c lb lc 1) same x) right
  comes_behind count first came rest a b c la lb lc (Some ended) works moves x right =
      let same : count ≡ count + 0 = omega arith in
      from_then m may_give count 0 a b c la lb lc first (first ++ came) ended
      (heard_goes count first came a b la lb works moves)
      (subst (λ n. IsServedFrom m may_give n (first ++ came) b c lb lc ended) same x) right

  -- ---- the whole connection

  pub begins_so : (a : Lane F) (link : LinkView) → GoesOn m may_give 0 [] [] a a link link 0
  begins_so a link = heard_goes 0 [] [] a a link link (works_none a a refl) (moves_none link)

  pub goes_more : (count : ℕ) (a b c : Lane F) (la lb lc : LinkView) (mid rest : List ℕ)
      → GoesOn m may_give 0 [] mid a b la lb count → GoesOn m may_give count mid rest b c lb lc 1
      → AreRight m (reverse c.seen) → GoesOn m may_give 0 [] rest a c la lc (count + 1)
  goes_more count a b c la lb lc mid rest x y right =
      let same : count ≡ 0 + count = omega arith in
      goes_then m may_give 0 count 1 a b c la lb lc [] mid rest x
      (subst (λ n. GoesOn m may_give n mid rest b c lb lc 1) same y) right

  pub ends_so : (count : ℕ) (a b c : Lane F) (la lb lc : LinkView) (mid : List ℕ) (ended : LinkEnd)
      → GoesOn m may_give 0 [] mid a b la lb count → IsServedFrom m may_give count mid b c lb lc ended
      → AreRight m (reverse c.seen) → IsServedFrom m may_give 0 [] a c la lc ended
  ends_so count a b c la lb lc mid ended x y right =
      let same : count ≡ 0 + count = omega arith in
      from_then m may_give 0 count a b c la lb lc [] mid ended x
      (subst (λ n. IsServedFrom m may_give n mid b c lb lc ended) same y) right
