-- What the turns of a lane add to its own entries.
use Rattle.std.proofs.Common.{◌≡◌, ◌==◌, ℕ, ◌++◌, All, List, [], ◌∷◌, refl, ap, sym, ◌∙◌, subst, append-nil, append_assoc}
use Rattle.std.proofs.lemmas.List.{append_cancel_left}
use Rattle.std.proofs.lemmas.List.Elements.{filter-append}
use Rattle.turn_desk.specs.Histories.{BeginsWith, GrowsBy, own_part}
use Rattle.turn_desk.specs.Shown.{LaneFits}
use Rattle.turn_desk.proofs.Parts.{own_part-own}
use Rattle.asp_job.specs.declared.entry.Entry.{Entry}
use Rattle.asp_job.specs.declared.entry.What.{What}
use Rattle.asp_job.specs.declared.entry.What.TheVariants.{Admit, App, Begin, End, Halt, Queue, Refuse, Stop, Take, Tick}
use Rattle.asp_desk.specs.Calls.{IsTurn}
use Rattle.asp_serve.specs.Jobs.{AreOfLink, Asking, IsOfLink, brought_by, jobs_in}
use Rattle.asp_serve.specs.Served.{Grows, Lane}
use Rattle.asp_serve.specs.Steps.{AreOfWork, IsOfWork, Works}

-- ---- histories

pub begins_then : (a b c : List Entry) → BeginsWith b a → BeginsWith c b → BeginsWith c a
begins_then a b c x y = (x.0 ++ y.0, y.1 ∙ ap (λ l. l ++ y.0) x.1 ∙ append_assoc a x.0 y.0)

pub begins_itself : (a b : List Entry) → b ≡ a → BeginsWith b a
begins_itself a b same = ([], same ∙ sym (append-nil a))

-- ---- entries

pub jobs_both : (xs ys : List Entry) → jobs_in (xs ++ ys) ≡ jobs_in xs ++ jobs_in ys
jobs_both [] ys = refl
jobs_both (x ∷ xs) ys =
    ap (λ l. brought_by x.what ++ l) (jobs_both xs ys) ∙ sym (append_assoc (brought_by x.what) (jobs_in xs) (jobs_in ys))

pub links_both : (may_give : ℕ → Type 0) (xs ys : List Entry) → AreOfLink may_give xs → AreOfLink may_give ys
    → AreOfLink may_give (xs ++ ys)
links_both may_give [] ys p q = q
links_both may_give (x ∷ xs) ys p q = (p.0, links_both may_give xs ys p.1 q)

works_both : (xs ys : List Entry) → AreOfWork xs → AreOfWork ys → AreOfWork (xs ++ ys)
works_both [] ys p q = q
works_both (x ∷ xs) ys p q = (p.0, works_both xs ys p.1 q)

work_links : (may_give : ℕ → Type 0) (what : What) → IsOfWork what → IsOfLink may_give what
work_links may_give (Queue run work key) p = absurd p
work_links may_give (Admit run key fresh job) p = absurd p
work_links may_give (Refuse run job) p = absurd p
work_links may_give (Tick moment) p = absurd p
work_links may_give (Begin run serial) p = tt
work_links may_give (App run call reply) p = tt
work_links may_give (End run kind status size made finished) p = tt
work_links may_give (Take run) p = tt
work_links may_give Stop p = absurd p
work_links may_give Halt p = absurd p

works_link : (may_give : ℕ → Type 0) (xs : List Entry) → AreOfWork xs → AreOfLink may_give xs
works_link may_give [] p = tt
works_link may_give (x ∷ xs) p = (work_links may_give x.what p.0, works_link may_give xs p.1)

work_brings : (what : What) → IsOfWork what → brought_by what ≡ []
work_brings (Queue run work key) p = refl
work_brings (Admit run key fresh job) p = absurd p
work_brings (Refuse run job) p = absurd p
work_brings (Tick moment) p = refl
work_brings (Begin run serial) p = refl
work_brings (App run call reply) p = refl
work_brings (End run kind status size made finished) p = refl
work_brings (Take run) p = refl
work_brings Stop p = refl
work_brings Halt p = refl

works_bring : (xs : List Entry) → AreOfWork xs → jobs_in xs ≡ []
works_bring [] p = refl
works_bring (x ∷ xs) p = ap (λ l. l ++ jobs_in xs) (work_brings x.what p.0) ∙ works_bring xs p.1

module _ {F : Type 0} where
  -- ---- moments of a lane, one after another

  pub works_none : (a b : Lane F) → b ≡ a → Works a b
  works_none a b same = record {
    seen = begins_itself a.seen b.seen (ap (λ (l : Lane F). l.seen) same);
    number = ap (λ (l : Lane F). l.number) same;
    more = [];
    own = ap (λ (l : Lane F). l.own) same ∙ sym (append-nil a.own);
    entries = tt;
  }

  pub works_then : (a b c : Lane F) → Works a b → Works b c → Works a c
  works_then a b c x y = record {
    seen = begins_then a.seen b.seen c.seen x.seen y.seen;
    number = y.number ∙ x.number;
    more = x.more ++ y.more;
    own = y.own ∙ ap (λ l. l ++ y.more) x.own ∙ append_assoc a.own x.more y.more;
    entries = works_both x.more y.more x.entries y.entries;
  }

  pub grows_then : (may_give : ℕ → Type 0) (a b c : Lane F) (js ks : List Asking) → Grows may_give a b js
      → Grows may_give b c ks → Grows may_give a c (js ++ ks)
  grows_then may_give a b c js ks x y = record {
    seen = begins_then a.seen b.seen c.seen x.seen y.seen;
    number = y.number ∙ x.number;
    more = x.more ++ y.more;
    own = y.own ∙ ap (λ l. l ++ y.more) x.own ∙ append_assoc a.own x.more y.more;
    jobs_are = jobs_both x.more y.more ∙ ap (λ l. l ++ jobs_in y.more) x.jobs_are ∙ ap (λ l. js ++ l) y.jobs_are;
    entries = links_both may_give x.more y.more x.entries y.entries;
  }

  pub works_grow : (may_give : ℕ → Type 0) (a b : Lane F) → Works a b → Grows may_give a b []
  works_grow may_give a b x = record {
    seen = x.seen;
    number = x.number;
    more = x.more;
    own = x.own;
    jobs_are = works_bring x.more x.entries;
    entries = works_link may_give x.more x.entries;
  }

  pub grows_behind : (may_give : ℕ → Type 0) (a b c : Lane F) (js : List Asking) → Works a b → Grows may_give b c js
      → Grows may_give a c js
  grows_behind may_give a b c js x y = grows_then may_give a b c [] js (works_grow may_give a b x) y

  pub grows_before : (may_give : ℕ → Type 0) (a b c : Lane F) (js : List Asking) → Grows may_give a b js → Works b c
      → Grows may_give a c js
  grows_before may_give a b c js x y = subst (Grows may_give a c) (append-nil js)
      (grows_then may_give a b c js [] x (works_grow may_give b c y))

  -- ---- turns

  turn_own : (a b : Lane F) (before entries : List Entry) → LaneFits (λ (entry : Entry). entry.lane) before a
      → GrowsBy (λ (entry : Entry). entry.lane) a.number before b.seen
      → b.own ≡ own_part (λ (entry : Entry). entry.lane) a.number b.seen → b.seen ≡ before ++ entries
      → b.own ≡ a.own ++ entries
  turn_own a b before entries fits grows own is =
      let same : grows.0 ≡ entries = append_cancel_left before grows.0 entries (sym grows.1 ∙ is) in
      let bear = subst (All (λ (entry : Entry). entry.lane ≡ a.number)) same grows.2 in
      let test = λ (entry : Entry). entry.lane in
      own ∙ ap (own_part test a.number) is ∙ filter-append (λ (entry : Entry). entry.lane == a.number) before entries
      ∙ ap (λ l. l ++ own_part test a.number entries) fits.1
      ∙ ap (λ l. a.own ++ l) (own_part-own test a.number entries bear)

  -- a turn of work
  pub turn_works : {A : Type 0} (does : List Entry → A → List Entry → Type 0) (a b : Lane F) (answer : A)
      (turn : IsTurn does a answer b) (entries : List Entry) → b.seen ≡ turn.before ++ entries → AreOfWork entries
      → Works a b
  turn_works does a b answer turn entries is work = record {
    seen = begins_then a.seen turn.before b.seen turn.fits.0 (entries, is);
    number = turn.lane.1;
    more = entries;
    own = turn_own a b turn.before entries turn.fits turn.grows turn.own is;
    entries = work;
  }

  -- a turn that adds nothing
  pub turn_rests : {A : Type 0} (does : List Entry → A → List Entry → Type 0) (a b : Lane F) (answer : A)
      (turn : IsTurn does a answer b) → b.seen ≡ turn.before → Works a b
  turn_rests does a b answer turn same =
      turn_works does a b answer turn [] (same ∙ sym (append-nil turn.before)) tt

  -- a turn in which jobs come
  pub turn_grows : {A : Type 0} (may_give : ℕ → Type 0) (does : List Entry → A → List Entry → Type 0) (a b : Lane F)
      (answer : A) (turn : IsTurn does a answer b) (entries : List Entry) (jobs : List Asking)
      → b.seen ≡ turn.before ++ entries → jobs_in entries ≡ jobs → AreOfLink may_give entries → Grows may_give a b jobs
  turn_grows may_give does a b answer turn entries jobs is bring link = record {
    seen = begins_then a.seen turn.before b.seen turn.fits.0 (entries, is);
    number = turn.lane.1;
    more = entries;
    own = turn_own a b turn.before entries turn.fits turn.grows turn.own is;
    jobs_are = bring;
    entries = link;
  }
