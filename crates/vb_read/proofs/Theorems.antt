-- What a reader proves of the rule that it reads and takes: what it reads is what the tokens spell, no tokens spell
-- two things, and it stops at the first token with which nothing goes on.
use Rattle.std.proofs.Common.{◌≡◌, ℕ, ◌+◌, ◌<◌, ◌≤◌, ◌⊎◌, inl, inr, [], ◌∷◌, ◌++◌, length, Ok, Err, refl, sym, ap}
use Rattle.std.proofs.Common.{◌∙◌, append_assoc, append-nil, subst, length-append, arith}
use Rattle.vb_value.specs.declared.token.Token.{Token}
use Rattle.vb_syntax.specs.grammar.Rules.{Tokens, Rule}
use Rattle.vb_syntax.specs.grammar.Rules as rule
use Rattle.vb_syntax.specs.grammar.Faults.{IsFault, GoesOn, Ends, WouldGoOn}
use Rattle.vb_read.specs.Reader.{Outcome, Reader, and_then, next, at_end, whole}
use Rattle.vb_read.specs.Reader as reader
use Rattle.vb_read.proofs.Reading.{Reads, Bad, Meets, reads_bind, reads_pure, reads_wider, ok_tail, ok_thing}
use Rattle.vb_read.proofs.Taking.{Takes}

-- ---- nothing is left behind the whole

reads_at_end : Reads at_end (rule.pure (tt {0}))
reads_at_end = record { meets = go; lives = record { tokens = []; thing = tt {0}; spells = (refl, refl) } }
  where
    stuck : (token : Token) (rest more : Tokens) → next more ≡ next (token ∷ rest) → at_end more ≡ Err more
    stuck token rest [] e = absurd cc
    stuck token rest (t ∷ more) e = refl

    none : (more : Tokens) → next more ≡ next [] → at_end more ≡ Ok (tt {0}, more)
    none [] e = refl
    none (t ∷ more) e = absurd cc

    go : (tokens : Tokens) → Meets at_end (rule.pure (tt {0})) tokens (at_end tokens)
    go [] = record { front = []; split = refl; spells = (refl, refl); again = none }
    go (token ∷ rest) = record {
      front = [];
      split = refl;
      more = [];
      thing = tt {0};
      goes_on = (refl, refl);
      again = stuck token rest;
    }

only_first : {A : Type 0} (r : Rule A) (front : Tokens) (x : A)
    → rule.◌>>=◌ r (λ y. rule.◌>>◌ (rule.pure (tt {0})) (rule.pure y)) front x → r front x
only_first r front x h = let last = h.next_spells in
    let none : h.back ≡ [] = last.split ∙ ap (λ t. t ++ last.back) last.first_spells.0 ∙ last.next_spells.0 in
    subst (λ y. r front y) (sym last.next_spells.1) (subst (λ t. r t h.thing) (sym (h.split
    ∙ ap (λ t. h.front ++ t) none ∙ append-nil h.front)) h.first_spells)

pub reads_whole : {A : Type 0} {p : Reader A} {r : Rule A} → Reads p r → Reads (whole p) r
reads_whole {A} {p} {r} reads = reads_wider (only_first r)
    (reads_bind reads (λ x. reads_bind reads_at_end (λ _. reads_pure x)))

-- What the whole is read from, and what is spelled, belong together.
pub record Fits {A : Type 0} (p : Reader A) (r : Rule A) : Type 0 where
  pub reads : Reads (whole p) r
  pub takes : (tokens : Tokens) (x : A) → r tokens x → whole p tokens ≡ Ok (x, [])

pub fits : {A : Type 0} {p : Reader A} {r : Rule A} {u : Tokens → Type 0} → Reads p r → Takes p r u → u [] → Fits p r
fits {A} {p} {r} reads takes ok = record {
  reads = reads_whole reads;
  takes = λ tokens x h. ap (λ o. and_then o (λ y. reader.◌>>◌ at_end (reader.pure y)))
      (ap p (sym (append-nil tokens)) ∙ takes.takes tokens [] x h ok);
}

module _ {A : Type 0} (p : Reader A) (r : Rule A) (fit : Fits p r) where
  -- no list of tokens spells two things
  pub unique : (tokens : Tokens) (one other : A) → r tokens one → r tokens other → one ≡ other
  unique tokens one other a b = ok_thing one other [] [] (sym (fit.takes tokens one a) ∙ fit.takes tokens other b)

  end_left : (x : A) (tokens : Tokens) (y : A) (rest : Tokens)
      → reader.◌>>◌ at_end (reader.pure x) tokens ≡ Ok (y, rest) → rest ≡ []
  end_left x [] y rest e = sym (ok_tail x y [] rest e)
  end_left x (t ∷ tokens) y rest e = absurd cc

  none_left : (tokens : Tokens) (y : A) (rest : Tokens) → whole p tokens ≡ Ok (y, rest) → rest ≡ []
  none_left tokens y rest e = go (p tokens) e
    where
      go : (o : Outcome A) → and_then o (λ x. reader.◌>>◌ at_end (reader.pure x)) ≡ Ok (y, rest) → rest ≡ []
      go (Ok q) e = end_left q.0 q.1 y rest e
      go (Err w) e = absurd cc

  -- what is read is spelled so
  pub sound : (tokens rest : Tokens) (x : A) → whole p tokens ≡ Ok (x, rest) → r tokens x
  sound tokens rest x read = go (whole p tokens) read (fit.reads.meets tokens)
    where
      go : (o : Outcome A) → o ≡ Ok (x, rest) → Meets (whole p) r tokens o → r tokens x
      go (Ok q) e g =
          let none : q.1 ≡ [] = ok_tail q.0 x q.1 rest e ∙ none_left tokens x rest read in
          let same : q.0 ≡ x = ok_thing q.0 x q.1 rest e in
          subst (λ u. r tokens u) same (subst (λ t. r t q.0) (sym (g.split ∙ ap (λ t. g.front ++ t) none
          ∙ append-nil g.front)) g.spells)
      go (Err w) e b = absurd cc

  err_is : (a b : Tokens) → Path (Outcome A) (Err a) (Err b) → a ≡ b
  err_is a b e = cc

  -- a reader that stops stops at a fault
  pub stops_at_fault : (tokens left : Tokens) → whole p tokens ≡ Err left → IsFault r tokens left
  stops_at_fault tokens left read = go (whole p tokens) read (fit.reads.meets tokens)
    where
      stops : (b : Bad (whole p) r tokens left) (rest : Tokens) → left ≡ rest → Ends r b.front rest
      stops b [] e = λ x h. let clash : Path (Outcome A) (Err left) (Ok (x, [])) = sym (b.again left refl)
          ∙ ap (λ t. whole p (b.front ++ t)) e ∙ ap (whole p) (append-nil b.front)
          ∙ fit.takes b.front x h in absurd cc
      stops b (token ∷ rest) e = λ g.
          let lined : (b.front ++ token ∷ []) ++ g.0 ≡ b.front ++ (token ∷ g.0) = append_assoc b.front (token
          ∷ []) g.0 in
          let clash : Path (Outcome A) (Err (token ∷ g.0)) (Ok (
            g.1,
            [],
          )) = sym (b.again (token ∷ g.0) (ap (λ t. next t) (sym e))) ∙ ap (whole p) (sym lined)
          ∙ fit.takes ((b.front ++ token ∷ []) ++ g.0) g.1 g.2 in absurd cc

      go : (o : Outcome A) → o ≡ Err left → Meets (whole p) r tokens o → IsFault r tokens left
      go (Ok q) e g = absurd cc
      go (Err w) e b = let same : w ≡ left = err_is w left e in
          let at : Bad (whole p) r tokens left = subst (λ t. Bad (whole p) r tokens t) same b in
          record {
            front = at.front;
            split = at.split;
            goes_on = (at.more, at.thing, at.goes_on);
            ends = stops at left refl;
          }

-- ---- a fault stands at one place

goes_on_front : {A : Type 0} (r : Rule A) (front back : Tokens) → GoesOn r (front ++ back) → GoesOn r front
goes_on_front r front back g = (back ++ g.0, g.1, subst (λ t. r t g.1) (append_assoc front back g.0) g.2)

-- a list cut at two places
cut_apart : (a b c d : Tokens) → a ++ b ≡ c ++ d → length a ≤ length c → (m : Tokens) × (c ≡ a ++ m)
cut_apart [] b c d e h = (c, refl)
cut_apart (x ∷ a) b [] d e h = absurd (omega arith)
cut_apart (x ∷ a) b (y ∷ c) d e h =
    let heads : x ≡ y = cc in
    let tails : a ++ b ≡ c ++ d = cc in
    let w = cut_apart a b c d tails (omega arith) in
    (w.0, ap (λ z. z ∷ c) (sym heads) ∙ ap (λ l. x ∷ l) w.1)

-- a fault further on shows that something goes on with the first token that is left
further : {A : Type 0} (r s : Rule A) (tokens : Tokens) (token : Token) (rest other : Tokens)
    (f : IsFault r tokens (token ∷ rest)) → IsFault s tokens other → length other < length (token ∷ rest)
    → GoesOn s (f.front ++ token ∷ [])
further r s tokens token rest other f g less =
    let lengths : length (f.front ++ token ∷ []) ≤ length g.front =
    (let a : length tokens ≡ length f.front + length (token ∷ rest) = ap length f.split
    ∙ length-append f.front (token ∷ rest) in
    let b : length tokens ≡ length g.front + length other = ap length g.split ∙ length-append g.front other in
    let c : length (f.front ++ token ∷ []) ≡ length f.front + 1 = length-append f.front (token ∷ []) in
    omega arith) in
    let split : (f.front ++ token ∷ []) ++ rest ≡ g.front ++ other = append_assoc f.front (token ∷ []) rest
    ∙ sym f.split ∙ g.split in
    let m = cut_apart (f.front ++ token ∷ []) rest g.front other split lengths in
    goes_on_front s (f.front ++ token ∷ []) m.0 (subst (λ t. GoesOn s t) m.1 g.goes_on)

no_further : {A : Type 0} (r : Rule A) (tokens left other : Tokens) → IsFault r tokens left
    → IsFault r tokens other → ¬ (length other < length left)
no_further r tokens [] other f g = λ less. absurd (omega arith)
no_further r tokens (token ∷ rest) other f g = λ less. f.ends (further r r tokens token rest other f g less)

same_back : (a b c d : Tokens) → a ++ b ≡ c ++ d → length a ≡ length c → b ≡ d
same_back [] b [] d e h = e
same_back [] b (y ∷ c) d e h = absurd (omega arith)
same_back (x ∷ a) b [] d e h = absurd (omega arith)
same_back (x ∷ a) b (y ∷ c) d e h = let tails : a ++ b ≡ c ++ d = cc in same_back a b c d tails (omega arith)

-- the first token with which nothing goes on is one
pub fault_unique : {A : Type 0} (r : Rule A) (tokens left other : Tokens) → IsFault r tokens left
    → IsFault r tokens other → left ≡ other
fault_unique r tokens left other f g =
    let a : length tokens ≡ length f.front + length left = ap length f.split ∙ length-append f.front left in
    let b : length tokens ≡ length g.front + length other = ap length g.split ∙ length-append g.front other in
    let same : length left ≡ length other = squeeze (length left) (length other)
    (no_further r tokens left other f g) (no_further r tokens other left g f) in
    same_back f.front left g.front other (sym f.split ∙ g.split) (omega arith)
  where
    squeeze : (n m : ℕ) → ¬ (m < n) → ¬ (n < m) → n ≡ m
    squeeze n m h k = omega (arith, h, k)

-- what is spelled has no fault
pub spelled_no_fault : {A : Type 0} (r : Rule A) (tokens left : Tokens) (x : A) → r tokens x → ¬ (IsFault r tokens left)
spelled_no_fault r tokens [] x h = λ f. f.ends x (subst (λ t. r t x) (f.split ∙ append-nil f.front) h)
spelled_no_fault r tokens (token ∷ rest) x h = λ f. f.ends (
  rest,
  x,
  subst (λ t. r t x) (f.split
      ∙ sym (append_assoc f.front (token ∷ []) rest)) h,
)

-- ---- kinds: whether with a looser rule something goes on

-- the looser reader comes to its end
pub looser_reads : {A : Type 0} (r s : Rule A) (tokens : Tokens) (token : Token) (rest : Tokens) (x : A)
    (f : IsFault r tokens (token ∷ rest)) → s tokens x → WouldGoOn s f.front (token ∷ rest)
looser_reads r s tokens token rest x f h = (
  rest,
  x,
  subst (λ t. s t x) (f.split
      ∙ sym (append_assoc f.front (token ∷ []) rest)) h,
)

-- the looser reader comes further
pub looser_further : {A : Type 0} (r s : Rule A) (tokens left other : Tokens) (f : IsFault r tokens left)
    → IsFault s tokens other → length other < length left → WouldGoOn s f.front left
looser_further r s tokens [] other f g less = absurd (omega arith)
looser_further r s tokens (token ∷ rest) other f g less = further r s tokens token rest other f g less

-- the looser reader comes no further
pub looser_stops : {A : Type 0} (r s : Rule A) (tokens left other : Tokens) (f : IsFault r tokens left)
    → IsFault s tokens other → length left ≤ length other → ¬ (WouldGoOn s f.front left)
looser_stops r s tokens [] other f g h = λ w. w
looser_stops r s tokens (token ∷ rest) [] f g h = absurd (omega arith)
looser_stops r s tokens (token ∷ rest) (stop ∷ more) f g h = λ w.
    let lengths : length (g.front ++ stop ∷ []) ≤ length (f.front ++ token ∷ []) =
    (let a : length tokens ≡ length f.front + length (token ∷ rest) = ap length f.split
    ∙ length-append f.front (token ∷ rest) in
    let b : length tokens ≡ length g.front + length (stop ∷ more) = ap length g.split
    ∙ length-append g.front (stop ∷ more) in
    let c : length (f.front ++ token ∷ []) ≡ length f.front + 1 = length-append f.front (token ∷ []) in
    let d : length (g.front ++ stop ∷ []) ≡ length g.front + 1 = length-append g.front (stop ∷ []) in omega arith) in
    let split : (g.front ++ stop ∷ []) ++ more ≡ (f.front ++ token ∷ []) ++ rest = append_assoc g.front (stop
    ∷ []) more ∙ sym g.split ∙ f.split ∙ sym (append_assoc f.front (token ∷ []) rest) in
    let m = cut_apart (g.front ++ stop ∷ []) more (f.front ++ token ∷ []) rest split lengths in
    g.ends (goes_on_front s (g.front ++ stop ∷ []) m.0 (subst (λ t. GoesOn s t) m.1 w))
