-- What is known of the next token, where a loop has stopped or a rule begins.
use Rattle.std.proofs.Common.{◌≡◌, ℕ, zero, suc, ◌<◌, ◌≤◌, Bool, true, false, cond, List, [], ◌∷◌, ◌++◌, length, None}
use Rattle.std.proofs.Common.{Ok, Err, refl, sym, ap, ◌∙◌, arith}
use Rattle.vb_syntax.specs.grammar.Rules.{Tokens, Rule}
use Rattle.vb_read.specs.Reader.{Outcome, Reader, and_then, next, Look}
use Rattle.vb_read.specs.Reader as reader
use Rattle.vb_read.proofs.Reading.{Bad, Meets, Moves, ReadsAt, Lives, more_with, one_turn, many_turn, many_step}

-- ---- a loop stops where the look says no

stop_turn : {A : Type 0} (look : Look) (p : Reader A) → Moves p → (tokens : Tokens) (xs : List A) (rest : Tokens)
    → ((ts : Tokens) (ys : List A) (end : Tokens) → length ts < length tokens
    → reader.many look p ts ≡ Ok (ys, end) → look (next end) ≡ false) → many_turn look p tokens ≡ Ok (xs, rest)
    → look (next rest) ≡ false
stop_turn {A} look p mv tokens xs rest ih e = go (look (next tokens)) refl e
  where
    last : (x : A) (r : Tokens) → length r < length tokens → (o : Outcome (List A)) → reader.many look p r ≡ o
        → and_then o (λ ys. reader.pure (x ∷ ys)) ≡ Ok (xs, rest) → look (next rest) ≡ false
    last x r less (Ok q) is e = let same : Path (List A × Tokens) (x ∷ q.0, q.1) (xs, rest) = cc in
        ap (λ (w : List A × Tokens). look (next w.1)) (sym same) ∙ ih r q.0 q.1 less is
    last x r less (Err q) is e = absurd cc

    item : (o : Outcome A) → p tokens ≡ o → and_then o (λ x. more_with x (reader.many look p)) ≡ Ok (xs, rest)
        → look (next rest) ≡ false
    item (Ok q) is e = last q.0 q.1 (mv tokens q.0 q.1 is) (reader.many look p q.1) refl e
    item (Err q) is e = absurd cc

    go : (b : Bool) → look (next tokens) ≡ b → cond b (one_turn look p tokens) (Ok ([], tokens)) ≡ Ok (xs, rest)
        → look (next rest) ≡ false
    go true is e = item (p tokens) refl e
    go false is e = let same : Path (List A × Tokens) ([], tokens) (xs, rest) = cc in
        ap (λ (w : List A × Tokens). look (next w.1)) (sym same) ∙ is

stops_within : {A : Type 0} (look : Look) (p : Reader A) → Moves p → look None ≡ false → (n : ℕ) (tokens : Tokens)
    (xs : List A) (rest : Tokens) → length tokens ≤ n → reader.many look p tokens ≡ Ok (xs, rest)
    → look (next rest) ≡ false
stops_within look p mv quiet zero tokens xs rest h e = stop_turn look p mv tokens xs rest
    (λ ts ys end less is. absurd (omega arith)) (sym (many_step look p mv quiet tokens) ∙ e)
stops_within look p mv quiet (suc n) tokens xs rest h e = stop_turn look p mv tokens xs rest
    (λ ts ys end less is. stops_within look p mv quiet n ts ys end (omega arith) is)
    (sym (many_step look p mv quiet tokens) ∙ e)

pub many_stops : {A : Type 0} (look : Look) (p : Reader A) → Moves p → look None ≡ false → (tokens : Tokens)
    (xs : List A) (rest : Tokens) → reader.many look p tokens ≡ Ok (xs, rest) → look (next rest) ≡ false
many_stops look p mv quiet tokens xs rest e = stops_within look p mv quiet (length tokens) tokens xs rest
    (omega arith) e

-- ---- what holds of the next token is a part of the rule

abbrev pub guarded : {A : Type 0} → Look → Rule A → Rule A
guarded look r front x = (look (next front) ≡ false) × r front x

pub guard_at : {A : Type 0} (look : Look) (p : Reader A) (r : Rule A) (tokens : Tokens) → look None ≡ false
    → look (next tokens) ≡ false → Lives (guarded look r) → ReadsAt p r tokens → ReadsAt p (guarded look r) tokens
guard_at {A} look p r tokens quiet is lives reads = go (p tokens) reads
  where
    first : (front rest : Tokens) → tokens ≡ front ++ rest → look (next front) ≡ false
    first [] rest e = quiet
    first (t ∷ front) rest e = ap (λ ts. look (next ts)) (sym e) ∙ is

    bad : (rest : Tokens) → Bad p r tokens rest → Bad p (guarded look r) tokens rest
    bad rest b = pick b.front refl
      where
        pick : (f : Tokens) → b.front ≡ f → Bad p (guarded look r) tokens rest
        pick [] e = record {
          front = [];
          split = b.split ∙ ap (λ t. t ++ rest) e;
          more = lives.tokens;
          thing = lives.thing;
          goes_on = lives.spells;
          again = λ more h. ap (λ t. p (t ++ more)) (sym e) ∙ b.again more h;
        }
        pick (t ∷ f) e = record {
          front = b.front;
          split = b.split;
          more = b.more;
          thing = b.thing;
          goes_on = (
            ap (λ ts. look (next (ts ++ b.more))) e ∙ first (t ∷ f) rest (b.split ∙ ap (λ ts. ts ++ rest) e),
            b.goes_on,
          );
          again = b.again;
        }

    go : (o : Outcome A) → Meets p r tokens o → Meets p (guarded look r) tokens o
    go (Ok q) g = record {
      front = g.front;
      split = g.split;
      spells = (first g.front q.1 g.split, g.spells);
      again = g.again;
    }
    go (Err rest) b = bad rest b
