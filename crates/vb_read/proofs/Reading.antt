-- Readers of any number of things and of single tokens, with what every reader meets.
use Rattle.std.proofs.Common.{◌≡◌, ℕ, zero, suc, ◌<◌, ◌≤◌, Bool, true, false, cond, List, [], ◌∷◌, ◌++◌, length, Option}
use Rattle.std.proofs.Common.{Some, None, Ok, Err, refl, sym, ap, ◌∙◌, append-nil, subst, length-append, ◌+◌, arith}
use Rattle.std.proofs.lemmas.Bool.{eq-eqb}
use Rattle.vb_value.specs.declared.token.Token.{Token}
use Rattle.vb_value.specs.declared.token.TokenKind.{TokenKind}
use Rattle.vb_value.specs.declared.token.TokenKind.TheVariants as kind
use Rattle.vb_syntax.specs.grammar.Rules.{Tokens, Rule, Then}
use Rattle.vb_syntax.specs.grammar.Rules as rule
use Rattle.vb_syntax.specs.grammar.Words as words
use Rattle.vb_read.specs.Reader.{Outcome, Reader, and_then, one_by, next, Look}
use Rattle.vb_read.specs.Reader as reader
pub use Rattle.vb_read.proofs.Meeting.{ok_tail, ok_thing, Good, Bad, Meets, ReadsAt, Lives, Reads, reads_pure}
pub use Rattle.vb_read.proofs.Meeting.{reads_refuse, wider_at, reads_wider, bind_at, lives_bind, reads_bind, one_meets}
pub use Rattle.vb_read.proofs.Meeting.{reads_one, case_true, case_false, case_at, reads_both, reads_choice, reads_gate}
pub use Rattle.vb_read.proofs.Meeting.{reads_same}

-- ---- any number of things

-- what is read takes a token
abbrev pub Moves : {A : Type 0} → Reader A → Type 0
Moves {A} p = (tokens : Tokens) (x : A) (rest : Tokens) → p tokens ≡ Ok (x, rest) → length rest < length tokens

abbrev pub NoEmpty : {A : Type 0} → Rule A → Type 0
NoEmpty {A} r = (front : Tokens) (x : A) → r front x → 0 < length front

pub moves : {A : Type 0} (p : Reader A) (r : Rule A) → Reads p r → NoEmpty r → Moves p
moves {A} p r reads full tokens x rest is = go (p tokens) is (reads.meets tokens)
  where
    go : (o : Outcome A) → o ≡ Ok (x, rest) → Meets p r tokens o → length rest < length tokens
    go (Ok w) e g =
        let same : w ≡ (x, rest) = cc in
        let tail : w.1 ≡ rest = ap (λ (q : A × Tokens). q.1) same in
        let some : 0 < length g.front = full g.front w.0 g.spells in
        let sum : length tokens ≡ length g.front + length w.1 = ap length g.split ∙ length-append g.front w.1 in
        let tails : length w.1 ≡ length rest = ap length tail in
        omega arith
    go (Err w) e b = absurd cc

abbrev pub more_with : {A : Type 0} → A → Reader (List A) → Reader (List A)
more_with x p = reader.◌>>=◌ p (λ xs. reader.pure (x ∷ xs))

pub same_turns : {A : Type 0} (look : Look) (p : Reader A) → Moves p → look None ≡ false
    → (n m : ℕ) (tokens : Tokens) → length tokens ≤ n → length tokens ≤ m
    → reader.many_from look p n tokens ≡ reader.many_from look p m tokens
same_turns look p mv quiet zero zero tokens _ _ = refl
same_turns look p mv quiet zero (suc m) [] _ _ = rw quiet refl
same_turns look p mv quiet zero (suc m) (t ∷ tokens) h _ = absurd (omega arith)
same_turns look p mv quiet (suc n) zero [] _ _ = rw quiet refl
same_turns look p mv quiet (suc n) zero (t ∷ tokens) _ h = absurd (omega arith)
same_turns {A} look p mv quiet (suc n) (suc m) tokens h k = go (look (next tokens))
    (λ rest less. same_turns look p mv quiet n m rest (omega arith) (omega arith))
  where
    step : (o : Outcome A) → p tokens ≡ o → ((rest : Tokens) → length rest < length tokens
        → reader.many_from look p n rest ≡ reader.many_from look p m rest)
        → and_then o (λ x. more_with x (reader.many_from look p n)) ≡ and_then o (λ x. more_with x
        (reader.many_from look p m))
    step (Ok q) e same = ap (λ o. and_then o (λ xs. reader.pure (q.0 ∷ xs))) (same q.1 (mv tokens q.0 q.1 e))
    step (Err rest) e same = refl

    go : (b : Bool) → ((rest : Tokens) → length rest < length tokens
        → reader.many_from look p n rest ≡ reader.many_from look p m rest)
        → cond b (and_then (p tokens) (λ x. more_with x (reader.many_from look p n))) (Ok (
          [],
          tokens,
        )) ≡ cond b (and_then (p tokens) (λ x. more_with x (reader.many_from look p m))) (Ok (
          [],
          tokens,
        ))
    go true same = step (p tokens) refl same
    go false same = refl

abbrev pub one_turn : {A : Type 0} → Look → Reader A → Reader (List A)
one_turn look p = reader.◌>>=◌ p (λ x. more_with x (reader.many look p))

abbrev pub many_turn : {A : Type 0} → Look → Reader A → Reader (List A)
many_turn look p = reader.case look (one_turn look p) (reader.pure [])

abbrev one_more : {A : Type 0} → Rule A → A → Rule (List A)
one_more r x = rule.◌>>=◌ (rule.many r) (λ xs. rule.pure (x ∷ xs))

abbrev one_or_more : {A : Type 0} → Rule A → Rule (List A)
one_or_more r = rule.◌>>=◌ r (one_more r)

pub many_step : {A : Type 0} (look : Look) (p : Reader A) → Moves p → look None ≡ false → (tokens : Tokens)
    → reader.many look p tokens ≡ many_turn look p tokens
many_step {A} look p mv quiet [] = rw quiet refl
many_step {A} look p mv quiet (t ∷ tokens) = go (look (Some t))
  where
    step : (o : Outcome A) → p (t ∷ tokens) ≡ o
        → and_then o (λ x. more_with x (reader.many_from look p (length tokens))) ≡ and_then o (λ x.
        more_with x (reader.many look p))
    step (Ok q) e = let less : length q.1 < length (t ∷ tokens) = mv (t ∷ tokens) q.0 q.1 e in
        ap (λ o. and_then o (λ xs. reader.pure (q.0 ∷ xs))) (same_turns look p mv quiet (length tokens)
        (length q.1) q.1 (omega arith) (omega arith))
    step (Err rest) e = refl

    go : (b : Bool) → cond b (and_then (p (t ∷ tokens))
        (λ x. more_with x (reader.many_from look p (length tokens)))) (Ok (
          [],
          t ∷ tokens,
        )) ≡ cond b (and_then (p (t ∷ tokens)) (λ x. more_with x (reader.many look p))) (Ok (
          [],
          t ∷ tokens,
        ))
    go true = step (p (t ∷ tokens)) refl
    go false = refl

turn-many : {A : Type 0} (r : Rule A) (front : Tokens) (xs : List A)
    → rule.◌>>=◌ r (λ x. rule.◌>>=◌ (rule.many r) (λ xs. rule.pure (x ∷ xs))) front xs → rule.many r front xs
turn-many {A} r front xs h =
    let h' = h.next_spells in
    let whole : rule.many r front (h.thing ∷ h'.thing) = record {
      front = h.front;
      back = h.back;
      split = h.split;
      first = h.first_spells;
      second = subst (λ t. rule.many r t h'.thing) (sym (h'.split
          ∙ ap (λ t. h'.front ++ t) h'.next_spells.0 ∙ append-nil h'.front)) h'.first_spells;
    } in
    subst (λ l. rule.many r front l) (sym h'.next_spells.1) whole

none-many : {A : Type 0} (r : Rule A) (front : Tokens) (xs : List A) → rule.pure [] front xs → rule.many r front xs
none-many {A} r front xs h = subst (λ l. rule.many r front l) (sym h.1) h.0

more_lives : {A : Type 0} (r : Rule A) (x : A) → Lives (rule.◌>>=◌ (rule.many r) (λ xs. rule.pure (x ∷ xs)))
more_lives r x = record {
  tokens = [];
  thing = x ∷ [];
  spells = record {
    front = [];
    back = [];
    thing = [];
    split = refl;
    first_spells = refl;
    next_spells = (refl, refl);
  };
}

pub reads_many : {A : Type 0} (look : Look) {p : Reader A} {r : Rule A} → Reads p r → NoEmpty r
    → look None ≡ false → Reads (reader.many look p) (rule.many r)
reads_many {A} look {p} {r} reads full quiet = record {
  meets = λ tokens. within (length tokens) tokens
      (omega arith);
  lives = record { tokens = []; thing = []; spells = refl };
}
  where
    mv : Moves p
    mv = moves p r reads full

    turn : (ts : Tokens) → ((rest : Tokens) → length rest < length ts
        → ReadsAt (reader.many look p) (rule.many r) rest) → ReadsAt (reader.many look p) (rule.many r) ts
    turn ts later = reads_same (reader.many look p) (many_turn look p) (rule.many r) ts (many_step look p mv quiet)
        (case_at look (one_turn look p) (reader.pure []) (rule.many r) ts
        (λ _. wider_at (one_turn look p) (one_or_more r) (rule.many r) ts (turn-many r)
        (bind_at p (λ x. more_with x (reader.many look p)) r (one_more r) ts (reads.meets ts)
        (λ x rest e. bind_at (reader.many look p) (λ xs. reader.pure (x ∷ xs)) (rule.many r)
        (λ xs. rule.pure (x ∷ xs)) rest (later rest (mv ts x rest e))
        (λ xs end _. (reads_pure (x ∷ xs)).meets end) (λ xs. record {
          tokens = [];
          thing = x ∷ xs;
          spells = (refl, refl);
        }))
        (more_lives r)))
        (λ _. wider_at (reader.pure []) (rule.pure []) (rule.many r) ts (none-many r) ((reads_pure []).meets ts)))

    within : (n : ℕ) (ts : Tokens) → length ts ≤ n → ReadsAt (reader.many look p) (rule.many r) ts
    within zero ts h = turn ts (λ rest less. absurd (omega arith))
    within (suc n) ts h = turn ts (λ rest less. within n rest (omega arith))

-- ---- single tokens

pub full_one : {A : Type 0} (test : Token → Option A) → NoEmpty (rule.one test)
full_one test front x h = rw h.alone (omega arith)

pub full_bind : {A B : Type 0} (r : Rule A) (s : A → Rule B) → NoEmpty r → NoEmpty (rule.◌>>=◌ r s)
full_bind r s full front x h =
    let some : 0 < length h.front = full h.front h.thing h.first_spells in
    let sum : length front ≡ length h.front + length h.back = ap length h.split ∙ length-append h.front h.back in
    omega arith

-- a token of a kind
abbrev pub token_of : TokenKind → Token
token_of kind = record { kind = kind; line = 1; start = 0; end = 0 }

line_of_word : (kind : TokenKind) → words.line_of (words.tag kind) (token_of kind) ≡ Some 1
line_of_word kind = rw (eq-eqb (words.tag kind) (words.tag kind) refl) refl

-- a word of the grammar is read
pub reads_word : (kind : TokenKind) → Reads (reader.word kind) (words.word kind)
reads_word kind = reads_one (words.line_of (words.tag kind)) (token_of kind) 1 (line_of_word kind)

pub full_word : (kind : TokenKind) → NoEmpty (words.word kind)
full_word kind = full_one (words.line_of (words.tag kind))

pub moves_word : (kind : TokenKind) → Moves (reader.word kind)
moves_word kind = moves _ _ (reads_word kind) (full_word kind)

pub reads_name : Reads (reader.one words.name_of) (rule.one words.name_of)
reads_name = reads_one words.name_of (token_of (kind.Name [] false)) [] refl
