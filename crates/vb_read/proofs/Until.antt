-- Loops that their last turn ends.
use Rattle.std.proofs.Common.{◌≡◌, ℕ, zero, suc, ◌+◌, ◌<◌, ◌≤◌, List, [], ◌∷◌, ◌++◌, length, Ok, Err, refl, sym, ap}
use Rattle.std.proofs.Common.{◌∙◌, append_assoc, append-nil, subst, length-append, arith}
use Rattle.std.specs.declared.ops.ControlFlow.TheVariants.{Continue, Break}
use Rattle.vb_syntax.specs.grammar.Rules.{Tokens, Rule, Then}
use Rattle.vb_syntax.specs.grammar.Rules as rule
use Rattle.vb_read.specs.Reader.{Outcome, Reader, and_then, next, Turn, then_until}
use Rattle.vb_read.specs.Reader as reader
use Rattle.vb_read.proofs.Taking.{only}
use Rattle.vb_read.proofs.Binding.{Within, within_then, bind_wider, bind_right, pure_out}
use Rattle.vb_read.proofs.Reading.{Reads, ReadsAt, Meets, Lives, NoEmpty, reads_pure, reads_same, wider_at, bind_at}

-- what a turn that goes on spells, and what the last one does
abbrev pub turn_rule : {A B : Type 0} → Rule A → Rule B → Rule (Turn A B)
turn_rule r s tokens (Continue x) = r tokens x
turn_rule r s tokens (Break y) = s tokens y

-- any number of the one, and then one of the other
abbrev pub until_rule : {A B : Type 0} → Rule A → Rule B → Rule (List A × B)
until_rule r s = rule.◌>>=◌ (rule.many r) (λ xs. rule.◌>>=◌ s (λ y. rule.pure (xs, y)))

abbrev pub OnwardMoves : {A B : Type 0} → Reader (Turn A B) → Type 0
OnwardMoves {A} {B} turn = (tokens : Tokens) (x : A) (rest : Tokens)
    → turn tokens ≡ Ok (Continue x, rest) → length rest < length tokens

pub onward_moves : {A B : Type 0} (turn : Reader (Turn A B)) (r : Rule A) (s : Rule B)
    → Reads turn (turn_rule r s) → NoEmpty r → OnwardMoves turn
onward_moves {A} {B} turn r s reads full tokens x rest is = go (turn tokens) is (reads.meets tokens)
  where
    go : (o : Outcome (Turn A B)) → o ≡ Ok (Continue x, rest) → Meets turn (turn_rule r s) tokens o
        → length rest < length tokens
    go (Ok w) e g =
        let same : Path (Turn A B × Tokens) w (Continue x, rest) = cc in
        let spells : r g.front x = subst (λ t. turn_rule r s g.front t) (ap (λ (q : Turn A B × Tokens). q.0)
        same) g.spells in
        let some : 0 < length g.front = full g.front x spells in
        let sum : length tokens ≡ length g.front + length w.1 = ap length g.split ∙ length-append g.front w.1 in
        let tails : length w.1 ≡ length rest = ap (λ (q : Turn A B × Tokens). length q.1) same in
        omega arith
    go (Err w) e b = absurd cc

same_until : {A B : Type 0} (turn : Reader (Turn A B)) → OnwardMoves turn → (n m : ℕ) (tokens : Tokens)
    → length tokens < n → length tokens < m
    → reader.until_from turn n tokens ≡ reader.until_from turn m tokens
same_until turn mv zero m tokens h k = absurd (omega arith)
same_until turn mv (suc n) zero tokens h k = absurd (omega arith)
same_until {A} {B} turn mv (suc n) (suc m) tokens h k = step (turn tokens) refl
    (λ rest less. same_until turn mv n m rest (omega arith) (omega arith))
  where
    step : (o : Outcome (Turn A B)) → turn tokens ≡ o → ((rest : Tokens) → length rest < length tokens
        → reader.until_from turn n rest ≡ reader.until_from turn m rest)
        → and_then o (then_until (reader.until_from turn n)) ≡ and_then o (then_until (reader.until_from turn m))
    step (Ok (Continue x, rest)) e same = ap (λ o. and_then o (λ r. reader.pure (x ∷ r.0, r.1)))
        (same rest (mv tokens x rest e))
    step (Ok (Break y, rest)) e same = refl
    step (Err rest) e same = refl

-- one turn, and the turns behind it
pub until_step : {A B : Type 0} (turn : Reader (Turn A B)) → OnwardMoves turn → (tokens : Tokens)
    → reader.until turn tokens ≡ reader.◌>>=◌ turn (then_until (reader.until turn)) tokens
until_step {A} {B} turn mv tokens = step (turn tokens) refl
  where
    step : (o : Outcome (Turn A B)) → turn tokens ≡ o
        → and_then o (then_until (reader.until_from turn (length tokens)))
        ≡ and_then o (then_until (reader.until turn))
    step (Ok (Continue x, rest)) e = let less : length rest < length tokens = mv tokens x rest e in
        ap (λ o. and_then o (λ r. reader.pure (x ∷ r.0, r.1))) (same_until turn mv (length tokens)
        (suc (length rest)) rest (omega arith) (omega arith))
    step (Ok (Break y, rest)) e = refl
    step (Err rest) e = refl

abbrev after_turn : {A B : Type 0} → Rule A → Rule B → Turn A B → Rule (List A × B)
after_turn r s (Continue x) = rule.◌>>=◌ (until_rule r s) (λ w. rule.pure (x ∷ w.0, w.1))
after_turn r s (Break y) = rule.pure ([], y)

lives_after : {A B : Type 0} (r : Rule A) (s : Rule B) → Lives s → (t : Turn A B) → Lives (after_turn r s t)
lives_after r s l (Continue x) = record {
  tokens = l.tokens;
  thing = (x ∷ [], l.thing);
  spells = record {
    front = l.tokens;
    back = [];
    thing = ([], l.thing);
    split = sym (append-nil l.tokens);
    first_spells = record {
      front = [];
      back = l.tokens;
      thing = [];
      split = refl;
      first_spells = refl;
      next_spells = record {
        front = l.tokens;
        back = [];
        thing = l.thing;
        split = sym (append-nil l.tokens);
        first_spells = l.spells;
        next_spells = (refl, refl);
      };
    };
    next_spells = (refl, refl);
  };
}
lives_after r s l (Break y) = record { tokens = []; thing = ([], y); spells = (refl, refl) }

turn_until : {A B : Type 0} (r : Rule A) (s : Rule B) (front : Tokens) (x : List A × B)
    → rule.◌>>=◌ (turn_rule r s) (after_turn r s) front x → until_rule r s front x
turn_until {A} {B} r s front x h = go h.thing h.first_spells h.next_spells
  where
    go : (t : Turn A B) → turn_rule r s h.front t → after_turn r s t h.back x → until_rule r s front x
    go (Continue y) is w = let u = w.first_spells in let z = u.next_spells in
        let back : h.back ≡ u.front ++ u.back = w.split ∙ ap (λ t. w.front ++ t) w.next_spells.0
        ∙ append-nil w.front ∙ u.split in
        let pair : (y ∷ w.thing.0, w.thing.1) ≡ (
          y ∷ u.thing,
          z.thing,
        ) = ap (λ (q : List A × B). (y ∷ q.0, q.1)) z.next_spells.1 in
        subst (λ q. until_rule r s front q) (sym (w.next_spells.1 ∙ pair)) (record {
          front = h.front ++ u.front;
          back = u.back;
          thing = y ∷ u.thing;
          split = h.split ∙ ap (λ t. h.front ++ t) back ∙ sym (append_assoc h.front u.front u.back);
          first_spells = record {
            front = h.front;
            back = u.front;
            split = refl;
            first = is;
            second = u.first_spells;
          };
          next_spells = record {
            front = z.front;
            back = z.back;
            thing = z.thing;
            split = z.split;
            first_spells = z.first_spells;
            next_spells = (z.next_spells.0, refl);
          };
        })
    go (Break y) is w = subst (λ q. until_rule r s front q) (sym w.1) (record {
      front = [];
      back = front;
      thing = [];
      split = refl;
      first_spells = refl;
      next_spells = record {
        front = h.front;
        back = [];
        thing = y;
        split = h.split ∙ ap (λ t. h.front ++ t) w.0;
        first_spells = is;
        next_spells = (refl, refl);
      };
    })

pub reads_until : {A B : Type 0} {turn : Reader (Turn A B)} {r : Rule A} {s : Rule B}
    → Reads turn (turn_rule r s) → NoEmpty r → Lives s → Reads (reader.until turn) (until_rule r s)
reads_until {A} {B} {turn} {r} {s} reads full lives = record {
  meets = λ tokens. within (length tokens) tokens (omega arith);
  lives = record {
    tokens = lives.tokens;
    thing = ([], lives.thing);
    spells = record {
      front = [];
      back = lives.tokens;
      thing = [];
      split = refl;
      first_spells = refl;
      next_spells = record {
        front = lives.tokens;
        back = [];
        thing = lives.thing;
        split = sym (append-nil lives.tokens);
        first_spells = lives.spells;
        next_spells = (refl, refl);
      };
    };
  };
}
  where
    mv : OnwardMoves turn
    mv = onward_moves turn r s reads full

    after : (ts : Tokens) → ((rest : Tokens) → length rest < length ts
        → ReadsAt (reader.until turn) (until_rule r s) rest) → (t : Turn A B) (rest : Tokens)
        → turn ts ≡ Ok (t, rest) → ReadsAt (then_until (reader.until turn) t) (after_turn r s t) rest
    after ts later (Continue x) rest e = bind_at (reader.until turn) (λ w. reader.pure (x ∷ w.0, w.1))
        (until_rule r s) (λ w. rule.pure (x ∷ w.0, w.1)) rest (later rest (mv ts x rest e))
        (λ w end _. (reads_pure (x ∷ w.0, w.1)).meets end) (λ w. record {
          tokens = [];
          thing = (x ∷ w.0, w.1);
          spells = (refl, refl);
        })
    after ts later (Break y) rest e = (reads_pure ([], y)).meets rest

    go : (ts : Tokens) → ((rest : Tokens) → length rest < length ts
        → ReadsAt (reader.until turn) (until_rule r s) rest) → ReadsAt (reader.until turn) (until_rule r s) ts
    go ts later = reads_same (reader.until turn) (reader.◌>>=◌ turn (then_until (reader.until turn)))
        (until_rule r s) ts (until_step turn mv)
        (wider_at (reader.◌>>=◌ turn (then_until (reader.until turn)))
        (rule.◌>>=◌ (turn_rule r s) (after_turn r s)) (until_rule r s) ts (turn_until r s)
        (bind_at turn (then_until (reader.until turn)) (turn_rule r s) (after_turn r s) ts (reads.meets ts)
        (after ts later) (lives_after r s lives)))

    within : (n : ℕ) (ts : Tokens) → length ts ≤ n → ReadsAt (reader.until turn) (until_rule r s) ts
    within zero ts h = go ts (λ rest less. absurd (omega arith))
    within (suc n) ts h = go ts (λ rest less. within n rest (omega arith))

-- a turn by what its thing is made of
pub onward_turn : {A B : Type 0} {r : Rule A} (s : Rule B)
    → Within (rule.◌>>=◌ r (λ x. rule.pure (Continue x))) (turn_rule r s)
onward_turn {A} {B} {r} s front t h = subst (λ u. turn_rule r s front u) (sym h.next_spells.1)
    (only r Continue front t h)

pub last_turn : {A B : Type 0} (r : Rule A) {s : Rule B}
    → Within (rule.◌>>=◌ s (λ y. rule.pure (Break y))) (turn_rule r s)
last_turn {A} {B} r {s} front t h = subst (λ u. turn_rule r s front u) (sym h.next_spells.1) (only s Break front t h)

-- the things and the last one, which are looked at apart
pub until_apart : {A B C : Type 0} {r : Rule A} {s : Rule B} {f : List A → B → Rule C}
    → Within (rule.◌>>=◌ (until_rule r s) (λ found. f found.0 found.1))
    (rule.◌>>=◌ (rule.many r) (λ xs. rule.◌>>=◌ s (f xs)))
until_apart = within_then bind_right (bind_wider (λ xs. within_then bind_right (bind_wider (λ last. pure_out))))
