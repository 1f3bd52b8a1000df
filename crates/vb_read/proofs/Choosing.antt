-- How readers take what the rules spell, where the next token tells the rules apart.
use Rattle.std.proofs.Common.{◌+◌, ◌≡◌, ℕ, zero, suc, ◌<◌, ◌≤◌, inl, inr, Bool, true, false, List, [], ◌∷◌, ◌++◌}
use Rattle.std.proofs.Common.{length}
use Rattle.std.proofs.Common.{Option, Ok, refl, sym, ap, append_assoc, append-nil, length-append, arith}
use Rattle.vb_value.specs.declared.token.Symbol.TheVariants as s
use Rattle.vb_value.specs.declared.token.Token.{Token}
use Rattle.vb_value.specs.declared.token.TokenKind.{TokenKind}
use Rattle.vb_value.specs.declared.token.TokenKind.TheVariants as kind
use Rattle.vb_syntax.specs.grammar.Rules.{Tokens, Rule, Then}
use Rattle.vb_syntax.specs.grammar.Rules as rule
use Rattle.vb_syntax.specs.grammar.Words as words
use Rattle.vb_syntax.specs.grammar.Words.{tag, line_of, name_of}
use Rattle.vb_read.specs.Reader.{Reader, next, Look, sees, passes, is_some, Turn}
use Rattle.std.specs.declared.ops.ControlFlow.TheVariants.{Continue, Break}
use Rattle.vb_read.specs.Reader as reader
use Rattle.vb_read.specs.ReadExpressions as expressions
use Rattle.vb_read.proofs.Reading.{NoEmpty}
use Rattle.vb_read.proofs.Taking.{Follow, Any, Takes, Starts, takes_pure, takes_one, takes_bind, takes_narrow}
use Rattle.vb_read.proofs.Tags.{among, outside, all_have, all_own}
use Rattle.vb_read.proofs.Following.{Before, before_wider, BeginsIn, Leads, leads_begins, leads_pure, leads_bind}
use Rattle.vb_read.proofs.Following.{leads_many, begins_either, begins_word_then, full_begins, Closed, Asks}
use Rattle.vb_read.proofs.Following.{asks_kind, starts, Skips, asks_no, skips}

-- ---- choices

-- the look leads to the first reader
pub takes_on : {A : Type 0} (look : Look) {p : Reader A} (q : Reader A) {r : Rule A} {v : Follow} → Starts look r
    → Takes p r v → Takes (reader.case look p q) r v
takes_on look q is takes = record {
  takes = λ front rest x h ok. rw (is front rest x h) (takes.takes front rest x h ok);
}

-- the look leads past the first reader
pub takes_off : {A : Type 0} (look : Look) (p : Reader A) {q : Reader A} {r : Rule A} {v : Follow} → Skips look r v
    → Takes q r v → Takes (reader.case look p q) r v
takes_off look p is takes = record {
  takes = λ front rest x h ok. rw (is front rest x h ok) (takes.takes front rest x h ok);
}

-- a reader that takes each of two rules
pub takes_or : {A : Type 0} {p : Reader A} {r s : Rule A} {v : Follow} → Takes p r v → Takes p s v
    → Takes p (rule.◌or◌ r s) v
takes_or {A} {p} {r} {s} {v} one other = record { takes = go }
  where
    go : (front rest : Tokens) (x : A) → rule.◌or◌ r s front x → v rest → p (front ++ rest) ≡ Ok (x, rest)
    go front rest x (inl h) ok = one.takes front rest x h ok
    go front rest x (inr h) ok = other.takes front rest x h ok

-- a rule within another
pub takes_within : {A : Type 0} {p : Reader A} {r s : Rule A} {v : Follow} → ((front : Tokens) (x : A)
    → r front x → s front x) → Takes p s v → Takes p r v
takes_within wider t = record { takes = λ front rest x h ok. t.takes front rest x (wider front x h) ok }

-- ---- choices by a word

-- the word that the rule begins with comes next
pub starts_word : {B : Type 0} (kind : TokenKind) {s : ℕ → Rule B} → Starts (sees kind) (rule.◌>>=◌ (words.word kind) s)
starts_word kind = starts (asks_kind kind) (begins_word_then kind) (all_own (tag kind ∷ []))

-- the word that comes next leads to the first reader
pub takes_on_word : {A : Type 0} (kind : TokenKind) {p : Reader A} (q : Reader A) {s : ℕ → Rule A} {v : Follow}
    → Takes p (rule.◌>>=◌ (words.word kind) s) v
    → Takes (reader.case (sees kind) p q) (rule.◌>>=◌ (words.word kind) s) v
takes_on_word kind q takes = takes_on (sees kind) q (starts_word kind) takes

-- no such word comes next
pub takes_off_word : {A : Type 0} (kind : TokenKind) (p : Reader A) {q : Reader A} {l : List ℕ} {r : Rule A}
    {v : Follow} → Leads l r v → all_have (outside (tag kind ∷ [])) l ≡ true → Takes q r v
    → Takes (reader.case (sees kind) p q) r v
takes_off_word kind p leads all takes = takes_off (sees kind) p (skips (asks_kind kind) leads all) takes

-- ---- several choices, one behind the other

-- The reader takes what the rule spells, which begins with tokens of these kinds.
pub record Chosen {A : Type 0} (p : Reader A) (l : List ℕ) (r : Rule A) (v : Follow) : Type 0 where
  pub takes : Takes p r v
  pub begins : BeginsIn l r

-- the last choice
pub chosen : {A : Type 0} {p : Reader A} {l : List ℕ} {r : Rule A} {v : Follow} → Takes p r v → BeginsIn l r
    → Chosen p l r v
chosen takes begins = record { takes = takes; begins = begins }

-- one more choice, before the others
pub choose_by : {A : Type 0} {look : Look} {a m l : List ℕ} {p q : Reader A} {r s : Rule A} {v : Follow}
    → Asks look a → BeginsIn m r → all_have (among a) m ≡ true → Takes p r v → Chosen q l s v
    → all_have (outside a) l ≡ true → Chosen (reader.case look p q) (m ++ l) (rule.◌or◌ r s) v
choose_by {A} {look} {a} {m} {l} {p} {q} {r} {s} {v} asks begins own takes others none = record {
  takes = takes_or (takes_on look q (starts asks begins own) takes)
      (takes_off look p (skips asks (leads_begins others.begins) none) others.takes);
  begins = begins_either begins others.begins;
}

-- one more choice, by the word that its rule begins with
pub choose : {A : Type 0} (kind : TokenKind) {l : List ℕ} {p q : Reader A} {f : ℕ → Rule A} {s : Rule A} {v : Follow}
    → Takes p (rule.◌>>=◌ (words.word kind) f) v → Chosen q l s v → all_have (outside (tag kind ∷ [])) l ≡ true
    → Chosen (reader.case (sees kind) p q) (tag kind ∷ l) (rule.◌or◌ (rule.◌>>=◌ (words.word kind) f) s) v
choose kind takes others none = choose_by (asks_kind kind) (begins_word_then kind) (all_own (tag kind ∷ []))
    takes others none

-- before fewer tokens
pub takes_before : {A : Type 0} {p : Reader A} {r : Rule A} {l m : List ℕ} → all_have (among m) l ≡ true
    → Takes p r (Before m) → Takes p r (Before l)
takes_before {A} {p} {r} {l} {m} all takes = takes_narrow (before_wider l m all) takes

-- ---- one rule behind another

-- a token, and what stands behind it
pub takes_word : {A B : Type 0} {test : Token → Option A} {f : A → Reader B} {s : A → Rule B} {v : Follow}
    → ((x : A) → Takes (f x) (s x) v) → Takes (reader.◌>>=◌ (reader.one test) f) (rule.◌>>=◌ (rule.one test) s) v
takes_word {A} {B} {test} {f} {s} {v} second = takes_bind (takes_one test Any) second (λ _ _ _ _ _ _. tt)

-- what leads on to the second
pub takes_then : {A B : Type 0} {p : Reader A} {f : A → Reader B} {r : Rule A} {s : A → Rule B} {l : List ℕ}
    {v : Follow} → Takes p r (Before l) → ((x : A) → Takes (f x) (s x) v) → ((x : A) → Leads l (s x) v)
    → Takes (reader.◌>>=◌ p f) (rule.◌>>=◌ r s) v
takes_then first second leads = takes_bind first second (λ x y back rest h ok. (leads x).leads back rest y h ok)

-- a thing that is turned into another
pub takes_map : {A B : Type 0} {p : Reader A} {r : Rule A} {v : Follow} (g : A → B) → Takes p r v
    → Takes (reader.◌>>=◌ p (λ x. reader.pure (g x))) (rule.◌>>=◌ r (λ x. rule.pure (g x))) v
takes_map {A} {B} {p} {r} {v} g takes = takes_bind takes (λ x. takes_pure (g x) v) (λ x y back rest h ok. rw h.0 ok)

-- ---- constructs that open

-- the reader of a rule that needs what opens
pub takes_gated : {A : Type 0} (opens : Bool) {p : Reader A} {r : Rule A} {v : Follow} → Closed opens r → Takes p r v
    → Takes (reader.gate opens p) r v
takes_gated true closed takes = takes
takes_gated false closed takes = record { takes = λ front rest x h ok. absurd (closed.none refl front x h) }

-- ---- any number of things

-- things that are not empty are no more than their tokens
length_many : {A : Type 0} (r : Rule A) → NoEmpty r → (xs : List A) (front : Tokens) → rule.many r front xs
    → length xs ≤ length front
length_many r full [] front h = omega arith
length_many r full (x ∷ xs) front h =
    let some : 0 < length h.front = full h.front x h.first in
    let less : length xs ≤ length h.back = length_many r full xs h.back h.second in
    let same : length front ≡ length (h.front ++ h.back) = ap length h.split in
    let sum : length (h.front ++ h.back) ≡ length h.front + length h.back = length-append h.front h.back in
    omega arith

-- each thing begins where the look says so, and what stands behind them where it does not
pub takes_each : {A : Type 0} (look : Look) {p : Reader A} {r : Rule A} {l v : List ℕ} → BeginsIn l r → Starts look r
    → ((rest : Tokens) → Before v rest → look (next rest) ≡ false) → Takes p r (Before (l ++ v))
    → Takes (reader.many look p) (rule.many r) (Before v)
takes_each {A} look {p} {r} {l} {v} begins asked stops one = record {
  takes = λ front rest xs h ok. go (length (front ++ rest)) xs front rest h ok (enough xs front rest h);
}
  where
    enough : (xs : List A) (front rest : Tokens) → rule.many r front xs → length xs ≤ length (front ++ rest)
    enough xs front rest h = let sum = length-append front rest in let less = length_many r
        (full_begins r begins) xs front h in omega arith

    fits : (xs : List A) (back rest : Tokens) → rule.many r back xs → Before v rest → Before (l ++ v) (back ++ rest)
    fits xs back rest h ok = (leads_many begins).leads back rest xs h ok

    go : (n : ℕ) (xs : List A) (front rest : Tokens) → rule.many r front xs → Before v rest → length xs ≤ n
        → reader.many_from look p n (front ++ rest) ≡ Ok (xs, rest)
    go zero [] front rest h ok less = rw h refl
    go (suc n) [] front rest h ok less = rw (h, stops rest ok) refl
    go zero (x ∷ xs) front rest h ok less = absurd (omega arith)
    go (suc n) (x ∷ xs) front rest h ok less = rw (
      h.split,
      append_assoc h.front h.back rest,
      asked h.front (h.back ++ rest) x h.first,
      one.takes h.front (h.back ++ rest) x h.first (fits xs h.back rest h.second ok),
      go n xs h.back rest h.second ok (omega arith),
    ) refl

-- ---- things with commas between

-- the number of ","
abbrev pub comma : ℕ
comma = tag (kind.Symbol s.Comma)

-- things that each stand behind a comma
pub takes_more : {A : Type 0} {p : Reader A} {r : Rule A} {v : List ℕ} → Takes p r (Before (comma ∷ v))
    → all_have (outside (comma ∷ [])) v ≡ true
    → Takes (expressions.more_of p) (rule.many (rule.◌>>◌ (words.symbol s.Comma) r)) (Before v)
takes_more {A} {p} {r} {v} takes none = takes_each (sees (kind.Symbol s.Comma))
    (begins_word_then (kind.Symbol s.Comma))
    (starts (asks_kind (kind.Symbol s.Comma)) (begins_word_then (kind.Symbol s.Comma)) refl)
    (asks_no (asks_kind (kind.Symbol s.Comma)) none) (takes_word (λ _. takes))

-- things with commas between
pub takes_list : {A : Type 0} {p : Reader A} {r : Rule A} {v : List ℕ} → Takes p r (Before (comma ∷ v))
    → all_have (outside (comma ∷ [])) v ≡ true → Takes (expressions.list_of p) (words.list_of r) (Before v)
takes_list {A} {p} {r} {v} takes none = takes_then takes (λ first. takes_map (λ more. first ∷ more)
    (takes_more takes none))
    (λ first. leads_bind (leads_many (begins_word_then (kind.Symbol s.Comma))) (λ more. leads_pure))

-- ---- loops that their last turn ends

-- The turn takes each thing as one to go on behind, and what stands behind them as the last.
pub until_takes : {A B : Type 0} (turn : Reader (Turn A B)) (r : Rule A) {u : Follow}
    → Takes turn (rule.◌>>=◌ r (λ x. rule.pure (Continue x))) u → NoEmpty r → (xs : List A) (front behind rest : Tokens)
    (y : B) → rule.many r front xs → ((ys : List A) (more : Tokens) → rule.many r more ys → u (more ++ behind))
    → turn behind ≡ Ok (Break y, rest) → reader.until turn (front ++ behind) ≡ Ok ((xs, y), rest)
until_takes {A} {B} turn r {u} onward full xs front behind rest y h fits last =
    go (suc (length (front ++ behind))) xs front h (enough xs front h)
  where
    enough : (xs : List A) (front : Tokens) → rule.many r front xs → length xs < suc (length (front ++ behind))
    enough xs front h = let sum = length-append front behind in let less = length_many r full xs front h in omega arith

    one : (front more : Tokens) (x : A) → r front x → u more → turn (front ++ more) ≡ Ok (Continue x, more)
    one front more x h ok = onward.takes front more (Continue x) (record {
      front = front;
      back = [];
      thing = x;
      split = sym (append-nil front);
      first_spells = h;
      next_spells = (refl, refl);
    }) ok

    go : (n : ℕ) (xs : List A) (front : Tokens) → rule.many r front xs → length xs < n
        → reader.until_from turn n (front ++ behind) ≡ Ok ((xs, y), rest)
    go zero xs front h less = absurd (omega arith)
    go (suc n) [] front h less = rw (h, last) refl
    go (suc n) (x ∷ xs) front h less = rw (
      h.split,
      append_assoc h.front h.back behind,
      one h.front (h.back ++ behind) x h.first (fits xs h.back h.second),
      go n xs h.back h.second (omega arith),
    ) refl
