-- A rule prints what it spells: the printed words are alike to those that it was spelled with.
use Rattle.std.proofs.Common.{◌≡◌, ℕ, Bool, List, [], ◌∷◌, ◌++◌, map, inl, inr, refl, sym, ap, ◌∙◌, append-nil}
use Rattle.std.specs.List.{flat_map}
use Rattle.vb_value.specs.declared.token.Keyword.{Keyword}
use Rattle.vb_value.specs.declared.token.Symbol.{Symbol}
use Rattle.vb_value.specs.declared.token.Symbol.TheVariants as s
use Rattle.vb_syntax.specs.grammar.Rules.{Tokens, Rule, pure, none, ◌>>=◌, ◌>>◌, ◌or◌, many, where_true}
use Rattle.vb_syntax.specs.grammar.Words as words
use Rattle.vb_print.specs.Words.{keyword, symbol, listed}
use Rattle.print_laws.proofs.Alike.{kinds, kinds-append}
use Rattle.print_laws.proofs.PrintedWords.{kinds-keyword, kinds-symbol}

-- what the rule spells has words that are alike to those that spelled it
pub record Prints {A : Type 0} (r : Rule A) (print : A → Tokens) : Type 0 where
  pub same : (tokens : Tokens) (x : A) → r tokens x → kinds (print x) ≡ kinds tokens

-- the words `tail` behind others, of which `before` makes the whole
pub record TailWords {A : Type 0} (before : Tokens → Tokens) (print : A → Tokens) (tokens : Tokens) (x : A)
    : Type 0 where
  pub tail : Tokens
  pub whole : print x ≡ before tail
  pub same : kinds tail ≡ kinds tokens

-- the same of what stands behind other words
pub record PrintsTail {A : Type 0} (r : Rule A) (before : Tokens → Tokens) (print : A → Tokens) : Type 0 where
  pub shows : (tokens : Tokens) (x : A) → r tokens x → TailWords before print tokens x

pub prints : {A : Type 0} {r : Rule A} {print : A → Tokens} → PrintsTail r (λ tail. tail) print → Prints r print
prints {A} {r} {print} p = record {
  same = λ tokens x h. let found = p.shows tokens x h in ap kinds found.whole ∙ found.same;
}

pub tail : {A : Type 0} {r : Rule A} {print : A → Tokens} → Prints r print → PrintsTail r (λ tail. tail) print
tail {A} {r} {print} p = record {
  shows = λ tokens x h. record { tail = print x; whole = refl; same = p.same tokens x h };
}

pub prints_pure : {A : Type 0} {x : A} {before : Tokens → Tokens} {print : A → Tokens} → print x ≡ before []
    → PrintsTail (pure x) before print
prints_pure {A} {x} {before} {print} e = record {
  shows = λ tokens y h. record { tail = []; whole = ap print h.1 ∙ e; same = sym (ap kinds h.0) };
}

pub prints_bind : {A B : Type 0} {r : Rule A} {s : A → Rule B} {before : Tokens → Tokens} {print : A → Tokens}
    {whole : B → Tokens} → Prints r print → ((x : A) → PrintsTail (s x) (λ tail. before (print x ++ tail)) whole)
    → PrintsTail (r >>= s) before whole
prints_bind {A} {B} {r} {s} {before} {print} {whole} first next = record { shows = go }
  where
    go : (tokens : Tokens) (y : B) → (r >>= s) tokens y → TailWords before whole tokens y
    go tokens y h = let found = (next h.thing).shows h.back y h.next_spells in record {
      tail = print h.thing ++ found.tail;
      whole = found.whole;
      same = kinds-append (print h.thing) found.tail
          ∙ ap (λ l. l ++ kinds found.tail) (first.same h.front h.thing h.first_spells)
          ∙ ap (λ l. kinds h.front ++ l) found.same ∙ sym (ap kinds h.split ∙ kinds-append h.front h.back);
    }

-- the last part of a rule
pub prints_last : {A B : Type 0} {r : Rule A} {make : A → B} {before : Tokens → Tokens} {print : A → Tokens}
    {whole : B → Tokens} → Prints r print → ((x : A) → whole (make x) ≡ before (print x))
    → PrintsTail (r >>= (λ x. pure (make x))) before whole
prints_last {A} {B} {r} {make} {before} {print} {whole} last e = record { shows = go }
  where
    go : (tokens : Tokens) (y : B) → (r >>= (λ x. pure (make x))) tokens y → TailWords before whole tokens y
    go tokens y h = record {
      tail = print h.thing;
      whole = ap whole h.next_spells.1 ∙ e h.thing;
      same = last.same h.front h.thing h.first_spells
          ∙ sym (ap kinds h.split ∙ ap (λ l. kinds (h.front ++ l)) h.next_spells.0 ∙ ap kinds (append-nil h.front));
    }

-- a keyword, whose line says nothing
pub prints_keyword : {B : Type 0} {s : Rule B} {before : Tokens → Tokens} {whole : B → Tokens} (found : Keyword)
    (line : ℕ) → PrintsTail s (λ tail. before (keyword line found ∷ tail)) whole
    → PrintsTail (words.keyword found >> s) before whole
prints_keyword {B} {s} {before} {whole} found line next =
    prints_bind {print = λ _. keyword line found ∷ []}
    (record { same = λ tokens x h. sym (kinds-keyword found tokens x h) }) (λ _. next)

-- a symbol, whose line says nothing
pub prints_symbol : {B : Type 0} {s : Rule B} {before : Tokens → Tokens} {whole : B → Tokens} (found : Symbol)
    (line : ℕ) → PrintsTail s (λ tail. before (symbol line found ∷ tail)) whole
    → PrintsTail (words.symbol found >> s) before whole
prints_symbol {B} {s} {before} {whole} found line next =
    prints_bind {print = λ _. symbol line found ∷ []}
    (record { same = λ tokens x h. sym (kinds-symbol found tokens x h) }) (λ _. next)

pub prints_or : {A : Type 0} {r s : Rule A} {before : Tokens → Tokens} {print : A → Tokens}
    → PrintsTail r before print → PrintsTail s before print → PrintsTail (r or s) before print
prints_or {A} {r} {s} {before} {print} a b = record { shows = go }
  where
    go : (tokens : Tokens) (x : A) → (r or s) tokens x → TailWords before print tokens x
    go tokens x (inl h) = a.shows tokens x h
    go tokens x (inr h) = b.shows tokens x h

pub prints_where : {A : Type 0} {fact : Bool} {r : Rule A} {before : Tokens → Tokens} {print : A → Tokens}
    → PrintsTail r before print → PrintsTail (where_true fact r) before print
prints_where a = record { shows = λ tokens x h. a.shows tokens x h.1 }

pub prints_none : {A : Type 0} {print : A → Tokens} → Prints (none {A = A}) print
prints_none = record { same = λ tokens x h. absurd h }

pub prints_many : {A : Type 0} {r : Rule A} (print : A → Tokens) (with : Tokens → Tokens)
    → Prints r (λ x. with (print x)) → Prints (many r) (λ xs. flat_map with (map print xs))
prints_many {A} {r} print with a = record { same = go }
  where
    go : (tokens : Tokens) (xs : List A) → many r tokens xs → kinds (flat_map with (map print xs)) ≡ kinds tokens
    go tokens [] h = sym (ap kinds h)
    go tokens (x ∷ xs) h = kinds-append (with (print x)) (flat_map with (map print xs))
        ∙ ap (λ l. l ++ kinds (flat_map with (map print xs))) (a.same h.front x h.first)
        ∙ ap (λ l. kinds h.front ++ l) (go h.back xs h.second)
        ∙ sym (ap kinds h.split ∙ kinds-append h.front h.back)

pub prints_listed : {A : Type 0} {r : Rule A} (line : ℕ) (print : A → Tokens) → Prints r print
    → Prints (words.list_of r) (λ xs. listed line (map print xs))
prints_listed {A} {r} line print a = prints (prints_bind a (λ first. prints_last
    (prints_many print (λ x. symbol line s.Comma ∷ x) (prints (prints_symbol s.Comma line (below line a))))
    (λ more. refl)))
  where
    below : (line : ℕ) → Prints r print → PrintsTail r (λ tail. symbol line s.Comma ∷ tail) (λ x. symbol line s.Comma
        ∷ print x)
    below line a = record {
      shows = λ tokens x h. record { tail = print x; whole = refl; same = a.same tokens x h };
    }
