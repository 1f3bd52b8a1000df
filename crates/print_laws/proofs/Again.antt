-- What a rule spells is spelled again by its printed words.
use Rattle.std.proofs.Common.{◌≡◌, ℕ, zero, suc, Bool, true, List, [], ◌∷◌, ◌++◌, map, cond}
use Rattle.std.proofs.Common.{Some, None, inl, inr, refl, sym, ap, ◌∙◌, append-nil, subst}
use Rattle.std.proofs.lemmas.Bool.{eq-eqb}
use Rattle.std.specs.List.{flat_map}
use Rattle.vb_value.specs.Folding.{same_name}
use Rattle.vb_value.specs.declared.token.Keyword.{Keyword}
use Rattle.vb_value.specs.declared.token.Symbol.{Symbol}
use Rattle.vb_value.specs.declared.token.Symbol.TheVariants as s
use Rattle.vb_value.specs.declared.token.TokenKind.{TokenKind}
use Rattle.vb_value.specs.declared.token.TokenKind.TheVariants as kind
use Rattle.vb_syntax.specs.grammar.Rules.{Tokens, Rule, pure, none, ◌>>=◌, ◌>>◌, ◌or◌, many, where_true}
use Rattle.vb_syntax.specs.grammar.Words as words
use Rattle.vb_syntax.specs.grammar.Words.{tag, line_of}
use Rattle.vb_syntax.specs.grammar.Declarations.{opened}
use Rattle.vb_syntax.specs.grammar.SimpleStatements as statements
use Rattle.vb_print.specs.Words.{printed, keyword, symbol, quoted, listed}
use Rattle.print_laws.proofs.Alike.{Blind}
use Rattle.print_laws.proofs.Prints.{Prints}

-- the printed words of what the rule spells spell it
pub record Again {A : Type 0} (r : Rule A) (print : A → Tokens) : Type 0 where
  pub spelled : (tokens : Tokens) (x : A) → r tokens x → r (print x) x

-- the words `tail`, which spell the thing, and of which `before` makes the whole
pub record TailAgain {A : Type 0} (r : Rule A) (before : Tokens → Tokens) (print : A → Tokens) (x : A) : Type 0 where
  pub tail : Tokens
  pub whole : print x ≡ before tail
  pub spelled : r tail x

-- the same of what stands behind other words
pub record AgainTail {A : Type 0} (r : Rule A) (before : Tokens → Tokens) (print : A → Tokens) : Type 0 where
  pub shows : (tokens : Tokens) (x : A) → r tokens x → TailAgain r before print x

pub again : {A : Type 0} {r : Rule A} {print : A → Tokens} → AgainTail r (λ tail. tail) print → Again r print
again {A} {r} {print} p = record {
  spelled = λ tokens x h. let found = p.shows tokens x h in subst (λ t. r t x) (sym found.whole) found.spelled;
}

-- what prints a thing by words that the rule spells
pub tail_of : {A : Type 0} {r : Rule A} {print : A → Tokens} {before : Tokens → Tokens} {whole : A → Tokens}
    → Again r print → ((x : A) → whole x ≡ before (print x)) → AgainTail r before whole
tail_of {A} {r} {print} {before} {whole} p e = record {
  shows = λ tokens x h. record { tail = print x; whole = e x; spelled = p.spelled tokens x h };
}

pub self : {A : Type 0} {r : Rule A} {print : A → Tokens} → Again r print → AgainTail r (λ tail. tail) print
self p = tail_of p (λ x. refl)

-- a rule that looks at no line and prints what is alike
pub alike : {A : Type 0} {r : Rule A} {print : A → Tokens} → Blind r → Prints r print → Again r print
alike {A} {r} {print} blind prints = record {
  spelled = λ tokens x h. blind.moved tokens (print x) x (prints.same tokens x h) h;
}

pub again_pure : {A : Type 0} {x : A} {before : Tokens → Tokens} {print : A → Tokens} → print x ≡ before []
    → AgainTail (pure x) before print
again_pure {A} {x} {before} {print} e = record {
  shows = λ tokens y h. record { tail = []; whole = ap print h.1 ∙ e; spelled = (refl, h.1) };
}

pub again_bind : {A B : Type 0} {r : Rule A} {s : A → Rule B} {before : Tokens → Tokens} {print : A → Tokens}
    {whole : B → Tokens} → Again r print → ((x : A) → AgainTail (s x) (λ tail. before (print x ++ tail)) whole)
    → AgainTail (r >>= s) before whole
again_bind {A} {B} {r} {s} {before} {print} {whole} first next = record { shows = go }
  where
    go : (tokens : Tokens) (y : B) → (r >>= s) tokens y → TailAgain (r >>= s) before whole y
    go tokens y h = let found = (next h.thing).shows h.back y h.next_spells in record {
      tail = print h.thing ++ found.tail;
      whole = found.whole;
      spelled = record {
        front = print h.thing;
        back = found.tail;
        thing = h.thing;
        split = refl;
        first_spells = first.spelled h.front h.thing h.first_spells;
        next_spells = found.spelled;
      };
    }

-- the same, where the printed words spell another thing, with which the rule goes on as with the first
pub again_changed : {A B : Type 0} {r : Rule A} {s : A → Rule B} {before : Tokens → Tokens} {whole : B → Tokens}
    (print : A → Tokens) (change : A → A) → ((tokens : Tokens) (x : A) → r tokens x → r (print x) (change x))
    → ((x : A) (tokens : Tokens) (y : B) → s x tokens y → s (change x) tokens y)
    → ((x : A) → AgainTail (s x) (λ tail. before (print x ++ tail)) whole) → AgainTail (r >>= s) before whole
again_changed {A} {B} {r} {s} {before} {whole} print change first goes_on next = record { shows = go }
  where
    go : (tokens : Tokens) (y : B) → (r >>= s) tokens y → TailAgain (r >>= s) before whole y
    go tokens y h = let found = (next h.thing).shows h.back y h.next_spells in record {
      tail = print h.thing ++ found.tail;
      whole = found.whole;
      spelled = record {
        front = print h.thing;
        back = found.tail;
        thing = change h.thing;
        split = refl;
        first_spells = first h.front h.thing h.first_spells;
        next_spells = goes_on h.thing found.tail y found.spelled;
      };
    }

-- the same, where a fact holds of all that the first rule spells
pub again_given : {A B : Type 0} {r : Rule A} {s : A → Rule B} {before : Tokens → Tokens} {print : A → Tokens}
    {whole : B → Tokens} (Fact : A → Type 0) → Again r print → ((tokens : Tokens) (x : A) → r tokens x → Fact x)
    → ((x : A) → Fact x → AgainTail (s x) (λ tail. before (print x ++ tail)) whole)
    → AgainTail (r >>= s) before whole
again_given {A} {B} {r} {s} {before} {print} {whole} Fact first holds next = record { shows = go }
  where
    go : (tokens : Tokens) (y : B) → (r >>= s) tokens y → TailAgain (r >>= s) before whole y
    go tokens y h =
        let fact = holds h.front h.thing h.first_spells in
        let found = (next h.thing fact).shows h.back y h.next_spells in record {
          tail = print h.thing ++ found.tail;
          whole = found.whole;
          spelled = record {
            front = print h.thing;
            back = found.tail;
            thing = h.thing;
            split = refl;
            first_spells = first.spelled h.front h.thing h.first_spells;
            next_spells = found.spelled;
          };
        }

-- the last part of a rule
pub again_last : {A B : Type 0} {r : Rule A} {make : A → B} {before : Tokens → Tokens} {print : A → Tokens}
    {whole : B → Tokens} → Again r print → ((x : A) → whole (make x) ≡ before (print x))
    → AgainTail (r >>= (λ x. pure (make x))) before whole
again_last {A} {B} {r} {make} {before} {print} {whole} last e = record { shows = go }
  where
    go : (tokens : Tokens) (y : B) → (r >>= (λ x. pure (make x))) tokens y
        → TailAgain (r >>= (λ x. pure (make x))) before whole y
    go tokens y h = record {
      tail = print h.thing;
      whole = ap whole h.next_spells.1 ∙ e h.thing;
      spelled = record {
        front = print h.thing;
        back = [];
        thing = h.thing;
        split = sym (append-nil (print h.thing));
        first_spells = last.spelled h.front h.thing h.first_spells;
        next_spells = (refl, h.next_spells.1);
      };
    }

pub again_or : {A : Type 0} {r s : Rule A} {before : Tokens → Tokens} {print : A → Tokens}
    → AgainTail r before print → AgainTail s before print → AgainTail (r or s) before print
again_or {A} {r} {s} {before} {print} a b = record { shows = go }
  where
    go : (tokens : Tokens) (x : A) → (r or s) tokens x → TailAgain (r or s) before print x
    go tokens x (inl h) = let found = a.shows tokens x h in record {
      tail = found.tail;
      whole = found.whole;
      spelled = inl found.spelled;
    }
    go tokens x (inr h) = let found = b.shows tokens x h in record {
      tail = found.tail;
      whole = found.whole;
      spelled = inr found.spelled;
    }

pub again_where : {A : Type 0} {fact : Bool} {r : Rule A} {before : Tokens → Tokens} {print : A → Tokens}
    → AgainTail r before print → AgainTail (where_true fact r) before print
again_where a = record {
  shows = λ tokens x h. let found = a.shows tokens x h.1 in record {
    tail = found.tail;
    whole = found.whole;
    spelled = (h.0, found.spelled);
  };
}

pub again_none : {A : Type 0} {print : A → Tokens} → Again (none {A = A}) print
again_none = record { spelled = λ tokens x h. absurd h }

pub again_opened : {A : Type 0} {rule : ℕ → Rule A} {before : Tokens → Tokens} {print : A → Tokens} (depth : ℕ)
    → ((within : ℕ) → AgainTail (rule within) before print) → AgainTail (opened depth rule) before print
again_opened zero a = record { shows = λ tokens x h. absurd h }
again_opened (suc depth) a = a depth

pub again_many : {A : Type 0} {r : Rule A} (print : A → Tokens) (with : Tokens → Tokens)
    → Again r (λ x. with (print x)) → Again (many r) (λ xs. flat_map with (map print xs))
again_many {A} {r} print with a = record { spelled = go }
  where
    go : (tokens : Tokens) (xs : List A) → many r tokens xs → many r (flat_map with (map print xs)) xs
    go tokens [] h = refl
    go tokens (x ∷ xs) h = record {
      front = with (print x);
      back = flat_map with (map print xs);
      split = refl;
      first = a.spelled h.front x h.first;
      second = go h.back xs h.second;
    }

-- ---- words

line_kept : (found : TokenKind) (line : ℕ) → line_of (tag found) (printed line found) ≡ Some line
line_kept found line = ap (λ t. cond t (Some line) None) (eq-eqb (tag found) (tag found) refl)

-- a word whose line is kept
pub again_word : (found : TokenKind) → Again (words.word found) (λ line. printed line found ∷ [])
again_word found = record {
  spelled = λ tokens line h. record { token = printed line found; alone = refl; passes = line_kept found line };
}

-- what says nothing, by words that the rule spells
pub behind : {A B : Type 0} {r : Rule A} {s : Rule B} {before : Tokens → Tokens} {whole : B → Tokens}
    (shown : Tokens) (thing : A) → r shown thing → AgainTail s (λ tail. before (shown ++ tail)) whole
    → AgainTail (r >> s) before whole
behind {A} {B} {r} {s} {before} {whole} shown thing spells next = record { shows = go }
  where
    go : (tokens : Tokens) (y : B) → (r >> s) tokens y → TailAgain (r >> s) before whole y
    go tokens y h = let rest = next.shows h.back y h.next_spells in record {
      tail = shown ++ rest.tail;
      whole = rest.whole;
      spelled = record {
        front = shown;
        back = rest.tail;
        thing = thing;
        split = refl;
        first_spells = spells;
        next_spells = rest.spelled;
      };
    }

-- a word in a line is that word
pub word_shown : (found : TokenKind) (line : ℕ) → words.word found (printed line found ∷ []) line
word_shown found line = record { token = printed line found; alone = refl; passes = line_kept found line }

pub again_keyword : {B : Type 0} {s : Rule B} {before : Tokens → Tokens} {whole : B → Tokens} (found : Keyword)
    (line : ℕ) → AgainTail s (λ tail. before (keyword line found ∷ tail)) whole
    → AgainTail (words.keyword found >> s) before whole
again_keyword found line next = behind (keyword line found ∷ []) line (word_shown (kind.Keyword found) line) next

pub again_symbol : {B : Type 0} {s : Rule B} {before : Tokens → Tokens} {whole : B → Tokens} (found : Symbol)
    (line : ℕ) → AgainTail s (λ tail. before (symbol line found ∷ tail)) whole
    → AgainTail (words.symbol found >> s) before whole
again_symbol found line next = behind (symbol line found ∷ []) line (word_shown (kind.Symbol found) line) next

-- a word that is a name elsewhere is one of those that are read so
pub quoted_shown : (text shown : List ℕ) → same_name text shown ≡ true → (line : ℕ)
    → statements.quoted text (quoted line shown ∷ []) line
quoted_shown text shown same line = record {
  token = quoted line shown;
  alone = refl;
  passes = ap (λ t. cond t (Some line) None) same;
}

-- ---- lists

pub again_listed : {A : Type 0} {r : Rule A} (line : ℕ) (print : A → Tokens) → Again r print
    → Again (words.list_of r) (λ xs. listed line (map print xs))
again_listed {A} {r} line print a = again (again_bind a (λ first. again_last
    (again_many print (λ x. symbol line s.Comma ∷ x) (again (again_symbol s.Comma line (tail_of a (λ x. refl)))))
    (λ more. refl)))

-- [ x { "," x } ]
pub again_some : {A : Type 0} {r : Rule A} (line : ℕ) (print : A → Tokens) → Again r print
    → Again (pure [] or words.list_of r) (λ xs. listed line (map print xs))
again_some {A} {r} line print a = again (again_or (again_pure refl) (tail_of (again_listed line print a) (λ xs. refl)))
