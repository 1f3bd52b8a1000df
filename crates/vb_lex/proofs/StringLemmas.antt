-- The steps of a string's reader.
use Rattle.std.proofs.Common.{◌≡◌, ◌≢◌, ℕ, ◌+◌, ◌<◌, ◌≤◌, true, false, eqb, List, [], ◌∷◌, ◌++◌, Option, Some, None}
use Rattle.std.proofs.Common.{length, get_or, drop, refl, sym, ap, ◌∙◌, arith, append_assoc, append-nil}
use Rattle.std.proofs.lemmas.Bool.Decides.{nat_tests}
use Rattle.std.proofs.lemmas.List.{at_drop_more, at_drop_all, get_or-drop}
use Rattle.vb_lex.specs.Characters.{quote, is_line_end}
use Rattle.vb_lex.specs.Strings.{behind_front, quoted}

-- characters at the front, one after another
behind_front-behind_front : (front more : List ℕ) (m n : ℕ) (rest : Option (List ℕ × ℕ))
    → behind_front front m (behind_front more n rest) ≡ behind_front (front ++ more) (m + n) rest
behind_front-behind_front front more m n None = refl
behind_front-behind_front front more m n (Some rest) =
    let places : m + (n + rest.1) ≡ m + n + rest.1 = omega arith in
    let texts : front ++ (more ++ rest.0) ≡ front ++ more ++ rest.0 = sym (append_assoc front more rest.0) in
    ap (λ t. Some (t, m + (n + rest.1))) texts ∙ ap (λ k. Some (front ++ more ++ rest.0, k)) places

-- tests by numbers
differs : (c : ℕ) → c ≢ quote → eqb c quote ≡ false
differs c differ = grind (arith, nat_tests)

same : (c : ℕ) → c ≡ quote → eqb c quote ≡ true
same c e = grind (arith, nat_tests)

pub not_quote : (c : ℕ) → is_line_end c ≡ true → eqb c quote ≡ false
not_quote c ends = grind (arith, nat_tests)

-- a character that stands for itself
pub other : (c : ℕ) (text : List ℕ) → eqb c quote ≡ false → is_line_end c ≡ false
    → quoted (c ∷ text) ≡ behind_front (c ∷ []) 1 (quoted text)
other c [] plain stays = rw plain refl
other c (d ∷ text) plain stays = rw (plain, stays) refl

-- a doubled quote
double : (c d : ℕ) (text : List ℕ) → eqb c quote ≡ true → eqb d quote ≡ true
    → quoted (c ∷ d ∷ text) ≡ behind_front (quote ∷ []) 2 (quoted text)
double c d text first second = rw (first, second) refl

-- the closing quote
close : (c : ℕ) (text : List ℕ) → eqb c quote ≡ true → eqb (get_or text 0 0) quote ≡ false
    → quoted (c ∷ text) ≡ Some ([], 1)
close c [] first second = rw first refl
close c (d ∷ text) first second = rw (first, second) refl

-- a line end
pub ended : (c : ℕ) (text : List ℕ) → eqb c quote ≡ false → is_line_end c ≡ true → quoted (c ∷ text) ≡ None
ended c [] plain ends = rw plain refl
ended c (d ∷ text) plain ends = rw (plain, ends) refl

-- the same at a place of a text, behind what was read
pub step_other : (value text : List ℕ) (at : ℕ) → at < length text → get_or text at 0 ≢ quote
    → is_line_end (get_or text at 0) ≡ false
    → behind_front (value ++ get_or text at 0 ∷ []) (at + 1) (quoted (drop (at + 1) text))
    ≡ behind_front value at (quoted (drop at text))
step_other value text at within plain stays =
    sym (behind_front-behind_front value (get_or text at 0 ∷ []) at 1 (quoted (drop (at + 1) text)))
    ∙ ap (behind_front value at) (sym (at_drop_more quoted text at 0 within ∙ other (get_or text at 0) (drop
    (at + 1) text) (differs (get_or text at 0) plain) stays))

pub step_double : (value text : List ℕ) (at : ℕ) → at < length text → at + 1 < length text
    → get_or text at 0 ≡ quote → get_or text (at + 1) 0 ≡ quote
    → behind_front (value ++ get_or text at 0 ∷ []) (at + 1 + 1) (quoted (drop (at + 1 + 1) text))
    ≡ behind_front value at (quoted (drop at text))
step_double value text at within more first second =
    let places : at + 1 + 1 ≡ at + 2 = omega arith in
    let here : quoted (drop at text) ≡ behind_front (quote ∷ []) 2 (quoted (drop (at + 1 + 1) text)) =
    at_drop_more quoted text at 0 within
    ∙ at_drop_more (λ t. quoted (get_or text at 0 ∷ t)) text (at + 1) 0 more
    ∙ double (get_or text at 0) (get_or text (at + 1) 0) (drop (at + 1 + 1) text) (same
    (get_or text at 0) first) (same (get_or text (at + 1) 0) second) in
    ap (λ c. behind_front (value ++ c ∷ []) (at + 1 + 1) (quoted (drop (at + 1 + 1) text))) first
    ∙ ap (λ n. behind_front (value ++ quote ∷ []) n (quoted (drop (at + 1 + 1) text))) places
    ∙ sym (behind_front-behind_front value (quote ∷ []) at 2 (quoted (drop (at + 1 + 1) text)))
    ∙ ap (behind_front value at) (sym here)

pub at_close : (value text : List ℕ) (at : ℕ) → at < length text → get_or text at 0 ≡ quote
    → get_or text (at + 1) 0 ≢ quote
    → behind_front value at (quoted (drop at text)) ≡ Some (value, at + 1)
at_close value text at within first second =
    let next : get_or (drop (at + 1) text) 0 0 ≡ get_or text (at + 1) 0 =
    get_or-drop (at + 1) text 0 0 ∙ ap (λ n. get_or text n 0) (omega arith) in
    let apart : eqb (get_or (drop (at + 1) text) 0 0) quote ≡ false = rw next (differs (get_or text
    (at + 1) 0) second) in
    ap (behind_front value at) (at_drop_more quoted text at 0 within ∙ close (get_or text at 0) (drop
    (at + 1) text) (same (get_or text at 0) first) apart)
    ∙ ap (λ t. Some (t, at + 1)) (append-nil value)

pub at_line_end : (value text : List ℕ) (at : ℕ) → at < length text → is_line_end (get_or text at 0) ≡ true
    → behind_front value at (quoted (drop at text)) ≡ None
at_line_end value text at within ends =
    ap (behind_front value at) (at_drop_more quoted text at 0 within ∙ ended (get_or text at 0) (drop
    (at + 1) text) (not_quote (get_or text at 0) ends) ends)

pub at_end : (value text : List ℕ) (at : ℕ) → length text ≤ at
    → behind_front value at (quoted (drop at text)) ≡ None
at_end value text at past = ap (behind_front value at) (at_drop_all quoted text at past)

-- the steps of the loop
pub ruleset string_steps = (step_other, step_double, at_close, at_line_end, at_end)
