-- The readers of ends, of quoted words and of texts that say nothing take whatever the grammar spells.
use Rattle.std.proofs.Common.{◌≡◌, ℕ, ◌==◌, ◌||◌, Bool, true, false, cond, List, [], ◌∷◌, ◌++◌, Option, Some, None}
use Rattle.std.proofs.Common.{refl, sym, ap, ◌∙◌, append_assoc}
use Rattle.vb_value.specs.declared.token.Symbol.TheVariants as s
use Rattle.vb_value.specs.declared.token.Token.{Token}
use Rattle.vb_value.specs.declared.token.TokenKind.TheVariants as kind
use Rattle.vb_syntax.specs.grammar.Rules.{Tokens, Rule}
use Rattle.vb_syntax.specs.grammar.Rules as rule
use Rattle.vb_syntax.specs.grammar.Words as words
use Rattle.vb_syntax.specs.grammar.Words.{tag, name_of}
use Rattle.vb_syntax.specs.grammar.SimpleStatements.{Looser, quoted_at}
use Rattle.vb_syntax.specs.grammar.Statements as grammar
use Rattle.vb_syntax.specs.grammar.Statements.{break_of, passed}
use Rattle.vb_read.specs.Reader.{Reader, Turn, Look, and_then, next, sees, passes, is_some}
use Rattle.vb_read.specs.Reader as reader
use Rattle.vb_read.specs.ReadSimpleStatements.{sees_quoted}
use Rattle.vb_read.specs.ReadLines as lines
use Rattle.vb_read.specs.ReadLines.{breaks}
use Rattle.vb_read.specs.ReadStatements as spec
use Rattle.vb_read.specs.ReadStatements.{begins_statement, kind_begins_statement, sees_const, sees_loop_word}
use Rattle.vb_read.proofs.Taking.{Follow, Any, Takes, takes_pure, takes_one}
use Rattle.vb_read.proofs.Binding.{Within}
use Rattle.vb_read.proofs.Tags.{or_last, among, outside, all_have, not_true, among_has}
use Rattle.vb_read.proofs.Following.{next_in, Before, before_head, before_wider, BeginsIn, Leads, leads_begins}
use Rattle.vb_read.proofs.Following.{leads_pure, leads_or, leads_bind, leads_many, begins_kind, begins_then}
use Rattle.vb_read.proofs.Following.{begins_word_then, Asks, asks_kind, asks_no, Skips, starts, starts_one}
use Rattle.vb_read.proofs.Following.{begins_only, passes_no}
use Rattle.vb_read.proofs.Choosing.{starts_word, takes_or, takes_within, takes_word, takes_then, takes_map}
use Rattle.vb_read.proofs.Choosing.{takes_each}
use Rattle.vb_read.proofs.Following.{name_head}
use Rattle.vb_read.proofs.SimpleTaking.{quoted_only}
use Rattle.vb_read.proofs.BlankTexts.{text_head, passed_only}
use Rattle.vb_read.proofs.LineTaking.{Trailing, after_line}

-- ---- ends

abbrev pub break_heads : List ℕ
break_heads = tag (kind.Symbol s.Colon) ∷ tag kind.LineEnd ∷ []

break_same : (n : ℕ) → among break_heads n ≡ (n == tag (kind.Symbol s.Colon) || n == tag kind.LineEnd)
break_same n = rw (or_last (n == tag kind.LineEnd)) refl

break_asked : (token : Token) → is_some (break_of token) ≡ among break_heads (tag token.kind)
break_asked token = go (tag token.kind == tag (kind.Symbol s.Colon) || tag token.kind == tag kind.LineEnd)
    (break_same (tag token.kind))
  where
    go : (b : Bool) → among break_heads (tag token.kind) ≡ b → is_some (cond b (Some
        (tt {0})) None) ≡ among break_heads (tag
        token.kind)
    go true is = sym is
    go false is = sym is

pub asks_breaks : Asks breaks break_heads
asks_breaks = record { none = refl; some = break_asked }

pub break_begins : BeginsIn break_heads (rule.one break_of)
break_begins = record {
  head = λ front x h. (h.token, [], h.alone, sym (break_asked h.token) ∙ ap is_some h.passes);
}

pub takes_breaks : {v : List ℕ} → all_have (outside break_heads) v ≡ true
    → Takes (reader.many breaks (reader.one break_of)) (rule.many (rule.one break_of)) (Before v)
takes_breaks none = takes_each breaks break_begins (starts asks_breaks break_begins refl) (asks_no asks_breaks none)
    (takes_one break_of _)

pub takes_end : {v : List ℕ} → all_have (outside break_heads) v ≡ true → Takes lines.«end» grammar.«end» (Before v)
takes_end none = takes_word (λ _. takes_map (λ _. tt) (takes_breaks none))

pub begins_end : BeginsIn break_heads grammar.«end»
begins_end = begins_then break_begins

-- an end whose first ":" is cut off where there is one
pub record CutEnd (front : Tokens) : Type 0 where
  pub taken : Bool
  pub colon : Tokens
  pub back : Tokens
  pub split : front ≡ colon ++ back
  pub trails : Trailing taken colon
  pub ends : grammar.line_end back tt
  pub behind : (takes_else : Bool) (rest : Tokens) → Before (after_line takes_else taken) (back ++ rest)

abbrev line_end_behind : Rule (Unit {0})
line_end_behind = rule.◌>>◌ (words.word kind.LineEnd) (rule.◌>>◌ (rule.many (rule.one break_of)) (rule.pure tt))

leads_line_end : Leads break_heads grammar.line_end Any
leads_line_end = leads_bind (leads_many (begins_kind (kind.Symbol s.Colon)))
    (λ _. leads_begins (begins_word_then kind.LineEnd))

cut_end_at : (xs : List ℕ) (front lead back : Tokens) → rule.many (words.symbol s.Colon) lead xs
    → line_end_behind back tt → front ≡ lead ++ back → CutEnd front
cut_end_at [] front lead back h e split = record {
  taken = false;
  colon = [];
  back = back;
  split = split ∙ ap (λ t. t ++ back) h;
  trails = refl;
  ends = record { front = []; back = back; thing = []; split = refl; first_spells = refl; next_spells = e };
  behind = behind;
}
  where
    head : (rest : Tokens) → Before (tag kind.LineEnd ∷ []) (back ++ rest)
    head rest = before_head (tag kind.LineEnd ∷ []) back rest ((begins_word_then kind.LineEnd).head back tt e)

    behind : (takes_else : Bool) (rest : Tokens) → Before (after_line takes_else false) (back ++ rest)
    behind true rest = head rest
    behind false rest = before_wider (tag kind.LineEnd ∷ []) (after_line false false) refl (back ++ rest) (head rest)
cut_end_at (x ∷ xs) front lead back h e split =
    let ends : grammar.line_end (h.back ++ back) tt = record {
      front = h.back;
      back = back;
      thing = xs;
      split = refl;
      first_spells = h.second;
      next_spells = e;
    } in
    record {
      taken = true;
      colon = h.front;
      back = h.back ++ back;
      split = split ∙ ap (λ t. t ++ back) h.split ∙ append_assoc h.front h.back back;
      trails = (x, h.first);
      ends = ends;
      behind = λ takes_else rest. leads_line_end.leads (h.back ++ back) rest tt ends tt;
    }

pub cut_end : (front : Tokens) (x : Unit {0}) → grammar.line_end front x → CutEnd front
cut_end front x h = cut_end_at h.thing front h.front h.back h.first_spells h.next_spells h.split

pub takes_line_end : {v : List ℕ} → all_have (outside break_heads) v ≡ true
    → Takes lines.line_end grammar.line_end (Before v)
takes_line_end none = takes_then (takes_each (sees (kind.Symbol s.Colon)) (begins_kind (kind.Symbol s.Colon))
    (starts (asks_kind (kind.Symbol s.Colon)) (begins_kind (kind.Symbol s.Colon)) refl)
    (asks_no (asks_kind (kind.Symbol s.Colon)) refl) (takes_one _ _))
    (λ _. takes_word (λ _. takes_map (λ _. tt) (takes_breaks none)))
    (λ _. leads_begins (begins_word_then kind.LineEnd))

-- ---- quoted words

pub skips_quoted : {A : Type 0} (text : List ℕ) {l : List ℕ} {r : Rule A} {v : Follow} → Leads l r v
    → all_have (outside name_head) l ≡ true → Skips (sees_quoted text) r v
skips_quoted text leads none front rest x h ok = passes_no (quoted_only text) none (front ++ rest)
    (leads.leads front rest x h ok)

-- ---- texts that are passed over

pub takes_texts : (any : Bool) {v : List ℕ} → all_have (outside text_head) v ≡ true
    → all_have (outside break_heads) (text_head ++ v) ≡ true
    → Takes (spec.passed_texts any) (grammar.passed_texts any) (Before v)
unfolding spec.passed_texts
takes_texts any none quiet = takes_map (λ _. tt) (takes_each (passes (passed any))
    (begins_then (begins_only (passed_only any))) starts_one (passes_no (passed_only any) none)
    (takes_word (λ _. takes_end quiet)))

pub leads_texts : (any : Bool) {v : List ℕ} → Leads (text_head ++ v) (grammar.passed_texts any) (Before v)
leads_texts any = leads_bind (leads_many (begins_then (begins_only (passed_only any)))) (λ _. leads_pure)
