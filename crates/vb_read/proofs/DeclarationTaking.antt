-- The readers of declarations take whatever the grammar spells.
use Rattle.std.proofs.Common.{◌≡◌, ℕ, ℤ, pos, ◌==◌, inl, inr, true, false, List, [], ◌∷◌, Option, Some, None, refl, sym}
use Rattle.std.proofs.Common.{ap, ◌∙◌, subst, append-nil}
use Rattle.vb_value.specs.declared.token.Keyword.TheVariants as k
use Rattle.vb_value.specs.declared.token.Symbol.TheVariants as s
use Rattle.vb_value.specs.declared.token.TokenKind.{TokenKind}
use Rattle.vb_value.specs.declared.token.TokenKind.TheVariants as kind
use Rattle.vb_syntax.specs.declared.declaration.Access.{Access}
use Rattle.vb_syntax.specs.declared.declaration.Access.TheVariants as access
use Rattle.vb_syntax.specs.declared.declaration.ConstantValue.TheVariants as value
use Rattle.vb_syntax.specs.grammar.Rules.{Tokens, Rule}
use Rattle.vb_syntax.specs.grammar.Rules as rule
use Rattle.vb_syntax.specs.grammar.Words as words
use Rattle.vb_syntax.specs.grammar.Words.{tag, name_of, literal_of}
use Rattle.vb_syntax.specs.grammar.Declarations as grammar
use Rattle.vb_syntax.specs.grammar.Declarations.{number_of, number_of_kind}
use Rattle.vb_read.specs.Reader.{Reader, passes, is_some, sees}
use Rattle.vb_read.specs.Reader as reader
use Rattle.vb_read.specs.ReadExpressions as expressions
use Rattle.vb_read.specs.ReadDeclarations as spec
use Rattle.vb_read.specs.ReadDeclarations.{sees_access, begun}
use Rattle.vb_read.proofs.Taking.{Follow, Any, Takes, takes_pure, takes_one, takes_bind, takes_case, takes_narrow}
use Rattle.vb_read.proofs.Beginning.{begins_bind, begins_word, literal_tag}
use Rattle.vb_read.proofs.ExpressionEnds.{ArgumentsEnd, head_behind}
use Rattle.vb_read.proofs.Binding.{Within, within_then, bind_wider, bind_left, bind_right, pure_in, pure_out, or_out}
use Rattle.vb_read.proofs.Binding.{or_within, first_wider}
use Rattle.vb_read.proofs.Tags.{among, outside, all_have}
use Rattle.vb_read.proofs.Following.{Before, BeginsIn, leads_begins, leads_pure, leads_or, begins_then}
use Rattle.vb_read.proofs.Following.{begins_word_then, begins_either, begins_leads, name_head, name_begins, Asks}
use Rattle.vb_read.proofs.Following.{asks_kind, asks_either, skips, starts, before_head}
use Rattle.vb_read.proofs.Choosing.{takes_on, takes_on_word, takes_off_word, takes_or, takes_word, takes_then}
use Rattle.vb_read.proofs.Choosing.{takes_map, takes_list, comma}
use Rattle.vb_read.proofs.Placing.{takes_opened, begins_opened, literal_heads, heads_literal}

abbrev pub opening : List ℕ
opening = tag (kind.Symbol s.Open) ∷ []

abbrev pub closing : List ℕ
closing = tag (kind.Symbol s.Close) ∷ []

-- ---- words before a declaration

abbrev pub access_heads : List ℕ
access_heads = tag (kind.Keyword k.Public) ∷ tag (kind.Keyword k.Private) ∷ []

pub takes_access_word : {v : Follow} → Takes spec.access_word grammar.access_word v
takes_access_word = takes_or (takes_on_word (kind.Keyword k.Public) _ (takes_word (λ line. takes_pure _ _)))
    (takes_off_word (kind.Keyword k.Public) _ (leads_begins (begins_word_then (kind.Keyword k.Private))) refl
    (takes_word (λ line. takes_pure _ _)))

pub begins_access : BeginsIn access_heads grammar.access_word
begins_access = begins_either (begins_word_then (kind.Keyword k.Public)) (begins_word_then (kind.Keyword k.Private))

pub asks_access : Asks sees_access access_heads
asks_access = asks_either (asks_kind (kind.Keyword k.Public)) (asks_kind (kind.Keyword k.Private))

-- the word before a declaration, and what stands behind it
access_out : {B : Type 0} {word : Rule ℕ} {next : ℕ × Option Access → Rule B} (quoted : Rule ℕ) (found : Access)
    → Within (rule.◌>>=◌ (rule.◌>>=◌ quoted (λ line. rule.◌>>◌ word (rule.pure (line, Some found)))) next)
    (rule.◌>>=◌ (rule.◌>>=◌ quoted (λ line. rule.pure (line, found)))
    (λ before. rule.◌>>=◌ word (λ line. next (begun (Some before) line))))
access_out quoted found = within_then bind_right (within_then (bind_wider (λ line. within_then bind_right
    (within_then (bind_wider (λ _. pure_out)) pure_in))) bind_left)

pub access_apart : {B : Type 0} {word : Rule ℕ} {next : ℕ × Option Access → Rule B}
    → Within (rule.◌>>=◌ (grammar.with_access word) next)
    (rule.◌or◌ (rule.◌>>=◌ grammar.access_word (λ before. rule.◌>>=◌ word (λ line. next (begun (Some before) line))))
    (rule.◌>>=◌ word (λ line. next (begun None line))))
access_apart = within_then or_out (or_within
    (within_then (access_out (words.keyword k.Public) access.Public)
    (λ front x h. inl (first_wider (λ _ _ h. inl h) front x h)))
    (within_then or_out (or_within
    (within_then (access_out (words.keyword k.Private) access.Private)
    (λ front x h. inl (first_wider (λ _ _ h. inr h) front x h)))
    (within_then (within_then bind_right (bind_wider (λ line. pure_out))) (λ front x h. inr h)))))

-- ---- parentheses

close_before : (rest : Tokens) → ArgumentsEnd rest → Before closing rest
close_before rest w = subst (λ t. Before closing t) (append-nil rest) (before_head closing rest []
    (w.0, w.1, w.2, rw w.3 refl))

-- "(", things with commas between or none, ")"
pub takes_parentheses : {A : Type 0} {p : Reader A} {r : Rule A} {l : List ℕ} {v : Follow}
    → Takes p r (Before (comma ∷ closing)) → BeginsIn l r → all_have (outside closing) l ≡ true
    → Takes (reader.◌>>◌ (reader.symbol s.Open) (reader.◌>>=◌ (reader.case (sees (kind.Symbol s.Close)) (reader.pure [])
    (expressions.list_of p)) (λ found. reader.◌>>◌ (reader.symbol s.Close) (reader.pure found))))
    (rule.◌>>◌ (words.symbol s.Open) (rule.◌>>=◌ (rule.◌or◌ (rule.pure []) (words.list_of r))
    (λ found. rule.◌>>◌ (words.symbol s.Close) (rule.pure found)))) v
takes_parentheses {A} {p} {r} {l} {v} takes begins none = takes_word (λ _. takes_bind {u = ArgumentsEnd}
    (takes_case (sees (kind.Symbol s.Close)) (takes_pure [] ArgumentsEnd)
    (takes_narrow close_before (takes_list takes refl))
    (λ front rest x h ok. rw h.0 (rw ok.2 ok.3))
    (λ front rest x h ok. skips (asks_kind (kind.Symbol s.Close)) (leads_begins {v = Any} (begins_then begins)) none
    front rest x h tt))
    (λ found. takes_word (λ _. takes_pure found v))
    (λ found y back rest h ok. head_behind (λ n. n == tag (kind.Symbol s.Close)) back rest
    ((begins_bind (begins_word (kind.Symbol s.Close))).head back y h)))

-- ---- variables

-- the numbers of the tokens that are whole numbers
abbrev number_heads : List ℕ
number_heads = tag (kind.Integer (pos 0)) ∷ tag (kind.Long (pos 0)) ∷ []

number_begins : BeginsIn number_heads (rule.one number_of)
number_begins = record { head = λ front x h. (h.token, [], h.alone, number_tag h.token.kind x h.passes) }
  where
    number_tag : (kind : TokenKind) (x : ℤ) → number_of_kind kind ≡ Some x → among number_heads (tag kind) ≡ true
    number_tag (kind.Integer number) x e = refl
    number_tag (kind.Long number) x e = refl
    number_tag _ x e = absurd cc

pub takes_bounds : (depth : ℕ) {v : Follow} → Takes (spec.bounds depth) (grammar.bounds depth) v
takes_bounds depth = takes_opened depth (λ within. takes_parentheses (takes_one number_of _) number_begins refl)

pub begins_bounds : (depth : ℕ) → BeginsIn opening (grammar.bounds depth)
begins_bounds depth = begins_opened depth (λ within. begins_word_then (kind.Symbol s.Open))

-- [ "(" [ number { "," number } ] ")" ]
abbrev pub bounds_behind : ℕ → Rule (Option (List ℤ))
bounds_behind depth = rule.◌or◌ (rule.pure None) (rule.◌>>=◌ (grammar.bounds depth) (λ numbers. rule.pure
    (Some numbers)))

pub takes_bounds_behind : (depth : ℕ) {v : List ℕ} → all_have (outside opening) v ≡ true
    → Takes (spec.bounds_behind depth) (bounds_behind depth) (Before v)
takes_bounds_behind depth none = takes_or
    (takes_off_word (kind.Symbol s.Open) _ leads_pure none (takes_pure None _))
    (takes_on (sees (kind.Symbol s.Open)) _
    (starts (asks_kind (kind.Symbol s.Open)) (begins_then (begins_bounds depth)) refl)
    (takes_map (λ numbers. Some numbers) (takes_bounds depth)))

pub takes_declared_from : (depth : ℕ) (name : List ℕ) {v : List ℕ} → all_have (outside opening) v ≡ true
    → Takes (spec.declared_from depth name) (rule.◌>>=◌ (bounds_behind depth)
    (λ found. rule.pure (record { name = name; bounds = found }))) (Before v)
takes_declared_from depth name none = takes_map (λ found. record { name = name; bounds = found })
    (takes_bounds_behind depth none)

pub takes_declared : (depth : ℕ) {v : List ℕ} → all_have (outside opening) v ≡ true
    → Takes (spec.declared depth) (grammar.declared depth) (Before v)
takes_declared depth none = takes_word (λ name. takes_declared_from depth name none)

-- ---- constants

pub literal_begins : BeginsIn literal_heads (rule.one literal_of)
literal_begins = record {
  head = λ front x h. (
    h.token,
    [],
    h.alone,
    heads_literal (tag h.token.kind) ∙ sym (literal_tag h.token.kind)
        ∙ ap is_some h.passes,
  );
}

pub takes_constant_value : {v : Follow} → Takes spec.constant_value grammar.constant_value v
takes_constant_value = takes_or (takes_on_word (kind.Symbol s.Minus) _ (takes_word (λ _. takes_one _ _)))
    (takes_off_word (kind.Symbol s.Minus) _ (leads_begins (begins_then literal_begins)) refl
    (takes_word (λ found. takes_pure (value.Literal found) _)))

pub takes_constant : {v : Follow} → Takes spec.constant grammar.constant v
takes_constant = takes_word (λ name. takes_word (λ _. takes_map _ takes_constant_value))

-- ---- parameters

takes_passing : Takes spec.passing grammar.passing (Before name_head)
takes_passing = takes_or (takes_on_word (kind.Keyword k.ByVal) _ (takes_word (λ _. takes_pure true _)))
    (takes_off_word (kind.Keyword k.ByVal) _
    (leads_or (leads_begins (begins_word_then (kind.Keyword k.ByRef))) leads_pure) refl
    (takes_or (takes_on_word (kind.Keyword k.ByRef) _ (takes_word (λ _. takes_pure false _)))
    (takes_off_word (kind.Keyword k.ByRef) _ leads_pure refl (takes_pure false _))))

takes_array_mark : (depth : ℕ) {v : List ℕ} → all_have (outside opening) v ≡ true
    → Takes (spec.array_mark depth) (grammar.array_mark depth) (Before v)
takes_array_mark depth none = takes_or
    (takes_off_word (kind.Symbol s.Open) _ leads_pure none (takes_pure tt _))
    (takes_on (sees (kind.Symbol s.Open)) _
    (starts (asks_kind (kind.Symbol s.Open)) (begins_opened depth (λ within. begins_word_then
    (kind.Symbol s.Open))) refl)
    (takes_opened depth (λ within. takes_word (λ _. takes_word (λ _. takes_pure tt _)))))

pub takes_parameter : (depth : ℕ) {v : List ℕ} → all_have (outside opening) v ≡ true
    → Takes (spec.parameter depth) (grammar.parameter depth) (Before v)
takes_parameter depth none = takes_then takes_passing
    (λ by_value. takes_word (λ name. takes_map _ (takes_array_mark depth none)))
    (λ by_value. leads_begins (begins_then name_begins))

parameter_begins : (depth : ℕ) → BeginsIn (tag (kind.Keyword k.ByVal) ∷ tag (kind.Keyword k.ByRef) ∷ name_head)
    (grammar.parameter depth)
parameter_begins depth = begins_leads
    (leads_or (leads_begins (begins_word_then (kind.Keyword k.ByVal)))
    (leads_or (leads_begins (begins_word_then (kind.Keyword k.ByRef))) (leads_pure {l = name_head})))
    (λ by_value. begins_then name_begins)

pub takes_parameters : (depth : ℕ) {v : List ℕ} → all_have (outside opening) v ≡ true
    → Takes (spec.parameters depth) (grammar.parameters depth) (Before v)
takes_parameters depth none = takes_or
    (takes_off_word (kind.Symbol s.Open) _ leads_pure none (takes_pure [] _))
    (takes_on (sees (kind.Symbol s.Open)) _
    (starts (asks_kind (kind.Symbol s.Open)) (begins_opened depth (λ within. begins_word_then
    (kind.Symbol s.Open))) refl)
    (takes_opened depth (λ within. takes_parentheses (takes_parameter within refl) (parameter_begins within) refl)))
