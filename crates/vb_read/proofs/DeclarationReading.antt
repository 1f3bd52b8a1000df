-- The readers of declarations read the grammar's declarations.
use Rattle.std.proofs.Common.{ℕ, ℤ, pos, zero, suc, inl, inr, true, false, List, [], Option, Some, None, refl}
use Rattle.vb_value.specs.declared.token.Keyword.TheVariants as k
use Rattle.vb_value.specs.declared.token.Symbol.TheVariants as s
use Rattle.vb_value.specs.declared.token.TokenKind.TheVariants as kind
use Rattle.vb_syntax.specs.declared.declaration.Access.{Access}
use Rattle.vb_syntax.specs.declared.declaration.Access.TheVariants as access
use Rattle.vb_syntax.specs.declared.declaration.ConstantValue.TheVariants as value
use Rattle.vb_syntax.specs.declared.expression.Literal.TheVariants as literal
use Rattle.vb_syntax.specs.grammar.Rules.{Tokens, Rule}
use Rattle.vb_syntax.specs.grammar.Rules as rule
use Rattle.vb_syntax.specs.grammar.Words as words
use Rattle.vb_syntax.specs.grammar.Words.{name_of, literal_of}
use Rattle.vb_syntax.specs.grammar.Declarations as grammar
use Rattle.vb_syntax.specs.grammar.Declarations.{number_of, negative_of}
use Rattle.vb_read.specs.Reader.{Reader}
use Rattle.vb_read.specs.Reader as reader
use Rattle.vb_read.specs.ReadExpressions as expressions
use Rattle.vb_read.specs.ReadDeclarations as spec
use Rattle.vb_read.proofs.Reading.{Reads, Lives, reads_pure, reads_refuse, reads_wider, reads_bind, reads_one}
use Rattle.vb_read.proofs.Reading.{reads_choice, reads_both, reads_word, reads_name, token_of}
use Rattle.vb_read.proofs.Binding.{Within, within_then, bind_wider, bind_left, bind_right, pure_in, pure_out, or_out}
use Rattle.vb_read.proofs.Binding.{or_within, first_wider}
use Rattle.vb_read.proofs.ExpressionReading.{reads_list_of}

-- ---- constructs that open

pub reads_opened : {A : Type 0} (depth : ℕ) {p : ℕ → Reader A} {r : ℕ → Rule A} {whole : Rule A} → Lives whole
    → Within (grammar.opened depth r) whole → ((within : ℕ) → Reads (p within) (r within))
    → Reads (spec.opened depth p) whole
reads_opened zero {p} {r} {whole} lives wider reads = reads_refuse whole lives
reads_opened (suc depth) lives wider reads = reads_wider wider (reads depth)

-- what opens, with something behind it
pub reads_opened_then : {A B : Type 0} (depth : ℕ) {p : ℕ → Reader A} {f : A → Reader B} {r : ℕ → Rule A} {g : A
    → Rule B} {whole : Rule B} → Lives whole → Within (rule.◌>>=◌ (grammar.opened depth r) g) whole
    → ((within : ℕ) → Reads (p within) (r within)) → ((x : A) → Reads (f x) (g x))
    → Reads (reader.◌>>=◌ (spec.opened depth p) f) whole
reads_opened_then zero {p} {f} {r} {g} {whole} lives wider reads later = record {
  meets = λ tokens. record {
    front = [];
    split = refl;
    more = lives.tokens;
    thing = lives.thing;
    goes_on = lives.spells;
    again = λ more _. refl;
  };
  lives = lives;
}
reads_opened_then (suc depth) lives wider reads later = reads_wider wider (reads_bind (reads depth) later)

-- ---- variables

pub reads_number : Reads (reader.one number_of) (rule.one number_of)
reads_number = reads_one number_of (token_of (kind.Integer (pos 0))) (pos 0) refl

reads_held_bounds : Reads (reader.◌>>◌ (reader.symbol s.Open) (reader.◌>>=◌ (reader.case (reader.sees (kind.Symbol
    s.Close)) (reader.pure []) (expressions.list_of (reader.one number_of)))
    (λ numbers. reader.◌>>◌ (reader.symbol s.Close) (reader.pure numbers))))
    (rule.◌>>◌ (words.symbol s.Open) (rule.◌>>=◌ (rule.◌or◌ (rule.pure []) (words.list_of (rule.one number_of)))
    (λ numbers. rule.◌>>◌ (words.symbol s.Close) (rule.pure numbers))))
reads_held_bounds = reads_bind (reads_word (kind.Symbol s.Open))
    (λ _. reads_bind (reads_choice (reader.sees (kind.Symbol s.Close)) (reads_pure []) (reads_list_of reads_number))
    (λ numbers. reads_bind (reads_word (kind.Symbol s.Close)) (λ _. reads_pure numbers)))

-- [ "(" [ number { "," number } ] ")" ]
abbrev pub bounds_behind : ℕ → Rule (Option (List ℤ))
bounds_behind depth = rule.◌or◌ (rule.pure None) (rule.◌>>=◌ (grammar.bounds depth) (λ numbers. rule.pure
    (Some numbers)))

pub reads_bounds_behind : (depth : ℕ) → Reads (spec.bounds_behind depth) (bounds_behind depth)
reads_bounds_behind depth = reads_both (reader.sees (kind.Symbol s.Open))
    (reads_opened_then depth (record { tokens = []; thing = None; spells = inl (refl, refl) }) (λ _ _ h. inr h)
    (λ _. reads_held_bounds) (λ numbers. reads_pure (Some numbers)))
    (reads_wider (λ _ _ h. inl h) (reads_pure None))

pub reads_declared_from : (depth : ℕ) (name : List ℕ) → Reads (spec.declared_from depth name)
    (rule.◌>>=◌ (bounds_behind depth) (λ found. rule.pure (record { name = name; bounds = found })))
reads_declared_from depth name = reads_bind (reads_bounds_behind depth) (λ found. reads_pure _)

pub reads_declared : (depth : ℕ) → Reads (spec.declared depth) (grammar.declared depth)
reads_declared depth = reads_bind reads_name (reads_declared_from depth)

-- ---- constants

pub reads_literal : Reads (reader.one literal_of) (rule.one literal_of)
reads_literal = reads_one literal_of (token_of (kind.Keyword k.Empty)) literal.Empty refl

pub reads_negative : Reads (reader.one negative_of) (rule.one negative_of)
reads_negative = reads_one negative_of (token_of (kind.Integer (pos 0))) (value.NegativeInteger (pos 0)) refl

pub reads_constant_value : Reads spec.constant_value grammar.constant_value
reads_constant_value = reads_choice (reader.sees (kind.Symbol s.Minus))
    (reads_bind (reads_word (kind.Symbol s.Minus)) (λ _. reads_negative))
    (reads_bind reads_literal (λ found. reads_pure (value.Literal found)))

pub reads_constant : Reads spec.constant grammar.constant
reads_constant = reads_bind reads_name (λ name. reads_bind (reads_word (kind.Symbol s.Equal))
    (λ _. reads_bind reads_constant_value (λ found. reads_pure _)))

-- ---- words before a declaration

pub reads_access_word : Reads spec.access_word grammar.access_word
reads_access_word = reads_choice (reader.sees (kind.Keyword k.Public))
    (reads_bind (reads_word (kind.Keyword k.Public)) (λ line. reads_pure (line, access.Public)))
    (reads_bind (reads_word (kind.Keyword k.Private)) (λ line. reads_pure (line, access.Private)))

-- One of the words, then the declaration's own word, and what stands behind it.
access_in : {B : Type 0} {word : Rule ℕ} {next : ℕ × Option Access → Rule B} (quoted : Rule ℕ) (found : Access)
    → Within (rule.◌>>=◌ (rule.◌>>=◌ quoted (λ line. rule.pure (line, found)))
    (λ before. rule.◌>>=◌ word (λ line. next (spec.begun (Some before) line))))
    (rule.◌>>=◌ (rule.◌>>=◌ quoted (λ line. rule.◌>>◌ word (rule.pure (line, Some found)))) next)
access_in quoted found = within_then bind_right (within_then (bind_wider (λ line. within_then pure_out
    (within_then (bind_wider (λ _. pure_in)) bind_left))) bind_left)

pub with_access : {B : Type 0} {word : Rule ℕ} {next : ℕ × Option Access → Rule B}
    → Within (rule.◌>>=◌ grammar.access_word (λ before. rule.◌>>=◌ word (λ line. next (spec.begun (Some before) line))))
    (rule.◌>>=◌ (grammar.with_access word) next)
with_access = within_then or_out (or_within
    (within_then (access_in (words.keyword k.Public) access.Public) (first_wider (λ _ _ h. inl h)))
    (within_then (access_in (words.keyword k.Private) access.Private) (first_wider (λ _ _ h. inr (inl h)))))

pub without_access : {B : Type 0} {word : Rule ℕ} {next : ℕ × Option Access → Rule B}
    → Within (rule.◌>>=◌ word (λ line. next (spec.begun None line))) (rule.◌>>=◌ (grammar.with_access word) next)
without_access = within_then (within_then (bind_wider (λ line. pure_in)) bind_left) (first_wider (λ _ _ h. inr (inr h)))

-- ---- parameters

pub reads_passing : Reads spec.passing grammar.passing
reads_passing = reads_choice (reader.sees (kind.Keyword k.ByVal))
    (reads_bind (reads_word (kind.Keyword k.ByVal)) (λ _. reads_pure true))
    (reads_choice (reader.sees (kind.Keyword k.ByRef))
    (reads_bind (reads_word (kind.Keyword k.ByRef)) (λ _. reads_pure false)) (reads_pure false))

pub reads_array_mark : (depth : ℕ) → Reads (spec.array_mark depth) (grammar.array_mark depth)
reads_array_mark depth = reads_both (reader.sees (kind.Symbol s.Open))
    (reads_opened depth (record { tokens = []; thing = tt; spells = inl (refl, refl) }) (λ _ _ h. inr h)
    (λ _. reads_bind (reads_word (kind.Symbol s.Open)) (λ _. reads_bind (reads_word (kind.Symbol s.Close))
    (λ _. reads_pure tt))))
    (reads_wider (λ _ _ h. inl h) (reads_pure tt))

pub reads_parameter : (depth : ℕ) → Reads (spec.parameter depth) (grammar.parameter depth)
reads_parameter depth = reads_bind reads_passing (λ by_value. reads_bind reads_name
    (λ name. reads_bind (reads_array_mark depth) (λ _. reads_pure _)))

pub reads_parameters : (depth : ℕ) → Reads (spec.parameters depth) (grammar.parameters depth)
reads_parameters depth = reads_both (reader.sees (kind.Symbol s.Open))
    (reads_opened depth (record { tokens = []; thing = []; spells = inl (refl, refl) }) (λ _ _ h. inr h)
    (λ within. reads_bind (reads_word (kind.Symbol s.Open)) (λ _. reads_bind
    (reads_choice (reader.sees (kind.Symbol s.Close)) (reads_pure []) (reads_list_of (reads_parameter within)))
    (λ found. reads_bind (reads_word (kind.Symbol s.Close)) (λ _. reads_pure found)))))
    (reads_wider (λ _ _ h. inl h) (reads_pure []))
