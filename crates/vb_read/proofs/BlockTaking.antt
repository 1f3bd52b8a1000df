-- The readers of blocks take whatever the grammar spells.
use Rattle.std.proofs.Common.{◌≡◌, ℕ, zero, suc, inl, inr, Bool, true, false, List, [], ◌∷◌, ◌++◌, refl}
use Rattle.vb_value.specs.declared.token.Keyword.TheVariants as k
use Rattle.vb_value.specs.declared.token.Symbol.TheVariants as s
use Rattle.vb_value.specs.declared.token.TokenKind.{TokenKind}
use Rattle.vb_value.specs.declared.token.TokenKind.TheVariants as kind
use Rattle.vb_syntax.specs.declared.statement.Statement.{Statement}
use Rattle.vb_syntax.specs.grammar.Rules.{Tokens, Rule}
use Rattle.vb_syntax.specs.grammar.Rules as rule
use Rattle.vb_syntax.specs.grammar.Words.{tag}
use Rattle.vb_syntax.specs.grammar.SimpleStatements.{Looser, simple, const}
use Rattle.vb_syntax.specs.grammar.Statements as grammar
use Rattle.vb_syntax.specs.grammar.Statements.{break_of}
use Rattle.vb_read.specs.ReadLines as lines
use Rattle.vb_read.specs.ReadLines.{breaks}
use Rattle.vb_read.specs.ReadStatements as spec
use Rattle.vb_read.specs.ReadStatements.{begins_statement, kind_begins_statement, sees_const, sees_loop_word}
use Rattle.vb_read.specs.Depths.{opens}
use Rattle.vb_read.proofs.Taking.{Takes}
use Rattle.vb_read.proofs.Binding.{Within}
use Rattle.vb_read.proofs.Tags.{among, outside, all_have}
use Rattle.vb_read.proofs.Following.{Before, BeginsIn, leads_many, begins_then, begins_word_then, begins_either}
use Rattle.vb_read.proofs.Following.{begins_within, begins_more, Asks, asks_kind, asks_either, asks_no, starts}
use Rattle.vb_read.proofs.Choosing.{takes_within, takes_each, takes_before, Chosen, chosen, choose, choose_by}
use Rattle.vb_read.proofs.DeclarationTaking.{asks_access}
use Rattle.vb_read.proofs.SimpleTaking.{simple_heads, const_heads, takes_simple, begins_simple, takes_const}
use Rattle.vb_read.proofs.SimpleTaking.{begins_const}
use Rattle.vb_read.proofs.LineTaking.{takes_line, begins_line}
use Rattle.vb_read.proofs.EndTaking.{break_heads}
use Rattle.vb_read.proofs.IfTaking.{block_ends, sentence_heads, BlocksTaken, if_rule, takes_if, ended}
use Rattle.vb_read.proofs.StatementTaking.{takes_select, for_rule, takes_for, takes_do, takes_while, takes_with}
use Rattle.vb_read.proofs.StatementTaking.{shared}

-- what begins a statement or a constant
statement_tag : (kind : TokenKind) → kind_begins_statement kind ≡ among sentence_heads (tag kind)
statement_tag (kind.Keyword k.And) = refl
statement_tag (kind.Keyword _) = refl
statement_tag (kind.Symbol s.Open) = refl
statement_tag (kind.Symbol _) = refl
statement_tag _ = refl

pub asks_statement : Asks begins_statement sentence_heads
asks_statement = record { none = refl; some = λ token. statement_tag token.kind }

asks_const : Asks sees_const const_heads
asks_const = asks_either asks_access (asks_kind (kind.Keyword k.Const))

abbrev other_heads : List ℕ
other_heads = const_heads ++ (tag (kind.Keyword k.Select) ∷ tag (kind.Keyword k.For) ∷ tag (kind.Keyword k.Do)
    ∷ tag (kind.Keyword k.While) ∷ tag (kind.Keyword k.With) ∷ simple_heads)

-- another first rule before the same one
rebuilt : {A B : Type 0} {r q : Rule A} {f : A → Rule B} (front : Tokens) (x : B) (h : rule.◌>>=◌ r f front x)
    → q h.front h.thing → rule.◌>>=◌ q f front x
rebuilt front x h first = record {
  front = h.front;
  back = h.back;
  thing = h.thing;
  split = h.split;
  first_spells = first;
  next_spells = h.next_spells;
}

module _ (looser : Looser) (depth : ℕ) (ip : lines.Blocks) (ir : grammar.Blocks)
    (inner : BlocksTaken (opens depth) ip ir) where
  -- statements other than If, in the order in which the reader asks for them
  abbrev other : Rule Statement
  other = rule.◌or◌ (const looser depth) (rule.◌or◌ (grammar.select looser depth ir) (rule.◌or◌
      (for_rule looser depth ip ir inner) (rule.◌or◌ (grammar.do_loop looser depth ir) (rule.◌or◌
      (grammar.while looser depth
      ir) (rule.◌or◌ (grammar.with_block looser depth ir) (simple looser depth))))))

  chosen_other : Chosen (spec.other looser depth ip) other_heads other (Before break_heads)
  chosen_other = choose_by asks_const (begins_const looser depth) refl (takes_before refl (takes_const looser depth))
      (choose (kind.Keyword k.Select) (takes_select looser depth ip ir inner)
      (choose_by (asks_kind (kind.Keyword k.For)) (begins_within (shared looser depth ip ir inner) (begins_word_then
      (kind.Keyword k.For))) refl (takes_for looser depth ip ir inner)
      (choose (kind.Keyword k.Do) (takes_do looser depth ip ir inner)
      (choose (kind.Keyword k.While) (takes_while looser depth ip ir inner)
      (choose (kind.Keyword k.With) (takes_with looser depth ip ir inner)
      (chosen (takes_before refl (takes_simple looser depth)) (begins_simple looser depth))
      refl) refl) refl) refl) refl) refl

  abbrev asked : Rule Statement
  asked = rule.◌or◌ (if_rule looser depth ip ir inner) (rule.◌>>=◌ other (λ found. rule.◌>>◌ grammar.«end» (rule.pure
      found)))

  sentence_asked : Within (grammar.sentence looser depth ir) asked
  sentence_asked front x (inr h) = inl (inr h)
  sentence_asked front x (inl h) = go h.first_spells
    where
      go : rule.◌or◌ (const looser depth) (rule.◌or◌ (grammar.compound looser depth ir)
          (simple looser depth)) h.front h.thing
          → asked front x
      go (inl w) = inr (rebuilt front x h (inl w))
      go (inr (inr w)) = inr (rebuilt front x h (inr (inr (inr (inr (inr (inr w)))))))
      go (inr (inl (inl w))) = inl (inl (rebuilt front x h w))
      go (inr (inl (inr (inl w)))) = inr (rebuilt front x h (inr (inl w)))
      go (inr (inl (inr (inr (inl w))))) = inr (rebuilt front x h (inr (inr (inl (inl w)))))
      go (inr (inl (inr (inr (inr (inl w)))))) = inr (rebuilt front x h (inr (inr (inl (inr w)))))
      go (inr (inl (inr (inr (inr (inr (inl w))))))) = inr (rebuilt front x h (inr (inr (inr (inl w)))))
      go (inr (inl (inr (inr (inr (inr (inr (inl w)))))))) = inr (rebuilt front x h (inr (inr (inr (inr (inl w))))))
      go (inr (inl (inr (inr (inr (inr (inr (inr w)))))))) = inr (rebuilt front x h (inr (inr (inr (inr (inr
          (inl w)))))))

  if_begins : BeginsIn (tag (kind.Keyword k.If) ∷ []) (if_rule looser depth ip ir inner)
  if_begins = begins_more refl (begins_either (begins_then (begins_word_then (kind.Keyword k.If))) (begins_then
      (begins_word_then
      (kind.Keyword k.If))))

  chosen_sentence : {v : List ℕ} → all_have (outside break_heads) v ≡ true
      → Chosen (spec.sentence looser depth ip) sentence_heads asked (Before v)
  chosen_sentence none = choose_by (asks_kind (kind.Keyword k.If)) if_begins refl
      (takes_if looser depth ip ir inner none)
      (chosen (ended looser depth ip ir inner chosen_other.takes none) (begins_then chosen_other.begins)) refl

  pub takes_sentence : {v : List ℕ} → all_have (outside break_heads) v ≡ true
      → Takes (spec.sentence looser depth ip) (grammar.sentence looser depth ir) (Before v)
  takes_sentence none = takes_within sentence_asked (chosen_sentence none).takes

  pub begins_sentence : BeginsIn sentence_heads (grammar.sentence looser depth ir)
  begins_sentence = begins_more refl (begins_within sentence_asked (chosen_sentence {v = []} refl).begins)

  pub takes_block : Takes (spec.block looser depth ip) (grammar.block looser depth ir) (Before block_ends)
  takes_block = takes_each begins_statement begins_sentence (starts asks_statement begins_sentence refl)
      (asks_no asks_statement refl) (takes_sentence refl)

  here : BlocksTaken true (spec.blocks_here looser depth ip) (grammar.blocks_here looser depth ir)
  here = record {
    block = takes_block;
    leads = leads_many begins_sentence;
    closed = record { none = λ shut front x h. absurd cc };
    line = takes_line looser depth ip ir inner.line;
    line_begins = begins_line looser depth ip ir inner.line;
  }

-- ---- every depth

nothing_taken : (o : Bool) → BlocksTaken o spec.no_blocks grammar.no_blocks
nothing_taken o = record {
  block = record { takes = λ front rest x h ok. absurd h };
  leads = record { leads = λ front rest x h ok. absurd h };
  closed = record { none = λ shut front x h. h };
  line = record { takes = λ front colon rest x taken h trails ok. absurd h };
  line_begins = record { head = λ front x h. absurd h };
}

-- where this many more constructs may open
pub blocks_taken : (looser : Looser) (depth : ℕ) → BlocksTaken true (spec.blocks looser depth)
    (grammar.blocks looser depth)
blocks_taken looser zero = here looser zero spec.no_blocks grammar.no_blocks (nothing_taken false)
blocks_taken looser (suc depth) = here looser (suc depth) (spec.blocks looser depth) (grammar.blocks looser depth)
    (blocks_taken looser depth)

-- inside a construct that opens here
pub inside_taken : (looser : Looser) (depth : ℕ) → BlocksTaken (opens depth) (spec.blocks_inside looser depth)
    (grammar.blocks_inside looser depth)
inside_taken looser zero = nothing_taken false
inside_taken looser (suc depth) = blocks_taken looser depth
