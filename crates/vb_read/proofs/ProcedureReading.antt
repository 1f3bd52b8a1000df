-- The readers of procedures and properties read the grammar's.
use Rattle.std.proofs.Common.{◌≡◌, ℕ, zero, suc, inl, inr, Bool, true, false, cond, List, Option, Some, None, refl}
use Rattle.std.proofs.Common.{codes}
use Rattle.vb_value.specs.declared.token.Keyword.TheVariants as k
use Rattle.vb_value.specs.declared.token.TokenKind.TheVariants as kind
use Rattle.vb_syntax.specs.declared.declaration.Access.{Access}
use Rattle.vb_syntax.specs.declared.unit.Procedure.{Procedure}
use Rattle.vb_syntax.specs.declared.unit.ProcedureKind.{ProcedureKind}
use Rattle.vb_syntax.specs.declared.unit.ProcedureKind.TheVariants as procedure_kind
use Rattle.vb_syntax.specs.declared.unit.Property.{Property}
use Rattle.vb_syntax.specs.declared.unit.PropertyKind.TheVariants as property_kind
use Rattle.vb_syntax.specs.grammar.Rules.{Tokens, Rule}
use Rattle.vb_syntax.specs.grammar.Rules as rule
use Rattle.vb_syntax.specs.grammar.Words as words
use Rattle.vb_syntax.specs.grammar.Words.{name_of}
use Rattle.vb_syntax.specs.grammar.Declarations as declarations
use Rattle.vb_syntax.specs.grammar.SimpleStatements as simple
use Rattle.vb_syntax.specs.grammar.SimpleStatements.{Looser, quoted_at}
use Rattle.vb_syntax.specs.grammar.Statements as statements
use Rattle.vb_syntax.specs.grammar.Units as grammar
use Rattle.vb_read.specs.Reader.{Reader, Look, next, and_then}
use Rattle.vb_read.specs.Reader as reader
use Rattle.vb_read.specs.ReadDeclarations.{begun}
use Rattle.vb_read.specs.Depths.{opens}
use Rattle.vb_read.specs.ReadUnits as spec
use Rattle.vb_read.specs.ReadUnits.{procedure_word}
use Rattle.vb_read.proofs.Reading.{Reads, Lives, NoEmpty, reads_pure, reads_same, reads_bind, reads_one, reads_choice}
use Rattle.vb_read.proofs.Reading.{reads_both, reads_word, reads_name, full_bind, full_word, token_of}
use Rattle.vb_read.proofs.Binding.{Within, within_then, bind_wider, first_wider, bind_or, or_wider}
use Rattle.vb_read.proofs.DeclarationReading.{reads_opened_then, with_access, without_access, reads_parameters}
use Rattle.vb_read.proofs.SimpleReading.{full_or, reads_property_word}
use Rattle.vb_read.proofs.LineReading.{reads_end}
use Rattle.vb_read.proofs.StatementReading.{blocks_read}

-- ---- rules that open

pub full_opened : {A : Type 0} (depth : ℕ) {r : ℕ → Rule A} → ((within : ℕ) → NoEmpty (r within))
    → NoEmpty (declarations.opened depth r)
full_opened zero full front x h = absurd h
full_opened (suc depth) full front x h = full depth front x h

pub full_with_access : (word : Rule ℕ) → NoEmpty word → NoEmpty (declarations.with_access word)
full_with_access word full = full_or _ _ (full_bind _ _ (full_word (kind.Keyword k.Public)))
    (full_or _ _ (full_bind _ _ (full_word (kind.Keyword k.Private))) (full_bind _ _ full))

-- a word before what opens
pub opened_behind : {A : Type 0} (word : Rule ℕ) (next : ℕ → ℕ × Option Access → Rule A) (depth : ℕ)
    → Within (rule.◌>>=◌ declarations.access_word (λ before. declarations.opened depth (λ within.
    rule.◌>>=◌ word (λ line. next within (begun (Some before) line)))))
    (declarations.opened depth (λ within. rule.◌>>=◌ (declarations.with_access word) (next within)))
opened_behind word next zero = λ front x h. absurd h.next_spells
opened_behind word next (suc depth) = with_access {next = next depth}

-- no word before what opens
pub opened_alone : {A : Type 0} (word : Rule ℕ) (next : ℕ → ℕ × Option Access → Rule A) (depth : ℕ)
    → Within (declarations.opened depth (λ within. rule.◌>>=◌ word (λ line. next within (begun None line))))
    (declarations.opened depth (λ within. rule.◌>>=◌ (declarations.with_access word) (next within)))
opened_alone word next zero = λ front x h. absurd h
opened_alone word next (suc depth) = without_access {next = next depth}

-- a choice with something behind it
pub reads_case_then : {A B : Type 0} (look : Look) (p q : Reader A) (f : A → Reader B) {whole : Rule B}
    → Reads (reader.◌>>=◌ p f) whole → Reads (reader.◌>>=◌ q f) whole
    → Reads (reader.◌>>=◌ (reader.case look p q) f) whole
reads_case_then {A} {B} look p q f {whole} on off = record {
  meets = λ tokens. reads_same _ (reader.case look (reader.◌>>=◌ p f) (reader.◌>>=◌ q f)) whole tokens
      (λ ts. same (look (next ts)) ts) ((reads_both look on off).meets tokens);
  lives = on.lives;
}
  where
    same : (b : Bool) (ts : Tokens) → and_then (cond b (p ts) (q ts)) f ≡ cond b (and_then (p ts) f) (and_then (q ts) f)
    same true ts = refl
    same false ts = refl

-- the quoted word, as a name
pub word_of_name : {B : Type 0} {r : Rule B} (text : List ℕ)
    → Within (rule.◌>>=◌ (rule.one (spec.quoted_name text)) (λ _. r)) (rule.◌>>=◌ (simple.quoted text) (λ _. r))
word_of_name {B} {r} text front x h = go (quoted_at text h.first_spells.token) refl h.first_spells.passes
  where
    go : (o : Option ℕ) → quoted_at text h.first_spells.token ≡ o
        → spec.name_where o (name_of h.first_spells.token) ≡ Some h.thing
        → rule.◌>>=◌ (simple.quoted text) (λ _. r) front x
    go None is e = absurd cc
    go (Some line) is e = record {
      front = h.front;
      back = h.back;
      thing = line;
      split = h.split;
      first_spells = record { token = h.first_spells.token; alone = h.first_spells.alone; passes = is };
      next_spells = h.next_spells;
    }

pub plain_name : (text : List ℕ) → Within (rule.one (spec.quoted_name text)) (rule.one name_of)
plain_name text front x h = record { token = h.token; alone = h.alone; passes = go (quoted_at text h.token) h.passes }
  where
    go : (o : Option ℕ) → spec.name_where o (name_of h.token) ≡ Some x → name_of h.token ≡ Some x
    go None e = absurd cc
    go (Some line) e = e

pub reads_quoted_name : Reads (reader.one (spec.quoted_name (codes "property"))) (rule.one (spec.quoted_name (codes
    "property")))
reads_quoted_name = reads_one (spec.quoted_name (codes "property")) (token_of (kind.Name (codes "property") false))
    (codes
    "property") refl

-- ---- procedures

module _ (looser : Looser) where
  pub reads_block : (depth : ℕ) → Reads (spec.block looser depth) (grammar.block looser depth)
  reads_block depth = (blocks_read looser depth).block refl

  -- a procedure behind its first word
  abbrev pub procedure_rest : ProcedureKind → ℕ → ℕ × Option Access → Rule Procedure
  procedure_rest which within first = rule.◌>>=◌ (rule.one name_of) (λ name. rule.◌>>=◌ (declarations.parameters within)
      (λ given. rule.◌>>◌ statements.«end» (rule.◌>>=◌ (grammar.block looser within) (λ body. rule.◌>>◌
      (words.keyword k.End) (rule.◌>>◌ (words.keyword (procedure_word which)) (rule.pure (record {
        line = first.0;
        access = first.1;
        kind = which;
        name = name;
        parameters = given;
        body = body;
      })))))))

  -- a procedure behind the word before it
  abbrev pub procedure_open : ProcedureKind → ℕ → Option (ℕ × Access) → Rule Procedure
  procedure_open which depth before = declarations.opened depth (λ within. rule.◌>>=◌ (words.keyword (procedure_word
      which)) (λ line. procedure_rest which within (begun before line)))

  pub reads_procedure_of : {B : Type 0} (which : ProcedureKind) (depth : ℕ) (before : Option (ℕ × Access))
      (made : Procedure
      → B) (whole : Rule B) → Lives whole
      → Within (rule.◌>>=◌ (procedure_open which depth before) (λ found. rule.pure (made found))) whole
      → Reads (reader.◌>>=◌ (spec.procedure_of looser which depth before) (λ found. reader.pure (made found))) whole
  reads_procedure_of which depth before made whole lives wider = reads_opened_then depth lives wider
      (λ within. reads_bind (reads_word (kind.Keyword (procedure_word which))) (λ line. reads_bind reads_name
      (λ name. reads_bind (reads_parameters within) (λ given. reads_bind reads_end (λ _. reads_bind (reads_block within)
      (λ body. reads_bind (reads_word (kind.Keyword k.End)) (λ _. reads_bind (reads_word (kind.Keyword
      (procedure_word which))) (λ _. reads_pure _))))))))
      (λ found. reads_pure (made found))

  -- a procedure of either kind behind the word before it
  abbrev pub either_open : ℕ → Option (ℕ × Access) → Rule Procedure
  either_open depth before = rule.◌or◌ (procedure_open procedure_kind.Sub depth before)
      (procedure_open procedure_kind.Function depth before)

  pub reads_procedure : {B : Type 0} (depth : ℕ) (before : Option (ℕ × Access)) (made : Procedure → B) (whole : Rule B)
      → Lives whole → Within (rule.◌>>=◌ (either_open depth before) (λ found. rule.pure (made found))) whole
      → Reads (reader.◌>>=◌ (spec.procedure looser depth before) (λ found. reader.pure (made found))) whole
  reads_procedure {B} depth before made whole lives wider = reads_case_then (reader.sees (kind.Keyword k.Sub)) _ _ _
      (reads_procedure_of procedure_kind.Sub depth before made whole lives (within_then (first_wider (λ _ _ h. inl h))
      wider))
      (reads_procedure_of procedure_kind.Function depth before made whole lives (within_then (first_wider
      (λ _ _ h. inr h)) wider))

  pub procedure_behind : (depth : ℕ) → Within (rule.◌>>=◌ declarations.access_word (λ before. either_open depth
      (Some before)))
      (grammar.procedure looser depth)
  procedure_behind depth = within_then bind_or (or_wider
      (opened_behind (words.keyword k.Sub) (procedure_rest procedure_kind.Sub) depth)
      (opened_behind (words.keyword k.Function) (procedure_rest procedure_kind.Function) depth))

  pub procedure_alone : (depth : ℕ) → Within (either_open depth None) (grammar.procedure looser depth)
  procedure_alone depth = or_wider
      (opened_alone (words.keyword k.Sub) (procedure_rest procedure_kind.Sub) depth)
      (opened_alone (words.keyword k.Function) (procedure_rest procedure_kind.Function) depth)

  pub full_procedure : (depth : ℕ) → NoEmpty (grammar.procedure looser depth)
  full_procedure depth = full_or _ _
      (full_opened depth (λ within. full_bind _ _ (full_with_access (words.keyword k.Sub) (full_word
      (kind.Keyword k.Sub)))))
      (full_opened depth (λ within. full_bind _ _ (full_with_access (words.keyword k.Function) (full_word (kind.Keyword
      k.Function)))))

  -- ---- properties

  -- a property behind its first word
  abbrev pub property_rest : ℕ → ℕ × Option Access → Rule Property
  property_rest within first = rule.◌>>=◌ (grammar.kind_of_property looser) (λ which. rule.◌>>=◌ (rule.one name_of)
      (λ name. rule.◌>>=◌ (declarations.parameters within) (λ given. rule.◌>>◌ statements.«end» (rule.◌>>=◌
      (grammar.block looser within) (λ body. rule.◌>>◌ (words.keyword k.End) (rule.◌>>◌ (simple.quoted
      (codes "property"))
      (rule.pure (record {
        line = first.0;
        access = first.1;
        kind = which;
        name = name;
        parameters = given;
        body = body;
      }))))))))

  abbrev pub property_open : ℕ → ℕ × Option Access → Rule Property
  property_open depth first = declarations.opened depth (λ within. property_rest within first)

  pub reads_kind_of_property : Reads spec.kind_of_property (grammar.kind_of_property looser)
  reads_kind_of_property = reads_choice (reader.sees (kind.Keyword k.Get)) (reads_bind (reads_word (kind.Keyword k.Get))
      (λ _. reads_pure property_kind.Get))
      (reads_choice (reader.sees (kind.Keyword k.Let)) (reads_bind (reads_word (kind.Keyword k.Let))
      (λ _. reads_pure property_kind.Let))
      (reads_bind (reads_word (kind.Keyword k.Set)) (λ _. reads_pure property_kind.Set)))

  pub reads_property_open : (within : ℕ) (first : ℕ × Option Access)
      → Reads (spec.property_from looser (suc within) first) (property_rest within first)
  reads_property_open within first = reads_bind reads_kind_of_property (λ which. reads_bind reads_name
      (λ name. reads_bind
      (reads_parameters within) (λ given. reads_bind reads_end (λ _. reads_bind (reads_block within) (λ body. reads_bind
      (reads_word (kind.Keyword k.End)) (λ _. reads_bind reads_property_word (λ _. reads_pure _)))))))

  pub reads_property_from : {B : Type 0} (depth : ℕ) (first : ℕ × Option Access) (made : Property → B) (whole : Rule B)
      → Lives whole → Within (rule.◌>>=◌ (property_open depth first) (λ found. rule.pure (made found))) whole
      → Reads (reader.◌>>=◌ (spec.property_from looser depth first) (λ found. reader.pure (made found))) whole
  reads_property_from depth first made whole lives wider = reads_opened_then depth lives wider
      (λ within. reads_property_open within first) (λ found. reads_pure (made found))

  pub property_behind : (depth : ℕ) → Within (rule.◌>>=◌ declarations.access_word (λ before. rule.◌>>=◌ (rule.one
      (spec.quoted_name (codes "property"))) (λ _. property_open depth (before.0, Some before.1))))
      (grammar.property looser depth)
  property_behind zero = λ front x h. absurd h.next_spells.next_spells
  property_behind (suc within) = within_then (bind_wider (λ before. word_of_name {r = property_rest within
      (before.0, Some before.1)}
      (codes "property")))
      (with_access {next = property_rest within})

  pub property_alone : (depth : ℕ) → Within (rule.where_true (opens depth) (rule.◌>>=◌ (simple.quoted
      (codes "property"))
      (λ line. property_open depth (line, None)))) (grammar.property looser depth)
  property_alone zero = λ front x h. absurd h.1.next_spells
  property_alone (suc within) = λ front x h. without_access {next = property_rest within} front x h.1
