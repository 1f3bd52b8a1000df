-- The readers of statements that hold no other take whatever the grammar spells.
use Rattle.std.proofs.Common.{◌≡◌, ℕ, inl, inr, true, false, List, [], ◌∷◌, ◌++◌, Option, Some, None, refl, ap, codes}
use Rattle.vb_value.specs.declared.token.Keyword.TheVariants as k
use Rattle.vb_value.specs.declared.token.Symbol.TheVariants as s
use Rattle.vb_value.specs.declared.token.TokenKind.{TokenKind}
use Rattle.vb_value.specs.declared.token.TokenKind.TheVariants as kind
use Rattle.vb_syntax.specs.declared.declaration.Access.{Access}
use Rattle.vb_syntax.specs.declared.statement.Statement.{Statement}
use Rattle.vb_syntax.specs.declared.statement.StatementKind.TheVariants as st
use Rattle.vb_syntax.specs.grammar.Rules.{Tokens, Rule}
use Rattle.vb_syntax.specs.grammar.Rules as rule
use Rattle.vb_syntax.specs.grammar.Words as words
use Rattle.vb_syntax.specs.grammar.Words.{tag, name_of}
use Rattle.vb_syntax.specs.grammar.Declarations.{opened, constant}
use Rattle.vb_syntax.specs.grammar.Expressions.{expressions}
use Rattle.vb_syntax.specs.grammar.SimpleStatements as grammar
use Rattle.vb_syntax.specs.grammar.SimpleStatements.{Looser, quoted_at, line_of_quoted, text_at, text_of_kind}
use Rattle.vb_read.specs.Reader.{Reader, sees, next, passes, one_by}
use Rattle.vb_read.specs.Reader as reader
use Rattle.vb_read.specs.ReadDeclarations.{sees_access, begun}
use Rattle.vb_read.specs.ReadCalls as calls
use Rattle.vb_read.specs.ReadSimpleStatements as spec
use Rattle.vb_read.specs.ReadSimpleStatements.{zero_of, zero_by}
use Rattle.vb_read.specs.Depths.{opens}
use Rattle.vb_read.proofs.Taking.{Follow, Takes, takes_pure, takes_one, takes_narrow}
use Rattle.vb_read.proofs.Binding.{bind_left}
use Rattle.vb_read.proofs.PathReading.{takes_path_at}
use Rattle.vb_read.proofs.Tags.{among, outside, all_have}
use Rattle.vb_read.proofs.Following.{Before, BeginsIn, leads_begins, leads_pure, begins_then, begins_word_then}
use Rattle.vb_read.proofs.Following.{begins_either, begins_within, name_head, name_begins, asks_kind}
use Rattle.vb_read.proofs.Following.{skips, starts, closed_first, closed_next, Only, begins_only}
use Rattle.vb_read.proofs.BlankTexts.{text_head}
use Rattle.vb_read.proofs.Choosing.{takes_on, takes_off, takes_on_word, takes_off_word, takes_or, takes_within}
use Rattle.vb_read.proofs.Choosing.{takes_word, takes_then, takes_map, takes_list, Chosen, chosen, choose, choose_by}
use Rattle.vb_read.proofs.Choosing.{takes_gated}
use Rattle.vb_read.proofs.Placing.{closed_opened, takes_expression, takes_opened, tag_ends, path_heads}
use Rattle.vb_read.proofs.DeclarationTaking.{closing, access_heads, takes_access_word, begins_access, asks_access}
use Rattle.vb_read.proofs.DeclarationTaking.{access_apart, takes_declared, takes_constant}
use Rattle.vb_read.proofs.CallTaking.{statement_ends, step_heads, path_before, takes_path_statement}
use Rattle.vb_read.proofs.CallTaking.{begins_path_statement}

-- ---- with what a rule begins

-- a quoted word is a name
pub quoted_only : (text : List ℕ) → Only (quoted_at text) name_head
quoted_only text = record { only = λ token x e. go token.kind token.line x e }
  where
    go : (kind : TokenKind) (line x : ℕ) → line_of_quoted text kind line ≡ Some x → among name_head (tag kind) ≡ true
    go (kind.Name name bracketed) line x e = refl
    go (kind.Keyword keyword) line x e = absurd cc
    go (kind.Symbol symbol) line x e = absurd cc
    go _ line x e = absurd cc

pub quoted_begins : (text : List ℕ) → BeginsIn name_head (grammar.quoted text)
quoted_begins text = begins_only (quoted_only text)

text_only : Only grammar.text_at text_head
text_only = record { only = λ token x e. go token.kind token.line x e }
  where
    go : (kind : TokenKind) (line : ℕ) (x : ℕ × List ℕ) → text_of_kind kind line ≡ Some x
        → among text_head (tag kind) ≡ true
    go (kind.PageText text) line x e = refl
    go (kind.Keyword keyword) line x e = absurd cc
    go (kind.Symbol symbol) line x e = absurd cc
    go _ line x e = absurd cc

text_begins : BeginsIn text_head grammar.page_text
text_begins = begins_only text_only

-- ---- constants

abbrev pub const_word : List ℕ
const_word = tag (kind.Keyword k.Const) ∷ []

-- what stands behind the word before a constant
abbrev pub const_rule : ℕ × Option Access → Rule Statement
const_rule first = rule.◌>>=◌ (words.list_of constant)
    (λ constants. rule.pure (grammar.statement first.0 (st.Const first.1 constants)))

pub takes_const_from : (before : Option (ℕ × Access)) → Takes (spec.const_from before)
    (rule.◌>>=◌ (words.keyword k.Const) (λ line. const_rule (begun before line))) (Before statement_ends)
takes_const_from before = takes_word (λ line. takes_map _ (takes_list takes_constant refl))

abbrev pub const_heads : List ℕ
const_heads = access_heads ++ const_word

module _ (looser : Looser) (depth : ℕ) where
  pub takes_const : Takes spec.const (grammar.const looser depth) (Before statement_ends)
  takes_const = takes_within access_apart (takes_or
      (takes_on sees_access _ (starts asks_access (begins_then begins_access) refl)
      (takes_then {l = const_word} takes_access_word (λ before. takes_const_from (Some before))
      (λ before. leads_begins (begins_word_then (kind.Keyword k.Const)))))
      (takes_off sees_access _ (skips asks_access (leads_begins (begins_word_then (kind.Keyword k.Const))) refl)
      (takes_const_from None)))

  pub begins_const : BeginsIn const_heads (grammar.const looser depth)
  begins_const = begins_within access_apart (begins_either (begins_then begins_access)
      (begins_word_then (kind.Keyword k.Const)))

-- ---- statements

-- the numbers of the tokens that begin such a statement
abbrev pub simple_heads : List ℕ
simple_heads = tag (kind.Keyword k.Dim) ∷ tag (kind.Keyword k.ReDim) ∷ tag (kind.Keyword k.Set)
    ∷ tag (kind.Keyword k.Call) ∷ tag (kind.Keyword k.Exit) ∷ tag (kind.Keyword k.On) ∷ tag (kind.Keyword k.Erase)
    ∷ tag (kind.PageText []) ∷ tag kind.PageWrite ∷ path_heads

takes_zero : {v : Follow} → Takes (reader.one zero_of) grammar.zero_number v
takes_zero = record {
  takes = λ front rest x h ok. rw h.alone (ap (λ o. one_by (zero_by o) h.token rest) h.passes);
}

module _ (looser : Looser) (depth : ℕ) where
  takes_dim : Takes (spec.dim depth) (grammar.dim looser depth) (Before statement_ends)
  takes_dim = takes_word (λ line. takes_map _ (takes_list (takes_declared depth refl) refl))

  takes_resized_bounds : {v : Follow} → Takes (spec.resized_bounds depth) (opened depth (λ within. rule.◌>>◌
      (words.symbol
      s.Open) (rule.◌>>=◌ (words.list_of (expressions within).expression) (λ found. rule.◌>>◌ (words.symbol s.Close)
      (rule.pure found))))) v
  takes_resized_bounds = takes_opened depth (λ within. takes_word (λ _. takes_then {l = closing}
      (takes_list (takes_expression within refl) refl) (λ found. takes_word (λ _. takes_pure found _))
      (λ found. leads_begins (begins_word_then (kind.Symbol s.Close)))))

  takes_resized : {v : Follow} → Takes (spec.resized depth) (grammar.resized looser depth) v
  takes_resized = takes_word (λ name. takes_map _ takes_resized_bounds)

  takes_preserve : Takes (spec.preserve depth) (rule.◌or◌ (rule.◌>>◌ (words.keyword k.Preserve) (rule.pure true))
      (rule.pure false)) (Before name_head)
  takes_preserve = takes_or (takes_on_word (kind.Keyword k.Preserve) _ (takes_word (λ _. takes_pure true _)))
      (takes_off_word (kind.Keyword k.Preserve) _ leads_pure refl (takes_pure false _))

  takes_redim : Takes (spec.redim depth) (grammar.redim looser depth) (Before statement_ends)
  takes_redim = takes_gated (opens depth) (closed_next (λ line. closed_next (λ kept. closed_first (closed_first
      (closed_next
      (λ name. closed_first (closed_opened depth _))))))) (takes_word (λ line. takes_then takes_preserve
      (λ kept. takes_map _ (takes_list takes_resized refl))
      (λ kept. leads_begins (begins_then (begins_then (begins_then name_begins))))))

  takes_path : (v : List ℕ) → all_have (outside step_heads) v ≡ true
      → Takes (calls.path_at depth) (grammar.path_at looser depth) (Before v)
  takes_path v none = takes_narrow (path_before v none) (takes_path_at looser depth)

  takes_value : {v : List ℕ} → all_have tag_ends v ≡ true
      → Takes (calls.value_behind depth) (rule.◌>>◌ (words.symbol s.Equal) (grammar.expression looser depth)) (Before v)
  takes_value ends = takes_word (λ _. takes_expression depth ends)

  takes_set : Takes (spec.set depth) (grammar.set looser depth) (Before statement_ends)
  takes_set = takes_word (λ line. takes_then (takes_path (tag (kind.Symbol s.Equal) ∷ []) refl)
      (λ target. takes_within bind_left (takes_map _ (takes_value refl)))
      (λ target. leads_begins (begins_word_then (kind.Symbol s.Equal))))

  takes_call_path : Takes (spec.call_path depth) (grammar.call_path looser depth) (Before statement_ends)
  takes_call_path = takes_word (λ line. takes_map _ (takes_path statement_ends refl))

  takes_exit_kind : {v : Follow} → Takes spec.exit_kind (grammar.exit_kind looser depth) v
  takes_exit_kind = (choose (kind.Keyword k.Do) (takes_word (λ _. takes_pure _ _))
      (choose (kind.Keyword k.For) (takes_word (λ _. takes_pure _ _))
      (choose (kind.Keyword k.Sub) (takes_word (λ _. takes_pure _ _))
      (choose (kind.Keyword k.Function) (takes_word (λ _. takes_pure _ _))
      (chosen (takes_word (λ _. takes_pure _ _)) (begins_then (quoted_begins (codes "property")))) refl) refl) refl)
      refl).takes

  takes_exit : {v : Follow} → Takes spec.exit_statement (grammar.exit_statement looser depth) v
  takes_exit = takes_word (λ line. takes_map _ takes_exit_kind)

  takes_on_error : {v : Follow} → Takes spec.on_error (grammar.on_error looser depth) v
  takes_on_error = takes_word (λ line. takes_word (λ _. takes_or
      (takes_on_word (kind.Keyword k.Resume) _ (takes_word (λ _. takes_word (λ _. takes_pure _ _))))
      (takes_off_word (kind.Keyword k.Resume) _ (leads_begins (begins_word_then (kind.Keyword k.GoTo))) refl
      (takes_word (λ _. takes_map _ takes_zero)))))

  takes_erase : Takes spec.erase (grammar.erase looser depth) (Before statement_ends)
  takes_erase = takes_word (λ line. takes_map _ (takes_list (takes_one name_of _) refl))

  -- ---- a statement that holds no other

  abbrev path_statement : Rule Statement
  path_statement = rule.◌or◌ (grammar.assignment looser depth) (grammar.Call looser depth)

  abbrev page_text : Rule Statement
  page_text = rule.◌>>=◌ grammar.page_text (λ found. rule.pure (grammar.statement found.0 (st.PageText found.1)))

  abbrev page_write : Rule Statement
  page_write = rule.◌>>=◌ (words.word kind.PageWrite) (λ line. rule.◌>>=◌ (grammar.expression looser depth)
      (λ value. rule.pure (grammar.statement line (st.PageWrite value))))

  -- the statements in the order in which the reader asks for them
  abbrev asked : Rule Statement
  asked = rule.◌or◌ (grammar.dim looser depth) (rule.◌or◌ (grammar.redim looser depth) (rule.◌or◌ (grammar.set looser
      depth) (rule.◌or◌ (grammar.call_path looser depth) (rule.◌or◌ (grammar.exit_statement looser depth) (rule.◌or◌
      (grammar.on_error looser depth) (rule.◌or◌ (grammar.erase looser depth) (rule.◌or◌ page_text
      (rule.◌or◌ page_write path_statement))))))))

  simple_asked : (front : Tokens) (x : Statement) → grammar.simple looser depth front x → asked front x
  simple_asked front x (inl h) = inl h
  simple_asked front x (inr (inl h)) = inr (inl h)
  simple_asked front x (inr (inr (inl h))) = inr (inr (inl h))
  simple_asked front x (inr (inr (inr (inl h)))) = inr (inr (inr (inr (inr (inr (inr (inr (inr (inl h)))))))))
  simple_asked front x (inr (inr (inr (inr (inl h))))) = inr (inr (inr (inr (inr (inr (inr (inr (inr (inr h)))))))))
  simple_asked front x (inr (inr (inr (inr (inr (inl h)))))) = inr (inr (inr (inl h)))
  simple_asked front x (inr (inr (inr (inr (inr (inr (inl h))))))) = inr (inr (inr (inr (inl h))))
  simple_asked front x (inr (inr (inr (inr (inr (inr (inr (inl h)))))))) = inr (inr (inr (inr (inr (inl h)))))
  simple_asked front x (inr (inr (inr (inr (inr (inr (inr (inr (inl h))))))))) = inr (inr (inr (inr (inr (inr
      (inl h))))))
  simple_asked front x (inr (inr (inr (inr (inr (inr (inr (inr (inr (inl h)))))))))) = inr (inr (inr (inr (inr (inr (inr
      (inl h)))))))
  simple_asked front x (inr (inr (inr (inr (inr (inr (inr (inr (inr (inr h)))))))))) = inr (inr (inr (inr (inr (inr (inr
      (inr (inl h))))))))

  chosen_simple : Chosen (spec.simple looser depth) simple_heads asked (Before statement_ends)
  chosen_simple = choose (kind.Keyword k.Dim) takes_dim
      (choose (kind.Keyword k.ReDim) takes_redim
      (choose (kind.Keyword k.Set) takes_set
      (choose (kind.Keyword k.Call) takes_call_path
      (choose (kind.Keyword k.Exit) takes_exit
      (choose (kind.Keyword k.On) takes_on_error
      (choose (kind.Keyword k.Erase) takes_erase
      (choose_by (asks_kind (kind.PageText [])) (begins_then text_begins) refl
      (takes_word (λ found. takes_pure _ _))
      (choose kind.PageWrite (takes_word (λ line. takes_map _ (takes_expression depth refl)))
      (chosen (takes_path_statement looser depth) (begins_path_statement looser depth))
      refl) refl) refl) refl) refl) refl) refl) refl) refl

  pub takes_simple : Takes (spec.simple looser depth) (grammar.simple looser depth) (Before statement_ends)
  takes_simple = takes_within simple_asked chosen_simple.takes

  pub begins_simple : BeginsIn simple_heads (grammar.simple looser depth)
  begins_simple = begins_within simple_asked chosen_simple.begins
