-- What is printed of procedures, classes and units is spelled so.
use Rattle.std.proofs.Common.{◌≡◌, ℕ, Bool, true, false, List, [], ◌∷◌, ◌++◌, map, inl, inr, refl}
use Rattle.std.proofs.Common.{append_assoc, codes}
use Rattle.vb_value.specs.declared.token.Keyword.TheVariants as k
use Rattle.vb_value.specs.declared.token.Symbol.TheVariants as s
use Rattle.vb_value.specs.declared.token.TokenKind.TheVariants as kind
use Rattle.vb_syntax.specs.declared.declaration.Parameter.{Parameter}
use Rattle.vb_syntax.specs.declared.unit.Unit.{Unit as Script}
use Rattle.vb_syntax.specs.grammar.Rules.{Tokens, Rule, pure, ◌>>=◌, ◌>>◌, ◌or◌}
use Rattle.vb_syntax.specs.grammar.Words as words
use Rattle.vb_syntax.specs.grammar.Declarations as declarations
use Rattle.vb_syntax.specs.grammar.Declarations.{opened}
use Rattle.vb_syntax.specs.grammar.SimpleStatements.{quoted}
use Rattle.vb_syntax.specs.grammar.Statements.{blocks_inside}
use Rattle.vb_syntax.specs.grammar.Units as units
use Rattle.vb_syntax.specs.grammar.Units.{strict, Derives}
use Rattle.vb_print.specs.Words.{printed, keyword, symbol, name, listed}
use Rattle.vb_print.specs.Words as words_of
use Rattle.vb_print.specs.Statements.{declared_words, line_end}
use Rattle.vb_print.specs.Units.{passing_words, parameter_words, parameters_words, procedure_words}
use Rattle.vb_print.specs.Units.{property_word}
use Rattle.vb_print.specs.Units.{property_words, field_word, member_words, class_words, access_word}
use Rattle.vb_print.specs.Units.{item_words}
use Rattle.vb_print.specs.Units.{option_words, print_of}
use Rattle.print_laws.proofs.Again.{Again, again, self, again_pure, again_bind, again_last, again_or}
use Rattle.print_laws.proofs.Again.{again_opened, again_many, again_word, behind, word_shown, again_keyword}
use Rattle.print_laws.proofs.Again.{again_symbol}
use Rattle.print_laws.proofs.Again.{quoted_shown, again_listed, again_some}
use Rattle.print_laws.proofs.SimplePrinting.{again_name, again_access, again_declared}
use Rattle.print_laws.proofs.BlockPrinting.{no_texts, end_shown, again_sentence, blocks_again, blocks_inside_again}

-- ---- procedures

passing_shown : (line : ℕ) (by_value : Bool) → declarations.passing (passing_words line by_value) by_value
passing_shown line true = inl (record {
  front = keyword line k.ByVal ∷ [];
  back = [];
  thing = line;
  split = refl;
  first_spells = word_shown (kind.Keyword k.ByVal) line;
  next_spells = (refl, refl);
})
passing_shown line false = inr (inr (refl, refl))

again_parameter : (line depth : ℕ) → Again (declarations.parameter depth) (parameter_words line)
again_parameter line depth = again (again_bind again_passing (λ by_value. again_bind (again_name line) (λ name.
    behind [] tt (inl (refl, refl)) (again_pure refl))))
  where
    again_passing : Again declarations.passing (passing_words line)
    again_passing = record { spelled = λ tokens by_value h. passing_shown line by_value }

again_parameters : (line depth : ℕ) → Again (declarations.parameters depth) (parameters_words line)
again_parameters line depth = record { spelled = go }
  where
    group : Rule (List Parameter)
    group = opened depth (λ within. do
      words.symbol s.Open
      found ← pure [] or words.list_of (declarations.parameter within)
      words.symbol s.Close
      pure found)

    again_group : Again group (λ found. symbol line s.Open ∷ listed line (map (parameter_words line) found)
        ++ symbol line s.Close ∷ [])
    again_group = again (again_opened depth (λ within. again_symbol s.Open line
        (again_bind (again_some line (parameter_words line) (again_parameter line within))
        (λ found. again_symbol s.Close line (again_pure refl)))))

    go : (tokens : Tokens) (found : List Parameter) → declarations.parameters depth tokens found
        → declarations.parameters depth (parameters_words line found) found
    go tokens [] h = inl (refl, refl)
    go tokens (first ∷ more) (inl h) = let clash : first ∷ more ≡ [] = h.1 in absurd cc
    go tokens (first ∷ more) (inr h) = inr (again_group.spelled tokens (first ∷ more) h)

again_sub : (depth : ℕ) → Again (units.sub strict depth) procedure_words
again_sub depth = again (again_opened depth (λ within. again_bind
    (again_access (words.keyword k.Sub) (λ line. keyword line k.Sub) (word_shown (kind.Keyword k.Sub)))
    (λ first. again_bind (again_name first.0) (λ name. again_bind (again_parameters first.0 within) (λ given.
    behind (line_end first.0 ∷ []) tt (end_shown first.0) (again_bind ((blocks_again within).block first.0)
    (λ body. again_keyword k.End first.0 (again_keyword k.Sub first.0 (again_pure (simp append_assoc refl))))))))))

again_function : (depth : ℕ) → Again (units.function strict depth) procedure_words
again_function depth = again (again_opened depth (λ within. again_bind
    (again_access (words.keyword k.Function) (λ line. keyword line k.Function) (word_shown (kind.Keyword k.Function)))
    (λ first. again_bind (again_name first.0) (λ name. again_bind (again_parameters first.0 within) (λ given.
    behind (line_end first.0 ∷ []) tt (end_shown first.0) (again_bind ((blocks_again within).block first.0)
    (λ body. again_keyword k.End first.0 (again_keyword k.Function first.0 (again_pure (simp append_assoc refl))))))))))

again_procedure : (depth : ℕ) → Again (units.procedure strict depth) procedure_words
again_procedure depth = again (again_or (self (again_sub depth)) (self (again_function depth)))

-- ---- classes

again_kind : (line : ℕ) → Again (units.kind_of_property strict) (λ found. keyword line (property_word found) ∷ [])
again_kind line = again (again_or (again_keyword k.Get line (again_pure refl))
    (again_or (again_keyword k.Let line (again_pure refl)) (again_keyword k.Set line (again_pure refl))))

again_property : (depth : ℕ) → Again (units.property strict depth) property_words
again_property depth = again (again_opened depth (λ within. again_bind
    (again_access (quoted (codes "property")) (λ line. words_of.quoted line (codes "Property")) property_shown)
    (λ first. again_bind (again_kind first.0) (λ kind. again_bind (again_name first.0) (λ name.
    again_bind (again_parameters first.0 within) (λ given. behind (line_end first.0 ∷ []) tt (end_shown first.0)
    (again_bind ((blocks_again within).block first.0) (λ body. again_keyword k.End first.0
    (behind (words_of.quoted first.0 (codes "Property") ∷ []) first.0 (property_shown first.0)
    (again_pure (simp append_assoc refl)))))))))))
  where
    property_shown : (line : ℕ) → quoted (codes "property") (words_of.quoted line (codes "Property") ∷ []) line
    property_shown = quoted_shown (codes "property") (codes "Property") refl

again_field_access : Again (units.field_access strict) (λ found. keyword found.0 (field_word found.1) ∷ [])
again_field_access = again (again_or (again_last (again_word (kind.Keyword k.Dim)) (λ line. refl))
    (again_or (again_last (again_word (kind.Keyword k.Public)) (λ line. refl))
    (again_last (again_word (kind.Keyword k.Private)) (λ line. refl))))

again_member : (depth : ℕ) → Again (units.class_member strict depth) member_words
again_member depth = again (again_or (self again_fields)
    (again_or (again_last (again_procedure depth) (λ found. refl))
    (again_last (again_property depth) (λ found. refl))))
  where
    again_fields : Again (units.fields strict depth) member_words
    again_fields = again (again_bind again_field_access (λ first. again_last
        (again_listed first.0 (declared_words first.0) (again_declared first.0 depth)) (λ found. refl)))

again_class : (depth : ℕ) → Again (units.class strict depth) class_words
again_class depth = again (again_opened depth (λ within. again_bind (again_word (kind.Keyword k.Class)) (λ line.
    again_bind (again_name line) (λ name. behind (line_end line ∷ []) tt (end_shown line)
    (behind [] tt (no_texts false) (again_bind
    (again_many member_words (λ x. x ++ line_end line ∷ []) (again_member_line line within))
    (λ members. again_keyword k.End line (again_keyword k.Class line
    (again_pure refl)))))))))
  where
    again_member_line : (line within : ℕ) → Again (units.member_line strict within) (λ found. member_words found
        ++ line_end line ∷ [])
    again_member_line line within = again (again_bind (again_member within) (λ found.
        behind (line_end line ∷ []) tt (end_shown line) (behind [] tt (no_texts false) (again_pure refl))))

-- ---- units

again_variables : (depth : ℕ) → Again (units.variables strict depth) item_words
again_variables depth = again (again_bind again_word_of (λ first. again_last
    (again_listed first.0 (declared_words first.0) (again_declared first.0 depth)) (λ found. refl)))
  where
    again_word_of : Again declarations.access_word (λ found. keyword found.0 (access_word found.1) ∷ [])
    again_word_of = again (again_or (again_last (again_word (kind.Keyword k.Public)) (λ line. refl))
        (again_last (again_word (kind.Keyword k.Private)) (λ line. refl)))

again_item_line : (depth : ℕ) → Again (units.item_line strict depth) (λ found. item_words found ++ line_end 1 ∷ [])
again_item_line depth = again (again_or
    (again_last (again_sentence depth (blocks_inside strict depth) (blocks_inside_again depth) 1) (λ found. refl))
    (again_or (again_bind (again_variables depth)
    (λ found. behind (line_end 1 ∷ []) tt (end_shown 1) (again_pure refl)))
    (again_or (again_bind (again_procedure depth)
    (λ found. behind (line_end 1 ∷ []) tt (end_shown 1) (again_pure refl)))
    (again_bind (again_class depth) (λ found. behind (line_end 1 ∷ []) tt (end_shown 1) (again_pure refl))))))

again_unit : (depth : ℕ) → Again (units.unit strict depth) print_of
unfolding print_of
again_unit depth = again (behind [] tt (inr (refl, refl)) (again_bind again_option (λ explicit. again_last
    (again_many item_words (λ x. x ++ line_end 1 ∷ []) (again_item_line depth)) (λ items. refl))))
  where
    again_option : Again (units.option_explicit strict) option_words
    again_option = again (again_or
        (behind [] tt (no_texts false) (again_keyword k.Option 1 (behind (words_of.quoted 1 (codes "Explicit") ∷ []) 1
        (quoted_shown (codes "explicit") (codes "Explicit") refl 1)
        (behind (line_end 1 ∷ []) tt (end_shown 1) (again_pure refl)))))
        (again_pure refl))

pub printed_again : (tokens : Tokens) (unit : Script) → Derives tokens unit → Derives (print_of unit) unit
printed_again tokens unit h = (again_unit 200).spelled tokens unit h
