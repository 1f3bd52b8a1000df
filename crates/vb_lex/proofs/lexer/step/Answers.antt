use Rattle.std.proofs.Common.{◌++◌, ◌∷◌, [], List, sym, ap, ◌∙◌, subst, arith}
use Rattle.std.proofs.lemmas.List.{take_rest}
use Rattle.vb_value.specs.declared.token.Token.{Token}
use Rattle.vb_lex.specs.declared.piece.Piece.TheVariants.{Word}
use Rattle.vb_lex.specs.declared.place.Place.{Place}
use Rattle.vb_lex.specs.Places.{past}
use Rattle.vb_lex.specs.Tokens.{Reaches}
use Rattle.vb_lex.proofs.Cutting.{gap_ends, reached_gap, reached_line, reached_word, word_ends}
use Rattle.vb_lex.proofs.lexer.step.Goals as goal

pub past_gap-requires-clause-line : goal.past_gap-requires-clause-line
past_gap-requires-clause-line c = reached_line c.args.text.now c.args.tokens.now c.args.place c.requires.reached

pub past_gap-requires-clause-within : goal.past_gap-requires-clause-within
past_gap-requires-clause-within c =
    let stands = sym (simp take_rest at c.in_ok-length.ensures) ∙ c.in-Gap.is in
    (gap_ends c.args.text.now c.args.place c.in-Gap.length c.requires.within stands).1

pub past_word-next-requires-clause-line : goal.past_word-next-requires-clause-line
past_word-next-requires-clause-line c = reached_line c.args.text.now c.args.tokens.now c.args.place c.requires.reached

pub past_word-next-requires-clause-within : goal.past_word-next-requires-clause-within
past_word-next-requires-clause-within c =
    let stands = sym (simp take_rest at c.in_ok-length.ensures) ∙ c.in-Word.is in
    (word_ends c.args.text.now c.args.place c.in-Word.kind c.in-Word.length c.requires.within stands).1

pub token-requires : goal.token-requires
token-requires c =
    let stands = sym (simp take_rest at c.in_ok-length.ensures) ∙ c.in-Word.is in
    let ends = word_ends c.args.text.now c.args.place c.in-Word.kind c.in-Word.length c.requires.within stands in
    omega (arith, ends.1)

pub returns-in-Gap-clause-next : goal.returns-in-Gap-clause-next
returns-in-Gap-clause-next c =
    let stands = sym (simp take_rest at c.in_ok-length.ensures) ∙ c.in-Gap.is in
    let P : Place → Type 0 = λ p. Reaches c.args.text.now c.args.tokens.now p in
    subst P (sym c.past_gap.ensures)
    (reached_gap c.args.text.now c.args.tokens.now c.args.place c.in-Gap.length c.requires.reached c.requires.within stands)

pub returns-in-Gap-clause-moves : goal.returns-in-Gap-clause-moves
returns-in-Gap-clause-moves c =
    let stands = sym (simp take_rest at c.in_ok-length.ensures) ∙ c.in-Gap.is in
    let ends = gap_ends c.args.text.now c.args.place c.in-Gap.length c.requires.within stands in
    let at = ap (λ (p : Place). p.at) c.past_gap.ensures in
    omega (arith, ends.0, at)

pub returns-in-Gap-clause-within : goal.returns-in-Gap-clause-within
returns-in-Gap-clause-within c =
    let stands = sym (simp take_rest at c.in_ok-length.ensures) ∙ c.in-Gap.is in
    let ends = gap_ends c.args.text.now c.args.place c.in-Gap.length c.requires.within stands in
    let at = ap (λ (p : Place). p.at) c.past_gap.ensures in
    omega (arith, ends.1, at)

pub returns-in_ok-push-in-Word-clause-next : goal.returns-in_ok-push-in-Word-clause-next
returns-in_ok-push-in-Word-clause-next c =
    let stands = sym (simp take_rest at c.in_ok-length.ensures) ∙ c.in-Word.is in
    let pushed = c.in_ok-push-in-Word.ensures ∙ ap (λ (t : Token). c.args.tokens.now ++ t ∷ []) c.token.ensures in
    let next = reached_word c.args.text.now c.args.tokens.now c.args.place c.in-Word.kind c.in-Word.length
    c.requires.reached c.requires.within stands in
    let Behind : List Token → Type 0 =
    λ ts. Reaches c.args.text.now ts (past c.args.text.now c.args.place (Word c.in-Word.kind c.in-Word.length)) in
    let At : Place → Type 0 = λ p. Reaches c.args.text.now c.push.new.self p in
    subst At (sym c.past_word-next.ensures) (subst Behind (sym pushed) next)

pub returns-in_ok-push-in-Word-clause-moves : goal.returns-in_ok-push-in-Word-clause-moves
returns-in_ok-push-in-Word-clause-moves c =
    let stands = sym (simp take_rest at c.in_ok-length.ensures) ∙ c.in-Word.is in
    let ends = word_ends c.args.text.now c.args.place c.in-Word.kind c.in-Word.length c.requires.within stands in
    let at = ap (λ (p : Place). p.at) c.past_word-next.ensures in
    omega (arith, ends.0, at)

pub returns-in_ok-push-in-Word-clause-within : goal.returns-in_ok-push-in-Word-clause-within
returns-in_ok-push-in-Word-clause-within c =
    let stands = sym (simp take_rest at c.in_ok-length.ensures) ∙ c.in-Word.is in
    let ends = word_ends c.args.text.now c.args.place c.in-Word.kind c.in-Word.length c.requires.within stands in
    let at = ap (λ (p : Place). p.at) c.past_word-next.ensures in
    omega (arith, ends.1, at)
