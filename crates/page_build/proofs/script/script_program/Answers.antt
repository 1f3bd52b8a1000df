use Rattle.std.proofs.Common.{◌∙◌}
use Rattle.page_build.proofs.Building as steps
use Rattle.page_build.proofs.script.script_program.Goals as goal

pub returns-in-Err-clause-only : goal.returns-in-Err-clause-only
returns-in-Err-clause-only c program of other = absurd (other (c.stop_of_words.ensures
    ∙ steps.words_memory c.args.text.now program _ c.in-Err.ensures.ok_only of))

pub returns-in-Err-parse-clause-only : goal.returns-in-Err-parse-clause-only
returns-in-Err-parse-clause-only c program of other = absurd (other (c.stop_of_grammar.ensures
    ∙ steps.grammar_memory c.as_slice.result.now of.unit _ c.in-Err-parse.ensures.only
    (steps.spelled_too c.args.text.now program c.in-Ok.tokens c.as_slice.result.now c.in-Ok.ensures.ok_only
    c.as_slice.ensures of)))

pub returns-in-Ok-resolve-clause-only : goal.returns-in-Ok-resolve-clause-only
returns-in-Ok-resolve-clause-only c program of = steps.same_program c.in-Ok-resolve.program program
    (c.in-Ok-resolve.ensures.only program
    (steps.resolves_too program c.as_slice.result.now c.in-Ok-parse.unit of.unit c.in-Ok-parse.ensures.only
    (steps.spelled_too c.args.text.now program c.in-Ok.tokens c.as_slice.result.now c.in-Ok.ensures.ok_only
    c.as_slice.ensures of) of.resolves))

pub returns-clause-only : goal.returns-clause-only
returns-clause-only c program of other = absurd (other (c.stop_of_scope.ensures
    ∙ steps.scope_memory program c.in-Ok-parse.unit _ c.in-Err-resolve.ensures.only
    (steps.resolves_too program c.as_slice.result.now c.in-Ok-parse.unit of.unit c.in-Ok-parse.ensures.only
    (steps.spelled_too c.args.text.now program c.in-Ok.tokens c.as_slice.result.now c.in-Ok.ensures.ok_only
    c.as_slice.ensures of) of.resolves)))
