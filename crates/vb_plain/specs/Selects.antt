-- What is done in the head of a Select Case.
use Rattle.std.specs.Prelude.{ℕ, List, Option}
use Rattle.vb_syntax.specs.declared.program.expression.Expression.{Expression}
use Rattle.vb_syntax.specs.declared.program.statement.Case.{Case}
use Rattle.vb_meaning.specs.Inner.{Inner}
use Rattle.vb_meaning.specs.State.{Does}
use Rattle.vb_meaning.specs.Statements.{first_case}
use Rattle.vb_meaning.specs.Step.{◌>>=◌}

-- its subject, and which Case is the first that holds
unfoldable pub selects : (E : Type 0) → Inner E → Expression → List Case → Does E (Option ℕ)
selects E m subject cases = m.value subject >>= (λ found. first_case E m 0 found cases)
