use Rattle.std.proofs.Common.{Result, Ok, Err, refl}
use Rattle.vb_value.specs.Outcome.{Answers}
use Rattle.vb_value.specs.declared.stop.Stop.{Stop}
use Rattle.vb_value.specs.declared.stop.Stop.TheVariants.{Fault, Memory}
use Rattle.vb_syntax.specs.declared.note.ScopeFault.{ScopeFault}
use Rattle.vb_syntax.specs.declared.unit.Unit.{Unit as Script}
use Rattle.vb_syntax.specs.scope.Faults.{faults_of}
use Rattle.vb_syntax.specs.scope.Programs.{Parts}
use Rattle.vb_syntax.specs.scope.Resolving.{Resolves}
use Rattle.vb_names.specs.Checking.{Finds}
use Rattle.vb_scope.specs.Answers.{answered}
use Rattle.vb_scope.proofs.OneProgram.{program_faultless_lem}
use Rattle.vb_scope.proofs.resolving.resolve.Goals as goal

-- where the check stops and the script resolves, memory has run out
only_memory : {T : Type 0} (result : Result T (Stop ScopeFault)) (script : Script) (program : Parts)
    (stop : Stop ScopeFault) → Resolves script program
    → Finds {T = T} (Err stop) (faults_of script) → Answers (answered (Err stop)) Memory (Ok program)
only_memory result script program (Fault kind line) resolves finds =
    absurd (program_faultless_lem script program kind line resolves finds)
only_memory result script program Memory resolves finds = λ some. absurd (some refl)

pub returns-in-Err-clause-only : goal.returns-in-Err-clause-only
returns-in-Err-clause-only c = λ program resolves. only_memory c.check_script.result c.args.unit program
    c.in-Err.stop resolves c.in-Err.ensures.faults
