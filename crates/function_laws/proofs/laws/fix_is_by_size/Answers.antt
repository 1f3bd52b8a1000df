use Rattle.function_laws.proofs.Fixing.{fixes_by_size}
use Rattle.function_laws.proofs.laws.fix_is_by_size.Goals as goal

pub returns : goal.returns
returns c = fixes_by_size c.args.value.now
