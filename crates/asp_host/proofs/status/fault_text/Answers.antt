use Rattle.std.proofs.Common.{arith, rules}
use Rattle.asp_host.proofs.Literals.{place_characters}
use Rattle.asp_host.proofs.status.fault_text.Goals as goal

pub returns : goal.returns
returns c =
    let plain = place_characters c.args.fault.now.line c.args.fault.now.kind (omega arith) in
    search rules
