use Rattle.std.proofs.Common.{ℕ, List, subst}
use Rattle.vb_value.specs.declared.site_file.FaultKind.{FaultKind}
use Rattle.page_read.specs.Expansion.{fault_at}
use Rattle.page_read.specs.Fragments.{HasFault}
use Rattle.page_read.specs.Reading.{StopsAtFault}
use Rattle.page_read.proofs.Expanding.{own_fault}
use Rattle.page_read.proofs.expansion.file_pieces.Goals as goal

pub returns-in-Err-Fault : goal.returns-in-Err-Fault
returns-in-Err-Fault c =
    let file = c.args.file.now in
    let line = c.in-Err-Fault.line in
    own_fault file c.args.around.now c.placed_stop.result c.in-Err-Fault.kind line
    (subst (λ (bytes : List ℕ). HasFault bytes c.in-Err-Fault.kind line) c.as_slice.ensures
    (rw c.in-Err-Fault.field-0-is at c.in-Err-Fault.ensures.fault))
    (subst (λ (kind : FaultKind). StopsAtFault (fault_at file.path line kind) c.placed_stop.result) c.site_kind.ensures
    c.placed_stop.ensures)
