use Rattle.std.proofs.Common.{List, IfOk, subst}
use Rattle.page_read.specs.Reading.{OnSiteFault}
use Rattle.page_read.specs.declared.located.Located.{Located}
use Rattle.page_build.specs.Building.{HasPageFault, IsPageOf}
use Rattle.site_load.proofs.Pages.{built_of, fault_of, stops_expanding}
use Rattle.site_load.proofs.building.page_at.Goals as goal

pub returns-in-Err-clause-fault : goal.returns-in-Err-clause-fault
returns-in-Err-clause-fault c =
    stops_expanding c.args.files.now c.args.path.now c.args.global c.in-Err.stop c.in-Err.ensures.fault

pub returns-clause-ok : goal.returns-clause-ok
returns-clause-ok c =
    built_of c.args.files.now c.args.path.now c.args.global c.in-Ok.parts c.build.result c.in-Ok.ensures.ok
    (subst (λ (parts : List Located). IfOk c.build.result (IsPageOf c.args.path.now parts c.args.global)) c.as_slice.ensures
    c.build.ensures.page)

pub returns-clause-fault : goal.returns-clause-fault
returns-clause-fault c =
    fault_of c.args.files.now c.args.path.now c.args.global c.in-Ok.parts c.build.result c.in-Ok.ensures.ok
    (subst (λ (parts : List Located). OnSiteFault c.build.result (HasPageFault c.args.path.now parts c.args.global))
    c.as_slice.ensures c.build.ensures.fault)
