use Rattle.site_load.specs.declared.building.Role.TheVariants as role
use Rattle.site_load.proofs.Runs.{of_role}
use Rattle.site_load.proofs.building.run_of.Goals as goal

pub returns-in_ok-of_page-in-Ok-clause-ok : goal.returns-in_ok-of_page-in-Ok-clause-ok
returns-in_ok-of_page-in-Ok-clause-ok c = of_role c.args.files.now c.args.file.now role.Page
    c.in_ok-of_page-in-Ok.field-0 c.in-Page.ensures (c.in-Ok.page, c.in-Ok.ensures.ok, c.in_ok-of_page-in-Ok.ensures)

pub returns-in-Ok-page_at-clause-ok : goal.returns-in-Ok-page_at-clause-ok
returns-in-Ok-page_at-clause-ok c = of_role c.args.files.now c.args.file.now role.Events c.of_events.result
    c.in-Events.ensures (c.in-Ok-page_at.page, c.in-Ok-page_at.ensures.ok, c.of_events.ensures)
