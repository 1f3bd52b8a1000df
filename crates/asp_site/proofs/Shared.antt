-- Threads may share a site: part by part, since no search finds it of a whole site.
use denote.Param.Send.{IsSync, sendable}
use denote.Param.SendFields.{declared_sync}
use Rattle.std.proofs.Crossing.{crosses}
use Rattle.asp_site.specs.contracts.site.Page as Page
use Rattle.asp_site.specs.contracts.site.Site as Site
use Rattle.vb_syntax.proofs.Shared.{list, program}

page : IsSync Page.the_row
page = declared_sync Page.the_type (search (program, list, sendable, crosses) depth 100 fits 100000)

pub site : IsSync Site.the_row
site = declared_sync Site.the_type (search (page, list, sendable, crosses) depth 100 fits 100000)
