use denote.Param.Send.{sendable}
use Rattle.asp_site.proofs.Shared.{site}
use Rattle.asp_site.proofs.crossing.site_crosses.Goals as goal

pub crosses-requires-sync-T : goal.crosses-requires-sync-T
crosses-requires-sync-T c κs = search (site, sendable) depth 40 fits 20000
