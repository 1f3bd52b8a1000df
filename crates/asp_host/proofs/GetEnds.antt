-- What `get` ran and wrote.
use Rattle.std.proofs.Common.{ℕ, List, Option, IfSome, refl}
use Rattle.vb_value.specs.declared.site_file.SiteFile.{SiteFile}
use Rattle.asp_get.specs.Answered.{IsGetStop}
use Rattle.asp_get.specs.declared.stop.GetStop.{GetStop}
use Rattle.asp_get.specs.declared.stop.GetStop.TheVariants as get
use Rattle.asp_site.specs.declared.site.Site.{Site}
use Rattle.site_load.specs.declared.stop.LoadStop.{LoadStop}
use Rattle.site_load.specs.declared.stop.LoadStop.TheVariants.{Refused, ReadFault, Memory}
use Rattle.site_load.specs.Accepted.{IsAccepted}
use Rattle.site_load.specs.Stopping.{Refuses}
use Rattle.asp_host.specs.Get.{GetWrites, site_rules}
use Rattle.asp_host.specs.Request.{job_of}
use Rattle.asp_host.specs.Status.{get_status_of, status_of}

-- where the folder is no site, nothing is written
pub nothing_written : (path query : List ℕ) (files : Option (List SiteFile)) (held : Option (List ℕ))
    (stop : LoadStop) → Refuses files stop
    → GetWrites path query files (record { before = held; after = held }) (status_of stop)
nothing_written path query files held (Refused fault) stops = (stops, refl)
nothing_written path query files held ReadFault stops = refl
nothing_written path query files held Memory stops = refl

-- nor where the request is not answered
pub nothing_answered : (path query : List ℕ) (files : Option (List SiteFile)) (site : Site)
    (held : Option (List ℕ)) (stop : GetStop) → IfSome files (λ all. IsAccepted all site)
    → IsGetStop (site_rules site) (job_of path query) stop
    → GetWrites path query files (record { before = held; after = held }) (get_status_of stop)
nothing_answered path query files site held (get.StartFailed fail) accepted failed =
    (record { site = site; accepted = accepted; failed = failed }, refl)
nothing_answered path query files site held (get.JournalFull full) accepted much =
    (record { site = site; accepted = accepted; much = much }, refl)
nothing_answered path query files site held get.Memory accepted stops = refl
