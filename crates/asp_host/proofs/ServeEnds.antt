-- What `serve` came to.
use Rattle.std.proofs.Common.{◌≡◌, ℕ, Bool, List, Option, IfSome}
use Rattle.vb_value.specs.declared.site_file.SiteFile.{SiteFile}
use Rattle.asp_job.specs.Rules.{Rules}
use Rattle.asp_serve.specs.declared.hosting.ServeStop.{ServeStop}
use Rattle.asp_serve.specs.declared.hosting.ServeStop.TheVariants as stop
use Rattle.asp_serve.specs.Hosts.{IsStop}
use Rattle.asp_site.specs.declared.site.Site.{Site}
use Rattle.site_load.specs.declared.stop.LoadStop.{LoadStop}
use Rattle.site_load.specs.declared.stop.LoadStop.TheVariants as load
use Rattle.site_load.specs.Accepted.{IsAccepted}
use Rattle.site_load.specs.Stopping.{Refuses}
use Rattle.asp_host.specs.declared.status.Status.TheVariants as status
use Rattle.asp_host.specs.Serve.{ServeMeets, rules_from}
use Rattle.asp_host.specs.Status.{serve_status_of, status_of}

-- where the folder is no site, nothing was served
pub nothing_served : (requests : ℕ) (files : Option (List SiteFile)) (seed : List ℕ) (strict ends : Bool) (why : LoadStop)
    → Refuses files why → ServeMeets requests files seed strict ends (status_of why)
nothing_served requests files seed strict ends (load.Refused fault) stops = stops
nothing_served requests files seed strict ends load.ReadFault stops = tt
nothing_served requests files seed strict ends load.Memory stops = tt

-- a host of the site did not serve to its end
pub serve_stopped : (fails : Type 0) (requests : ℕ) (files : Option (List SiteFile)) (site : Site) (seed : List ℕ)
    (strict ends : Bool) (why : ServeStop) → IfSome files (λ all. IsAccepted all site)
    → IsStop fails (rules_from site seed strict) why → ServeMeets requests files seed strict ends (serve_status_of why)
serve_stopped fails requests files site seed strict ends (stop.StartFailed fail) accepted failed =
    record { site = site; accepted = accepted; failed = failed }
serve_stopped fails requests files site seed strict ends (stop.JournalFull full) accepted filled =
    record { site = site; accepted = accepted; filled = filled }
serve_stopped fails requests files site seed strict ends stop.AcceptFault accepted failed = (site, accepted)
serve_stopped fails requests files site seed strict ends stop.Memory accepted stopped = tt

-- where the wire failed, it may fail
pub accept_failed : (fails : Type 0) (rules : Rules) (why : ServeStop) → IsStop fails rules why
    → serve_status_of why ≡ status.AcceptFault → fails
accept_failed fails rules (stop.StartFailed fail) stopped is = absurd cc
accept_failed fails rules (stop.JournalFull full) stopped is = absurd cc
accept_failed fails rules stop.AcceptFault stopped is = stopped
accept_failed fails rules stop.Memory stopped is = absurd cc
