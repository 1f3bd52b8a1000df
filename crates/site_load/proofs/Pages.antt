-- What comes of one page, from what comes of its includes and of what they make up.
use Rattle.std.proofs.Common.{◌≡◌, ℕ, Bool, List, Result, Ok, Err, IfOk, inl, inr}
use Rattle.vb_value.specs.declared.site_file.SiteFile.{SiteFile}
use Rattle.vb_value.specs.declared.site_file.SiteFault.{SiteFault}
use Rattle.page_read.specs.Expansion.{Expands, HasExpansionFault}
use Rattle.page_read.specs.Reading.{OnSiteFault}
use Rattle.page_read.specs.declared.located.Located.{Located}
use Rattle.page_read.specs.declared.located.SiteStop.{SiteStop}
use Rattle.page_read.specs.declared.located.SiteStop.TheVariants as stops
use Rattle.asp_site.specs.declared.site.Page.{Page}
use Rattle.page_build.specs.Building.{HasPageFault, IsPageOf}
use Rattle.site_load.specs.Accepted.{HasFault, IsBuilt}

-- a fault of the includes
pub stops_expanding : (files : List SiteFile) (path : List ℕ) (global : Bool) (stop : SiteStop)
    → OnSiteFault {T = List Located} (Err stop) (HasExpansionFault files path)
    → OnSiteFault {T = Page} (Err stop) (HasFault files path global)
unfolding HasFault
stops_expanding files path global (stops.Fault fault) is = inl is
stops_expanding files path global stops.Memory is = tt

-- a page, or a fault of what the parts make up
pub built_of : (files : List SiteFile) (path : List ℕ) (global : Bool) (parts : List Located) (result : Result Page SiteStop)
    → Expands files path parts → IfOk result (IsPageOf path parts global) → IfOk result (IsBuilt files path global)
unfolding IsBuilt
built_of files path global parts (Ok page) expands is = (parts, expands, is)
built_of files path global parts (Err stop) expands is = tt

pub fault_of : (files : List SiteFile) (path : List ℕ) (global : Bool) (parts : List Located) (result : Result Page SiteStop)
    → Expands files path parts → OnSiteFault result (HasPageFault path parts global)
    → OnSiteFault result (HasFault files path global)
unfolding HasFault
fault_of files path global parts (Ok page) expands is = tt
fault_of files path global parts (Err (stops.Fault fault)) expands is = inr (parts, expands, is)
fault_of files path global parts (Err stops.Memory) expands is = tt
