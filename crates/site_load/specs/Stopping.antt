-- This crate's own: what a stop says of a folder.
use Rattle.std.specs.Prelude.{Option, IfSome, List, ◌++◌}
use Rattle.std.specs.Option.{option_or}
use Rattle.vb_value.specs.declared.site_file.SiteFile.{SiteFile}
use Rattle.page_read.specs.declared.located.SiteStop.{SiteStop}
use Rattle.page_read.specs.declared.located.SiteStop.TheVariants as site
use Rattle.site_load.specs.Accepted.{IsFolderFault}
use Rattle.site_load.specs.declared.building.RunPages.{RunPages}
use Rattle.site_load.specs.declared.stop.LoadStop.{LoadStop}
use Rattle.site_load.specs.declared.stop.LoadStop.TheVariants as load

-- what the stop of a page is to a call that loads its site
abbrev pub stop_of_page : SiteStop → LoadStop
stop_of_page (site.Fault fault) = load.Refused fault
stop_of_page site.Memory = load.Memory

-- what a stop says of the folder with these files, where it says which it has
abbrev pub Refuses : Option (List SiteFile) → LoadStop → Type 0
Refuses given (load.Refused fault) = IfSome given (λ all. IsFolderFault all fault)
Refuses given load.ReadFault = Unit {0}
Refuses given load.Memory = Unit {0}

-- ---- pages and events, file by file

-- those of some files, and those of the files behind them
abbrev pub joined : RunPages → RunPages → RunPages
joined runs later = record { pages = runs.pages ++ later.pages; events = option_or runs.events later.events }
