-- A folder is one site.
use Rattle.std.proofs.Common.{◌≡◌, ◌∙◌, List, [], ◌∷◌, ℕ, Bool, true, false, Some, Ok, sym, ap, subst, map}
use Rattle.vb_value.specs.declared.site_file.SiteFile.{SiteFile}
use Rattle.vb_syntax.specs.declared.program.Program.{Program}
use Rattle.vb_syntax.specs.declared.unit.Unit.{Unit as Script}
use Rattle.vb_syntax.specs.scope.Programs.{Parts}
use Rattle.vb_syntax.specs.scope.Resolving.{Resolves}
use Rattle.vb_scope.specs.Answers.{parts_of}
use Rattle.page_read.specs.Expansion.{ComesOfPage, Outcome}
use Rattle.page_read.specs.declared.located.Located.{Located}
use Rattle.asp_io.specs.Folder.{AreSitePaths, path_of}
use Rattle.asp_site.specs.declared.site.Page.{Page}
use Rattle.asp_site.specs.declared.site.Site.{Site}
use Rattle.page_build.specs.Building.{IsPageOf, IsWordsPage}
use Rattle.page_build.specs.declared.joining.PageWords.{PageWords}
use Rattle.page_build.specs.Words.{no_words}
use Rattle.page_build.proofs.OneAnswer.{OneProgram, OneUnit}
use Rattle.page_build.proofs.OneWords.{OneTokens, one_words}
use Rattle.host_laws.proofs.OneFolder.{one_folder}
use Rattle.site_load.specs.Accepted.{AddsFile, AreRuns, IsAccepted, IsBuilt, IsSite, role_of}
use Rattle.site_load.specs.declared.building.Role.{Role}
use Rattle.site_load.specs.declared.building.Role.TheVariants as role
use Rattle.site_load.specs.declared.building.RunPages.{RunPages}

-- ---- programs

-- some script resolves to the parts
abbrev IsResolved : Parts → Type 0
IsResolved parts = ∥ ((script : Script) × Resolves script parts) ∥₁

abbrev program_with : (parts : Parts) → IsResolved parts → Program
program_with parts resolved = record {
  unit = parts.unit;
  vars = parts.vars;
  procs = parts.procs;
  classes = parts.classes;
  explicit = parts.explicit;
  resolved = resolved;
}

same_programs : (parts others : Parts) (resolved : IsResolved parts) → parts ≡ others → (also : IsResolved others)
    → program_with parts resolved ≡ program_with others also
same_programs parts others resolved same = subst
    (λ (some : Parts). (also : IsResolved some) → program_with parts resolved ≡ program_with some also) same
    (λ also. ap (program_with parts) (let only : IsProp (IsResolved parts) = hlevel in only resolved also))

-- a program is its parts
one_program : (program other : Program) → parts_of program ≡ parts_of other → program ≡ other
one_program program other same =
    same_programs (parts_of program) (parts_of other) program.resolved same other.resolved

-- ---- pages

-- what comes of a page is one: the law of page_read
abbrev pub OneOutcome : Type 0
OneOutcome = (files : List SiteFile) (path : List ℕ) (one other : Outcome) → ComesOfPage files path one
    → ComesOfPage files path other → one ≡ other

module _ (outcomes : OneOutcome) (tokens : OneTokens) (units : OneUnit) (programs : OneProgram) where
  -- words make one page
  one_words_page : (path : List ℕ) (session : Bool) (words : PageWords) (page other : Page)
      → IsWordsPage path session words page → IsWordsPage path session words other → page ≡ other
  one_words_page path session words page other is also =
      let unit : is.unit ≡ also.unit = units words.tokens is.unit also.unit is.spelled.spelled also.spelled.spelled in
      let resolves = subst (λ unit. Resolves unit (parts_of page.program)) unit is.resolves in
      let program = one_program page.program other.program
      (programs also.unit (parts_of page.program) (parts_of other.program) resolves also.resolves) in
      let path_same : page.path ≡ other.path = is.path_is ∙ sym also.path_is in
      let session_same : page.session ≡ other.session = is.session_is ∙ sym also.session_is in
      let lines_same : page.lines ≡ other.lines = is.lines_are ∙ sym also.lines_are in
      λ i. record { path = path_same i; session = session_same i; program = program i; lines = lines_same i }

  -- parts make one page
  one_page : (path : List ℕ) (parts : List Located) (global : Bool) (page other : Page)
      → IsPageOf path parts global page → IsPageOf path parts global other → page ≡ other
  one_page path parts global page other is also =
      let words = one_words tokens global parts (no_words path) is.words also.words is.joined also.joined in
      one_words_page path _ also.words page other
      (subst (λ (words : PageWords). IsWordsPage path _ words page) words is.made) also.made

  -- a file makes one page
  one_built : (files : List SiteFile) (path : List ℕ) (global : Bool) (page other : Page)
      → IsBuilt files path global page → IsBuilt files path global other → page ≡ other
  unfolding IsBuilt
  one_built files path global page other (parts, expands, is) (others, also, builds) =
      let same : Ok parts ≡ Ok others = outcomes files path (Ok parts) (Ok others) expands also in
      let parts_same : parts ≡ others = cc in
      one_page path others global page other
      (subst (λ (all : List Located). IsPageOf path all global page) parts_same is) builds

  -- ---- sites

  -- a file adds one thing
  one_adds : (files : List SiteFile) (file : SiteFile) (is : Role) (later runs other : RunPages)
      → AddsFile files file is later runs → AddsFile files file is later other → runs ≡ other
  one_adds files file role.Page later runs other adds also =
      adds.2
      ∙ ap (λ page. record later { pages = page ∷ later.pages })
      (one_built files file.path false adds.0 also.0 adds.1 also.1)
      ∙ sym also.2
  one_adds files file role.Events later runs other adds also =
      adds.2
      ∙ ap (λ page. record later { events = Some page }) (one_built files file.path true adds.0 also.0 adds.1 also.1)
      ∙ sym also.2
  one_adds files file role.Other later runs other adds also = adds ∙ sym also

  -- files have one list of pages
  one_runs : (files some : List SiteFile) (runs other : RunPages) → AreRuns files some runs → AreRuns files some other
      → runs ≡ other
  one_runs files [] runs other is also = is ∙ sym also
  one_runs files (file ∷ rest) runs other is also =
      let later : is.0 ≡ also.0 = one_runs files rest is.0 also.0 is.1 also.1 in
      one_adds files file (role_of file.path) also.0 runs other
      (subst (λ later. AddsFile files file (role_of file.path) later runs) later is.2) also.2

  one_site_of : (files : List SiteFile) (site other : Site) → IsSite files site → IsSite files other → site ≡ other
  one_site_of files site other is also =
      let runs = one_runs files files (record { pages = site.pages; events = site.events })
      (record { pages = other.pages; events = other.events }) is.runs also.runs in
      let statics : site.statics ≡ other.statics = is.statics ∙ sym also.statics in
      λ i. record { pages = (runs i).pages; statics = statics i; events = (runs i).events }

  -- a folder is one site
  pub one_site : (all : List SiteFile) (site other : Site) → AreSitePaths (map path_of all) → IsAccepted all site
      → IsAccepted all other → site ≡ other
  one_site all site other paths is also =
      let files = one_folder all is.files also.files paths is.of_site also.of_site in
      one_site_of also.files site other (subst (λ files. IsSite files site) files is.is_site) also.is_site
