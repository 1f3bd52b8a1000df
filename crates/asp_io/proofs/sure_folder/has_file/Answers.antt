use Rattle.std.proofs.Common.{rules}
use Rattle.asp_io.proofs.SitePaths.{no_file, some_file}
use Rattle.asp_io.proofs.sure_folder.has_file.Goals as goal

pub returns-in-Some : goal.returns-in-Some
returns-in-Some c = (λ _. some_file _ _ _ c.in-Some.ensures, λ _. search rules)

pub returns-in-None : goal.returns-in-None
returns-in-None c = (λ no. search rules, λ has. absurd (no_file _ _ c.in-None.ensures has))
