use Rattle.scope_laws.proofs.Undeclared.{undeclared_on_page_lem}
use Rattle.scope_laws.proofs.laws.undeclared_on_page.Goals as goal

pub returns : goal.returns
returns c = undeclared_on_page_lem
