use Rattle.asp_text.proofs.HtmlLaws.{html_of}
use Rattle.asp_text.proofs.laws.html_reads_back.Goals as goal

pub returns : goal.returns
returns c = html_of
