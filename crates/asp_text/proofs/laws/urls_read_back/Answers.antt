use Rattle.asp_text.proofs.Coding.{url_of}
use Rattle.asp_text.proofs.laws.urls_read_back.Goals as goal

pub returns : goal.returns
returns c = url_of
