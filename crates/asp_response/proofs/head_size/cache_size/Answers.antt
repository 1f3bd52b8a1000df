use Rattle.asp_response.specs.HeadSize.{cache_size}
use Rattle.asp_response.proofs.head_size.cache_size.Goals as goal

pub returns-in_ok-header-in-Some : goal.returns-in_ok-header-in-Some
unfolding cache_size
returns-in_ok-header-in-Some c = rw c.in-Some.is (rw c.in_ok-header-in-Some.ensures at c.field_size.ensures)
