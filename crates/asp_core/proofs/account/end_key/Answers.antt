use Rattle.asp_core.proofs.Ending.{left_may}
use Rattle.asp_core.proofs.account.end_key.Goals as goal

pub end-requires : goal.end-requires
end-requires c one is = left_may c.args.kind c.args.session c.after_of-after.result c.requires c.after_of-after.ensures one is
