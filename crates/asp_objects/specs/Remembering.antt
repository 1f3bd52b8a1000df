-- That memory never runs out for the objects of a page, as their members are defined.
use Rattle.std.specs.Prelude.{◌≢◌, List, Err}
use Rattle.vb_value.specs.declared.application.AppReply.{AppReply}
use Rattle.vb_value.specs.declared.value.Value.{Value}
use Rattle.vb_syntax.specs.declared.act.AskStop.TheVariants as why
use Rattle.vb_syntax.specs.declared.member.Member.{Member}
use Rattle.asp_objects.specs.declared.objects.PageObjects.{PageObjects}
use Rattle.asp_objects.specs.Members.{answered, asked}

-- a member stops for no want of memory, when it is asked
abbrev pub AskedRemembers : Type 0
AskedRemembers = (member : Member) (arguments : List Value) (objects left : PageObjects)
    → asked member arguments objects ≢ Err (why.Memory, left)

-- nor when a call that it wanted has its reply
abbrev pub AnsweredRemembers : Type 0
AnsweredRemembers = (member : Member) (arguments : List Value) (reply : AppReply) (objects left : PageObjects)
    → answered member arguments reply objects ≢ Err (why.Memory, left)
