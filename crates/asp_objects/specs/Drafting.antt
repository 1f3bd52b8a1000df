-- What a page's objects have said of its answer.
use Rattle.std.specs.Prelude.{◌≡◌, List, Ok, Err}
use Rattle.vb_value.specs.declared.application.AppReply.{AppReply}
use Rattle.vb_value.specs.declared.value.Value.{Value}
use Rattle.vb_syntax.specs.declared.member.Member.{Member}
use Rattle.asp_response.specs.Calls.{DraftCall, said_by}
use Rattle.asp_objects.specs.declared.objects.PageObjects.{PageObjects}
use Rattle.asp_objects.specs.Members.{answered, asked}
use Rattle.asp_objects.specs.Said.{Said}

-- the draft is that of some calls
abbrev pub IsSaid : PageObjects → Type 0
IsSaid objects = (calls : List DraftCall) × (objects.draft ≡ said_by calls)

-- so it is after a question
abbrev pub LeavesSaid : Said → Type 0
LeavesSaid (Ok (what, left)) = IsSaid left
LeavesSaid (Err (why, left)) = IsSaid left

-- whatever is asked of the objects, and whatever the replies are to their calls
abbrev pub AskedDrafts : Type 0
AskedDrafts = (member : Member) (arguments : List Value) (objects : PageObjects) → IsSaid objects
    → LeavesSaid (asked member arguments objects)

abbrev pub AnsweredDrafts : Type 0
AnsweredDrafts = (member : Member) (arguments : List Value) (reply : AppReply) (objects : PageObjects) → IsSaid objects
    → LeavesSaid (answered member arguments reply objects)
