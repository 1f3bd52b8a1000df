-- What a run may ask of the Application object, and what it may be replied: names are folded, values plain and sound.
use Rattle.std.specs.Prelude.{◌≡◌, ℕ, List, All}
use Rattle.vb_value.specs.declared.application.AppCall.{AppCall}
use Rattle.vb_value.specs.declared.application.AppCall.TheVariants as call
use Rattle.vb_value.specs.declared.application.AppReply.{AppReply}
use Rattle.vb_value.specs.declared.application.AppReply.TheVariants as reply
use Rattle.vb_value.specs.declared.value.Value.{Value}
use Rattle.vb_value.specs.Folding.{folded}
use Rattle.vb_value.specs.Plain.{IsPlain}
use Rattle.vb_value.specs.Sound.{IsSound}
use Rattle.asp_job.specs.declared.runner.Step.{Step}
use Rattle.asp_job.specs.declared.runner.Step.TheVariants as step

-- a name that is folded
abbrev pub IsName : List ℕ → Type 0
IsName name = folded name ≡ name

-- a value that runs may share
abbrev pub IsShared : Value → Type 0
IsShared value = IsPlain value × IsSound value

-- a call that a run may make
abbrev pub IsAppCall : AppCall → Type 0
IsAppCall (call.Get name) = IsName name
IsAppCall (call.Put name value) = IsName name × IsShared value
IsAppCall (call.Remove name) = IsName name
IsAppCall _ = Unit {0}

-- a reply that a run may be given
abbrev pub IsReply : AppReply → Type 0
IsReply (reply.Value value) = IsShared value
IsReply (reply.Name name) = IsName name
IsReply (reply.Names names) = All IsName names
IsReply _ = Unit {0}

-- a step whose call, if it wants one, may be made
abbrev pub IsCall : Step → Type 0
IsCall (step.Wants call) = IsAppCall call
IsCall _ = Unit {0}
