-- How a command ends: for each, by its status, a statement of its own over what the outside tells.
use Rattle.asp_command.specs.declared.words.Command.{Command}
use Rattle.asp_command.specs.declared.words.Command.TheVariants.{Get, Check, Replay, Serve, Gen}
use Rattle.asp_host.specs.declared.status.Status.{Status}
use Rattle.asp_host.specs.Around.{Around}
use Rattle.asp_host.specs.Check.{CheckEnds}
use Rattle.asp_host.specs.Gen.{GenEnds}
use Rattle.asp_host.specs.Get.{GetEnds}
use Rattle.asp_host.specs.Replay.{ReplayEnds}
use Rattle.asp_host.specs.Serve.{ServeEnds}

-- the command ends so
abbrev pub Ends : Command → Around → Status → Type 0
Ends (Get site path query) around status = GetEnds path query around status
Ends (Check site) around status = CheckEnds around status
Ends (Replay site workers asked strict) around status = ReplayEnds workers asked strict around status
Ends (Serve site requests workers port strict) around status = ServeEnds requests strict around status
Ends (Gen count asked) around status = GenEnds count asked around status

-- the command reads nothing of its source
abbrev pub ReadsNothing : Command → Type 0
ReadsNothing (Replay site workers asked strict) = ⊥
ReadsNothing _ = Unit {0}
