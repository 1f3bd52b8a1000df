-- What an environment is asked in an act, and how its stops show.
use Rattle.std.specs.Prelude.{Option, Some, None}
use Rattle.vb_syntax.specs.declared.act.AskStop.{AskStop}
use Rattle.vb_syntax.specs.declared.act.AskStop.TheVariants as ask

-- a stop with the environment that it leaves; nothing is said of one that ran out of memory
abbrev pub stops : {E : Type 0} → AskStop → E → Option (AskStop × E)
stops ask.Memory env = None
stops (ask.Error number) env = Some (ask.Error number, env)
stops ask.PageStop env = Some (ask.PageStop, env)
stops (ask.Limit kind) env = Some (ask.Limit kind, env)
