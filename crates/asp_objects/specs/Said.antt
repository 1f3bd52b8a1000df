-- What a member of a page's objects says: what it gives or why it stops, and what the objects are then.
use Rattle.std.specs.Prelude.{Result, Ok, Err}
use Rattle.vb_value.specs.declared.value.Value.{Empty}
use Rattle.vb_syntax.specs.declared.act.AskStop.{AskStop}
use Rattle.vb_syntax.specs.declared.act.AskStop.TheVariants as why
use Rattle.vb_syntax.specs.declared.act.Given.{Given}
use Rattle.vb_syntax.specs.declared.act.Given.TheVariants as given
use Rattle.asp_response.specs.declared.stop.DraftStop.{DraftStop}
use Rattle.asp_response.specs.declared.stop.DraftStop.TheVariants as stop
use Rattle.asp_response.specs.Draft.{Done}
use Rattle.asp_objects.specs.declared.objects.PageObjects.{PageObjects}
use Rattle.asp_objects.specs.Given.{Answer}

abbrev pub SaidOf : Type 0 → Type 0
SaidOf E = Result (Given × E) (AskStop × E)

abbrev pub Said : Type 0
Said = SaidOf PageObjects

-- a member that changes nothing
abbrev pub told : {E : Type 0} → Answer → E → SaidOf E
told (Ok what) objects = Ok (what, objects)
told (Err stop) objects = Err (stop, objects)

-- what is done with an argument that was converted; a stop changes nothing
abbrev pub using_it : {T E : Type 0} → Result T AskStop → (T → E → SaidOf E) → E → SaidOf E
using_it (Ok value) next objects = next value objects
using_it (Err stop) next objects = Err (stop, objects)

-- nothing is given, and the objects are these
abbrev pub became : {E : Type 0} → E → SaidOf E
became objects = Ok (given.Value Empty, objects)

-- why a call on the draft stops a member
abbrev pub ask_stop : DraftStop → AskStop
ask_stop (stop.Error number) = why.Error number
ask_stop (stop.Limit kind) = why.Limit kind
ask_stop stop.Memory = why.Memory

-- a call on the draft that makes these objects, unless it is refused
abbrev pub drafted : Done → PageObjects → PageObjects → Said
drafted (Ok done) changed objects = became changed
drafted (Err refused) changed objects = Err (ask_stop refused, objects)

-- the same, and the page stops
abbrev pub stopping : Done → PageObjects → PageObjects → Said
stopping (Ok done) changed objects = Err (why.PageStop, changed)
stopping (Err refused) changed objects = Err (ask_stop refused, objects)
