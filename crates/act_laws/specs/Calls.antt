-- The calls of the Application object that an act makes.
use Rattle.std.specs.Prelude.{Bool, IsTrue, List, [], ◌∷◌, ◌++◌, Option, Some, None, Ok, Err}
use Rattle.vb_value.specs.declared.application.AppCall.{AppCall}
use Rattle.vb_value.specs.declared.application.AppReply.{AppReply}
use Rattle.vb_syntax.specs.declared.act.Act.{Act}
use Rattle.vb_syntax.specs.declared.act.Given.TheVariants as given
use Rattle.vb_syntax.specs.declared.program.Program.{Program}
use Rattle.vb_meaning.specs.declared.plain_end.PlainEnd.{PlainEnd}
use Rattle.vb_meaning.specs.declared.plain_end.PlainEnd.TheVariants.{Wants}
use Rattle.vb_meaning.specs.Acts.{act_of}
use Rattle.vb_meaning.specs.Asking.{Host, Said}

-- an environment, and the calls that it has wanted, in their order
abbrev pub Noting : Type 0 → Type 0
Noting E = E × List AppCall

-- what an environment says to a question, with the calls that it wanted before; one that it wants now is noted
abbrev pub noted : {E : Type 0} → List AppCall → Said E → Said (Noting E)
noted calls (Ok (given.Call call, env)) = Ok (given.Call call, (env, calls ++ call ∷ []))
noted calls (Ok (given.Value value, env)) = Ok (given.Value value, (env, calls))
noted calls (Ok (given.Names names, env)) = Ok (given.Names names, (env, calls))
noted calls (Err (why, env)) = Err (why, (env, calls))

-- the same objects, which note each call that they want
abbrev pub noting : {E : Type 0} → Host E → Host (Noting E)
noting host = record {
  asked = λ member arguments env. noted env.1 (host.asked member arguments env.0);
  answered = λ member arguments reply env. noted env.1 (host.answered member arguments reply env.0);
}

-- the calls that an act makes while it has these replies, the last of them perhaps without one
abbrev pub calls_of : (E : Type 0) → Host E → Program → Act → E → List AppReply → List AppCall
calls_of E host program which env replies = (act_of (Noting E) (noting host) program which (env, []) replies).1.1

-- the call that an act wants, if it has come to no end
abbrev pub wanted : Option PlainEnd → Option AppCall
wanted (Some (Wants call)) = Some call
wanted _ = None

-- a call that the objects want passes a test, if they want one
abbrev pub WantsOnly : {E : Type 0} → (AppCall → Bool) → Said E → Type 0
WantsOnly test (Ok (given.Call call, env)) = IsTrue (test call)
WantsOnly test (Ok (given.Value value, env)) = Unit {0}
WantsOnly test (Ok (given.Names names, env)) = Unit {0}
WantsOnly test (Err (why, env)) = Unit {0}

-- what the objects are after a question passes a test
abbrev pub LeavesOnly : {E : Type 0} → (E → Bool) → Said E → Type 0
LeavesOnly test (Ok (what, env)) = IsTrue (test env)
LeavesOnly test (Err (why, env)) = IsTrue (test env)
