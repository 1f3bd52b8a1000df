-- What the environment of a script does: it notes what Response.Write is given. In its wider form it also ends the page at
-- Response.End, and asks the Application object for the items that are read; every other member is Object required.
use Rattle.std.specs.Prelude.{Bool, true, false, List, [], ◌∷◌, ◌++◌, ℕ, Result, Ok, Err}
use Rattle.vb_value.specs.declared.application.AppCall.TheVariants.{Get}
use Rattle.vb_value.specs.declared.application.AppReply.{AppReply}
use Rattle.vb_value.specs.declared.application.AppReply.TheVariants as reply
use Rattle.vb_value.specs.declared.fault.VbError.{VbError}
use Rattle.vb_value.specs.declared.value.Value.{Value, Empty, Null, Str}
use Rattle.vb_value.specs.Conversions.{to_str_of}
use Rattle.vb_value.specs.Errors.{object_required}
use Rattle.vb_value.specs.Folding.{folded}
use Rattle.vb_syntax.specs.declared.act.AskStop.{AskStop}
use Rattle.vb_syntax.specs.declared.act.AskStop.TheVariants as why
use Rattle.vb_syntax.specs.declared.act.Given.{Given}
use Rattle.vb_syntax.specs.declared.act.Given.TheVariants as given
use Rattle.vb_syntax.specs.declared.member.Member.{Member}
use Rattle.vb_syntax.specs.declared.member.Member.TheVariants as member
use Rattle.vb_syntax.specs.declared.member.ContentsPart.TheVariants.{Item}
use Rattle.run_cases.specs.declared.notes.Notes.{Notes}

-- what is said to a question, and the environment after it
abbrev pub Said : Type 0
Said = Result (Given × Notes) (AskStop × Notes)

-- an error of the language
abbrev pub failed : VbError → Notes → Said
failed error notes = Err (why.Error error.number, notes)

-- a value as Response.Write writes it: nothing for Null
abbrev pub written : Value → Result (List ℕ) VbError
written Null = Ok []
written value = to_str_of value

-- the notes with a text more
abbrev pub noted : Result (List ℕ) VbError → Notes → Said
noted (Ok text) notes = Ok (given.Value Empty, record notes { text = notes.text ++ text })
noted (Err error) notes = failed error notes

-- the end of the page, in the wider form
abbrev pub stopped : Bool → Notes → Said
stopped true notes = Err (why.PageStop, notes)
stopped false notes = failed object_required notes

-- an item of the Application object, in the wider form
abbrev pub item : Bool → List ℕ → Notes → Said
item true name notes = Ok (given.Call (Get (folded name)), notes)
item false name notes = failed object_required notes

-- what is said to a question
unfoldable pub asked : Member → List Value → Notes → Said
asked member.ResponseWrite (value ∷ []) notes = noted (written value) notes
asked member.ResponseEnd [] notes = stopped notes.is_wide notes
asked (member.ApplicationContents Item) (Str name ∷ []) notes = item notes.is_wide name notes
asked _ _ notes = failed object_required notes

-- what is said once a call has its reply
abbrev pub answered : AppReply → Notes → Said
answered (reply.Value value) notes = Ok (given.Value value, notes)
answered _ notes = failed object_required notes
