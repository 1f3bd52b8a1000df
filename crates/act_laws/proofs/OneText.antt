-- A page of one text writes it and ends.
use Rattle.std.proofs.Common.{ℕ, ◌-◌, ◌≡◌, List, [], ◌∷◌, Some, Ok, refl, ap, ◌∙◌}
use Rattle.vb_value.specs.declared.application.AppReply.{AppReply}
use Rattle.vb_value.specs.declared.value.Value.{Value, Str}
use Rattle.vb_syntax.specs.declared.act.Act.TheVariants as act
use Rattle.vb_syntax.specs.declared.act.ActEnd.TheVariants as end
use Rattle.vb_syntax.specs.declared.act.Given.TheVariants as given
use Rattle.vb_syntax.specs.declared.member.Member.TheVariants.{ResponseWrite}
use Rattle.vb_syntax.specs.declared.program.Program.{Program}
use Rattle.vb_syntax.specs.declared.program.statement.Statement.{Statement}
use Rattle.vb_syntax.specs.declared.program.statement.StatementKind.{out-StatementKind}
use Rattle.vb_syntax.specs.declared.program.statement.StatementKind.TheOpen.{StatementKind-F}
use Rattle.vb_syntax.specs.declared.program.unit.Constant.{Constant}
use Rattle.vb_syntax.specs.declared.program.unit.Variable.{Variable}
use Rattle.vb_meaning.specs.declared.plain_end.PlainEnd.TheVariants.{Ends as Ended}
use Rattle.vb_meaning.specs.declared.world.Exit.TheVariants.{Next}
use Rattle.vb_meaning.specs.World.{World}
use Rattle.vb_meaning.specs.Acts as acts
use Rattle.vb_meaning.specs.Asking.{Host, ask, heard}
use Rattle.vb_meaning.specs.Blocks.{after, block}
use Rattle.vb_meaning.specs.Declaring.{constants_made, declared_cells, first_fault}
use Rattle.vb_meaning.specs.Errors.{in_line, resumed, tick}
use Rattle.vb_meaning.specs.Executing.{executed, statement_of}
use Rattle.vb_meaning.specs.Inner.{Inner}
use Rattle.vb_meaning.specs.Meaning.{inside, most_levels, statement}
use Rattle.vb_meaning.specs.Releases.{end_all, release, settle, settle_last}
use Rattle.vb_meaning.specs.State.{State, lifted, on_world}
use Rattle.vb_meaning.specs.Statements.{write}
use Rattle.vb_meaning.specs.Step.{Returns, Run, and_then, ◌>>=◌, ◌>>◌, pure}
use Rattle.act_laws.specs.Laws.{IsOneText, OneTextIsWritten}

module _ (E : Type 0) (m : Inner E) (env behind : E) (replies : List AppReply) (value : Value) (text : List ℕ)
    (asked : m.host.asked ResponseWrite (Str text ∷ []) env ≡ Ok (given.Value value, behind)) where
  -- the state before, and the state behind it
  abbrev first : State E
  first = record { world = acts.fresh_world; ticks = acts.most_ticks; env = env; replies = replies }

  abbrev last : State E
  last = record { world = acts.fresh_world; ticks = acts.most_ticks - 1; env = behind; replies = replies }

  written : write E m (Str text) (record first { ticks = acts.most_ticks - 1 }) ≡ Returns Next last
  unfolding ask
  written = ap (λ said. and_then (heard m.host ResponseWrite (Str text ∷ []) acts.fresh_world (acts.most_ticks - 1)
      replies said) (λ done. pure Next)) asked

  text_executed : (line : ℕ) → executed E m line (StatementKind-F.PageText text) first ≡ Returns Next last
  unfolding tick settle
  text_executed line = ap (λ step. in_line line (release E m 0 (resumed Next step))) written

  pub text_stated : (found : Statement) → out-StatementKind found.kind ≡ StatementKind-F.PageText text
      → statement_of E m found first ≡ Returns Next last
  unfolding statement_of
  text_stated found says = ap (λ said. executed E m found.line said first) says ∙ text_executed found.line

  pub page_ended : acts.page_ends E m end.Done last
      ≡ (Some (Ended (record { end = end.Done; made = 0; finished = 0 })), behind)
  unfolding settle_last end_all
  page_ended = refl

-- what is made where nothing is declared
abbrev makes : List Variable → List Constant → Run World (Unit {0})
makes variables constants = declared_cells [] (first_fault constants) variables >>= (λ cells world.
    (constants_made constants >> pure tt) (record world { page = cells }))

nothing_made : (variables : List Variable) (constants : List Constant) → variables ≡ [] → constants ≡ []
    → makes variables constants acts.fresh_world ≡ Returns tt acts.fresh_world
nothing_made [] [] none bare = refl
nothing_made (first ∷ others) constants none bare = absurd (cc)
nothing_made [] (first ∷ others) none bare = absurd (cc)

module _ (E : Type 0) (host : Host E) (program : Program) (env behind : E) (replies : List AppReply) (value : Value)
    (text : List ℕ) (page : IsOneText program text)
    (asked : host.asked ResponseWrite (Str text ∷ []) env ≡ Ok (given.Value value, behind)) where
  abbrev m : Inner E
  m = inside E host program most_levels

  abbrev begun : State E
  begun = record { world = acts.fresh_world; ticks = acts.most_ticks; env = env; replies = replies }

  abbrev left : State E
  left = record { world = acts.fresh_world; ticks = acts.most_ticks - 1; env = behind; replies = replies }

  stated : m.statement page.statement begun ≡ Returns Next left
  unfolding statement
  stated = text_stated E (inside E host program 1999) env behind replies value text asked page.statement page.says

  body_run : acts.part E m act.Body begun ≡ Returns tt left
  body_run = ap (λ statements. (block E m statements >> pure tt) begun) page.body
      ∙ ap (λ step. and_then (and_then step (after E m (block E m []))) (λ done. pure tt)) stated

  all_run : (on_world (acts.page_begins program.unit) >> acts.part E m act.Body) begun ≡ Returns tt left
  all_run = ap (λ step. and_then (lifted begun step) (λ done. acts.part E m act.Body))
      (nothing_made program.unit.variables program.unit.constants page.variables page.constants) ∙ body_run

  pub one_act : acts.act_of E host program act.Body env replies
      ≡ (Some (Ended (record { end = end.Done; made = 0; finished = 0 })), behind)
  unfolding acts.act_of
  one_act = ap (acts.ends_act E m) all_run ∙ page_ended E m env behind replies value text asked

pub one_text : (E : Type 0) → OneTextIsWritten E
one_text E host program text page env behind replies value asked =
    one_act E host program env behind replies value text page asked
