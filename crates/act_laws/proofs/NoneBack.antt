-- No step of an act gives a tick back.
use Rattle.std.proofs.Common.{List}
use Rattle.vb_syntax.specs.declared.program.unit.Procedure.{Procedure}
use Rattle.vb_meaning.specs.declared.reached.Argument.{Argument}
use Rattle.vb_meaning.specs.Inner.{Owner}
use Rattle.vb_meaning.specs.Meaning.{inside}
use Rattle.act_laws.specs.Laws.{TicksNeverComeBack}
use Rattle.act_laws.proofs.Acting.{runs_fits}
use Rattle.act_laws.proofs.Finishing.{alone, levels_alone}
use Rattle.act_laws.proofs.Spending.{Spends, ticks_at}
use Rattle.act_laws.proofs.Ticking.{page_end_spends, settle_spends, terminate_spends}

pub none_back : (E : Type 0) → TicksNeverComeBack E
none_back E host program levels s =
    let i = levels_alone E host program levels in
    let m = inside E host program levels in
    let enter : (owner : Owner) (procedure : Procedure) (arguments : List Argument)
    → Spends ticks_at (m.enter owner procedure arguments) =
    λ owner procedure arguments. (i.enter_fits owner procedure arguments).spends in
    record {
      value = λ x. (i.value_fits x).spends s;
      argument = λ x. (i.argument_fits x).spends s;
      assign = λ how path found. (i.assign_fits how path found).spends s;
      call = λ path. (i.call_fits path).spends s;
      statement = λ x. (i.statement_fits x).spends s;
      enter = λ owner procedure arguments. enter owner procedure arguments s;
      terminate = λ object. terminate_spends E m enter object s;
      settle = settle_spends E m enter s;
      part = λ which. (runs_fits (alone E host) i which).spends s;
      page_end = page_end_spends E m enter s;
    }
