use Rattle.std.proofs.Common.{Err, ap, sym, ◌∙◌}
use Rattle.std.proofs.lemmas.Result.{err_from_is_err_and}
use Rattle.asp_core.specs.Kernel.{past_of, rules_of}
use Rattle.asp_replay.proofs.Grown.{item_aside}
use Rattle.asp_replay.proofs.Turning.{come_after, come_ends, come_lanes, turn_fits, turn_grows}
use Rattle.asp_replay.proofs.turns.come_turn.Goals as goal

pub hand_out-handed-requires : goal.hand_out-handed-requires
hand_out-handed-requires g c =
    let came = c.in_ok-come.ensures.ok in
    record {
      lane = come_lanes g.R.Runner.meaning c.args.core.now c.come.new.core came.0 c.args.clients.now.entries
          c.come.new.clients.entries c.args.item.now came.2 came.1 c.requires.lane;
    }

pub returns-in_err-come-clause-after : goal.returns-in_err-come-clause-after
returns-in_err-come-clause-after g c = λ items left before is.
    let same = c.in_err-come.ensures.err in
    let p = err_from_is_err_and c.from_residual.result c.from_residual.ensures.1 in
    rw p.1 (come_ends g.R.Runner.meaning c.args.core.now c.come.new.core items left c.args.clients.now.entries
    c.args.item.now before (g.K.Sink.held c.args.sink.now) p.0 same c.requires.may c.requires.started
    (λ full e. c.in_err-come.ensures.full full (ap Err (sym p.2 ∙ e)))
    (λ fail e. c.in_err-come.ensures.no_start fail (ap Err (sym p.2 ∙ e))) is)

pub returns-clause-grows : goal.returns-clause-grows
returns-clause-grows g c =
    let came = c.in_ok-come.ensures.ok in
    turn_grows g.R.Runner.meaning c.hand_out-handed.result c.args.core.now c.come.new.core c.hand_out-handed.new.core
    came.0 (g.K.Sink.held c.args.sink.now) (g.K.Sink.held c.hand_out-handed.new.sink) came.2
    c.hand_out-handed.ensures.out

pub returns-clause-fits : goal.returns-clause-fits
returns-clause-fits g c = λ in_hand fits.
    let came = c.in_ok-come.ensures.ok in
    let aside = item_aside (rules_of g.R.Runner.meaning c.args.core.now) (past_of c.args.core.now) came.0
    c.args.clients.now.entries c.come.new.clients.entries c.args.item.now came.1 in
    turn_fits g.R.Runner.meaning g.R.Runner.stands c.hand_out-handed.result c.args.core.now c.come.new.core
    c.hand_out-handed.new.core came.0 (g.K.Sink.held c.args.sink.now) (g.K.Sink.held c.hand_out-handed.new.sink)
    in_hand came.2 aside c.journal.ensures.valid.entries c.journal-2.ensures.valid.entries
    c.hand_out-handed.ensures.out fits

pub returns-clause-after : goal.returns-clause-after
returns-clause-after g c = λ items left before is.
    let came = c.in_ok-come.ensures.ok in
    come_after g.R.Runner.meaning c.hand_out-handed.result c.args.core.now c.come.new.core c.hand_out-handed.new.core
    came.0 items left c.args.clients.now.entries c.come.new.clients.entries c.args.item.now before
    (g.K.Sink.held c.args.sink.now) (g.K.Sink.held c.hand_out-handed.new.sink) came.2 came.1 c.requires.may
    c.journal.ensures.valid.entries c.journal.ensures.answered c.hand_out-handed.ensures.only
    c.hand_out-handed.ensures.out is
