use Rattle.std.proofs.Common.{◌++◌, ◌∷◌, [], ap, arith, subst, sym, ◌∙◌}
use Rattle.asp_job.specs.History.{with_lane}
use Rattle.asp_job.specs.declared.entry.What.{What}
use Rattle.asp_journal.specs.Tables.{IsFit}
use Rattle.asp_core.specs.Book.{past_in}
use Rattle.asp_core.specs.Drawing.{answer_if, drawn_by, told_of}
use Rattle.asp_core.specs.Kernel.{rules_by}
use Rattle.asp_core.specs.Sessions.{account_admitted, sessions_in}
use Rattle.asp_journal.proofs.Bounds.{made_small}
use Rattle.asp_core.proofs.Coming.{job_leaves, job_roomy}
use Rattle.asp_core.proofs.Fits.{answer_drawn, drawn_fit}
use Rattle.asp_core.proofs.drawing.add_admission.Goals as goal

pub ask-requires-clause-made : goal.ask-requires-clause-made
ask-requires-clause-made g c =
    let is = c.requires.tells.made_is in
    let few = c.requires.few in
    let small = made_small (past_in c.args.book.now) in
    omega arith

pub push-requires-clause-fit : goal.push-requires-clause-fit
push-requires-clause-fit g c =
    let m = rules_by (g.R.Runner.meaning c.args.lent.now.runner.now c.args.lent.now.site.now) c.args.lent.now.setting in
    let past = past_in c.args.book.now in
    let what = rw c.journal.ensures at c.admission_of-what.ensures.what in
    subst (λ (w : What). IsFit past w) (sym what) (drawn_fit m (sessions_in c.args.sessions.now.account) past 0 c.args.came.0)

pub push-requires-clause-room : goal.push-requires-clause-room
push-requires-clause-room g c =
    let m = rules_by (g.R.Runner.meaning c.args.lent.now.runner.now c.args.lent.now.site.now) c.args.lent.now.setting in
    let past = past_in c.args.book.now in
    let what = rw c.journal.ensures at c.admission_of-what.ensures.what in
    job_roomy m (sessions_in c.args.sessions.now.account) c.args.book.now c.args.lane c.args.came.0
    c.admission_of-what.result what c.requires.room

pub returns-clause-adds : goal.returns-clause-adds
returns-clause-adds g c =
    let what = rw c.journal.ensures at c.admission_of-what.ensures.what in
    let adds = c.push.ensures.adds in
    (adds.0 ∙ ap (λ (w : What). c.args.book.now.items ++ with_lane c.args.lane w ∷ []) what, adds.1)

pub returns-clause-drawn : goal.returns-clause-drawn
returns-clause-drawn g c =
    let m = rules_by (g.R.Runner.meaning c.args.lent.now.runner.now c.args.lent.now.site.now) c.args.lent.now.setting in
    let past = past_in c.args.book.now in
    let sessions = sessions_in c.args.sessions.now.account in
    let what = rw c.journal.ensures at c.admission_of-what.ensures.what in
    let drawn = c.drawn_of-drawn.ensures in
    record {
      told_is = drawn.told ∙ ap told_of what;
      answer_is = drawn.answer ∙ ap (λ (w : What). answer_if w c.args.came.1) what
          ∙ ap (answer_if (drawn_by m sessions past 0 c.args.came.0).what) c.requires.answer
          ∙ answer_drawn m sessions past 0 c.args.came.0;
    }

pub returns-clause-account : goal.returns-clause-account
returns-clause-account g c =
    let what = rw c.journal.ensures at c.admission_of-what.ensures.what in
    c.ask.ensures ∙ ap (λ (w : What). account_admitted w c.args.sessions.now.account) what

pub returns-clause-room : goal.returns-clause-room
returns-clause-room g c =
    let m = rules_by (g.R.Runner.meaning c.args.lent.now.runner.now c.args.lent.now.site.now) c.args.lent.now.setting in
    let what = rw c.journal.ensures at c.admission_of-what.ensures.what in
    job_leaves m (sessions_in c.args.sessions.now.account) c.args.book.now c.push.new.self c.args.lane c.args.came.0
    c.admission_of-what.result what c.push.ensures.room
