use Rattle.std.proofs.Common.{◌≡◌, ◌∷◌, Some, None, Err, ap, sym, subst, ◌∙◌}
use Rattle.std.proofs.lemmas.Result.{err_from_is_err_and}
use Rattle.asp_job.specs.Application.{apply, blocker_of}
use Rattle.asp_job.specs.Calls.{IsReply}
use Rattle.asp_job.specs.History.{with_lane}
use Rattle.asp_job.specs.declared.entry.What.TheVariants.{App}
use Rattle.asp_core.specs.Book.{past_in}
use Rattle.asp_core.specs.Calling.{blocker_by}
use Rattle.asp_core.specs.Kernel.{IsTooMuch, wanted_by}
use Rattle.asp_core.proofs.Called.{blocked_exact, blocker_known, done_exact, full_told, has_called, no_call}
use Rattle.asp_core.proofs.Called.{unblocked_exact}
use Rattle.asp_core.proofs.calls.make_call.Goals as goal

pub unreachable-requires : goal.unreachable-requires
unreachable-requires g c =
    no_call (wanted_by c.args.run.now.progress) c.requires (sym c.in_default.ensures.wanted)

pub returns-in-Some-blocker-clause-blocked : goal.returns-in-Some-blocker-clause-blocked
returns-in-Some-blocker-clause-blocked g c holder =
    let wants : wanted_by c.args.run.now.progress ≡ Some c.in-Some.call.now = sym c.in-Some.ensures.wanted in
    let is = blocker_known c.args.application.now c.args.run.now c.number-number.result c.in-Some.call.now
    (Some c.in-Some-blocker.holder) wants c.number-number.ensures c.in-Some-blocker.ensures in
    blocked_exact (blocker_by c.args.application.now c.args.run.now) c.in-Some-blocker.holder holder is

pub returns-in-Some-blocker-clause-full : goal.returns-in-Some-blocker-clause-full
returns-in-Some-blocker-clause-full g c full e = absurd cc

pub replies_to-requires-clause-free : goal.replies_to-requires-clause-free
replies_to-requires-clause-free g c = sym c.blocker.ensures ∙ c.in_default-blocker.is

pub returns-in_err-reply-clause-blocked : goal.returns-in_err-reply-clause-blocked
returns-in_err-reply-clause-blocked g c holder =
    let p = err_from_is_err_and c.from_residual.result c.from_residual.ensures.1 in
    let wants : wanted_by c.args.run.now.progress ≡ Some c.in-Some.call.now = sym c.in-Some.ensures.wanted in
    let is = blocker_known c.args.application.now c.args.run.now c.number-number.result c.in-Some.call.now None wants
    c.number-number.ensures (sym c.in_default-blocker.is ∙ c.blocker.ensures) in
    rw p.1 (unblocked_exact (blocker_by c.args.application.now c.args.run.now) c.in_err-reply.field-0.0 p.0 holder is p.2)

pub returns-in_err-reply-clause-full : goal.returns-in_err-reply-clause-full
returns-in_err-reply-clause-full g c full e =
    let p = err_from_is_err_and c.from_residual.result c.from_residual.ensures.1 in
    let call = c.in-Some.call.now in
    let free : blocker_of c.args.application.now.strict c.args.application.now.state c.number-number.result call ≡ None =
    sym c.blocker.ensures ∙ c.in_default-blocker.is in
    let same = full_told c.in_err-reply.field-0.0 p.0 full p.2 (sym p.1 ∙ e) in
    let much = c.in_err-reply.ensures.full full (ap Err same) in
    record {
      call = call;
      wanted = sym c.in-Some.ensures.wanted;
      free = subst (λ n. blocker_of c.args.application.now.strict c.args.application.now.state n call ≡ None) c.number-number.ensures free;
      much = subst (λ n. IsTooMuch (with_lane c.args.lane (App n call (apply c.args.application.now.state n call).1)
          ∷ past_in c.args.book.now) full) c.number-number.ensures much;
    }

pub take_reply-requires-clause-reply : goal.take_reply-requires-clause-reply
take_reply-requires-clause-reply g c =
    let ok = c.in_ok-reply.ensures.ok in subst IsReply (sym ok.copy_is) ok.may

pub unreachable-requires-in_default-take_reply : goal.unreachable-requires-in_default-take_reply
unreachable-requires-in_default-take_reply g c =
    no_call (wanted_by c.args.run.now.progress) c.requires (sym c.in_default-take_reply.ensures.call)

pub returns-clause-ok : goal.returns-clause-ok
returns-clause-ok g c =
    let took = c.in-Some-take_reply.ensures in
    has_called (g.R.Runner.stands c.args.runner.now) c.args.lane c.args.book.now c.replies_to.new.book c.push.new.self
    c.args.application.now c.replies_to.new.application c.args.run.now c.take_reply.new.self c.number-number.result
    c.in-Some.call.now c.in-Some-take_reply.call (c.in_ok-reply.reply, c.in_ok-reply.copy) (sym c.in-Some.ensures.wanted) took.call
    c.number-number.ensures c.in-Some.ensures.call c.in_ok-reply.ensures.ok c.replies_to.ensures.stays c.push.ensures.adds
    took.number took.stand_ins took.going took.stands

pub returns-clause-blocked : goal.returns-clause-blocked
returns-clause-blocked g c holder =
    let wants : wanted_by c.args.run.now.progress ≡ Some c.in-Some.call.now = sym c.in-Some.ensures.wanted in
    let none = blocker_known c.args.application.now c.args.run.now c.number-number.result c.in-Some.call.now None wants
    c.number-number.ensures (sym c.in_default-blocker.is ∙ c.blocker.ensures) in
    done_exact (blocker_by c.args.application.now c.args.run.now) holder none

pub returns-clause-full : goal.returns-clause-full
returns-clause-full g c full e = absurd cc
