use Rattle.std.proofs.Common.{◌≡◌, All, arith, false, subst}
use Rattle.asp_job.specs.declared.entry.Entry.{Entry}
use Rattle.asp_serve.specs.Hosts.{is_full_end}
use Rattle.asp_serve.proofs.HostEnds.{whole}
use Rattle.asp_serve.proofs.whole.is_whole.Goals as goal

pub returns : goal.returns
returns g c = λ yes.
    whole c.args.core.now.journal
    (omega (arith, c.waiting.ensures, c.if-waiting-gt0.false))
    (omega (arith, c.unfinished.ensures, c.if-unfinished-gt0.false))
    (subst (λ entries. All (λ (entry : Entry). is_full_end entry.what ≡ false) entries) c.journal.ensures.journal
    (c.none_is_full.ensures.0 yes))
