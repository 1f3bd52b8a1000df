use Rattle.std.proofs.Common.{◌≡◌, reverse, ap, sym, arith}
use Rattle.std.proofs.Common.{subst}
use Rattle.std.proofs.lemmas.Grind.{common_steps}
use Rattle.asp_journal.specs.Tables.{IsFit}
use Rattle.asp_journal.proofs.Entering.{indexed_more, spare_less}
use Rattle.asp_journal.proofs.Indexing.{jobs_few, tally_few}
use Rattle.asp_journal.proofs.journal.Journal.push_reserved.Goals as goal

pub tallied-self-inside-requires-clause-entries : goal.tallied-self-inside-requires-clause-entries
tallied-self-inside-requires-clause-entries c =
    let few = tally_few c.self.inside.journal.items c.self.inside.tally c.self.invariant.0.tally_is in
    grind (arith, common_steps)

pub tallied-self-inside-requires-clause-made : goal.tallied-self-inside-requires-clause-made
tallied-self-inside-requires-clause-made c =
    let few = tally_few c.self.inside.journal.items c.self.inside.tally c.self.invariant.0.tally_is in
    grind (arith, common_steps)

pub tallied-self-inside-requires-clause-jobs : goal.tallied-self-inside-requires-clause-jobs
tallied-self-inside-requires-clause-jobs c =
    let few = jobs_few c.self.inside.journal.items c.self.inside.tally c.self.invariant.0.tally_is in
    grind (arith, common_steps)

pub invariant_of-self : goal.invariant_of-self
invariant_of-self c =
    let inside = c.self.inside in
    let journal : inside.journal.items ≡ c.args.self.now.items = ap (λ j. j.items) c.self.view_is in
    let indexed = indexed_more inside.journal.items c.push_reserved.new.self.items inside.rows.items
    c.mark.new.rows.items inside.tally c.tallied-self-inside.result inside.listed.items c.list.new.listed.items
    c.len.result c.args.entry c.self.invariant.0
    (subst (λ items. IsFit (reverse items) c.args.entry.what) (sym journal) c.requires.fit)
    c.push_reserved.ensures.items (grind (arith, common_steps))
    c.mark.ensures.rows c.mark.ensures.length c.tallied-self-inside.ensures c.list.ensures.items in (
      indexed,
      spare_less _ _ _ inside.capacity _ _ _ _ _ _ _ _ _ c.self.invariant.1 (grind (arith, common_steps))
          c.push_reserved.ensures.len c.mark.ensures.few c.list.ensures.few c.push_reserved.ensures.capacity
          c.mark.ensures.capacity c.list.ensures.capacity,
    )
