use Rattle.std.proofs.Common.{refl, sym, ◌∙◌}
use Rattle.vb_value.specs.declared.token.Keyword.TheVariants as k
use Rattle.vb_value.specs.declared.token.TokenKind.TheVariants as kind
use Rattle.vb_read.specs.Reader as reader
use Rattle.vb_read.specs.ReadStatements as spec
use Rattle.vb_read.specs.Depths.{rules}
use Rattle.vb_read.proofs.Turns.{found_turn}
use Rattle.vb_read.proofs.Cases.{opens_some, moves_else_if}
use Rattle.vb_read.proofs.place.Place.else_ifs.Goals as goal

pub loop-found-smaller : goal.loop-found-smaller
loop-found-smaller g c = moves_else_if (rules c.args.self.now.looser) c.args.self.now.depth (opens_some _
    c.requires.opens) _ _ _
    c.in_ok-else_if.ensures

pub loop-found-preserved : goal.loop-found-preserved
loop-found-preserved g c = found_turn (reader.sees (kind.Keyword k.ElseIf))
    (spec.else_if (rules c.args.self.now.looser) c.args.self.now.depth
    (spec.blocks_inside (rules c.args.self.now.looser) c.args.self.now.depth))
    (moves_else_if (rules c.args.self.now.looser) c.args.self.now.depth (opens_some _ c.requires.opens))
    refl (λ l. l) _ c.loop-found.found _
    c.loop-found.cursor.rest.now _ _ c.loop-found.invariant
    (sym c.sees_keyword.ensures ∙ c.loop-found-test.true) c.in_ok-else_if.ensures c.in_ok-push.ensures
