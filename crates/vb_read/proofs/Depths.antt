-- What is read inside a construct that opens.
use Rattle.std.proofs.Common.{◌≡◌, ℕ, zero, suc, ◌-◌, ◌<◌, refl, ap, arith}
use Rattle.vb_syntax.specs.grammar.SimpleStatements.{Looser}
use Rattle.vb_read.specs.Reader.{Reader}
use Rattle.vb_read.specs.ReadDeclarations.{opened}
use Rattle.vb_read.specs.ReadStatements.{blocks, blocks_here, blocks_inside}

pub opened_inside : {A : Type 0} (depth : ℕ) (f : ℕ → Reader A) → 0 < depth → opened depth f ≡ f (depth - 1)
opened_inside zero f h = absurd (omega arith)
opened_inside (suc depth) f h = let same : depth ≡ suc depth - 1 = omega arith in ap f same

-- the readers of a place
pub blocks_at : (looser : Looser) (depth : ℕ) → blocks looser depth ≡ blocks_here looser depth
    (blocks_inside looser depth)
blocks_at looser zero = refl
blocks_at looser (suc depth) = refl
