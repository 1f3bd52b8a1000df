use Rattle.std.proofs.Common.{◌≡◌, ◌++◌, map, length}
use Rattle.vb_frames.specs.Places.{Root, seen}
use Rattle.vb_frames.specs.Stacks.{placed, top}
use Rattle.vb_frames.proofs.stack.Stack.walk.Given as goal

abbrev pub invariant-loop-frames : goal.invariant-loop-frames
invariant-loop-frames l = record {
  tied : map seen l.nodes ++ placed l.p (seen l.node) l.frames ≡ placed l.p Root l.self;
  top : top l.p (seen l.node) l.frames ≡ top l.p Root l.self;
}

abbrev pub decreases-loop-frames : goal.decreases-loop-frames
decreases-loop-frames l = length l.frames
