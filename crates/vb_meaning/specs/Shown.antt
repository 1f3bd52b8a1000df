-- What the meaning sees of the world that an evaluator holds.
use Rattle.vb_meaning.specs.World.{World}
use Rattle.vb_meaning.specs.declared.world.World.{World as Held}

-- the world, with the data of the page and without what a heap holds besides
abbrev pub shown : Held → World
shown world = record {
  store = world.heap;
  page = world.page;
  frame = world.frame;
  err = world.err;
  calls = world.calls;
  terminates = world.terminates;
  page_ended = world.page_ended;
  finished = world.finished;
}
