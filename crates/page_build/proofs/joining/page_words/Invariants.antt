use Rattle.std.proofs.Common.{drop}
use Rattle.vb_value.specs.declared.site_file.SiteFault.{SiteFault}
use Rattle.page_build.specs.declared.joining.PageWords.{PageWords}
use Rattle.page_build.specs.Words.{AreWordsBehind, HasWordFault, no_words}
use Rattle.page_build.proofs.joining.page_words.Given as goal

abbrev pub invariant-loop-part : goal.invariant-loop-part
invariant-loop-part l = record {
  words : (all : PageWords) → AreWordsBehind l.fn.global l.so_far (drop l.part-index l.parts) all
      → AreWordsBehind l.fn.global (no_words l.fn.path) l.parts all;
  faults : (fault : SiteFault) → HasWordFault l.fn.global (drop l.part-index l.parts) fault
      → HasWordFault l.fn.global l.parts fault;
}
