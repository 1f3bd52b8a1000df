use Rattle.std.proofs.Common.{◌≡◌, ◌++◌, length, drop, sym, ap, ◌∙◌, subst, arith, length-append, length-drop}
use Rattle.std.proofs.lemmas.List.{drop-append-le}
use Rattle.http_front.specs.Found.{Waits}
use Rattle.http_front.specs.Mark.{IsMarked}
use Rattle.http_front.specs.Front.{IsFront, More}
use Rattle.http_front.proofs.Streams.{wanting_is_short}
use Rattle.http_front.proofs.Finding.{waits-append}
use Rattle.http_front.proofs.Marks.{marked_stays}
use Rattle.http_front.proofs.reader.Reader.feed.Goals as goal

pub invariant_of-self-2 : goal.invariant_of-self-2
invariant_of-self-2 c =
    let items = c.self.inside.bytes.items in
    let taken = c.self.inside.taken in
    let piece = c.args.piece.now in
    let pending = drop taken items in
    let wants = subst (λ l. IsFront l More) (sym (c.self.view_is ∙ c.compact.ensures)) c.requires.wants in
    let all = c.in_ok-extend_from_slice.ensures.items in
    let new : drop taken c.extend_from_slice.new.self.items ≡ pending ++ piece =
    ap (drop taken) all ∙ drop-append-le taken items piece c.self.invariant.within in record {
      few = omega (
        arith,
        ap length all,
        length-append items piece,
        length-drop taken items,
        wanting_is_short pending
            wants,
        c.requires.short,
      );
      within = omega (arith, ap length all, length-append items piece, c.self.invariant.within);
      waits = subst (λ l. Waits l c.self.inside.need) (sym new)
          (waits-append pending piece c.self.inside.need c.self.invariant.waits);
      marked = subst (λ l. IsMarked l c.self.inside.mark) (sym new)
          (marked_stays pending piece c.self.inside.mark c.self.invariant.marked);
    }
