use Rattle.std.proofs.Common.{rules, ◌≡◌, Ok}
use Rattle.std.specs.Option.{option_copied}
use Rattle.vb_meaning.specs.Meaning.{inside}
use Rattle.vb_meaning.specs.Places.{hold}
use Rattle.vb_meaning.specs.Step.{Returns}
use Rattle.vb_meaning.specs.Stored.{class_of}
use Rattle.vb_meaning.specs.Values.{object_in}
use Rattle.vb_meaning.specs.Shown.{shown}
use Rattle.vb_objects.specs.Seen.{seen, host}
use Rattle.vb_meaning.proofs.AssignSteps.{member_taken}
use Rattle.vb_plain.proofs.rules.Rules.into_member.Goals as goal

pub returns : goal.returns
returns g c =
    let held : hold c.args.whole.now (shown c.args.playing.now.world) ≡ Returns tt (shown c.hold.new.world)
    = search rules in
    let object : object_in c.args.whole.now ≡ Ok c.in_ok-object.object = search rules in
    let class : class_of c.in_ok-object.object (shown c.hold.new.world).store ≡ Ok c.in_ok-class.class
    = search rules in
    rw (member_taken (g.row.I.Denot) (inside (g.row.I.Denot) (host g.I.Intrinsics.asked g.I.Intrinsics.answered)
    c.args.p.now c.args.self.now.levels) c.args.how c.args.whole.now c.args.name (option_copied c.args.supplied)
    c.args.value (seen c.args.playing.now c.args.env.now) (shown c.hold.new.world) c.in_ok-object.object
    c.in_ok-class.class held object class) c.into_object.ensures
