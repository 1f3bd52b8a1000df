use Rattle.std.proofs.Common.{◌∙◌, ◌+◌, Option, IfSome, List, [], length, take, refl, sym, ap, subst, arith}
use Rattle.std.specs.List.{sum_by}
use Rattle.std.proofs.lemmas.List.Sums.{sum_by_push}
use Rattle.vb_value.specs.declared.site_file.SiteFile.{SiteFile}
use Rattle.asp_io.specs.Folder.{HasFile}
use Rattle.site_load.specs.Files.{AreSmall, size_of}
use Rattle.site_load.specs.Reading.{AreRead, HasRoom, IsReadAt}
use Rattle.site_load.proofs.Causes.{always, told, told_both}
use Rattle.site_load.proofs.Loading.{all_read, large_stop, more_read, more_small, none_read, none_small, too_large_there}
use Rattle.site_load.proofs.files.read_files.Goals as goal

pub loop-path-init : goal.loop-path-init
loop-path-init g c = record {
  same = refl;
  read = always (g.F.Folder.files c.args.folder.now) (λ all. AreRead all [] c.in_ok-files.files)
      (λ all. subst (λ (files : List SiteFile). AreRead all [] files) (sym c.in_ok-files.ensures) (none_read all));
  small = subst AreSmall (sym c.in_ok-files.ensures) none_small;
  total = sym (ap (sum_by size_of) c.in_ok-files.ensures);
  later = omega arith;
  within = λ fits. fits;
}

pub read_file-requires : goal.read_file-requires
read_file-requires g c = λ all tells.
    let chosen = c.requires all (sym c.loop-path.invariant.same ∙ tells) in
    subst (HasFile all) (sym c.path-item.is)
    (chosen.each c.loop-path.path-index c.path-item.result c.loop-path-test.true).there

pub returns-then-not-has_room-clause-refused : goal.returns-then-not-has_room-clause-refused
returns-then-not-has_room-clause-refused g c =
    let kept = c.loop-path.invariant in
    let given = g.F.Folder.files c.args.folder.now in
    let paths = c.args.paths.now in
    let at = c.loop-path.path-index in
    let path = c.path-item.result in
    let files = c.loop-path.files in
    let file = c.in_ok-file.file in
    let found = subst (λ (one : Option (List SiteFile)). IfSome one (λ all. IsReadAt all path file)) kept.same
    c.in_ok-file.ensures.ok in
    let none = λ (room : HasRoom (length files) c.loop-path.total (size_of file)).
    let fits : HasRoom c.len.result c.loop-path.total c.len-in-loop-path.result = (
      omega (arith, room.0, c.len.ensures),
      omega (arith, room.1, c.len-in-loop-path.ensures),
      omega (arith, room.2, c.len-in-loop-path.ensures),
    ) in
    let hit = c.has_room.ensures.1 fits in
    absurd (cc (hit, c.if-not-has_room.true)) in
    let both = told_both given (λ all. AreRead all (take at paths) files) (λ all. IsReadAt all path file)
    (λ all. AreRead all (take at paths) files × IsReadAt all path file) (λ all read is. (read, is)) kept.read found in
    large_stop given path c.too_large.result c.too_large.ensures
    (told given (λ all. AreRead all (take at paths) files × IsReadAt all path file) _
    (λ all tells is. too_large_there all paths at c.loop-path.total path files file c.loop-path-test.true
    c.path-item.is (c.requires all tells) is.0 is.1 kept.small kept.total none) both)

pub loop-path-preserved : goal.loop-path-preserved
loop-path-preserved g c =
    let kept = c.loop-path.invariant in
    let given = g.F.Folder.files c.args.folder.now in
    let paths = c.args.paths.now in
    let at = c.loop-path.path-index in
    let path = c.path-item.result in
    let files = c.loop-path.files in
    let file = c.in_ok-file.file in
    let found = subst (λ (one : Option (List SiteFile)). IfSome one (λ all. IsReadAt all path file)) kept.same
    c.in_ok-file.ensures.ok in
    let fits = c.has_room.ensures.0 c.if-not-has_room.false in
    let room : HasRoom (length files) c.loop-path.total (size_of file) = (
      omega (arith, fits.0, c.len.ensures),
      omega (arith, fits.1, c.len-in-loop-path.ensures),
      omega (arith, fits.2, c.len-in-loop-path.ensures),
    ) in
    record {
      same = c.read_file.ensures.same ∙ kept.same;
      read = told_both given (λ all. AreRead all (take at paths) files) (λ all. IsReadAt all path file) _
          (λ all read is. subst (λ (now : List SiteFile). AreRead all (take (at + 1) paths) now)
          (sym c.in_ok-push.ensures)
          (more_read all paths at path files file c.loop-path-test.true c.path-item.is room.1 read is)) kept.read found;
      small = subst AreSmall (sym c.in_ok-push.ensures)
          (more_small files c.loop-path.total file kept.small kept.total room);
      total = omega (
        arith,
        kept.total,
        c.len-total.ensures,
        sum_by_push size_of files file,
        ap (sum_by size_of) c.in_ok-push.ensures,
      );
      later = omega (arith, kept.later, c.read_file.ensures.cause.later);
      within = λ fits. c.read_file.ensures.cause.within (kept.within fits);
    }

pub returns-clause-ok : goal.returns-clause-ok
returns-clause-ok g c =
    let kept = c.loop-path.invariant in
    told (g.F.Folder.files c.args.folder.now) _ _ (λ all tells read. all_read all c.args.paths.now
    c.loop-path.path-index c.loop-path.files c.loop-path-test.false (c.requires all tells) read kept.small) kept.read
