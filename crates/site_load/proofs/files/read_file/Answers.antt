use Rattle.site_load.proofs.Causes.{told}
use Rattle.site_load.proofs.Loading.{read_there}
use Rattle.std.proofs.Common.{refl}
use Rattle.site_load.proofs.files.read_file.Goals as goal

pub returns-clause-ok : goal.returns-clause-ok
returns-clause-ok g c =
    let bytes = c.in_ok-bytes.bytes in
    told (g.F.Folder.files c.args.folder.now) _ _ (λ all tells is. read_there all c.args.path.now bytes
    (record { path = c.in_ok-copy.field-0; bytes = bytes }) is c.in_ok-copy.ensures refl) c.in_ok-bytes.ensures.bytes
