use Rattle.std.proofs.Common.{◌≡◌, ◌+◌, ◌<◌, ◌≤◌, List, get_or, length, take, subst, sym}
use Rattle.vb_value.specs.declared.site_file.SiteFile.{SiteFile}
use Rattle.site_load.specs.Accepted.{AreRuns}
use Rattle.site_load.specs.declared.building.RunPages.{RunPages}
use Rattle.site_load.proofs.Runs.{all_runs, file_stops, one_more}
use Rattle.site_load.proofs.building.site_runs.Goals as goal

pub loop-file-init : goal.loop-file-init
loop-file-init c = record { so_far = c.no_runs-runs.ensures }

pub returns-in-Err-clause-fault : goal.returns-in-Err-clause-fault
returns-in-Err-clause-fault c =
    let at = c.loop-file.file-index in
    let file = c.file-item.result in
    let within = subst (λ (all : List SiteFile). at < length all) c.as_slice-all.ensures c.loop-file-test.true in
    let is = subst (λ (all : List SiteFile). file ≡ get_or all at file) c.as_slice-all.ensures c.file-item.is in
    file_stops c.args.files.now at file c.loop-file.runs c.in-Err.stop within is c.loop-file.invariant.so_far
    c.in-Err.ensures.fault

pub loop-file-preserved : goal.loop-file-preserved
loop-file-preserved c =
    let at = c.loop-file.file-index in
    let files = c.args.files.now in
    let file = c.file-item.result in
    let within = subst (λ (all : List SiteFile). at < length all) c.as_slice-all.ensures c.loop-file-test.true in
    let is = subst (λ (all : List SiteFile). file ≡ get_or all at file) c.as_slice-all.ensures c.file-item.is in
    record {
      so_far = subst (λ (runs : RunPages). AreRuns files (take (at + 1) files) runs) (sym c.in_ok-add-in-Ok.ensures)
          (one_more files at file c.loop-file.runs c.in-Ok.more within is c.loop-file.invariant.so_far c.in-Ok.ensures.ok);
    }

pub returns-clause-ok : goal.returns-clause-ok
returns-clause-ok c =
    let at = c.loop-file.file-index in
    all_runs c.args.files.now at c.loop-file.runs
    (subst (λ (all : List SiteFile). length all ≤ at) c.as_slice-all.ensures c.loop-file-test.false)
    c.loop-file.invariant.so_far
