use Rattle.std.proofs.Common.{◌≡◌, take, length, ap, ◌∙◌, arith}
use Rattle.std.specs.Prelude.{min}
use Rattle.std.proofs.lemmas.List.{take_min}
use Rattle.http_front.proofs.found.window.Goals as goal

pub returns : goal.returns
returns c =
    let bytes = c.args.bytes.now in
    let e : c.min.result ≡ min 16384 (length bytes) = omega (arith, c.min.ensures) in
    ap (λ k. take k bytes) e ∙ take_min 16384 bytes
