-- A piece that is written by several calls.
use Rattle.std.proofs.Common.{◌≡◌, ℕ, ◌+◌, ◌-◌, List, ◌++◌, Option, None, Some}
use Rattle.std.proofs.Common.{length, take, drop, refl, ◌∙◌, ap, sym, append_assoc}
use Rattle.std.proofs.lemmas.List.{take_rest}
use Rattle.std.proofs.Math.Seq.{take-add}
use Rattle.asp_io.specs.Sink.{with_bytes, Writes}

-- bytes added in two steps
pub with_bytes-append : (held : Option (List ℕ)) (first second : List ℕ)
    → with_bytes (with_bytes held first) second ≡ with_bytes held (first ++ second)
with_bytes-append None first second = refl
with_bytes-append (Some before) first second = ap Some (append_assoc before first second)

-- a write from the rest of a piece whose first bytes were added before
pub written_more : (before old new : Option (List ℕ)) (piece : List ℕ) (taken count : ℕ)
    → old ≡ with_bytes before (take taken piece)
    → Writes old new (take (length piece - taken) (drop taken piece)) count
    → new ≡ with_bytes before (take (taken + count) piece)
written_more before old new piece taken count was writes =
    let bytes = take count (drop taken piece) in
    let added : new ≡ with_bytes old bytes =
    writes.added ∙ ap (λ rest. with_bytes old (take count rest)) (take_rest piece taken) in
    added ∙ ap (λ held. with_bytes held bytes) was ∙ with_bytes-append before (take taken piece) bytes
    ∙ ap (with_bytes before) (sym (take-add taken count piece))
