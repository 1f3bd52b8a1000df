-- Whether with a looser rule something goes on at a fault, told by how far the looser reader comes.
use Rattle.std.proofs.Common.{◌≡◌, ℕ, ◌<◌, ◌≤◌, [], ◌∷◌, length, Ok, Err, refl, arith}
use Rattle.vb_syntax.specs.grammar.Rules.{Tokens, Rule}
use Rattle.vb_syntax.specs.grammar.Faults.{IsFault, WouldGoOn}
use Rattle.vb_parse.specs.Outcome.{Leaves}
use Rattle.vb_read.specs.Reader.{Outcome, Reader, whole}
use Rattle.vb_read.proofs.Theorems.{Fits, sound, stops_at_fault, looser_reads, looser_further, looser_stops}

module _ {A : Type 0} (r : Rule A) (p : Reader A) (s : Rule A) (fit : Fits p s) where
  reads_on : (tokens left : Tokens) (f : IsFault r tokens left) (x : A) → s tokens x → 0 < length left
      → WouldGoOn s f.front left
  reads_on tokens [] f x h some = absurd (omega arith)
  reads_on tokens (token ∷ rest) f x h some = looser_reads r s tokens token rest x f h

  nothing_left : (tokens left : Tokens) (f : IsFault r tokens left) → length left ≤ 0 → ¬ (WouldGoOn s f.front left)
  nothing_left tokens [] f none = λ w. w
  nothing_left tokens (token ∷ rest) f none = absurd (omega arith)

  -- the looser reader leaves fewer tokens
  pub would_go_on : (tokens left : Tokens) (count : ℕ) (f : IsFault r tokens left) → Leaves (whole p tokens) count
      → count < length left → WouldGoOn s f.front left
  would_go_on tokens left count f leaves less = go (whole p tokens) refl leaves
    where
      go : (o : Outcome A) → whole p tokens ≡ o → Leaves o count → WouldGoOn s f.front left
      go (Ok q) is none = reads_on tokens left f q.0 (sound p s fit tokens q.1 q.0 is) (omega arith)
      go (Err other) is same = looser_further r s tokens left other f (stops_at_fault p s fit tokens other is)
          (omega arith)

  -- the looser reader leaves as many
  pub would_not_go_on : (tokens left : Tokens) (count : ℕ) (f : IsFault r tokens left) → Leaves (whole p tokens) count
      → length left ≤ count → ¬ (WouldGoOn s f.front left)
  would_not_go_on tokens left count f leaves more = go (whole p tokens) refl leaves
    where
      go : (o : Outcome A) → whole p tokens ≡ o → Leaves o count → ¬ (WouldGoOn s f.front left)
      go (Ok q) is none = nothing_left tokens left f (omega arith)
      go (Err other) is same = looser_stops r s tokens left other f (stops_at_fault p s fit tokens other is)
          (omega arith)
