-- What is heard on a connection, piece after piece.
use Rattle.std.proofs.Common.{◌≡◌, ℕ, ◌<◌, ◌≤◌, ◌^◌, ◌++◌, List, [], length, take, refl, ap, sym, ◌∙◌, subst, append-nil}
use Rattle.std.proofs.Common.{append_assoc, Option, Some, None, IfSome}
use Rattle.std.specs.Prelude.{option_map}
use Rattle.asp_io.specs.Faults.{HasRisen}
use Rattle.asp_io.specs.Source.{Reads}
use Rattle.http_front.specs.Reader.{Wants}
use Rattle.asp_serve.specs.declared.reading.Heard.{Heard}
use Rattle.asp_serve.specs.declared.reading.Heard.TheVariants as heard
use Rattle.asp_serve.specs.Served.{LinkView}
use Rattle.asp_serve.specs.Steps.{HasFed, HasHeard, Hears}
use Rattle.asp_serve.proofs.Links.{moves_none, moves_then, reads_move, risen_then}

-- nothing was read
pub fed_none : (a : LinkView) (bytes : List ℕ) → HasFed a a bytes bytes
fed_none a bytes = record { came = []; moves = moves_none a; fed = sym (append-nil bytes) }

pub fed_then : (a b c : LinkView) (first mid rest : List ℕ) → HasFed a b first mid → HasFed b c mid rest
    → HasFed a c first rest
fed_then a b c first mid rest x y = record {
  came = x.came ++ y.came;
  moves = moves_then a b c x.came y.came [] [] x.moves y.moves;
  fed = y.fed ∙ ap (λ l. l ++ y.came) x.fed ∙ append_assoc first x.came y.came;
}

hears_later : (a b c : LinkView) (bytes rest : List ℕ) (told : Heard) → a.faults ≤ b.faults → Hears b c bytes told rest
    → Hears a c bytes told rest
hears_later a b c bytes rest (heard.Request request) later x = x
hears_later a b c bytes rest (heard.Refused status) later x = x
hears_later a b c bytes rest heard.End later x = x
hears_later a b c bytes rest heard.Fault later x = (x.0, risen_then a.faults b.faults c.faults later x.1)
hears_later a b c bytes rest heard.Memory later x = x

pub heard_then : (a b c : LinkView) (first mid rest : List ℕ) (told : Heard) → HasFed a b first mid
    → HasHeard b c mid told rest → HasHeard a c first told rest
heard_then a b c first mid rest told x y = record {
  came = x.came ++ y.came;
  moves = moves_then a b c x.came y.came [] [] x.moves y.moves;
  hears = subst (λ bytes. Hears a c bytes told rest)
      (ap (λ l. l ++ y.came) x.fed ∙ append_assoc first x.came y.came)
      (hears_later a b c (mid ++ y.came) rest told x.moves.later y.hears);
}

-- what the reader has gives
pub heard_given : (a : LinkView) (bytes rest : List ℕ) (told : Heard) → Hears a a bytes told rest
    → HasHeard a a bytes told rest
heard_given a bytes rest told x = record {
  came = [];
  moves = moves_none a;
  hears = subst (λ l. Hears a a l told rest) (sym (append-nil bytes)) x;
}

-- a read of a piece, whole or failed
pub piece_fed : (a b : LinkView) (bytes old piece : List ℕ) (count : ℕ) → Reads a.left b.left old piece count
    → b.held ≡ a.held → a.faults ≤ b.faults → (a.faults < 2 ^ 64 → b.faults < 2 ^ 64)
    → HasFed a b bytes (bytes ++ take count piece)
piece_fed a b bytes old piece count reads same later within = record {
  came = take count piece;
  moves = reads_move a b (take count piece) reads.came same later within;
  fed = refl;
}

pub piece_lost : (a b : LinkView) (bytes rest old piece : List ℕ) (count : ℕ) → Reads a.left b.left old piece count
    → b.held ≡ a.held → a.faults ≤ b.faults → (a.faults < 2 ^ 64 → b.faults < 2 ^ 64)
    → HasHeard a b bytes heard.Memory rest
piece_lost a b bytes rest old piece count reads same later within = record {
  came = take count piece;
  moves = reads_move a b (take count piece) reads.came same later within;
  hears = tt;
}

none_left : (piece : List ℕ) (a b : Option (List ℕ)) → a ≡ option_map (λ (after : List ℕ). take 0 piece ++ after) b
    → IfSome a (λ bytes. bytes ≡ []) → IfSome b (λ bytes. bytes ≡ [])
none_left piece a None is over = tt
none_left piece None (Some l) is over = absurd cc
none_left piece (Some k) (Some l) is over = let same : k ≡ l = cc in sym same ∙ over

pub piece_over : (a b : LinkView) (bytes old piece : List ℕ) (count : ℕ) → Wants bytes
    → Reads a.left b.left old piece count → count ≡ 0 → 0 < length old → b.held ≡ a.held → a.faults ≤ b.faults
    → (a.faults < 2 ^ 64 → b.faults < 2 ^ 64) → HasHeard a b bytes heard.End bytes
piece_over a b bytes old piece count wants reads zero some same later within =
    let came : a.left ≡ option_map (λ (after : List ℕ). take 0 piece ++ after) b.left =
    reads.came ∙ ap (λ n. option_map (λ (after : List ℕ). take n piece ++ after) b.left) zero in
    record {
      came = [];
      moves = reads_move a b [] came same later within;
      hears = (
        subst Wants (sym (append-nil bytes)) wants,
        sym (append-nil bytes),
        none_left piece a.left b.left came (reads.ends some zero),
      );
    }

pub piece_failed : (a b : LinkView) (bytes rest : List ℕ) → Wants bytes → b.left ≡ a.left → b.held ≡ a.held
    → a.faults ≤ b.faults → (a.faults < 2 ^ 64 → b.faults < 2 ^ 64) → HasRisen a.faults b.faults
    → HasHeard a b bytes heard.Fault rest
piece_failed a b bytes rest wants left same later within risen = record {
  came = [];
  moves = reads_move a b [] (sym left ∙ (moves_none b).came_is) same later within;
  hears = (subst Wants (sym (append-nil bytes)) wants, risen);
}

pub fed_same : (a b : LinkView) (first mid rest : List ℕ) → rest ≡ mid → HasFed a b first mid → HasFed a b first rest
fed_same a b first mid rest same x = record { came = x.came; moves = x.moves; fed = same ∙ x.fed }
