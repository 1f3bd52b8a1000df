-- A seed that is read is the seed that was written, and what was written is read again.
use Rattle.std.proofs.Common.{◌≡◌, ℕ, zero, suc, ◌/◌, ◌%◌, ◌<◌, Bool, true, false, cond, ltb, eqb, ◌&&◌, List, [], ◌∷◌}
use Rattle.std.proofs.Common.{◌++◌}
use Rattle.std.proofs.Common.{length, get_or, take, drop, Option, Some, None, Result, Ok, Err, refl, sym, ap, ◌∙◌}
use Rattle.std.proofs.Common.{arith}
use Rattle.std.specs.Fmt.{digit_glyph}
use Rattle.std.specs.Str.{bytes_eq}
use Rattle.std.proofs.lemmas.Bool.{le-ltb}
use Rattle.std.proofs.lemmas.Bool.Decides.{Decides-below_and, Decides-eqb}
use Rattle.std.proofs.lemmas.List.{take_at, drop_at, take-append-drop, length-append}
use Rattle.std.proofs.lemmas.Option.{cond_some}
use Rattle.std.proofs.lemmas.Slice.Eq.{bytes_eq-Decides}
use Rattle.hex.specs.Hex.{IsBytes, decode_pairs, decode_sized, encode_lower, encode_with, lower_digits}
use Rattle.hex.specs.declared.error.FromHexError.{FromHexError}
use Rattle.hex.specs.declared.error.FromHexError.TheVariants.{InvalidStringLength, OddLength}
use Rattle.hex.proofs.HexLemmas.{decode_pairs-ok, decode_sized-encode_lower, length-encode_with}
use Rattle.asp_record.specs.Lines.{hex}
use Rattle.asp_record.specs.Fields.{◌>>=◌, in_lower_case, seed_at}
use Rattle.asp_record.proofs.FieldLaws.{step_is}

abbrev all_same : ℕ → Bool
all_same zero = true
all_same (suc n) = eqb (get_or lower_digits n 0) (digit_glyph false n) && all_same n

glyph : (n : ℕ) → n < 16 → get_or lower_digits n 0 ≡ digit_glyph false n
glyph =
    (Decides-below_and (λ n. eqb (get_or lower_digits n 0) (digit_glyph false n))
    (λ n. get_or lower_digits n 0 ≡ digit_glyph false n) all_same
    (λ n. Decides-eqb (get_or lower_digits n 0) (digit_glyph false n)) refl (λ _. refl) 16).0 refl

pub hex_is : (bytes : List ℕ) → IsBytes bytes → encode_lower bytes ≡ hex bytes
unfolding hex encode_with
hex_is [] fits = refl
hex_is (b ∷ bytes) fits =
    let high = glyph (b / 16) (omega (arith, fits 0)) in
    let low = glyph (b % 16) (omega arith) in
    let more = hex_is bytes (λ i. fits (suc i)) in
    rw (high, low, more) refl

pub seed_again : (seed rest : List ℕ) → length seed ≡ 32 → IsBytes seed → seed_at (hex seed ++ rest) ≡ Some (seed, rest)
unfolding seed_at
seed_again seed rest size fits =
    let text = encode_lower seed in
    let sixty_four : length text ≡ 64 = omega (arith, length-encode_with lower_digits seed, size) in
    let long : ltb (length (text ++ rest)) 64 ≡ false =
    le-ltb _ _ (omega (arith, length-append text rest, sixty_four)) in
    let whole : seed_at (text ++ rest) ≡ Some (seed, rest) =
    rw (
      long,
      take_at text rest 64 sixty_four,
      drop_at text rest 64 sixty_four,
      decode_sized-encode_lower seed 32 size fits,
      (bytes_eq-Decides text text).1 refl,
    ) refl in
    ap (λ l. seed_at (l ++ rest)) (sym (hex_is seed fits)) ∙ whole

lower_is : (text seed : List ℕ) (read : Result (List ℕ) FromHexError) → in_lower_case text read ≡ Some seed
    → (encode_lower seed ≡ text) × (read ≡ Ok seed)
lower_is text seed (Ok found) e =
    let g = cond_some (bytes_eq (encode_lower found) text) found seed e in
    (ap encode_lower (sym g.1) ∙ (bytes_eq-Decides (encode_lower found) text).0 g.0, ap Ok g.1)
lower_is text seed (Err stop) e = absurd cc

paired : (odd same : Bool) (read : Result (List ℕ) FromHexError) (stop other : FromHexError) (seed : List ℕ)
    → cond odd (Err stop) (cond same read (Err other)) ≡ Ok seed → read ≡ Ok seed
paired true same read stop other seed e = absurd cc
paired false true read stop other seed e = e
paired false false read stop other seed e = absurd cc

other_step : {A : Type 0} (b : Bool) (o : Option A) (y : A) → cond b None o ≡ Some y → (b ≡ false) × (o ≡ Some y)
other_step true o y e = absurd cc
other_step false o y e = (refl, e)

pub seed_is : (bytes seed rest : List ℕ) → seed_at bytes ≡ Some (seed, rest) → bytes ≡ hex seed ++ rest
unfolding seed_at
seed_is bytes seed rest e =
    let read = in_lower_case (take 64 bytes) (decode_sized (take 64 bytes) 32) in
    let g = other_step (ltb (length bytes) 64) (read >>= λ found. Some (found, drop 64 bytes)) (seed, rest) e in
    let s = step_is read (λ found. Some (found, drop 64 bytes)) (seed, rest) g.1 in
    let found = s.0 in
    let seed_same : found ≡ seed =
    ap (λ (p : Option (List ℕ × List ℕ)). elim p as (λ _. List ℕ) [ Some q ↦ q.0 | None ↦ [] ]) s.2 in
    let rest_same : drop 64 bytes ≡ rest =
    ap (λ (p : Option (List ℕ × List ℕ)). elim p as (λ _. List ℕ) [ Some q ↦ q.1 | None ↦ [] ]) s.2 in
    let digits = take 64 bytes in
    let lower = lower_is digits found (decode_sized digits 32) s.1 in
    let pairs = paired (eqb (length digits % 2) 1) (eqb (length digits / 2) 32)
    (decode_pairs 0 digits) OddLength InvalidStringLength found lower.1 in
    let fits : IsBytes found = (decode_pairs-ok 0 digits found pairs).2 in
    sym (take-append-drop 64 bytes) ∙ ap (λ l. l ++ drop 64 bytes) (sym lower.0 ∙ hex_is found fits)
    ∙ ap (λ l. hex l ++ drop 64 bytes) seed_same ∙ ap (λ l. hex seed ++ l) rest_same
