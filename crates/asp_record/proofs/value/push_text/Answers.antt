use Rattle.std.proofs.Common.{◌≡◌, ℕ, ◌+◌, ◌<◌, List, [], ◌∷◌, ◌++◌, length, get_or, take, refl, sym, ap, ◌∙◌}
use Rattle.std.proofs.Common.{append_assoc, append-nil}
use Rattle.std.specs.Char.{encode_utf8}
use Rattle.std.specs.Prelude.{encode_utf8_all}
use Rattle.std.proofs.lemmas.Grind.{flat_map-append}
use Rattle.std.proofs.lemmas.List.{take_more}
use Rattle.std.proofs.lemmas.Str.{encodes-append}
use Rattle.asp_record.specs.Lines.{hex, hex_byte}
use Rattle.asp_record.proofs.Ranges.{scalars_more}
use Rattle.asp_record.proofs.value.push_text.Goals as goal

none_written : (initial : List ℕ) → initial ≡ initial ++ hex []
unfolding hex
none_written initial = sym (append-nil initial)

hex-append : (bytes more : List ℕ) → hex (bytes ++ more) ≡ hex bytes ++ hex more
unfolding hex
hex-append bytes more = flat_map-append hex_byte bytes more

-- one character more
next_written : (text : List ℕ) (i character : ℕ) (initial before after : List ℕ) → character ≡ get_or text i character
    → i < length text → before ≡ initial ++ hex (encode_utf8_all (take i text))
    → after ≡ before ++ hex (encode_utf8 character) → after ≡ initial ++ hex (encode_utf8_all (take (i + 1) text))
next_written text i character initial before after is within was after_is =
    let first = encode_utf8_all (take i text) in
    let one : encode_utf8_all (get_or text i character ∷ []) ≡ encode_utf8 character =
    append-nil (encode_utf8 (get_or text i character)) ∙ ap encode_utf8 (sym is) in
    let bytes : encode_utf8_all (take (i + 1) text) ≡ first ++ encode_utf8 character =
    ap encode_utf8_all (take_more text i character within)
    ∙ encodes-append (take i text) (get_or text i character ∷ []) ∙ ap (λ l. first ++ l) one in
    after_is ∙ ap (λ l. l ++ hex (encode_utf8 character)) was
    ∙ append_assoc initial (hex first) (hex (encode_utf8 character))
    ∙ ap (λ l. initial ++ l) (sym (ap hex bytes ∙ hex-append first (encode_utf8 character)))

pub loop-character-init : goal.loop-character-init
loop-character-init c = (none_written c.append_slice.new.self, refl)

pub loop-character-preserved : goal.loop-character-preserved
loop-character-preserved c = (
  next_written c.as_slice-character-items.result.now c.loop-character.character-index c.character-item.result
      c.append_slice.new.self c.loop-character.bytes c.push_character.new.bytes c.character-item.is
      c.loop-character-test.true c.loop-character.invariant.0 c.in_ok-push_character.ensures.text,
  scalars_more c.as_slice-character-items.result.now c.loop-character.character-index c.character-item.result
      c.character-item.is c.loop-character-test.true c.loop-character.invariant.1 c.push_character.ensures.ranged,
)
