use Rattle.std.proofs.Common.{◌∙◌, ◌-◌, ℕ, ap, arith}
use Rattle.std.proofs.lemmas.List.{length-set}
use Rattle.rand_chacha.specs.ChaCha.{ChaCha, word_at}
use Rattle.asp_session.specs.Letters as spec
use Rattle.asp_session.proofs.Spelling.{key_back, number_done, number_step, word_done, word_step}
use Rattle.asp_session.proofs.cookie.letters.Goals as goal

pub loop-place-preserved : goal.loop-place-preserved
loop-place-preserved c =
    let inside = c.loop-place.invariant.in_range in
    let more = c.loop-place-test.true in
    record {
      in_range = omega arith;
      long = length-set c.loop-place.letters (c.loop-place.place - 1) c.letter.result ∙ c.loop-place.invariant.long;
      same =
          number_step c.args.key c.loop-place.number (c.loop-place.place - 1) c.loop-place.place c.letter.result
          c.loop-place.letters (omega arith) (omega arith) c.letter.ensures c.loop-place.invariant.long
          c.loop-place.invariant.same;
    }

pub loop-place-2-init : goal.loop-place-2-init
loop-place-2-init c =
    let place = c.loop-place-test.false in
    let fits = c.ranges.key.fits in
    record {
      letters =
          number_done c.args.seed.now c.loop-place.letters c.args.key c.loop-place.number c.loop-place.place (omega arith)
          c.loop-place.invariant.same;
      long = c.loop-place.invariant.long;
      key =
          ap (λ (words : ChaCha). words.key) c.set_word_pos.ensures
          ∙ ap (λ (words : ChaCha). words.key) c.from_seed-words.ensures;
      stream =
          ap (λ (words : ChaCha). words.stream) c.set_word_pos.ensures
          ∙ ap (λ (words : ChaCha). words.stream) c.from_seed-words.ensures;
      at = ap (λ (words : ChaCha). words.word_pos) c.set_word_pos.ensures ∙ omega arith;
    }

pub loop-place-2-preserved : goal.loop-place-2-preserved
loop-place-2-preserved c =
    let word = ap (λ (p : ℕ × ChaCha). p.0) c.next_word.ensures in
    let after = ap (λ (p : ℕ × ChaCha). p.1) c.next_word.ensures in
    let kept = c.loop-place-2.invariant in
    let within = c.loop-place-2-test.true in
    let from = c.loop-place-2.auto.place in
    let fits = c.ranges.key.fits in
    record {
      letters =
          word_step c.args.seed.now c.loop-place-2.letters c.args.key c.loop-place-2.place c.next_word.result
          c.letter-in-loop-place-2.result (omega arith) (omega arith) kept.long
          (word ∙ (λ i. word_at 10 (kept.key i) (kept.stream i) (kept.at i))) c.letter-in-loop-place-2.ensures
          kept.letters;
      long =
          length-set c.loop-place-2.letters c.loop-place-2.place c.letter-in-loop-place-2.result ∙ kept.long;
      key = ap (λ (words : ChaCha). words.key) after ∙ kept.key;
      stream = ap (λ (words : ChaCha). words.stream) after ∙ kept.stream;
      at =
          ap (λ (words : ChaCha). words.word_pos) after
          ∙ (let at = kept.at in omega arith);
    }

pub returns-clause-letters : goal.returns-clause-letters
returns-clause-letters c =
    let end = c.loop-place-2-test.false in
    let within = c.loop-place-2.auto.place-end in
    word_done c.args.seed.now c.loop-place-2.letters c.args.key c.loop-place-2.place (omega arith)
    c.loop-place-2.invariant.long c.loop-place-2.invariant.letters

pub returns-clause-read_back : goal.returns-clause-read_back
returns-clause-read_back c =
    let end = c.loop-place-2-test.false in
    let within = c.loop-place-2.auto.place-end in
    let is = word_done c.args.seed.now c.loop-place-2.letters c.args.key c.loop-place-2.place (omega arith)
    c.loop-place-2.invariant.long c.loop-place-2.invariant.letters in
    λ below. ap (spec.key_of_letters c.args.seed.now) is ∙ key_back c.args.seed.now c.args.key c.requires below
