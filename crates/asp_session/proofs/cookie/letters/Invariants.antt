use Rattle.std.proofs.Common.{◌≡◌, ◌+◌, ◌-◌, ◌*◌, ◌++◌, ◌≤◌, drop, length, take}
use Rattle.rand_chacha.specs.ChaCha.{key_of}
use Rattle.asp_session.specs.Letters.{letters_of, number_letters, word_letters}
use Rattle.asp_session.proofs.cookie.letters.Given as goal

abbrev pub invariant-loop-place : goal.invariant-loop-place
invariant-loop-place l = record {
  in_range : l.place ≤ 8;
  long : length l.letters ≡ 24;
  same : number_letters 8 l.key ++ drop 8 l.letters ≡ number_letters l.place l.number ++ drop l.place l.letters;
}

abbrev pub decreases-loop-place : goal.decreases-loop-place
decreases-loop-place l = l.place

abbrev pub invariant-loop-place-2 : goal.invariant-loop-place-2
invariant-loop-place-2 l = record {
  letters :
      letters_of l.seed l.key
      ≡ take l.place l.letters ++ word_letters l.seed (24 - l.place) (16 * (l.key - 1) + (l.place - 8));
  long : length l.letters ≡ 24;
  key : l.words.key ≡ key_of l.seed;
  stream : l.words.stream ≡ 0;
  at : l.words.word_pos ≡ 16 * (l.key - 1) + (l.place - 8);
}
