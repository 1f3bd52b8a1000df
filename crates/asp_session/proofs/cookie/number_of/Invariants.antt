use Rattle.std.proofs.Common.{◌≡◌, ◌*◌, ◌^◌, ◌<◌, take}
use Rattle.asp_session.specs.Letters.{number_of}
use Rattle.asp_session.proofs.cookie.number_of.Given as goal

abbrev pub invariant-loop-place : goal.invariant-loop-place
invariant-loop-place l = record {
  number : l.number ≡ number_of (take l.place l.letters);
  small : l.number < 256 * 64 ^ l.place;
}
