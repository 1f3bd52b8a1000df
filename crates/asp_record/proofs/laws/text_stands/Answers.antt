use Rattle.std.proofs.Common.{refl}
use Rattle.asp_record.proofs.laws.text_stands.Goals as goal

pub returns : goal.returns
returns c version recording rest sound says short = record {
  sound = sound;
  version = version;
  says = says;
  begins = (rest, refl);
  ends = refl;
  short = short;
}
