use Rattle.std.proofs.Common.{arith}
use Rattle.std.proofs.lemmas.Bool.{ltb-true, lt-ltb}
use Rattle.ods_text.specs.Cuts.{is}
use Rattle.ods_text.proofs.Firsts.{first_is}
use Rattle.ods_text.proofs.cuts.has_byte.Goals as goal

pub returns : goal.returns
returns c = (
  λ t. omega (arith, first_is (is c.args.byte) c.args.text.now c.place_of.result c.place_of.ensures, ltb-true _ _ t),
  λ h. lt-ltb _ _ (omega (arith, first_is (is c.args.byte) c.args.text.now c.place_of.result c.place_of.ensures, h)),
)
