use Rattle.std.proofs.Common.{◌∙◌, ap, sym}
use Rattle.std.specs.Prelude.{reverse}
use Rattle.std.proofs.lemmas.List.{reverse-reverse}
use Rattle.ods_untar.proofs.below.bare.Goals as goal

pub returns : goal.returns
returns c = sym (ap reverse (c.loop-front.invariant ∙ c.in_default.ensures) ∙ reverse-reverse c.loop-front.rest.now)
