use Rattle.std.proofs.Common.{◌≡◌, ap, Err}
use Rattle.ods_volume.proofs.volume.Volume.request.Goals as goal

pub returns-in-Ok-clause-refused : goal.returns-in-Ok-clause-refused
returns-in-Ok-clause-refused c = λ C f room present e. let wrong = c.in-Ok.ensures.refused C f room present e in absurd (cc)

pub returns-in-Err-clause-refused : goal.returns-in-Err-clause-refused
returns-in-Err-clause-refused c = λ C f room present e.
    let known = c.in-Err.ensures.refused C f room present e in
    let is : c.in-Err.refusal ≡ f = cc in
    ap (λ r. Err r) is
