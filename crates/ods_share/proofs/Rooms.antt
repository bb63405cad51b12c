-- The room that is left for the calls of a script, one command further.
use Rattle.std.proofs.Common.{◌≡◌, ◌≤◌, ◌+◌, ◌∷◌, List, ℕ, arith, ap, ◌∙◌}
use Rattle.std.proofs.lemmas.List.Sums.{sum_by-cons}
use Rattle.ods_ask.specs.declared.script.Command.{Command}
use Rattle.ods_share.specs.Sittings.{room_of, room_for}

pub room_left : (left : List Command) (c : Command) (cs : List Command) (was now room more : ℕ) → left ≡ c ∷ cs → was + room_for left ≤ room → now ≤ was + room_of c.action → more ≡ room → now + room_for cs ≤ more
room_left left c cs was now room more is fits calls same =
    let sum : room_for left ≡ room_of c.action + room_for cs = ap room_for is ∙ sum_by-cons (λ (x : Command). room_of x.action) c cs in
    omega (arith, sum, fits, calls, same)
