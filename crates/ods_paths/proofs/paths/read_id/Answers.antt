use Rattle.std.proofs.Common.{arith}
use Rattle.ods_paths.proofs.Ids.{no_comma, no_front, no_back, no_zero, the_id}
use Rattle.ods_paths.proofs.paths.read_id.Goals as goal

pub returns-in_default : goal.returns-in_default
returns-in_default c = no_comma c.args.text.now c.in_default.ensures.place

pub returns-in_default-read_small : goal.returns-in_default-read_small
returns-in_default-read_small c = no_front c.args.text.now c.in-Some.front.now c.in-Some.ensures.place.1 c.in_default-read_small.ensures

pub returns-in_default-read_small-2 : goal.returns-in_default-read_small-2
returns-in_default-read_small-2 c = no_back c.args.text.now c.in-Some.back.now c.in-Some.ensures.place.2 c.in_default-read_small-2.ensures

pub returns-then-number-eq0 : goal.returns-then-number-eq0
returns-then-number-eq0 c = no_zero c.args.text.now c.in-Some.front.now c.in-Some-read_small.number c.in-Some.ensures.place.1 c.in-Some-read_small.ensures c.if-number-eq0.true

pub returns : goal.returns
returns c = the_id c.args.text.now c.in-Some.front.now c.in-Some.back.now c.in-Some-read_small.number c.in-Some-read_small-2.sequence c.in-Some.ensures.place.0 c.in-Some.ensures.place.1 c.in-Some.ensures.place.2 c.in-Some-read_small.ensures c.in-Some-read_small-2.ensures (omega (arith, c.if-number-eq0.false))
