use Rattle.std.proofs.Common.{◌≡◌, IfOk, subst, rules, true}
use Rattle.std.specs.Prelude.{MatchBool}
use Rattle.f11fs.specs.Mended.{HasNoLost, Wholly}
use Rattle.f11fs.proofs.Whole.{entered}
use Rattle.f11fs.proofs.mending_sound.enter_all.Goals as goal

pub returns-in-Some-clause-leaves : goal.returns-in-Some-clause-leaves
returns-in-Some-clause-leaves c =
    entered c.enter_in.result c.args.wishes.now.stamp c.args.wishes.now.into c.args.filing.now c.directory_for.new.filing c.enter_in.new.filing c.in-Some.dir (search rules) c.enter_in.ensures.leaves

pub returns-in-Some-clause-whole : goal.returns-in-Some-clause-whole
returns-in-Some-clause-whole c =
    let same : c.directory_for.new.report.is_left ≡ c.args.report.now.is_left = search rules in
    subst (λ b. IfOk c.enter_in.result (λ all. MatchBool all (Wholly b c.enter_in.new.report.is_left (HasNoLost c.enter_in.new.filing)) (c.enter_in.new.report.is_left ≡ true))) same c.enter_in.ensures.whole
