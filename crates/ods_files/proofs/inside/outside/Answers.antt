use Rattle.std.proofs.Common.{arith, subst, List, ℕ}
use Rattle.std.proofs.lemmas.List.{take_all}
use Rattle.ods_space.specs.Files.{AreInside}
use Rattle.ods_space.proofs.Surveyed.{inside_more}
use Rattle.ods_files.proofs.inside.outside.Goals as goal

pub loop-lbn-preserved : goal.loop-lbn-preserved
loop-lbn-preserved c = inside_more c.args.image.now c.args.lbns.now c.loop-lbn.lbn-index c.loop-lbn-test.true (omega (arith, c.len-len.ensures.value, c.if-len-lbn.false)) c.loop-lbn.invariant

pub returns-clause-none : goal.returns-clause-none
returns-clause-none c =
    let P : List ℕ → Type 0 = λ l. AreInside c.args.image.now l in
    subst P (take_all c.loop-lbn.lbn-index c.args.lbns.now c.loop-lbn-test.false) c.loop-lbn.invariant
