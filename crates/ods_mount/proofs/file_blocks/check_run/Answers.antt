use Rattle.std.proofs.Common.{◌≡◌, ℕ, ◌+◌, ◌∙◌, refl, subst, arith}
use Rattle.ods_mount.specs.Checks.{IsPassed}
use Rattle.ods_mount.proofs.Passing.{holds_run}
use Rattle.ods_mount.proofs.file_blocks.check_run.Goals as goal

pub loop-j-init : goal.loop-j-init
loop-j-init c =
    let e : c.args.first ≡ c.args.first + 0 = omega arith in
    let P : ℕ → Type 0 = λ i. IsPassed c.args.disk.now.image.now c.args.disk.now.layout.now c.args.home_lbn c.args.number i c.args.held.now in
    record { passed = subst P e c.requires.passed; room = refl }

pub check_block-requires-clause-holds : goal.check_block-requires-clause-holds
check_block-requires-clause-holds c = holds_run c.args.disk.now.image.now c.args.disk.now.layout.now c.args.number c.args.first c.args.run.now c.loop-j.j c.requires.names c.loop-j-test.true

pub loop-j-preserved : goal.loop-j-preserved
loop-j-preserved c =
    let e : c.args.first + c.loop-j.j + 1 ≡ c.args.first + (c.loop-j.j + 1) = omega arith in
    let P : ℕ → Type 0 = λ i. IsPassed c.args.disk.now.image.now c.args.disk.now.layout.now c.args.home_lbn c.args.number i c.check_block.new.held in
    record { passed = subst P e c.in_default.ensures.ok; room = c.in_default.ensures.room ∙ c.loop-j.invariant.room }

pub returns-clause-ok : goal.returns-clause-ok
returns-clause-ok c =
    let end = c.loop-j.auto.j-end in
    let past = c.loop-j-test.false in
    let e : c.args.first + c.loop-j.j ≡ c.args.first + c.args.run.now.count = omega arith in
    let P : ℕ → Type 0 = λ i. IsPassed c.args.disk.now.image.now c.args.disk.now.layout.now c.args.home_lbn c.args.number i c.loop-j.held in
    subst P e c.loop-j.invariant.passed
