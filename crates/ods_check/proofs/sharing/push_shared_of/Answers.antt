use Rattle.std.proofs.Common.{rules, ℕ, List, inl}
use Rattle.ods_space.specs.Files.{HasBlocks}
use Rattle.ods_check.proofs.Holding.{before_same}
use Rattle.ods_check.proofs.Pairs.{no_pair_behind}
use Rattle.ods_check.proofs.sharing.push_shared_of.Goals as goal

pub returns-in_default-clause-told : goal.returns-in_default-clause-told
returns-in_default-clause-told c m low =
    let none : (blocks : List ℕ) → ¬ HasBlocks c.args.disk.now.image.now c.args.disk.now.layout.now c.args.number blocks = search rules in
    inl (no_pair_behind c.args.disk.now.image.now c.args.disk.now.layout.now c.args.faults.now.0 m c.args.number (λ b h. none h.1.blocks h.1.file))

pub returns-in_default-clause-before : goal.returns-in_default-clause-before
returns-in_default-clause-before c =
    let none : (blocks : List ℕ) → ¬ HasBlocks c.args.disk.now.image.now c.args.disk.now.layout.now c.args.number blocks = search rules in
    before_same c.args.disk.now.image.now c.args.disk.now.layout.now c.args.number _ c.args.before.now (λ b h. none h.1.blocks h.1.file) c.requires.before
