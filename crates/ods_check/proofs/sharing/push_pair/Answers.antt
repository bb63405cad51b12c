use Rattle.std.proofs.Common.{rules, ℕ, List}
use Rattle.ods_space.specs.Files.{HasBlocks}
use Rattle.ods_check.proofs.Pairs.{no_pair, shared_of_pair}
use Rattle.ods_check.proofs.sharing.push_pair.Goals as goal

pub returns-in_default-clause-told : goal.returns-in_default-clause-told
returns-in_default-clause-told c =
    let none : (blocks : List ℕ) → ¬ HasBlocks c.args.disk.now.image.now c.args.disk.now.layout.now c.args.one blocks = search rules in
    no_pair c.args.disk.now.image.now c.args.disk.now.layout.now c.args.faults.now.0 c.args.one c.args.other (λ b h. none h.1.blocks h.1.file)

pub push_common-requires-clause-shared : goal.push_common-requires-clause-shared
push_common-requires-clause-shared c = shared_of_pair c.args.disk.now.image.now c.args.disk.now.layout.now c.args.one c.args.other c.args.own.now c.requires.before c.requires.own
