use Rattle.std.proofs.Common.{rules, ◌≡◌, ◌+◌, min, arith}
use Rattle.ods_upkeep.specs.NameCounts.{count_in, most}
use Rattle.ods_upkeep.proofs.Superseding.{counted_by}
use Rattle.ods_upkeep.proofs.purging.count_one.Goals as goal

pub returns-clause-after : goal.returns-clause-after
returns-clause-after c =
    let before : c.unwrap_or-before.result ≡ count_in c.args.counts.now.entries c.args.name = search rules in
    let more : c.saturating_add.result ≡ min (count_in c.args.counts.now.entries c.args.name + 1) most = omega (arith, c.saturating_add.ensures, before) in
    counted_by c.args.counts.now c.insert.new.self c.args.name c.saturating_add.result more c.in_ok-insert.ensures.updates
