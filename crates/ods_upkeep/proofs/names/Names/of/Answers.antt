use Rattle.std.proofs.Common.{◌≡◌, ◌+◌, ◌*◌, ◌^◌, ◌<◌, ◌≤◌, ◌∙◌, ap, subst, ◌++◌, length, arith}
use Rattle.std.proofs.lemmas.List.{length-append}
use Rattle.ods_space.specs.Layout.{last_number}
use Rattle.ods_upkeep.specs.Counted.{AreEntriesTo}
use Rattle.ods_upkeep.proofs.Counting.{entries_more}
use Rattle.ods_upkeep.proofs.names.Names.of.Goals as goal

pub loop-before-preserved : goal.loop-before-preserved
loop-before-preserved c =
    let I = c.args.volume.now.image in
    let L = c.args.volume.now.layout in
    let before = c.loop-before.invariant in
    let more = c.in_ok-add_directory.ensures in
    let few : length before.0 < 2 ^ 60 = omega (arith, before.3) in
    let size : length (before.0 ++ more.0) ≤ (c.loop-before.before + 1) * 2 ^ 32 = omega (arith, length-append before.0 more.0, before.3, more.2) in
    (before.0 ++ more.0, entries_more I L c.loop-before.before before.0 more.0 before.1 more.1, more.3 before.0 few before.2, size)

pub returns : goal.returns
returns c =
    let I = c.args.volume.now.image in
    let L = c.args.volume.now.layout in
    let all = c.loop-before.invariant in
    let end : c.loop-before.before ≡ c.last_number-before-end.result = omega arith in
    record { entries = all.0; all = subst (λ n. AreEntriesTo I L n all.0) (end ∙ c.last_number-before-end.ensures ∙ ap last_number c.layout.ensures.value) all.1; each = all.2 }
