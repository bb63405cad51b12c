use Rattle.std.proofs.Common.{rules, ◌≡◌, ◌≤◌, ◌∙◌, ap, length, map}
use Rattle.std.proofs.lemmas.List.{length-map, take_all}
use Rattle.ods_files.specs.Body.{padded}
use Rattle.ods_shell.specs.Former.{left_lbn}
use Rattle.ods_shell.proofs.LeftBlocks.{left_all}
use Rattle.ods_shell.proofs.former.left_lbns.Goals as goal

pub returns-clause-size : goal.returns-clause-size
returns-clause-size c =
    let I = c.args.disk.now.image.now in
    let L = c.args.disk.now.layout.now in
    let past : length c.args.lbns.now ≤ c.loop-lbn.lbn-index = search rules in
    let all : c.loop-lbn.left.items ≡ map (left_lbn I L) c.args.lbns.now = c.loop-lbn.invariant ∙ ap (map (left_lbn I L)) (take_all c.loop-lbn.lbn-index c.args.lbns.now past) in
    ap length all ∙ length-map c.args.lbns.now (left_lbn I L)

pub returns-clause-blocks : goal.returns-clause-blocks
returns-clause-blocks c =
    let I = c.args.disk.now.image.now in
    let L = c.args.disk.now.layout.now in
    let past : length c.args.lbns.now ≤ c.loop-lbn.lbn-index = search rules in
    let all : c.loop-lbn.left.items ≡ map (left_lbn I L) c.args.lbns.now = c.loop-lbn.invariant ∙ ap (map (left_lbn I L)) (take_all c.loop-lbn.lbn-index c.args.lbns.now past) in
    ap (padded I) all ∙ left_all I L c.args.lbns.now
