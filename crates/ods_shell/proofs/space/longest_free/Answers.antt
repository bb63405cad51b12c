use Rattle.std.proofs.Common.{rules, ◌≡◌, ◌≤◌, ◌+◌, subst, sym, length, arith}
use Rattle.ods_shell.proofs.Runs.{IsLongestTo, longest_more, longest_of_all}
use Rattle.ods_shell.proofs.space.longest_free.Goals as goal

pub loop-lbn-preserved : goal.loop-lbn-preserved
loop-lbn-preserved c =
    let run = c.run_to-run.ensures c.loop-lbn.invariant.0 in
    (run, subst (IsLongestTo c.args.disk.now.image.now c.args.disk.now.layout.now (c.loop-lbn.lbn + 1)) (sym c.larger-longest.ensures) (longest_more c.args.disk.now.image.now c.args.disk.now.layout.now c.loop-lbn.lbn c.loop-lbn.longest c.run_to-run.result c.loop-lbn.invariant.1 run))

pub returns : goal.returns
returns c =
    let within : c.loop-lbn.lbn ≤ length c.args.disk.now.image.now = search rules in
    let past : length c.args.disk.now.image.now ≤ c.loop-lbn.lbn = search rules in
    let end : c.loop-lbn.lbn ≡ length c.args.disk.now.image.now = omega arith in
    longest_of_all c.args.disk.now.image.now c.args.disk.now.layout.now c.loop-lbn.longest (subst (λ n. IsLongestTo c.args.disk.now.image.now c.args.disk.now.layout.now n c.loop-lbn.longest) end c.loop-lbn.invariant.1)
