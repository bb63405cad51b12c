use Rattle.std.proofs.Common.{rules, ◌≡◌, ◌≤◌, ◌++◌, ℕ, List, length, subst, string_bytes}
use Rattle.std.proofs.lemmas.List.{take_all}
use Rattle.fs_reads.specs.Deleted.{ShowsPaths}
use Rattle.fs_reads.proofs.DeletedShown.{shown_next, shown_none}
use Rattle.fs_reads.proofs.Growing.{extends_on, extends_same}
use Rattle.fs_reads.proofs.deleted.push_each.Goals as goal

pub loop-path-init : goal.loop-path-init
loop-path-init c = (
  shown_none c.args.disk.now.image.now c.args.disk.now.layout.now c.args.json c.args.image.now c.args.long c.args.paths.now (string_bytes c.args.text.now),
  extends_same (string_bytes c.args.text.now),
)

pub loop-path-preserved : goal.loop-path-preserved
loop-path-preserved c =
    let paths = c.args.paths.now in
    let start = string_bytes c.args.text.now in
    let old = string_bytes c.loop-path.text in
    let new = string_bytes c.push_path.new.text in (
      shown_next c.args.disk.now.image.now c.args.disk.now.layout.now c.args.json c.args.image.now c.args.long paths c.loop-path.path-index _ start old new c.loop-path-test.true c.in_ok-push_path.ensures.ok
          c.loop-path.invariant.0,
      extends_on start old new c.loop-path.invariant.1 c.push_path.ensures.extends,
    )

pub returns-clause-ok : goal.returns-clause-ok
returns-clause-ok c =
    let I = c.args.disk.now.image.now in
    let L = c.args.disk.now.layout.now in
    let start = string_bytes c.args.text.now in
    let now = string_bytes c.loop-path.text in
    let past : length c.args.paths.now ≤ c.loop-path.path-index = search rules in
    subst (λ ps. (more : List ℕ) × ShowsPaths I L c.args.json c.args.image.now c.args.long ps more × (now ≡ start ++ more)) (take_all c.loop-path.path-index c.args.paths.now past) c.loop-path.invariant.0
