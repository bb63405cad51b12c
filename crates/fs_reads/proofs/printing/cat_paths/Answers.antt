use Rattle.std.proofs.Common.{◌≡◌, ◌≤◌, ℕ, List, rules, true, length, refl, Bor}
use Rattle.fs_reads.specs.Cats.{IsPathOutput}
use Rattle.fs_reads.specs.Ends.{may_name}
use Rattle.fs_reads.proofs.FilesGot.{either_holds}
use Rattle.fs_reads.proofs.Parting.{held_all, held_next, none_held}
use Rattle.fs_reads.proofs.printing.cat_paths.Goals as goal

pub loop-path-init : goal.loop-path-init
loop-path-init g c =
    let Has : Bor (List ℕ) → List (List ℕ) → Type 0 = λ path. IsPathOutput c.args.disk.now.image.now c.args.disk.now.layout.now c.args.wanted c.args.reader.user c.args.closed.now path.now in
    record { may = refl; held = none_held (λ bytes. bytes) Has c.args.paths.now (g.W.Write.contents c.args.writer.now) }

pub loop-path-preserved : goal.loop-path-preserved
loop-path-preserved g c =
    let Has : Bor (List ℕ) → List (List ℕ) → Type 0 = λ path. IsPathOutput c.args.disk.now.image.now c.args.disk.now.layout.now c.args.wanted c.args.reader.user c.args.closed.now path.now in
    let old = c.loop-path.status in
    let s = c.in_ok-cat_path.field-0 in
    let new = c.or-status.result in
    let mid = g.W.Write.contents c.loop-path.writer in
    let now = g.W.Write.contents c.cat_path.new.writer in
    record {
      may = either_holds (λ x. may_name x ≡ true) old s new c.or-status.ensures.done c.or-status.ensures.fault c.loop-path.invariant.may c.in_ok-cat_path.ensures.status;
      held = held_next (λ bytes. bytes) Has c.args.paths.now c.loop-path.path-index _ (g.W.Write.contents c.args.writer.now) mid now old s new c.loop-path-test.true c.or-status.ensures.done c.or-status.ensures.fault c.loop-path.invariant.held c.in_ok-cat_path.ensures.written;
    }

pub returns-clause-written : goal.returns-clause-written
returns-clause-written g c =
    let Has : Bor (List ℕ) → List (List ℕ) → Type 0 = λ path. IsPathOutput c.args.disk.now.image.now c.args.disk.now.layout.now c.args.wanted c.args.reader.user c.args.closed.now path.now in
    let past : length c.args.paths.now ≤ c.loop-path.path-index = search rules in
    held_all (λ bytes. bytes) Has c.args.paths.now c.loop-path.path-index (g.W.Write.contents c.args.writer.now) (g.W.Write.contents c.loop-path.writer) c.loop-path.status past c.loop-path.invariant.held
