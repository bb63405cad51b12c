use Rattle.std.proofs.Common.{◌≡◌, ◌≤◌, ℕ, List, Option, rules, true, length, refl, get_or, subst}
use Rattle.ods_shell.specs.Contents.{IsGot, IsNotGot}
use Rattle.ods_shell.specs.declared.found.Found.{Found}
use Rattle.ods_shell.specs.declared.form.FormFault.{FormFault}
use Rattle.ods_shell.specs.declared.form.Remark.{Remark}
use Rattle.fs_reads.specs.Cats.{HoldsFiles, IsFileOutput}
use Rattle.fs_reads.specs.Ends.{may_name}
use Rattle.fs_reads.proofs.FilesGot.{either_holds, file_may}
use Rattle.fs_reads.proofs.Parting.{held_all, held_next, none_held}
use Rattle.fs_reads.proofs.printing.cat_files.Goals as goal

pub loop-found-init : goal.loop-found-init
loop-found-init g c =
    let Has = IsFileOutput c.args.disk.now.image.now c.args.disk.now.layout.now c.args.wanted c.args.reader.user in
    record { may = refl; held = none_held (λ bytes. bytes) Has c.args.files.now (g.W.Write.contents c.args.writer.now) }

pub loop-found-preserved : goal.loop-found-preserved
loop-found-preserved g c =
    let I = c.args.disk.now.image.now in
    let L = c.args.disk.now.layout.now in
    let user = c.args.reader.user in
    let Has : Found → List (List ℕ) → Type 0 = IsFileOutput I L c.args.wanted user in
    let Gives : ℕ → List ℕ → Option Remark → Type 0 = λ n. IsGot I L n c.args.wanted in
    let Lacks : ℕ → FormFault → Type 0 = λ n. IsNotGot I L n c.args.wanted in
    let found : Found = c.found-item.result in
    let old = c.loop-found.status in
    let s = c.in_ok-cat_file.field-0 in
    let new = c.or-status.result in
    let mid = g.W.Write.contents c.loop-found.writer in
    let now = g.W.Write.contents c.cat_file.new.writer in
    let one : HoldsFiles mid now s (Has (get_or c.args.files.now c.loop-found.found-index found)) = subst (λ f. HoldsFiles mid now s (Has f)) c.found-item.is c.in_ok-cat_file.ensures.written in
    record {
      may = either_holds (λ x. may_name x ≡ true) old s new c.or-status.ensures.done c.or-status.ensures.fault c.loop-found.invariant.may (file_may user Gives Lacks found s c.in_ok-cat_file.ensures.ok);
      held = held_next (λ bytes. bytes) Has c.args.files.now c.loop-found.found-index found (g.W.Write.contents c.args.writer.now) mid now old s new c.loop-found-test.true c.or-status.ensures.done c.or-status.ensures.fault c.loop-found.invariant.held one;
    }

pub returns-clause-written : goal.returns-clause-written
returns-clause-written g c =
    let Has = IsFileOutput c.args.disk.now.image.now c.args.disk.now.layout.now c.args.wanted c.args.reader.user in
    let past : length c.args.files.now ≤ c.loop-found.found-index = search rules in
    held_all (λ bytes. bytes) Has c.args.files.now c.loop-found.found-index (g.W.Write.contents c.args.writer.now) (g.W.Write.contents c.loop-found.writer) c.loop-found.status past c.loop-found.invariant.held
