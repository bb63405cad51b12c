use Rattle.std.proofs.Common.{ℕ, ◌*◌, ◌≤◌, sym, subst, arith}
use Rattle.ods_check.specs.Findings.{NamesFile}
use Rattle.ods_check.proofs.Noting.{files_none, files_more, files_all}
use Rattle.ods_check.proofs.lost_list.named_files.Goals as goal

pub loop-number-init : goal.loop-number-init
loop-number-init c = record {
  files = files_none (NamesFile c.args.disk.now.image.now c.args.disk.now.layout.now) c.in_ok-named.named c.in_ok-named.ensures.empty;
  room = c.in_ok-named.ensures.room;
}

pub loop-number-preserved : goal.loop-number-preserved
loop-number-preserved c =
    let told = c.in_ok-push_names.ensures in
    let P : ℕ → Type 0 = λ l. 65536 ≤ 64 * l in
    record {
      files = files_more (NamesFile c.args.disk.now.image.now c.args.disk.now.layout.now) c.loop-number.number c.loop-number.named c.push_names.new.named c.loop-number.invariant.files told.named;
      room = subst P (sym told.room) c.loop-number.invariant.room;
    }

pub returns : goal.returns
returns c =
    let end = c.loop-number-test.false in
    files_all (NamesFile c.args.disk.now.image.now c.args.disk.now.layout.now) c.loop-number.number c.loop-number.named (λ d b h. let low = c.file_end-number-end.ensures.files d h.1.has.file in omega (arith, end, low)) c.loop-number.invariant.files
