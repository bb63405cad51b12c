use Rattle.std.proofs.Common.{◌≡◌, ℕ, ap, subst, arith, inl, inr}
use Rattle.std.proofs.lemmas.Bool.{cases_lt}
use Rattle.ods_space.specs.Files.{IsFile, Holds}
use Rattle.ods_mount.specs.Checks.{IsCheckedFile, HasHeader}
use Rattle.ods_mount.proofs.Holders.{file_small}
use Rattle.ods_mount.proofs.Tables.{table_first}
use Rattle.ods_mount.proofs.file.check_files.Goals as goal

pub loop-number-init : goal.loop-number-init
loop-number-init c = record {
  files = λ n low. absurd (omega arith);
  numbers = c.in-Ok.ensures.room;
  named = table_first (HasHeader c.args.disk.now.image.now c.args.disk.now.layout.now) c.in-Ok.named c.in-Ok.ensures.empty;
  room = let size = c.len.ensures.value in let room = c.in-Ok-new.ensures.room in omega arith;
  table = table_first (Holds c.args.disk.now.image.now c.args.disk.now.layout.now) c.in-Ok-new.held c.in-Ok-new.ensures.empty;
}

pub loop-number-preserved : goal.loop-number-preserved
loop-number-preserved c = record {
  files = λ n low. elim (cases_lt n c.loop-number.number) [
    | inl less ↦ c.loop-number.invariant.files n less
    | inr more ↦
        let e : c.loop-number.number ≡ n = omega arith in
        let P : ℕ → Type 0 = λ x. IsFile c.args.disk.now.image.now c.args.disk.now.layout.now x → IsCheckedFile c.args.disk.now.image.now c.args.disk.now.layout.now c.args.home_lbn x in
        subst P e c.in_default-check_file.ensures.file
  ];
  numbers = let before = c.loop-number.invariant.numbers in let same = c.in_default-check_file.ensures.numbers in omega arith;
  named = c.in_default-check_file.ensures.named;
  table = c.in_default-check_file.ensures.table;
  room = let before = c.loop-number.invariant.room in let same = c.in_default-check_file.ensures.room in omega arith;
}

pub returns-clause-files : goal.returns-clause-files
returns-clause-files c n file =
    let small = file_small c.args.disk.now.image.now c.args.disk.now.layout.now n file in
    let same = ap (λ h. h.max_files) c.home.ensures in
    let end = c.loop-number-test.false in
    c.loop-number.invariant.files n (omega arith) file

pub returns-clause-once : goal.returns-clause-once
returns-clause-once c m n v w b one other =
    let first = file_small c.args.disk.now.image.now c.args.disk.now.layout.now m one.file.file in
    let second = file_small c.args.disk.now.image.now c.args.disk.now.layout.now n other.file.file in
    let same = ap (λ h. h.max_files) c.home.ensures in
    let end = c.loop-number-test.false in
    c.loop-number.invariant.table.once m n v w b (omega arith) (omega arith) one other

pub returns-clause-apart : goal.returns-clause-apart
returns-clause-apart c m n v w x one other =
    let first = file_small c.args.disk.now.image.now c.args.disk.now.layout.now m one.file in
    let second = file_small c.args.disk.now.image.now c.args.disk.now.layout.now n other.file in
    let same = ap (λ h. h.max_files) c.home.ensures in
    let end = c.loop-number-test.false in
    (c.loop-number.invariant.named.once m n v w x (omega arith) (omega arith) one other).0
