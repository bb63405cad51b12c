use Rattle.std.proofs.Common.{◌≡◌, inl, inr, subst, arith}
use Rattle.std.proofs.lemmas.Bool.{cases_lt}
use Rattle.ods_check.specs.Findings.{IsRead}
use Rattle.ods_check.proofs.Directories.{read_none}
use Rattle.ods_check.proofs.Telling.{true_holds, false_fails}
use Rattle.ods_check.proofs.reading.are_all_read.Goals as goal

pub returns-then-not-read : goal.returns-then-not-read
returns-then-not-read c = λ all. false_fails c.in_ok-read.read (IsRead c.args.disk.now.image.now c.args.disk.now.layout.now c.loop-number.number) c.in_ok-read.ensures c.if-not-read.true (all c.loop-number.number)

pub loop-number-preserved : goal.loop-number-preserved
loop-number-preserved c =
    let I = c.args.disk.now.image.now in
    let L = c.args.disk.now.layout.now in
    λ n low. elim (cases_lt n c.loop-number.number) [
      | inl less ↦ c.loop-number.invariant n less
      | inr last ↦
          let here : c.loop-number.number ≡ n = omega arith in
          subst (IsRead I L) here (true_holds c.in_ok-read.read (IsRead I L c.loop-number.number) c.in_ok-read.ensures c.if-not-read.false)
    ]

pub returns : goal.returns
returns c =
    let I = c.args.disk.now.image.now in
    let L = c.args.disk.now.layout.now in
    λ n. elim (cases_lt n c.loop-number.number) [
      | inl less ↦ c.loop-number.invariant n less
      | inr more ↦ read_none I L n (λ file. absurd (
          let end = c.loop-number-test.false in
          let low = c.file_end-number-end.ensures.files n file in
          omega arith))
    ]
