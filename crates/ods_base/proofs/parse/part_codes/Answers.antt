use Rattle.std.proofs.Common.{◌≡◌, ap, arith, length, Ok, get_or}
use Rattle.ods_base.proofs.NameCodes.{same_part, part_fits, char_at, no_space_last, one_more_code, all_codes, ends_with_space, ends_without_space}
use Rattle.ods_base.proofs.parse.part_codes.Goals.{then-part-via-then-part, then-part-via-else-part+then-ends_with}
use Rattle.ods_base.proofs.parse.part_codes.Goals as goal

pub returns-then-part-clause-only : goal.returns-then-part-clause-only
returns-then-part-clause-only g c = λ cs part.
    elim c.then-part.branch [
      | then-part-via-then-part w ↦ absurd (omega (arith, part_fits c.args.part.now g.row.N cs part, w.if-part.true))
      | then-part-via-else-part+then-ends_with w ↦
          let last = ends_with_space c.args.part.now _ w.ends_with.ensures.value w.if-ends_with.true in
          absurd (no_space_last c.args.part.now g.row.N cs part last.0 last.1)
    ]

pub returns-in_err-codes-clause-only : goal.returns-in_err-codes-clause-only
returns-in_err-codes-clause-only g c = λ cs part.
    let there = char_at c.args.part.now g.row.N cs c.loop-i.i part (omega arith) in
    let read : c.code_of.result ≡ Ok (get_or cs c.loop-i.i 0) = c.code_of.ensures.only (get_or cs c.loop-i.i 0) there.0 there.1 in
    absurd (cc (c.in_err-codes.was))

pub loop-i-preserved : goal.loop-i-preserved
loop-i-preserved g c =
    one_more_code c.args.part.now c.loop-i.i g.row.N c.loop-i.codes c.in_ok-codes.field-0 c.loop-i.invariant (omega arith) (omega arith) c.in_ok-codes.ensures.ok.0 c.in_ok-codes.ensures.ok.1

pub returns-clause-ok : goal.returns-clause-ok
returns-clause-ok g c =
    let end : c.loop-i.i ≡ length c.args.part.now = omega arith in
    all_codes c.args.part.now g.row.N c.loop-i.codes (rw end at c.loop-i.invariant) (omega arith) (ends_without_space c.args.part.now _ c.ends_with.ensures.value c.if-ends_with.false)

pub returns-clause-only : goal.returns-clause-only
returns-clause-only g c = λ cs part. ap Ok (same_part c.args.part.now g.row.N c.loop-i.codes cs (returns-clause-ok g c) part)
