use Rattle.std.proofs.Common.{◌≡◌, false, sym, ◌∙◌, arith}
use Rattle.std.proofs.lemmas.Option.{slice_get-get_or}
use Rattle.ods_mount.specs.Tables.{has}
use Rattle.ods_mount.proofs.Each.{each_next, each_of}
use Rattle.ods_check.proofs.sharing.first_in.Goals as goal

pub loop-i-preserved : goal.loop-i-preserved
loop-i-preserved c =
    each_next (λ j x. has c.args.set.now x ≡ false) c.args.numbers.now c.loop-i.i _ (slice_get-get_or c.args.numbers.now c.loop-i.i 0 c.loop-i-test.true) c.loop-i.invariant (sym c.contains.ensures ∙ c.if-contains.false)

pub returns-then-contains-clause-some : goal.returns-then-contains-clause-some
returns-then-contains-clause-some c = record {
  place = c.loop-i.i;
  named = slice_get-get_or c.args.numbers.now c.loop-i.i 0 c.loop-i-test.true;
  there = sym c.contains.ensures ∙ c.if-contains.true;
  first = λ j y at low. c.loop-i.invariant j y low at;
}

pub returns-clause-none : goal.returns-clause-none
returns-clause-none c j x at = let end = c.loop-i-test.false in each_of (λ k y. has c.args.set.now y ≡ false) c.args.numbers.now c.loop-i.i (omega arith) c.loop-i.invariant j x at
