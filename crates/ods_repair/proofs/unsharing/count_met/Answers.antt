use Rattle.std.proofs.Common.{◌∙◌, get_or, refl, subst, arith}
use Rattle.std.specs.Prelude.{MatchBool, ◌≡◌, ◌≢◌}
use Rattle.std.proofs.lemmas.Option.{slice_get-get_or, slice_get_within}
use Rattle.ods_repair.proofs.Meeting.{all_new, none_met, one_met}
use Rattle.ods_repair.proofs.unsharing.count_met.Goals as goal

pub loop-i-init : goal.loop-i-init
loop-i-init c = record { met = none_met c.args.blocks.now c.args.first c.args.first c.args.seen.now (omega arith); room = refl; from = omega arith }

pub insert-requires : goal.insert-requires
insert-requires c =
    let low = c.requires.room c.loop-i.i 0 c.loop-i-test.true in
    let long = c.loop-i.invariant.room in
    omega (arith, low, long)

pub loop-i-preserved : goal.loop-i-preserved
loop-i-preserved c =
    let blocks = c.args.blocks.now in
    let i = c.loop-i.i in
    record {
      met = one_met blocks c.args.first i (get_or blocks i 0) c.args.seen.now c.loop-i.seen c.insert.new.self c.loop-i.met c.more_met-met.result c.loop-i.invariant.from (slice_get-get_or blocks i 0 c.loop-i-test.true) c.loop-i.invariant.met
          (subst (λ t. MatchBool t (c.more_met-met.result ≢ 0) (c.more_met-met.result ≡ c.loop-i.met)) c.contains.ensures c.more_met-met.ensures) c.insert.ensures.with;
      room = c.insert.ensures.room ∙ c.loop-i.invariant.room;
      from = let from = c.loop-i.invariant.from in omega (arith, from);
    }

pub returns-clause-none : goal.returns-clause-none
returns-clause-none c = all_new c.args.blocks.now c.args.first c.loop-i.i c.args.seen.now c.loop-i.seen c.loop-i.met
    (λ k b e. let low = slice_get_within c.args.blocks.now k b e in let end = c.loop-i-test.false in omega (arith, low, end)) c.loop-i.invariant.met

pub returns-clause-some : goal.returns-clause-some
returns-clause-some c = c.loop-i.invariant.met.some
