use Rattle.std.proofs.Common.{◌≡◌, ◌+◌, ◌*◌, ap, arith, rules, subst, sym, true}
use Rattle.ods_alloc.specs.Counts.{IsCountedTo}
use Rattle.ods_alloc.proofs.Counted.{all_words, same_eighth}
use Rattle.ods_alloc.proofs.counting.bits_after.Goals as goal
use Rattle.ods_alloc.proofs.counting.bits_after.Goals.{then-not-have_same_eighth, else-not-have_same_eighth}

pub loop-k-init : goal.loop-k-init
loop-k-init c = ap (λ n. n + 0) c.requires

pub loop-k-preserved : goal.loop-k-preserved
loop-k-preserved c =
    let few = c.args.few in
    let old = c.args.old.now in
    let new = c.args.new.now in
    let k = c.loop-k.k in
    elim c.if-not-have_same_eighth.branch [
      | then-not-have_same_eighth w ↦
          let more : 8 * k + 8 ≡ 8 * (k + 1) = omega arith in
          subst (λ n. IsCountedTo few old new n c.if-not-have_same_eighth.count) more (subst (λ n. IsCountedTo few old new (8 * k + 8) n) (sym w.count-is) w.words_after-count.ensures)
      | else-not-have_same_eighth w ↦
          let yes : c.have_same_eighth.result ≡ true = search rules in
          subst (λ n. IsCountedTo few old new (8 * (k + 1)) n) (sym w.count-is) (same_eighth few old new k c.loop-k.count (c.have_same_eighth.ensures yes) c.loop-k.invariant)
    ]

pub returns : goal.returns
returns c = all_words c.args.few c.args.old.now c.args.new.now (8 * c.loop-k.k) c.loop-k.count (omega (arith, c.loop-k.auto.k-end, c.loop-k-test.false)) c.loop-k.invariant
