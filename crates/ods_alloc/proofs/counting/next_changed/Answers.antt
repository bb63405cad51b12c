use Rattle.std.proofs.Common.{◌≡◌, ◌+◌, ◌-◌, ◌<◌, ◌∙◌, sym, ap, subst, ℕ, length, arith, inl, inr}
use Rattle.std.proofs.lemmas.Bool.{cases_lt}
use Rattle.ods_alloc.specs.Bitmaps.{place_in}
use Rattle.ods_alloc.proofs.Recounted.{kept_further}
use Rattle.ods_alloc.proofs.counting.next_changed.Goals as goal

pub returns-then-lbn-end : goal.returns-then-lbn-end
returns-then-lbn-end c =
    let I = c.args.disk.now.image.now in
    let L = c.args.disk.now.layout.now in
    let m = c.args.bitmap in
    let k = c.loop-k.k in
    let s = c.stretch-many.ensures in
    let next = c.next_change-lbn.ensures in
    let first = c.place_in-first.result in
    let lbn = c.next_change-lbn.result in
    let t : ℕ = lbn - first in
    let above = next.above in
    let less = c.if-lbn-end.true in
    let small : t < c.stretch-many.result = omega (arith, above, less, c.max-end.ensures, c.min.ensures) in
    let inside : lbn < length I = omega (arith, above, less, c.max-end.ensures, c.min.ensures, c.len-len.ensures.value) in
    let place : place_in L m (k + t) ≡ lbn = s.places t small ∙ ap (λ n. n + t) (sym c.place_in-first.ensures.value) ∙ omega (arith, above) in
    let whole = s.within in
    record {
      above = let from = c.loop-k.invariant.above in omega arith;
      within = omega (arith, small, whole);
      kept =
          kept_further I c.args.draft.now L m c.args.from k c.stretch-many.result first lbn t c.loop-k.invariant.kept s c.place_in-first.ensures.value next.passed (omega (arith, small))
          (λ j low. inl (omega (arith, low, above)));
      inside = λ within. subst (λ n. n < length I) (sym place) inside;
    }

pub loop-k-preserved : goal.loop-k-preserved
loop-k-preserved c =
    let I = c.args.disk.now.image.now in
    let s = c.stretch-many.ensures in
    let next = c.next_change-lbn.ensures in
    let first = c.place_in-first.result in
    let whole = s.within in
    let end = c.if-lbn-end.false in
    record {
      above = let from = c.loop-k.invariant.above in omega arith;
      within = omega (arith, whole, c.size_of-size.ensures.value);
      kept =
          kept_further I c.args.draft.now c.args.disk.now.layout.now c.args.bitmap c.args.from c.loop-k.k c.stretch-many.result first c.next_change-lbn.result c.stretch-many.result c.loop-k.invariant.kept s c.place_in-first.ensures.value
          next.passed (omega arith)
          (λ j low. elim (cases_lt (first + j) (length I)) [
            | inl inside ↦ inl (omega (arith, low, inside, end, c.max-end.ensures, c.min.ensures, c.len-len.ensures.value))
            | inr past ↦ inr past
          ]);
    }
