use Rattle.std.proofs.Common.{◌≡◌, ◌+◌, ◌-◌, ◌*◌, ◌<◌, ◌++◌, ◌∷◌, [], take, ap, sym, ◌∙◌, arith, inl, inr, length, refl}
use Rattle.std.proofs.lemmas.Option.{same_Some}
use Rattle.ods_base.specs.Block.{byte}
use Rattle.ods_header.specs.declared.header.Run.{Run}
use Rattle.ods_header.specs.Header.{run_at, runs_of}
use Rattle.ods_header.proofs.Cutting.{all_whole, last_part, one_whole}
use Rattle.ods_header.proofs.RunsAt.{length-runs_of, slice_get-runs_of}
use Rattle.ods_header.proofs.cut.cut_end.Goals as goal

pub byte-requires-then-left-eq0 : goal.byte-requires-then-left-eq0
byte-requires-then-left-eq0 c = omega (arith, c.byte.ensures, c.requires.fits, length-runs_of c.args.block.now, c.loop-k-test.true, c.pointer_count-k-end.ensures.count)

pub returns-then-left-eq0 : goal.returns-then-left-eq0
returns-then-left-eq0 c = inl (
  omega (arith, c.loop-k-test.true, c.pointer_count-k-end.ensures.count),
  all_whole (runs_of c.args.block.now) c.args.count c.loop-k.left c.loop-k.k c.loop-k.invariant (inl c.if-left-eq0.true),
  c.byte-then-left-eq0.ensures ∙ ap (λ m. byte c.args.block.now (2 * m + 7 + 4 * c.loop-k.k)) c.byte.ensures,
)

pub returns-then-left-run : goal.returns-then-left-run
returns-then-left-run c =
    let b = c.args.block.now in
    let k = c.loop-k.k in
    let within : k < length (runs_of b) = omega (arith, c.loop-k-test.true, c.pointer_count-k-end.ensures.count) in
    let lbn : c.pointer_at-run.result.lbn ≡ (run_at b k).lbn = ap (λ (r : Run). r.lbn) (same_Some c.pointer_at-run.result (run_at b k) (sym c.pointer_at-run.ensures.value ∙ slice_get-runs_of b k within)) in
    let one : c.loop-k.left ≡ c.loop-k.left - 1 + 1 = omega (arith, c.if-left-eq0.false) in
    inr (
      k,
      within,
      refl,
      last_part (runs_of b) c.args.count c.loop-k.left k c.pointer_at-run.result c.loop-k.invariant c.pointer_at-run.ensures.value c.if-left-eq0.false c.if-left-run.true
          ∙ (λ i. take k (runs_of b) ++ record { lbn = lbn i; count = one i } ∷ []),
    )

pub loop-k-preserved : goal.loop-k-preserved
loop-k-preserved c = one_whole (runs_of c.args.block.now) c.args.count c.loop-k.left c.loop-k.k c.pointer_at-run.result c.loop-k.invariant c.pointer_at-run.ensures.value c.if-left-eq0.false c.if-left-run.false

pub byte-requires-2 : goal.byte-requires-2
byte-requires-2 c = omega (arith, c.byte.ensures, c.requires.fits, length-runs_of c.args.block.now, c.pointer_count-all.ensures.count)
