use Rattle.std.proofs.Common.{◌≡◌, ℕ, ◌+◌, ◌*◌, ◌≤◌, true, false, sym, ap, ◌∙◌, subst, arith, inl, inr}
use Rattle.std.proofs.lemmas.Bool.{cases_lt}
use Rattle.std.specs.Prelude.{IsTrue}
use Rattle.ods_header.specs.Header.{IsHeader, IsFormat1}
use Rattle.ods_space.specs.Layout.{header_at, is_in_use}
use Rattle.ods_mount.proofs.Headers.{number_small, number_in_bitmap}
use Rattle.ods_mount.proofs.formats.check_formats.Goals as goal
use Rattle.ods_mount.proofs.formats.check_formats.Goals.{else-in_use-via-then-in_use+else-has_other_format, else-in_use-via-else-in_use}

pub loop-k-preserved : goal.loop-k-preserved
loop-k-preserved c n low = elim (cases_lt n (c.loop-k.k + 1)) [
  | inl less ↦ c.loop-k.invariant n (omega arith)
  | inr more ↦
      let I = c.args.disk.now.image.now in
      let L = c.args.disk.now.layout.now in
      let e : c.loop-k.k + 1 ≡ n = omega arith in
      let P : ℕ → Type 0 = λ x. IsTrue (is_in_use I L.home x) → IsHeader (header_at I L x) x → IsFormat1 (header_at I L x) in
      subst P e (λ used header. elim c.else-in_use.branch [
        | else-in_use-via-then-in_use+else-has_other_format w ↦ w.if-has_other_format.ensures header
        | else-in_use-via-else-in_use w ↦
            let clash : true ≡ false = sym used ∙ (sym c.in_use.ensures ∙ w.if-in_use.false) in
            absurd (cc)
      ])
]

pub returns-clause-ok : goal.returns-clause-ok
returns-clause-ok c n used header =
    let I = c.args.disk.now.image.now in
    let L = c.args.disk.now.layout.now in
    let small = number_small I L n c.len.ensures.image header in
    let within = number_in_bitmap I L.home n used in
    let P : ℕ → Type 0 = λ x. n ≤ 4096 * x in
    let low : n ≤ 4096 * c.home.result.index_bitmap_size = subst P (ap (λ h. h.index_bitmap_size) (sym c.home.ensures)) within in
    let last = c.min-last.ensures in
    let end = c.loop-k-test.false in
    c.loop-k.invariant n (omega arith) used header
