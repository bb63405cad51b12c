use Rattle.std.proofs.Common.{List, ℕ, Some, refl, subst, sym}
use Rattle.ods_space.specs.Files.{IsLayoutOf}
use Rattle.ods_space.specs.Layout.{VolumeLayout}
use Rattle.ods_space.specs.Walk.{Leads}
use Rattle.ods_space.proofs.Layouts.{layout_of}
use Rattle.ods_space.proofs.layout.Layout.read.Goals as goal

pub returns-in-Ok-read_bitmap-clause-ok : goal.returns-in-Ok-read_bitmap-clause-ok
returns-in-Ok-read_bitmap-clause-ok c =
    let I = c.args.image.now in
    let L : List ℕ → VolumeLayout = λ bits. record { home = c.args.home; index = c.in-Ok.index.items; bitmap = bits } in
    let bits = c.in-Ok-read_bitmap.bitmap.items in
    let found = c.in-Ok.ensures.ok in
    let whole = c.in-Ok-read_bitmap.ensures.ok in
    let P : List ℕ → Type 0 = λ l. Leads I c.args.home (Some l) 2 bits in
    (subst (λ b. IsLayoutOf I (L b)) (sym c.of.ensures) (layout_of I (L bits) c.requires found.0 found.1 found.2 (subst P c.deref.ensures.value whole.0) whole.1), refl)
