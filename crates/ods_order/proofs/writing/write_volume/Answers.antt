use Rattle.std.proofs.Common.{List, ℕ, subst}
use Rattle.std.proofs.lemmas.List.{append-nil}
use Rattle.ods_base.specs.Image.{image_bytes}
use Rattle.ods_order.specs.Volumes.{IsLaidOut}
use Rattle.ods_order.proofs.writing.write_volume.Goals as goal

pub returns : goal.returns
returns c =
    let P : List ℕ → Type 0 = λ bytes. IsLaidOut c.args.order c.args.container.now bytes c.write_contained_volume.new.container in
    subst P (append-nil (image_bytes c.args.image.now)) c.write_contained_volume.ensures
