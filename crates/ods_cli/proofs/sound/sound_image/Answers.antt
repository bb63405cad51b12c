use Rattle.std.specs.String.{string_bytes}
use Rattle.std.proofs.Common.{inl}
use Rattle.std.proofs.lemmas.Result.{err_from_is_err_and}
use Rattle.ods_cli.proofs.Serving.{of_image}
use Rattle.ods_cli.proofs.sound.sound_image.Goals as goal

pub returns-in_err-image : goal.returns-in_err-image
returns-in_err-image g c =
    let told = c.in_err-image.ensures in
    let p = err_from_is_err_and c.from_residual.result c.from_residual.ensures.1 in
    (told.0, told.1, rw (p.1, p.2) told.2)

pub returns-in-Err : goal.returns-in-Err
returns-in-Err g c = let told = rw c.in-Err.is at c.in_ok-image.ensures in (told.0, told.1, inl told.2)

pub returns-in-Ok : goal.returns-in-Ok
returns-in-Ok g c =
    let read = rw c.in-Ok.is at c.in_ok-image.ensures in (
      read.0,
      read.1,
      of_image (λ m. m.image) (λ n. n.number) (λ n. string_bytes n.line) c.mount_image.result read.0 (g.R.Read.remaining c.read_image.new.reader) c.in-Ok.image
          read.2 c.mount_image.ensures.ok c.mount_image.ensures.err,
    )
