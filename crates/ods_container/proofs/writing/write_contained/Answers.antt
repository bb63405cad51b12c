use Rattle.std.proofs.Common.{◌*◌, ap, ◌∙◌, sym}
use Rattle.ods_base.specs.Image.{image_bytes}
use Rattle.ods_base.proofs.Images.{length-concat}
use Rattle.ods_container.proofs.Sent.{sent_behind}
use Rattle.ods_container.proofs.writing.write_contained.Goals as goal

pub returns-in-Err-write_bytes-clause-err : goal.returns-in-Err-write_bytes-clause-err
returns-in-Err-write_bytes-clause-err g c =
    let contents = g.W.Write.contents in
    let told = c.in-Err-write_bytes.ensures.err in
    sent_behind (contents c.args.writer.now) (contents c.write_to.new.writer) (contents c.write_bytes.new.writer) (image_bytes c.args.image.now) c.args.behind.now (512 * c.len.result) c.in-Err-write_bytes.fault.written
    (ap (λ n. 512 * n) c.len.ensures.value ∙ sym (length-concat c.args.image.now c.len.ensures.image.blocks)) c.in-Ok.ensures.ok told.0 told.1
