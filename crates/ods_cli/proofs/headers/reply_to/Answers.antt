use Rattle.std.specs.String.{string_bytes}
use Rattle.std.proofs.Common.{ℕ, List, inl, subst, sym}
use Rattle.std.proofs.lemmas.Result.{err_from_is_err_and}
use Rattle.ods_cli.specs.HeaderReply.{IsImageReply}
use Rattle.ods_cli.specs.Reply.{AreNoImage}
use Rattle.ods_cli.proofs.Replies.{reply_about_bytes}
use Rattle.ods_cli.proofs.headers.reply_to.Goals as goal

pub returns-in_err-image : goal.returns-in_err-image
returns-in_err-image g c =
    let told = c.in_err-image.ensures in
    let p = err_from_is_err_and c.from_residual.result c.from_residual.ensures.1 in
    (told.0, told.1, rw (p.1, p.2) told.2)

pub returns-in-Err : goal.returns-in-Err
returns-in-Err g c =
    let told = rw c.in-Err.is at c.in_ok-image.ensures in
    let P : List ℕ → Type 0 = λ line. AreNoImage told.0 (g.R.Read.remaining c.read_image.new.reader) c.in-Err.no_image.number line in
    (told.0, told.1, inl (c.missing.ensures.found, c.in-Err.no_image.number, subst P (sym c.missing.ensures.text) told.2))

pub returns-in-Ok : goal.returns-in-Ok
returns-in-Ok g c =
    let told = rw c.in-Ok.is at c.in_ok-image.ensures in (
      told.0,
      told.1,
      reply_about_bytes (IsImageReply c.args.number) (λ reply. reply.found) (λ reply. string_bytes reply.text) c.reply_about.result told.0 (g.R.Read.remaining c.read_image.new.reader) c.in-Ok.image
          told.2 c.reply_about.ensures.ok c.reply_about.ensures.err,
    )
