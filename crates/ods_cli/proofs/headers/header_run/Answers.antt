use Rattle.std.specs.String.{string_bytes}
use Rattle.std.proofs.lemmas.Result.{err_from_is_err_and}
use Rattle.ods_cli.specs.HeaderReply.{IsImageReply}
use Rattle.ods_cli.proofs.Replies.{no_reply, sent}
use Rattle.ods_cli.proofs.headers.header_run.Goals as goal

pub returns-in_err-reply : goal.returns-in_err-reply
returns-in_err-reply g c =
    let told = c.in_err-reply.ensures in
    let p = err_from_is_err_and c.from_residual.result c.from_residual.ensures.1 in
    (told.0, told.1, rw (p.1, p.2) (no_reply (IsImageReply c.args.number) told.0 (g.R.Read.remaining c.reply_to.new.reader) (g.W.Write.contents c.args.replies.now) c.in_err-reply.field-0.0 told.2))

pub returns : goal.returns
returns g c =
    let told = c.in_ok-reply.ensures in (
      told.0,
      told.1,
      sent (IsImageReply c.args.number) told.0 (g.R.Read.remaining c.reply_to.new.reader) (g.W.Write.contents c.args.replies.now) (g.W.Write.contents c.send.new.replies)
          c.in_ok-reply.reply.found (string_bytes c.in_ok-reply.reply.text) c.send.result told.2 c.send.ensures,
    )
