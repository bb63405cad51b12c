use Rattle.ods_cli.proofs.OneMore.{printed_more}
use Rattle.ods_cli.proofs.printed.PrintedKeep.keep.Goals as goal

pub returns : goal.returns
returns c = printed_more c.push_reply.result c.args.self.now (record { text = c.push_reply.new.text }) c.args.command.now c.args.reply c.push_reply.ensures
