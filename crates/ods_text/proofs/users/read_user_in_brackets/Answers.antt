use Rattle.ods_text.proofs.InBrackets.{in_brackets}
use Rattle.ods_text.proofs.users.read_user_in_brackets.Goals as goal

pub returns : goal.returns
returns c = in_brackets c.args.text.now c.in_ok-inner.inner.now c.read_user.result c.in_ok-inner.ensures c.read_user.ensures
