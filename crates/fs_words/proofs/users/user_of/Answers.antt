use Rattle.fs_words.proofs.Naming.{nobody}
use Rattle.fs_words.proofs.users.user_of.Goals as goal

pub returns-in_default-read_user : goal.returns-in_default-read_user
returns-in_default-read_user c = nobody c.args.text.now c.as_bytes.result.now c.as_bytes-2.result.now c.as_bytes.ensures.value c.as_bytes-2.ensures.value c.in_default.ensures c.in_default-read_user.ensures
