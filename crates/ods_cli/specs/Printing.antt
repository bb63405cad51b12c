-- The text of sessions that print their replies themselves.
use Rattle.std.specs.Prelude.{◌≡◌, List, length}
use Rattle.std.specs.String.{string_bytes}
use Rattle.ods_ask.specs.declared.outcome.Reply.{Reply}
use Rattle.ods_ask.specs.declared.script.Command.{Command}
use Rattle.ods_cli.specs.declared.printed.Printed.{Printed}
use Rattle.ods_script.specs.Texts.{replies_text}

-- these are the replies to the commands, one for each, as they are printed
abbrev pub ArePrinted : List Command → List Reply → Printed → Type 0
ArePrinted cs rs p = (length rs ≡ length cs) × (string_bytes p.text ≡ replies_text cs rs)
