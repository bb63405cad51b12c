use Rattle.std.proofs.Common.{◌≡◌, ◌++◌, length}
use Rattle.std.specs.String.{string_bytes}
use Rattle.ods_script.specs.Texts.{replies_text}
use Rattle.ods_script.proofs.replies.push_replies.Given as goal

abbrev pub invariant-loop-command : goal.invariant-loop-command
invariant-loop-command l =
    string_bytes l.text ++ replies_text l.commands l.replies ≡ string_bytes l.initial.text ++ replies_text l.initial.commands l.initial.replies

abbrev pub decreases-loop-command : goal.decreases-loop-command
decreases-loop-command l = length l.commands
