use Rattle.std.proofs.Common.{◌≡◌, ◌++◌, ◌+◌, ◌≤◌, length}
use Rattle.std.specs.String.{string_bytes}
use Rattle.ods_script.specs.Texts.{replied_text}
use Rattle.ods_script.proofs.replies.sessions_text.Given as goal

abbrev pub invariant-loop-script : goal.invariant-loop-script
invariant-loop-script l = record {
  few : l.number + length l.scripts ≤ 65535;
  text : string_bytes l.text ++ replied_text l.number l.scripts l.replies ≡ replied_text 1 l.initial.scripts l.initial.replies;
}

abbrev pub decreases-loop-script : goal.decreases-loop-script
decreases-loop-script l = length l.scripts
