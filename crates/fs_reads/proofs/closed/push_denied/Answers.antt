use Rattle.std.proofs.Common.{[], ◌∷◌, refl, string_bytes}
use Rattle.std.specs.Prelude.{codes}
use Rattle.std.proofs.lemmas.Slice.{pushed}
use Rattle.fs_reads.specs.Denied.{denied_text, user_text}
use Rattle.fs_reads.proofs.Saying.{three_parts}
use Rattle.fs_reads.proofs.closed.push_denied.Goals as goal

pub returns : goal.returns
unfolding denied_text
returns c = three_parts c.push_str-2.result (string_bytes c.args.lines.now) (codes ": denied to ") (user_text c.args.user) (10 ∷ [])
    (string_bytes c.push_str.new.self) (string_bytes c.push_user.new.lines) (string_bytes c.push_str-2.new.self)
    (pushed (codes ": denied to ") refl c.in_ok-push_str.was c.push_str.ensures.bytes) c.in_ok-push_user.ensures c.push_str-2.ensures.bytes
