-- Laws of printed and accepted texts.
use Rattle.std.specs.Prelude.{ℕ, ◌<◌}
use Rattle.fs_words.specs.Protections.{IsProtection}
use Rattle.ods_shell.specs.Texts.{shown_rights}

-- The protection that ls -l prints is a word for chmod, which specifies exactly that protection.
abbrev pub ShownIsRead : Type 0
ShownIsRead = (protection : ℕ) → protection < 65536 → IsProtection (shown_rights protection) protection
