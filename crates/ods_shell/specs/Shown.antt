-- The bytes of the contents of a file.
use Rattle.std.specs.Prelude.{◌≡◌, ℕ, List, Some}
use Rattle.ods_files.specs.Body.{bytes_in}
use Rattle.ods_shell.specs.declared.form.Contents.{Contents}
use Rattle.ods_shell.specs.declared.form.Contents.TheVariants.{Lines, Body}

-- these bytes are written: the bytes of the lines, or the bytes of the body in its form
abbrev pub ContentsAre : Contents → List ℕ → Type 0
ContentsAre (Lines text) bytes = text.items ≡ bytes
ContentsAre (Body body form) bytes = bytes_in form body ≡ Some bytes
