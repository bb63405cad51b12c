use Rattle.std.proofs.Common.{ℕ, List, Option, subst}
use Rattle.std.specs.Borrow.{Bor}
use Rattle.std.specs.List.{All}
use Rattle.ods_base.specs.declared.file_id.Uic.{Uic}
use Rattle.ods_shell.specs.Contents.{IsGot}
use Rattle.fs_reads.specs.Gets.{IsPathGot}
use Rattle.fs_reads.proofs.Catting.{paths_output}
use Rattle.fs_reads.proofs.printing.cat.Goals as goal

pub returns-in-Ok-clause-done : goal.returns-in-Ok-clause-done
returns-in-Ok-clause-done g c = λ done.
    let I = c.args.disk.now.image.now in
    let L = c.args.disk.now.layout.now in
    let held = c.in-Ok.ensures.written in
    let Got : Option Uic → List ℕ → List (Bor (List ℕ)) → Type 0 = λ user closed paths. All (λ path. IsPathGot I L user (λ n. IsGot I L n c.args.wanted) closed path.now) paths in
    let all = paths_output I L c.args.wanted c.of-reader.result.user c.deref-2.result.now c.deref.result.now held.0 (held.2 done) in (
      c.in_ok-closed.closed.items,
      c.in_ok-closed.ensures,
      subst (Got c.args.words.now.user c.in_ok-closed.closed.items) c.deref.ensures.value
          (subst (λ closed. Got c.args.words.now.user closed c.deref.result.now) c.deref-2.ensures.value
          (subst (λ user. Got user c.deref-2.result.now c.deref.result.now) c.of-reader.ensures.0 all)),
    )
