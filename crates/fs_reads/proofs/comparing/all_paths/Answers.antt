use Rattle.std.proofs.Common.{◌≡◌, ◌⊎◌, ℕ, List, [], None, subst, sym}
use Rattle.ods_shell.specs.declared.folders.Directory.{Directory as Met}
use Rattle.ods_shell.specs.Ways.{CountAsClosed}
use Rattle.fs_reads.specs.Denied.{AreClosedTo}
use Rattle.fs_reads.proofs.Closing.{counts_none}
use Rattle.fs_reads.proofs.comparing.all_paths.Goals as goal

pub returns-in-Ok-clause-all : goal.returns-in-Ok-clause-all
returns-in-Ok-clause-all c =
    let counts : CountAsClosed c.deref.result.now c.in_ok-found.found.closed.items [] =
    counts_none c.args.disk.now.image.now c.args.disk.now.layout.now c.args.user c.deref.result.now c.in_ok-found.found.closed.items
    (subst (λ (closed : List ℕ). AreClosedTo c.args.disk.now.image.now c.args.disk.now.layout.now c.args.user closed) (sym c.deref.ensures.value) c.in_ok-closed.ensures)
    (subst (λ (met : List Met). (c.args.user ≡ None) ⊎ (met ≡ [])) c.deref-2.ensures.value c.in_ok-stop_at_closed.ensures.ok) in
    record {
      found = c.in_ok-found.found;
      meant = c.in_ok-found.ensures.directories [] counts;
      lines_found = c.in_ok-found.ensures.lines;
      each = c.in-Ok.ensures.each;
      ordered = c.in-Ok.ensures.order;
    }
