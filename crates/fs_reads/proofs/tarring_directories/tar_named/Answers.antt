use Rattle.std.proofs.Common.{◌∙◌, subst}
use Rattle.fs_host.specs.Dates.{IsSecondAt}
use Rattle.ods_shell.specs.Facts.{created_in}
use Rattle.fs_reads.specs.Archives.{HoldsMembers, IsOneDirectory}
use Rattle.fs_reads.proofs.Archiving.{one_directory}
use Rattle.fs_reads.proofs.tarring_directories.tar_named.Goals as goal

pub returns-clause-written : goal.returns-clause-written
returns-clause-written g c =
    let facts = c.args.facts.now in
    let old = g.W.Write.contents c.args.writer.now in
    let new = g.W.Write.contents c.send_directory.new.writer in
    let s = c.in_ok-done.done in
    let dated : IsSecondAt (created_in facts.ident) c.second_at.result = subst (λ d. IsSecondAt d c.second_at.result) c.creation_date.ensures c.second_at.ensures in
    let held = one_directory facts c.as_str-2.result.now c.deref.result.now c.second_at.result old new s c.in_ok-done.ensures.ok c.in_ok-done.ensures.done c.in_ok-done.ensures.large (c.deref.ensures.value ∙ c.in_ok-records.ensures) dated in
    subst (λ p. HoldsMembers old new s (IsOneDirectory facts p)) c.as_str-2.ensures.value held
