use Rattle.std.proofs.Common.{◌≡◌, ℕ, List, Option, subst, sym}
use Rattle.std.specs.Prelude.{MatchOption}
use Rattle.ods_base.specs.declared.file_id.FileId.{FileId}
use Rattle.ods_space.specs.Disks.{on}
use Rattle.ods_shell.specs.Former.{IsFormer, IsFormerId, IsUndeleted}
use Rattle.ods_shell.specs.declared.former.Former.{Former}
use Rattle.ods_shell.specs.declared.form.Remark.{Remark}
use Rattle.fs_reads.specs.Targets.{IsWritten}
use Rattle.fs_reads.specs.Undeleted.{IsFormerGot, SpellsId}
use Rattle.fs_reads.proofs.Undeleting.{same_by}
use Rattle.fs_reads.proofs.getting_deleted.get_id.Goals as goal

pub returns-in-Some-clause-ends : goal.returns-in-Some-clause-ends
returns-in-Some-clause-ends g c =
    let f = c.in-Some.former in
    let Gives : FileId → List ℕ → Option Remark → Type 0 =
    IsWritten c.args.how.only_tells (g.T.Targets.took c.get_former.new.targets) (λ id. on IsUndeleted c.args.disk.now id c.args.how.wanted c.args.partial) in
    let fact : (f.known.file ≡ c.in_ok-id.id) × on IsFormer c.args.disk.now f =
    subst (λ (o : Option Former). MatchOption o (¬ on IsFormerId c.args.disk.now c.in_ok-id.id) (λ one. (one.known.file ≡ c.in_ok-id.id) × on IsFormer c.args.disk.now one)) c.in-Some.is c.in_ok-former.ensures in
    let says = subst (λ id. SpellsId c.args.path.now id) (sym fact.0) c.in_ok-id.ensures.ok in
    same_by c.get_former.result (λ (got : IsFormerGot c.args.how.reader.user Gives f). (f, fact.1, says, got)) c.get_former.ensures.ends
