use Rattle.fs_reads.proofs.Undeleting.{taken_by}
use Rattle.fs_reads.proofs.getting_deleted.put_got.Goals as goal

pub returns-in-Output-clause-took : goal.returns-in-Output-clause-took
returns-in-Output-clause-took g c = taken_by c.args.how.only_tells (g.T.Targets.took c.keep.new.targets) _ c.args.got.now.contents c.keep.result c.keep.ensures.took

pub returns-in-File-clause-took : goal.returns-in-File-clause-took
returns-in-File-clause-took g c = taken_by c.args.how.only_tells (g.T.Targets.took c.keep-in-File.new.targets) _ c.args.got.now.contents c.keep-in-File.result c.keep-in-File.ensures.took
