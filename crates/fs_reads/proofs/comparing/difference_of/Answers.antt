use Rattle.std.proofs.Common.{◌≡◌, inl, refl}
use Rattle.std.specs.Option.{option_copied}
use Rattle.fs_reads.specs.Alike.{held}
use Rattle.fs_reads.proofs.Likeness.{none_named, told_compared}
use Rattle.fs_reads.proofs.comparing.difference_of.Goals as goal

pub returns-in-None-None : goal.returns-in-None-None
returns-in-None-None c = inl (refl, none_named (held c.args.disk.now) c.args.one c.facts_by_id.result c.facts_by_id.ensures c.in-None-None.is-0, none_named (held c.args.other.now) c.args.file c.facts_by_id-2.result c.facts_by_id-2.ensures c.in-None-None.is-1)

pub returns-in-Some-Some : goal.returns-in-Some-Some
returns-in-Some-Some c = told_compared (held c.args.disk.now) c.args.one (held c.args.other.now) c.args.file c.in-Some-Some.facts c.in-Some-Some.others (λ word. option_copied word) c.difference.result c.in-Some-Some.ensures c.in-Some-Some.ensures' c.difference.ensures
