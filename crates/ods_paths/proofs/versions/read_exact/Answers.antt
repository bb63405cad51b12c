use Rattle.std.proofs.Common.{arith}
use Rattle.ods_paths.proofs.VersionTexts.{no_exact, the_exact}
use Rattle.ods_paths.proofs.versions.read_exact.Goals as goal

pub returns-in_default : goal.returns-in_default
returns-in_default c = no_exact c.args.text.now c.in_default.ensures

pub returns : goal.returns
returns c = the_exact c.args.text.now c.in-Some.version c.in-Some.ensures (omega (arith, c.if-version-eq0.false)) c.if-version-gt-LAST_VERSION.false
