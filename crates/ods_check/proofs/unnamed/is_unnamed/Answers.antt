use Rattle.ods_check.proofs.Telling.{true_holds}
use Rattle.ods_check.proofs.NamedLines.{unnamed_is}
use Rattle.ods_check.proofs.unnamed.is_unnamed.Goals as goal

pub returns-in-Some : goal.returns-in-Some
returns-in-Some c =
    unnamed_is c.args.disk.now.image.now c.args.disk.now.layout.now c.args.number c.args.lines.now c.system_words.result c.sequence.result c.is_named.result
    c.if-not-is_system_file.ensures c.in-Some.ensures.some.0 (true_holds _ _ c.requires.read c.if-not-read.false) c.requires.lines c.system_words.ensures c.sequence.ensures c.is_named.ensures
