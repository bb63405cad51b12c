use Rattle.std.proofs.Common.{◌≡◌, refl, subst, take, arith}
use Rattle.std.proofs.lemmas.List.{take_all}
use Rattle.std.proofs.lemmas.Option.{slice_get_read}
use Rattle.ods_shell.specs.Named.{AreLines}
use Rattle.ods_shell.proofs.Named.{one_line_more}
use Rattle.ods_shell.proofs.found.files_of.Goals as goal

pub loop-line-preserved : goal.loop-line-preserved
loop-line-preserved c =
    one_line_more c.args.disk.now.image.now c.args.disk.now.layout.now c.args.directories.now c.args.lines.now c.loop-line.line-index c.line-item.result c.loop-line.all.items c.add_line.new.all.items
    c.in_ok-add_line.ensures (slice_get_read c.args.lines.now _ c.loop-line.line-index c.line-item.result refl c.loop-line-test.true c.line-item.is) c.loop-line.invariant

pub returns : goal.returns
returns c = λ within.
    let all : take c.loop-line.line-index c.args.lines.now ≡ c.args.lines.now = take_all c.loop-line.line-index c.args.lines.now (omega (arith, c.loop-line-test.false)) in
    subst (λ ls. AreLines c.args.disk.now.image.now c.args.disk.now.layout.now c.args.directories.now ls c.loop-line.all.items) all (c.loop-line.invariant within)
