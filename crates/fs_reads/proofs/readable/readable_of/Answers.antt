use Rattle.std.proofs.Common.{rules, ◌≡◌, Ok}
use Rattle.fs_reads.proofs.Opening.{readable_by}
use Rattle.fs_reads.proofs.readable.readable_of.Goals as goal

pub returns-then-volume-clause-ok : goal.returns-then-volume-clause-ok
returns-then-volume-clause-ok g c =
    let is : c.args.opened ≡ Ok (c.in-Ok.image, c.in-Ok.extent) = search rules in
    readable_by c.args.opened c.in-Ok.image c.in-Ok.extent _ _ is c.volume.view_is c.in_ok-volume-in-Ok.ensures.ok

pub returns-in-Ok-say_passed_over-clause-ok : goal.returns-in-Ok-say_passed_over-clause-ok
returns-in-Ok-say_passed_over-clause-ok g c =
    let is : c.args.opened ≡ Ok (c.in-Ok.image, c.in-Ok.extent) = search rules in
    readable_by c.args.opened c.in-Ok.image c.in-Ok.extent _ _ is c.volume.view_is c.in_ok-volume-in-Ok.ensures.ok
