use Rattle.std.proofs.Common.{inr, subst}
use Rattle.ods_filing.specs.Amended.{HasProtection}
use Rattle.f11fs.proofs.mending_sound.make_directory.Goals as goal

pub returns-in_ok-dir-in-Ok-clause-made : goal.returns-in_ok-dir-in-Ok-clause-made
returns-in_ok-dir-in-Ok-clause-made c =
    let master = c.in_ok-master.master in
    let done = c.make_directories-made.new.filing in
    let new = c.protect-2.new.filing in (
      inr (record {
        master = master;
        is = c.in_ok-master.ensures;
        bare = c.protect.new.filing;
        done = done;
        bared = c.in_ok-word.ensures.0;
        made = c.in-Ok.ensures.made;
        covered = subst (λ w. HasProtection done master w new) c.in_ok-word.ensures.1 c.in_ok-protect.ensures.0;
      }),
      c.in_ok-dir-in-Ok.ensures,
    )

pub returns-in_ok-tell_unmade-in-Err-clause-made : goal.returns-in_ok-tell_unmade-in-Err-clause-made
returns-in_ok-tell_unmade-in-Err-clause-made c = (
  c.in_ok-master.master,
  c.protect.new.filing,
  c.in_ok-master.ensures,
  c.in_ok-word.ensures.0,
  (c.make_directories-made.new.filing, c.in-Err.failure, c.in_ok-tell_unmade-in-Err.ensures.reported, c.in-Err.ensures.refused),
)
