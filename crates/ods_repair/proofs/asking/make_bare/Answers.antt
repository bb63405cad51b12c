use Rattle.std.proofs.Common.{◌≢◌, sym, subst}
use Rattle.ods_mount.specs.Sound.{IsSoundBy}
use Rattle.ods_request.specs.declared.refusals.Refusal.TheVariants.{Denied}
use Rattle.ods_filing.specs.Amended.{HasProtection}
use Rattle.ods_repair.specs.Asked.{IsNotMade}
use Rattle.ods_repair.proofs.Bare.{bare_done, bare_refused, not_covered, not_made}
use Rattle.ods_repair.proofs.FreedAll.{same_here}
use Rattle.ods_repair.proofs.asking.make_bare.Goals as goal

pub returns-in-Err-clause-refused : goal.returns-in-Err-clause-refused
returns-in-Err-clause-refused c =
    not_made c.args.filing.now (same_here IsSoundBy c.disk.result.image.now c.args.filing.now.image c.disk.result.layout.now c.args.filing.now.layout c.disk.ensures.image c.disk.ensures.layout c.disk.ensures.sound)
    c.args.dir c.args.request.now c.requires.names c.requires.denied c.in-Err.reason c.in-Err.ensures.refused c.replace_protection.new.self c.in-Err.ensures.unchanged

pub returns-in-Ok-replace_protection-clause-done : goal.returns-in-Ok-replace_protection-clause-done
returns-in-Ok-replace_protection-clause-done c =
    bare_done c.args.filing.now c.replace_protection.new.self c.make-made.new.filing
    (same_here IsSoundBy c.disk.result.image.now c.args.filing.now.image c.disk.result.layout.now c.args.filing.now.layout c.disk.ensures.image c.disk.ensures.layout c.disk.ensures.sound)
    c.args.dir c.args.request.now c.requires.names c.in-Ok.ensures.set c.replace_protection-2.new.self c.requires.denied
    (subst (λ w. HasProtection c.make-made.new.filing c.args.dir w c.replace_protection-2.new.self) c.in-Ok.ensures.before c.in-Ok-replace_protection.ensures.set) c.make-made.result c.make-made.ensures.done

pub returns-in-Ok-replace_protection-clause-refused : goal.returns-in-Ok-replace_protection-clause-refused
returns-in-Ok-replace_protection-clause-refused c =
    bare_refused c.args.filing.now c.replace_protection.new.self c.make-made.new.filing
    (same_here IsSoundBy c.disk.result.image.now c.args.filing.now.image c.disk.result.layout.now c.args.filing.now.layout c.disk.ensures.image c.disk.ensures.layout c.disk.ensures.sound)
    c.args.dir c.args.request.now c.requires.names c.in-Ok.ensures.set c.replace_protection-2.new.self c.requires.denied
    (subst (λ w. HasProtection c.make-made.new.filing c.args.dir w c.replace_protection-2.new.self) c.in-Ok.ensures.before c.in-Ok-replace_protection.ensures.set) c.make-made.result c.make-made.ensures.refused c.make-made.ensures.unchanged

pub returns-in-Err-replace_protection-clause-refused : goal.returns-in-Err-replace_protection-clause-refused
returns-in-Err-replace_protection-clause-refused c =
    subst (λ new. (c.in-Err-replace_protection.reason ≢ Denied) × IsNotMade c.args.filing.now c.args.request.now new c.in-Err-replace_protection.reason) (sym c.in-Err-replace_protection.ensures.unchanged)
    (not_covered c.args.filing.now c.replace_protection.new.self c.make-made.new.filing
    (same_here IsSoundBy c.disk.result.image.now c.args.filing.now.image c.disk.result.layout.now c.args.filing.now.layout c.disk.ensures.image c.disk.ensures.layout c.disk.ensures.sound)
    c.args.dir c.args.request.now c.requires.names c.in-Ok.ensures.set c.make-made.result c.make-made.ensures.done c.make-made.ensures.unchanged c.in-Err-replace_protection.reason c.in-Err-replace_protection.ensures.refused)
