use Rattle.std.proofs.Common.{◌∙◌, sym}
use Rattle.ods_shell.proofs.Uses.{adds_again, adds_first, adds_none}
use Rattle.ods_shell.proofs.usage.add_use.Goals as goal

pub returns-in_default : goal.returns-in_default
returns-in_default c = λ before are. adds_none c.args.disk.now.image.now c.args.disk.now.layout.now before c.args.line.now c.args.is_seen.now.items c.args.all.now.items are c.in_default.ensures

pub returns-then-see : goal.returns-then-see
returns-then-see c = λ before are.
    adds_again c.args.disk.now.image.now c.args.disk.now.layout.now before c.args.line.now c.args.is_seen.now.items c.args.all.now.items are c.in-Some.facts c.in-Some.ensures c.see.ensures.word
    c.see.new.is_seen.items c.see.ensures.noted (sym c.see.ensures.before ∙ c.if-see.true)

pub returns : goal.returns
returns c = λ before are.
    adds_first c.args.disk.now.image.now c.args.disk.now.layout.now before c.args.line.now c.args.is_seen.now.items c.args.all.now.items are c.in-Some.facts c.in-Some.ensures c.see.ensures.word
    c.see.new.is_seen.items c.see.ensures.noted c.push.new.self.items (sym c.see.ensures.before ∙ c.if-see.false) c.in_ok-push.ensures.items
