use Rattle.std.proofs.Common.{rules, ◌∙◌, sym, string_bytes}
use Rattle.ods_request.specs.AnswerTests.{equal_by, tells_id}
use Rattle.ods_request.specs.Equal.{same_id}
use Rattle.f11fs.specs.Plans.{DifferBy, Tells}
use Rattle.f11fs.proofs.Told.{told_both, told_same}
use Rattle.f11fs.proofs.telling.add_both.Goals as goal

pub returns-then-eq-clause-told : goal.returns-then-eq-clause-told
returns-then-eq-clause-told c =
    told_same c.args.plan.now.json (λ a b d. DifferBy c.args.before.now a c.args.after.now b d) c.args.old c.args.new c.as_str.result.now (λ told. Tells c.args.plan.now told c.add_changed.new.plan)
    c.add_changed.result (equal_by same_id tells_id c.args.old c.args.new (sym c.if-eq.ensures)) (c.as_str.ensures.value ∙ c.in_ok-id.ensures) c.add_changed.ensures.told

pub returns-clause-told : goal.returns-clause-told
returns-clause-told c =
    told_both (λ a b d. DifferBy c.args.before.now a c.args.after.now b d) c.args.old c.args.new c.args.plan.now.json c.add_file.new.self.json
    (string_bytes c.args.plan.now.text) (string_bytes c.add_file.new.self.text) (string_bytes c.add_file-2.new.self.text)
    (search rules) c.add_file.ensures.mode c.in_ok-add_file.ensures.line c.in_ok-add_file-2.ensures.line
