use Rattle.std.proofs.Common.{◌≡◌, false, ℕ, List, [], ◌++◌, sym, append-nil, string_bytes}
use Rattle.f11fs.proofs.AllTold.{gone_told, stays_told}
use Rattle.f11fs.proofs.telling.add_old.Goals as goal

pub returns-in-Some-clause-told : goal.returns-in-Some-clause-told
returns-in-Some-clause-told c = λ sorted.
    ([], stays_told c.args.plan.now.json c.args.new.now c.args.one.now c.in-Some.field-0.now c.as_str-path.result.now c.as_str-path.ensures.value (c.in-Some.ensures.known sorted), sym (append-nil (string_bytes c.args.plan.now.text)))

pub returns-in-None-clause-told : goal.returns-in-None-clause-told
returns-in-None-clause-told c = λ sorted.
    gone_told c.args.plan.now.json c.args.new.now c.args.one.now c.as_str-path.result.now (λ (told : List ℕ). string_bytes c.add.new.self.text ≡ string_bytes c.args.plan.now.text ++ told) c.add.result
    c.as_str-path.ensures.value (c.in-None.ensures.known sorted) c.add.ensures.line
