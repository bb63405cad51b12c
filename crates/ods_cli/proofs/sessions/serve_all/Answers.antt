use Rattle.std.proofs.Common.{◌≡◌, ◌≤◌, ◌∙◌, ℕ, List, subst, ap}
use Rattle.std.specs.Prelude.{IfOk, IfErr}
use Rattle.ods_state.specs.Version.{State}
use Rattle.ods_cli.specs.Printed.{said_text}
use Rattle.ods_cli.specs.Serve.{IsServedTo, IsServingFault}
use Rattle.ods_cli.proofs.Serving.{of_desk}
use Rattle.ods_cli.proofs.sessions.serve_all.Goals as goal

pub returns-in-Ok-run_keeping-clause-ok : goal.returns-in-Ok-run_keeping-clause-ok
returns-in-Ok-run_keeping-clause-ok g c =
    let new = c.in-Ok.ensures.ok in
    let back = c.in-Ok-run_keeping.ensures in
    let same : c.in-Ok-run_keeping.volume.mounted ≡ c.args.mounted.image = back.mounted ∙ ap (λ (v : State). v.mounted) new in
    let bound : c.in-Ok-run_keeping.volume.limit ≡ c.args.options.limit = back.limit ∙ ap (λ (v : State). v.limit) new in
    let each = of_desk c.args.options.stamp c.args.scripts.now c.in-Ok.volume c.in-Ok-run_keeping.volume c.in-Ok-run_keeping.ended.items (ap (λ (v : State). v.entries) new) back.mounted back.limit back.ended.1 in
    let one = subst (λ (n : ℕ). IfOk c.settle.result (λ s. IsServedTo c.args.options.stamp c.args.scripts.now n c.in-Ok-run_keeping.volume.mounted s.volume.image s.said.report (said_text s.said)))
    bound (c.settle.ensures.ok c.args.options.stamp each) in
    subst (λ (M : List (List ℕ)). IfOk c.settle.result (λ s. IsServedTo c.args.options.stamp c.args.scripts.now c.args.options.limit M s.volume.image s.said.report (said_text s.said))) same one

pub returns-in-Ok-run_keeping-clause-limit : goal.returns-in-Ok-run_keeping-clause-limit
returns-in-Ok-run_keeping-clause-limit g c =
    let bound : c.in-Ok-run_keeping.volume.limit ≡ c.args.options.limit = c.in-Ok-run_keeping.ensures.limit ∙ ap (λ (v : State). v.limit) c.in-Ok.ensures.ok in
    subst (λ (n : ℕ). IfOk c.settle.result (λ s. s.said.report.entries ≤ n)) bound c.settle.ensures.limit

pub returns-in-Ok-run_keeping-clause-err : goal.returns-in-Ok-run_keeping-clause-err
returns-in-Ok-run_keeping-clause-err g c =
    let new = c.in-Ok.ensures.ok in
    let back = c.in-Ok-run_keeping.ensures in
    let same : c.in-Ok-run_keeping.volume.mounted ≡ c.args.mounted.image = back.mounted ∙ ap (λ (v : State). v.mounted) new in
    let bound : c.in-Ok-run_keeping.volume.limit ≡ c.args.options.limit = back.limit ∙ ap (λ (v : State). v.limit) new in
    let each = of_desk c.args.options.stamp c.args.scripts.now c.in-Ok.volume c.in-Ok-run_keeping.volume c.in-Ok-run_keeping.ended.items (ap (λ (v : State). v.entries) new) back.mounted back.limit back.ended.1 in
    let one = subst (λ (n : ℕ). IfErr c.settle.result (IsServingFault c.args.options.stamp c.args.scripts.now c.in-Ok-run_keeping.volume.mounted n)) bound (c.settle.ensures.err c.args.options.stamp each) in
    subst (λ (M : List (List ℕ)). IfErr c.settle.result (IsServingFault c.args.options.stamp c.args.scripts.now M c.args.options.limit)) same one
