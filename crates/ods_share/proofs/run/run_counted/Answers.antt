use Rattle.std.proofs.Common.{◌≡◌, ◌∙◌, ◌<◌, arith, ap, length}
use Rattle.ods_share.specs.Scripts.{seen_first}
use Rattle.ods_share.proofs.Runs.{ended, map_len, sat, sat_len}
use Rattle.ods_share.proofs.run.run_counted.Goals as goal

pub returns-clause-ended : goal.returns-clause-ended
returns-clause-ended g c =
    let is = c.in-Ok-unpack.ensures in
    let n = sat_len _ _ is in
    let kept = c.in-Ok-audit.ensures in
    let m = ap length kept.ended ∙ map_len _ _ in
    let back = c.close-volume in
    let filled : 0 < back.result.1.total → length back.result.0.entries ≡ g.J.Naming.limit = λ some. back.ensures.full some ∙ back.ensures.limit in (
      omega (arith, n, m, c.in-Ok.ensures.0, c.in-Ok-audit.ended.ok.0, c.in-Ok.done.ok.0),
      ended g.K.Keep.keeps g.J.Naming.mounted c.args.stamp (seen_first c.args.viewers.items) (length back.result.0.entries ≡ g.J.Naming.limit) c.args.scripts.now _ _ _ kept.ended
          (omega (arith, n, c.in-Ok.ensures.0, c.in-Ok.done.ok.0)) kept.bound filled (sat g.K.Keep.keeps g.J.Naming.mounted c.args.stamp (seen_first c.args.viewers.items) c.args.scripts.now _ _ is c.in-Ok.ensures.1),
    )
