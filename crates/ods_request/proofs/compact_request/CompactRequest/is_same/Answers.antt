use Rattle.std.proofs.Common.{sym, ◌∙◌}
use Rattle.ods_request.specs.RequestTests.{requests_decide}
use Rattle.ods_request.proofs.compact_request.CompactRequest.is_same.Goals as goal

pub returns : goal.returns
returns c =
    let decides = requests_decide c.args.self.now c.args.other.now in
    (λ h. decides.0 (sym c.eq.ensures ∙ h), λ e. c.eq.ensures ∙ decides.1 e)
