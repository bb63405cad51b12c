use Rattle.std.proofs.Common.{◌≡◌, ◌∙◌, ◌++◌, replicate, append_assoc, subst}
use Rattle.ods_upkeep.specs.Appended.{IsPadded}
use Rattle.ods_upkeep.proofs.Requests.{text_behind}
use Rattle.ods_upkeep.proofs.appending.add_text.Goals as goal

pub returns-clause-ok : goal.returns-clause-ok
returns-clause-ok c =
    let old = c.args.all.now.items in
    let records = c.in-Ok.records.bytes.items in
    let joined : c.extend_from_slice.new.self.items ≡ old ++ (replicate c.in_ok-pad.pad 0 ++ records) =
    c.in_ok-extend_from_slice.ensures.items ∙ (λ i. c.in_ok-push_zeros.ensures i ++ c.as_slice-2.ensures.value i) ∙ append_assoc old (replicate c.in_ok-pad.pad 0) records in
    text_behind c.args.own.now old c.args.text.now c.extend_from_slice.new.self.items c.as_slice-3.result.now c.in_ok-attributes.attributes c.with_size.result c.in_ok-pad.pad c.in-Ok.records.longest records
    (subst (λ l. IsPadded l c.in_ok-pad.pad) c.as_slice.ensures.value c.in_ok-pad.ensures.ok) c.in-Ok.ensures.ok joined c.as_slice-3.ensures.value c.with_size.ensures c.in_ok-attributes.ensures.ok
