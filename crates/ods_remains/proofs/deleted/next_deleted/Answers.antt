use Rattle.std.proofs.Common.{◌∙◌, refl, sym}
use Rattle.ods_remains.proofs.FormerFiles.{no_header, no_name, leads_there}
use Rattle.ods_remains.proofs.deleted.next_deleted.Goals as goal

pub returns-in_default-deleted_header-clause-next : goal.returns-in_default-deleted_header-clause-next
returns-in_default-deleted_header-clause-next c =
    let D = c.args.disk.now in
    no_header D.image.now D.layout.now c.args.number c.next_number-next.result c.in-Some.header c.in-Some.ensures.1 c.next_number-next.ensures c.in_default-deleted_header.ensures

pub returns-then-names-clause-next : goal.returns-then-names-clause-next
returns-then-names-clause-next c =
    let D = c.args.disk.now in
    let other = c.in-Some-deleted_header in
    leads_there D.image.now D.layout.now c.args.number c.next_number-next.result c.in-Some.header c.in-Some.ensures.1 c.next_number-next.ensures other.other other.ensures.1
    c.in-Some.ensures.0 other.ensures.0 (c.if-names.ensures.0 refl)

pub returns-else-names-clause-next : goal.returns-else-names-clause-next
returns-else-names-clause-next c =
    let D = c.args.disk.now in
    let other = c.in-Some-deleted_header in
    no_name D.image.now D.layout.now c.args.number c.next_number-next.result c.in-Some.header c.in-Some.ensures.1 c.next_number-next.ensures other.other other.ensures.1
    (λ it. absurd (cc (sym (c.names.ensures.1 it) ∙ c.if-names.false)))
