use Rattle.std.proofs.Common.{ap, ◌∙◌}
use Rattle.std.specs.Prelude.{unwrap_or}
use Rattle.ods_base.specs.Block.{with_bytes}
use Rattle.ods_amend.proofs.AccessSet.{is_with_access}
use Rattle.ods_amend.proofs.header.with_access.Goals as goal

pub returns : goal.returns
returns c =
    is_with_access c.args.block.now c.set_bytes.new.self c.renew_sum.new.block c.args.user c.args.word c.args.flags c.unwrap_or-new_owner.result c.unwrap_or-new_protection.result c.unwrap_or-new_flags.result
    c.bytes.ensures.block c.renew_sum.ensures.stays
    (c.unwrap_or-new_owner.ensures ∙ ap (unwrap_or c.args.user) c.owner.ensures)
    (c.unwrap_or-new_protection.ensures ∙ ap (unwrap_or c.args.word) c.protection.ensures)
    (c.unwrap_or-new_flags.ensures ∙ ap (unwrap_or c.args.flags) c.user_char.ensures)
    (c.set_bytes.ensures.changed ∙ ap (with_bytes c.args.block.now 8) c.access_bytes-bytes.ensures) c.set_bytes.ensures.stays.size c.renew_sum.ensures.changed
