use Rattle.std.proofs.Common.{length, ◌≡◌, arith}
use Rattle.ods_header.specs.Attributes.{IsWithAttributes}
use Rattle.ods_header.proofs.AttributesSet.{is_with_attributes, keeps_fields}
use Rattle.ods_header.proofs.set_attributes.with_attributes.Goals as goal

changed : (c : goal.After-set_sum) → IsWithAttributes c.args.block.now c.args.attributes.now c.set_sum.new.block
changed c =
    let size : length c.args.attributes.now ≡ 32 = omega arith in
    is_with_attributes c.args.block.now c.args.attributes.now c.set_bytes.new.self c.set_sum.new.block
    c.bytes.ensures.block c.set_sum.ensures.stays size c.set_bytes.ensures.changed c.set_bytes.ensures.stays.size c.set_sum.ensures.changed

pub returns-clause-changed : goal.returns-clause-changed
returns-clause-changed c = changed c

pub returns-clause-fields : goal.returns-clause-fields
returns-clause-fields c = keeps_fields c.args.block.now c.args.attributes.now c.set_sum.new.block (changed c)
