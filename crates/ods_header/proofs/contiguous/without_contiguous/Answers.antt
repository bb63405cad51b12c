use Rattle.std.proofs.Common.{◌∙◌, ◌∷◌, [], ap}
use Rattle.std.specs.Prelude.{bit_and}
use Rattle.ods_base.specs.Block.{with_bytes}
use Rattle.ods_header.specs.Contiguous.{IsWithoutContiguous}
use Rattle.ods_header.proofs.AllButOne.{is_without_contiguous, keeps_all}
use Rattle.ods_header.proofs.contiguous.without_contiguous.Goals as goal

changed : (c : goal.After-set_sum) → IsWithoutContiguous c.args.block.now c.set_sum.new.block
changed c = is_without_contiguous c.args.block.now c.set_bytes.new.self c.set_sum.new.block
    c.bytes.ensures.block c.set_sum.ensures.stays (c.set_bytes.ensures.changed ∙ ap (λ x. with_bytes c.args.block.now 12 (bit_and x 127 ∷ [])) c.byte.ensures) c.set_bytes.ensures.stays.size c.set_sum.ensures.changed

pub returns-clause-changed : goal.returns-clause-changed
returns-clause-changed c = changed c

pub returns-clause-fields : goal.returns-clause-fields
returns-clause-fields c = keeps_all c.args.block.now c.set_sum.new.block (changed c)
