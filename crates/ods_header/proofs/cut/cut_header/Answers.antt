use Rattle.std.proofs.Common.{◌≡◌, ◌+◌, ◌*◌, ◌∷◌, [], ◌∙◌, ap, arith}
use Rattle.ods_base.specs.Block.{with_bytes}
use Rattle.ods_header.specs.Header.{map_word}
use Rattle.ods_header.proofs.Cutting.{AreCutSteps, cut_keeps, cut_valid, end_inside, is_cut}
use Rattle.ods_header.proofs.cut.cut_header.Goals as goal

steps : (c : goal.After-set_sum) → AreCutSteps c.args.block.now c.set_bytes.new.self c.set_bytes-2.new.self c.set_bytes-3.new.self c.set_sum.new.block c.args.count c.cut_end-pointers.result.0 c.cut_end-pointers.result.1
steps c =
    let map : c.byte.result ≡ map_word c.args.block.now = c.byte.ensures in
    record {
      laid = c.requires;
      end = c.cut_end-pointers.ensures;
      block0 = c.bytes.ensures.block;
      block1 = c.set_bytes.ensures.stays;
      block2 = c.set_bytes-2.ensures.stays;
      block3 = c.set_bytes-3.ensures.stays;
      block4 = c.set_sum.ensures.stays;
      linked = c.set_bytes.ensures.changed ∙ ap (λ m. with_bytes c.args.block.now (2 * m + 2) (0 ∷ 0 ∷ 0 ∷ 0 ∷ [])) map;
      ended = c.set_bytes-2.ensures.changed ∙ ap (λ m. with_bytes c.set_bytes.new.self (2 * m + 7 + 4 * c.cut_end-pointers.result.0) (c.cut_end-pointers.result.1 ∷ [])) map;
      counted = c.set_bytes-3.ensures.changed ∙ ap (λ m. with_bytes c.set_bytes-2.new.self (2 * m + 8) ((2 * c.cut_end-pointers.result.0) ∷ [])) map;
      sum = c.set_sum.ensures.changed;
    }

pub returns-clause-changed : goal.returns-clause-changed
returns-clause-changed c = is_cut _ _ _ _ _ _ _ _ (steps c)

pub returns-clause-fields : goal.returns-clause-fields
returns-clause-fields c = cut_keeps _ _ _ _ _ _ _ _ (steps c)

pub returns-clause-valid : goal.returns-clause-valid
returns-clause-valid c = cut_valid _ _ _ _ _ _ _ _ (steps c)

pub set_bytes-requires-2 : goal.set_bytes-requires-2
set_bytes-requires-2 c = omega (arith, c.byte.ensures, end_inside c.args.block.now c.args.count c.cut_end-pointers.result.0 c.cut_end-pointers.result.1 c.requires c.cut_end-pointers.ensures)
