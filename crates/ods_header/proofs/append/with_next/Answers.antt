use Rattle.std.proofs.Common.{◌≡◌, ◌+◌, ◌*◌, ◌∙◌, ap}
use Rattle.ods_base.specs.Block.{with_bytes}
use Rattle.ods_header.specs.Header.{map_word}
use Rattle.ods_header.specs.Pointing.{link_bytes}
use Rattle.ods_header.proofs.HeaderSteps.{AreNextSteps, with_next, next_keeps, next_runs, next_valid}
use Rattle.ods_header.proofs.append.with_next.Goals as goal

steps : (c : goal.After-set_sum) → AreNextSteps c.args.block.now c.set_bytes.new.self c.set_sum.new.block c.args.next.number c.args.next.sequence
steps c =
    let b = c.args.block.now in
    let map : c.byte.result ≡ map_word b = c.byte.ensures in
    record {
      laid = c.requires.layout;
      block0 = c.bytes.ensures.block;
      block1 = c.set_bytes.ensures.stays;
      block2 = c.set_sum.ensures.stays;
      written = c.set_bytes.ensures.changed ∙ ap (λ ys. with_bytes b (2 * c.byte.result + 1) ys) c.link.ensures ∙ ap (λ m. with_bytes b (2 * m + 1) (link_bytes c.args.next.number c.args.next.sequence)) map;
      sum = c.set_sum.ensures.changed;
    }

pub returns-clause-changed : goal.returns-clause-changed
returns-clause-changed c = with_next _ _ _ _ _ (steps c)

pub returns-clause-fields : goal.returns-clause-fields
returns-clause-fields c = next_keeps _ _ _ _ _ (steps c)

pub returns-clause-pointers : goal.returns-clause-pointers
returns-clause-pointers c = next_runs _ _ _ _ _ (steps c)

pub returns-clause-valid : goal.returns-clause-valid
returns-clause-valid c = next_valid _ _ _ _ _ (steps c)
