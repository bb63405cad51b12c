use Rattle.std.proofs.Common.{◌≡◌, ◌+◌, ◌*◌, ◌∷◌, [], ◌∙◌, ap, subst, length, ℕ, arith}
use Rattle.ods_base.specs.Block.{with_bytes}
use Rattle.ods_header.specs.Header.{map_word, used_words_of}
use Rattle.ods_header.specs.Writing.{HasPointersAt, SameOutside}
use Rattle.ods_header.specs.Pointing.{behind_pointers}
use Rattle.ods_header.proofs.HeaderSteps.{AreRunSteps, with_runs, runs_keep, runs_valid}
use Rattle.ods_header.proofs.append.append_runs.Goals as goal

steps : (c : goal.After-set_sum) → AreRunSteps c.args.block.now c.write_pointers.new.block c.set_bytes.new.self c.set_sum.new.block c.args.runs.now (c.used_words-used.result + 2 * length c.args.runs.now)
steps c =
    let b = c.args.block.now in
    let b1 = c.write_pointers.new.block in
    let rs = c.args.runs.now in
    let map : c.byte.result ≡ map_word b = c.byte.ensures in
    let used : c.used_words-used.result ≡ used_words_of b = c.used_words-used.ensures in
    let place : 2 * c.byte.result + 10 + 2 * c.used_words-used.result ≡ behind_pointers b = omega (arith, map, used) in
    let P : ℕ → Type 0 = λ at. HasPointersAt b1 at rs in
    let Q : ℕ → Type 0 = λ at. SameOutside b b1 at (at + 4 * length rs) in
    record {
      laid = c.requires.layout;
      room = c.requires.room;
      runs = c.requires.runs;
      block0 = c.bytes.ensures.block;
      block1 = c.write_pointers.ensures.block;
      block2 = c.set_bytes.ensures.stays;
      block3 = c.set_sum.ensures.stays;
      pointers = subst P place c.write_pointers.ensures.pointers;
      outside = subst Q place c.write_pointers.ensures.outside;
      used = omega (arith, used);
      counted = c.set_bytes.ensures.changed ∙ ap (λ m. with_bytes b1 (2 * m + 8) ((c.used_words-used.result + 2 * length rs) ∷ [])) map;
      sum = c.set_sum.ensures.changed;
    }

pub returns-clause-changed : goal.returns-clause-changed
returns-clause-changed c = with_runs _ _ _ _ _ _ (steps c)

pub returns-clause-fields : goal.returns-clause-fields
returns-clause-fields c = runs_keep _ _ _ _ _ _ (steps c)

pub returns-clause-valid : goal.returns-clause-valid
returns-clause-valid c = runs_valid _ _ _ _ _ _ (steps c)
