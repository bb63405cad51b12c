use Rattle.std.proofs.Common.{◌≡◌, ℕ, ◌+◌, ◌*◌, List, ◌∙◌, ap, sym, subst, arith, get_or}
use Rattle.std.proofs.lemmas.Option.{slice_get-get_or}
use Rattle.ods_base.specs.Block.{IsBlock, with_bytes}
use Rattle.ods_header.specs.declared.header.Run.{Run}
use Rattle.ods_header.specs.Writing.{pointer_bytes}
use Rattle.ods_header.proofs.PointersAt.{AreWrittenAt, one_more_written, none_written}
use Rattle.ods_header.proofs.pointers.write_pointers.Goals as goal

pub loop-k-init : goal.loop-k-init
loop-k-init c = none_written c.args.block.now c.args.at c.args.runs.now c.bytes.ensures.block

pub loop-k-preserved : goal.loop-k-preserved
loop-k-preserved c =
    let d : Run = record { lbn = 0; count = 0 } in
    let r : Run = get_or c.args.runs.now c.loop-k.k d in
    let at : ℕ = c.args.at + 4 * c.loop-k.k in
    let is : c.set_bytes.new.self ≡ with_bytes c.loop-k.block at (pointer_bytes r) = c.set_bytes.ensures.changed ∙ ap (λ ys. with_bytes c.loop-k.block at ys) c.pointer.ensures in
    let block : IsBlock (with_bytes c.loop-k.block at (pointer_bytes r)) = subst IsBlock is c.set_bytes.ensures.stays in
    let P : List ℕ → Type 0 = λ b. AreWrittenAt c.args.block.now b c.args.at c.args.runs.now (c.loop-k.k + 1) in
    let within = c.loop-k-test.true in
    let few = c.requires in
    subst P (sym is) (one_more_written c.args.block.now c.loop-k.block c.args.at c.args.runs.now c.loop-k.k r c.loop-k.invariant (slice_get-get_or c.args.runs.now c.loop-k.k d within) (omega arith) block)
