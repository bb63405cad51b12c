use Rattle.std.proofs.Common.{◌≡◌, ◌≤◌, ℕ, refl, sym, ◌∙◌, ap, subst, replicate, arith, false}
use Rattle.std.specs.Prelude.{◌==◌}
use Rattle.std.specs.List.{range_with_len}
use Rattle.std.proofs.lemmas.Bool.{ne_eqb}
use Rattle.std.proofs.lemmas.Result.{err_from_is_err_and}
use Rattle.ods_mount.specs.Sound.{IsSoundBy}
use Rattle.ods_request.specs.Catalogue.{Plain}
use Rattle.ods_request.specs.Steps.{zero_blocks}
use Rattle.ods_request.specs.declared.requests.Request.TheVariants.{SetUser}
use Rattle.ods_space.specs.Layout.{Disk}
use Rattle.ods_space.specs.Files.{HasBlocks}
use Rattle.ods_amend.specs.Runs.{HasNoRun, IsLowestRun}
use Rattle.ods_filing.specs.Amended.{IsWhyNotGiven}
use Rattle.ods_filing.specs.Contiguous.{IsAddedInOnePiece, no_header, no_run, not_attributed, not_filled, not_said}
use Rattle.ods_filing.specs.Filed.{Filed, IsRefusedFor, disk_at}
use Rattle.ods_filing.specs.Put.{IsAdded, block_count, blocks_with, heading_of}
use Rattle.ods_filing.proofs.Added.{attributed}
use Rattle.ods_filing.proofs.InOnePiece.{making_stops, nothing_moves_blocks, nothing_said, said_contiguous}
use Rattle.ods_filing.proofs.contiguous.put_contiguous.Goals as goal

pub returns-then-count-gt-HEADER_BLOCKS-clause-err : goal.returns-then-count-gt-HEADER_BLOCKS-clause-err
returns-then-count-gt-HEADER_BLOCKS-clause-err c = no_header (omega (arith, c.if-count-gt-HEADER_BLOCKS.true, c.blocks_for-count.ensures)) refl

pub returns-in_default-clause-err : goal.returns-in_default-clause-err
returns-in_default-clause-err c =
    no_run (subst (λ n. HasNoRun c.args.filing.now.image c.args.filing.now.layout n) c.blocks_for-count.ensures
    (subst (λ (d : Disk). HasNoRun d.image d.layout c.blocks_for-count.result) (λ i. record { image = c.disk.ensures.image i; layout = c.disk.ensures.layout i }) c.in_default.ensures.none)) refl

pub returns-in_err-id-clause-err : goal.returns-in_err-id-clause-err
returns-in_err-id-clause-err c =
    let f = c.args.file.now in
    let p = err_from_is_err_and c.from_residual.result c.from_residual.ensures.1 in
    let run = subst (λ (d : Disk). IsLowestRun d.image d.layout c.blocks_for-count.result c.in-Some.first) (λ i. record { image = c.disk.ensures.image i; layout = c.disk.ensures.layout i }) c.in-Some.ensures.some in
    rw (p.1, p.2) (making_stops (heading_of f) f.attributes f.bytes.now c.args.filing.now c.make_in_run.new.filing c.blocks_for-count.result c.in-Some.first c.blocks_for-count.ensures run _ c.in_err-id.ensures.err)

pub returns-in_err-fill-clause-err : goal.returns-in_err-fill-clause-err
returns-in_err-fill-clause-err c =
    let f = c.args.file.now in
    let p = err_from_is_err_and c.from_residual-in_err-fill.result c.from_residual-in_err-fill.ensures.1 in
    let made = subst (λ n. IsAdded c.args.filing.now (heading_of f) c.in_ok-id.id (Plain (replicate 32 0) (zero_blocks n)) c.make_in_run.new.filing) c.blocks_for-count.ensures c.in_ok-id.ensures.ok in
    rw (p.1, p.2) (not_filled _ c.in_ok-id.id (c.in_err-fill.ensures.stops c.args.filing.now (heading_of f) made))

pub returns-in_err-obey-clause-err : goal.returns-in_err-obey-clause-err
returns-in_err-obey-clause-err c =
    let f = c.args.file.now in
    let p = err_from_is_err_and c.from_residual-in_err-obey.result c.from_residual-in_err-obey.ensures.1 in
    let made = subst (λ n. IsAdded c.args.filing.now (heading_of f) c.in_ok-id.id (Plain (replicate 32 0) (zero_blocks n)) c.make_in_run.new.filing) c.blocks_for-count.ensures c.in_ok-id.ensures.ok in
    let filled = c.in_ok-fill.ensures.ok c.args.filing.now (heading_of f) made in
    let stays = c.in_err-obey.ensures.unchanged in
    rw (p.1, p.2) (not_attributed c.in_err-obey.field-0.0 c.in_ok-id.id
    (subst (IsAdded c.args.filing.now (heading_of f) c.in_ok-id.id (Plain (replicate 32 0) (blocks_with f.bytes.now))) (sym stays) filled)
    (subst (λ g. IsRefusedFor g (SetUser c.in_ok-id.id f.attributes) c.in_err-obey.field-0.0) (sym stays) c.in_err-obey.ensures.err))

pub returns-in_err-set_characteristics-clause-err : goal.returns-in_err-set_characteristics-clause-err
returns-in_err-set_characteristics-clause-err c =
    let f = c.args.file.now in
    let old = c.args.filing.now in
    let h = heading_of f in
    let id = c.in_ok-id.id in
    let p = err_from_is_err_and c.from_residual-in_err-set_characteristics.result c.from_residual-in_err-set_characteristics.ensures.1 in
    let made = subst (λ n. IsAdded old h id (Plain (replicate 32 0) (zero_blocks n)) c.make_in_run.new.filing) c.blocks_for-count.ensures c.in_ok-id.ensures.ok in
    let filled = c.in_ok-fill.ensures.ok old h made in
    let set = c.in_ok-obey.ensures.ok in
    let now = attributed old c.fill.new.filing c.obey.new.filing h id set.0 f.attributes (replicate 32 0) (blocks_with f.bytes.now) filled set.1 in
    let stays = c.in_err-set_characteristics.ensures.unchanged in
    rw (p.1, p.2) (not_said c.in_err-set_characteristics.field-0.0 id (subst (IsAdded old h id (Plain f.attributes (blocks_with f.bytes.now))) (sym stays) now)
    (subst (λ g. IsWhyNotGiven g id c.in_err-set_characteristics.field-0.0) (sym stays) c.in_err-set_characteristics.ensures.refused))

pub returns-in_ok-set_characteristics-clause-ok : goal.returns-in_ok-set_characteristics-clause-ok
returns-in_ok-set_characteristics-clause-ok c =
    let f = c.args.file.now in
    let old = c.args.filing.now in
    let h = heading_of f in
    let id = c.in_ok-id.id in
    let count = c.blocks_for-count.result in
    let body = Plain f.attributes (blocks_with f.bytes.now) in
    let run = subst (λ (d : Disk). IsLowestRun d.image d.layout count c.in-Some.first) (λ i. record { image = c.disk.ensures.image i; layout = c.disk.ensures.layout i }) c.in-Some.ensures.some in
    let sound = subst (λ (d : Disk). IsSoundBy d.image d.layout) (λ i. record { image = c.disk-2.ensures.image i; layout = c.disk-2.ensures.layout i }) c.disk-2.ensures.sound in
    let made = subst (λ n. IsAdded old h id (Plain (replicate 32 0) (zero_blocks n)) c.make_in_run.new.filing) c.blocks_for-count.ensures c.in_ok-id.ensures.ok in
    let filled = c.in_ok-fill.ensures.ok old h made in
    let set = c.in_ok-obey.ensures.ok in
    let now = attributed old c.fill.new.filing c.obey.new.filing h id set.0 f.attributes (replicate 32 0) (blocks_with f.bytes.now) filled set.1 in
    let has = nothing_moves_blocks (disk_at c.fill.new.filing) (disk_at c.obey.new.filing) set.1.moves.0 set.1.elsewhere.0 sound id.number (range_with_len c.in-Some.first count) (c.in_ok-fill.ensures.kept id.number (range_with_len c.in-Some.first count) c.in_ok-id.ensures.place) in
    let some : (count == 0) ≡ false = ne_eqb count 0 (λ e. absurd (omega (arith, e, c.if-count-gt0.true))) in
    subst (λ n. IsAddedInOnePiece old h id n body c.set_characteristics.new.self) c.blocks_for-count.ensures
    (said_contiguous old c.obey.new.filing c.set_characteristics.new.self h id count c.in-Some.first body some run now has c.in_ok-set_characteristics.ensures.given)

pub returns-else-count-gt0-clause-ok : goal.returns-else-count-gt0-clause-ok
returns-else-count-gt0-clause-ok c =
    let f = c.args.file.now in
    let old = c.args.filing.now in
    let h = heading_of f in
    let id = c.in_ok-id.id in
    let count = c.blocks_for-count.result in
    let body = Plain f.attributes (blocks_with f.bytes.now) in
    let run = subst (λ (d : Disk). IsLowestRun d.image d.layout count c.in-Some.first) (λ i. record { image = c.disk.ensures.image i; layout = c.disk.ensures.layout i }) c.in-Some.ensures.some in
    let sound = subst (λ (d : Disk). IsSoundBy d.image d.layout) (λ i. record { image = c.disk-2.ensures.image i; layout = c.disk-2.ensures.layout i }) c.disk-2.ensures.sound in
    let made = subst (λ n. IsAdded old h id (Plain (replicate 32 0) (zero_blocks n)) c.make_in_run.new.filing) c.blocks_for-count.ensures c.in_ok-id.ensures.ok in
    let filled = c.in_ok-fill.ensures.ok old h made in
    let set = c.in_ok-obey.ensures.ok in
    let now = attributed old c.fill.new.filing c.obey.new.filing h id set.0 f.attributes (replicate 32 0) (blocks_with f.bytes.now) filled set.1 in
    let has = nothing_moves_blocks (disk_at c.fill.new.filing) (disk_at c.obey.new.filing) set.1.moves.0 set.1.elsewhere.0 sound id.number (range_with_len c.in-Some.first count) (c.in_ok-fill.ensures.kept id.number (range_with_len c.in-Some.first count) c.in_ok-id.ensures.place) in
    let none : count ≡ 0 = omega (arith, c.if-count-gt0.false) in
    subst (λ n. IsAddedInOnePiece old h id n body c.obey.new.filing) c.blocks_for-count.ensures (nothing_said old c.obey.new.filing h id count c.in-Some.first body none run now has)
