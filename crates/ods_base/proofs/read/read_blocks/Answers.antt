use Rattle.std.proofs.Common.{◌≡◌, ℕ, ◌+◌, ◌*◌, ◌/◌, ◌≤◌, ◌++◌, List, length, take, drop, refl, sym, ap, ◌∙◌, subst, arith, length-take-le}
use Rattle.std.specs.List.{concat}
use Rattle.std.specs.Io.KnownBytes.{Consumes}
use Rattle.std.proofs.KnownBytes.{Consumes-kept}
use Rattle.std.proofs.lemmas.Result.{err_from_is_err_and}
use Rattle.ods_base.proofs.Reading.{length-taken, read_more, all_placed, none_held, IsImage-by_count}
use Rattle.ods_base.proofs.read.read_blocks.Given.{Over}
use Rattle.ods_base.proofs.read.read_blocks.Goals as goal
use Rattle.ods_base.proofs.read.read_blocks.Goals.{In_ok-count}

-- the bytes that a read gave stand behind those that were held, in the piece
within : (g : Over) (c : In_ok-count g) → c.pieces.held + c.in_ok-count.count ≤ length c.read_once.new.piece
within g c =
    let state = c.pieces.invariant in
    let few : c.in_ok-count.count ≤ c.min-room.result = c.in_ok-count.ensures.ok.0 in
    let kept : length c.read_once.new.piece ≡ 65536 = c.read_once.auto.piece ∙ state.size in
    omega (arith, c.min-room.ensures, state.held)

-- all bytes that were taken by then: those of the blocks, and those of the piece
taken : (g : Over) (c : In_ok-count g) →
    Consumes (g.R.Read.remaining c.args.reader.now) (g.R.Read.remaining c.read_once.new.reader) (concat c.pieces.blocks.items ++ take (c.pieces.held + c.in_ok-count.count) c.read_once.new.piece)
taken g c =
    let remaining = g.R.Read.remaining in
    read_more (remaining c.args.reader.now) (remaining c.pieces.reader) (remaining c.read_once.new.reader) c.pieces.blocks.items c.pieces.held c.in_ok-count.count c.pieces.piece c.read_once.new.piece
    c.pieces.invariant.taken c.in_ok-count.ensures.ok.1

-- so many they are
taken_size : (g : Over) (c : In_ok-count g) →
    length (concat c.pieces.blocks.items ++ take (c.pieces.held + c.in_ok-count.count) c.read_once.new.piece) ≡ 512 * length c.pieces.blocks.items + (c.pieces.held + c.in_ok-count.count)
taken_size g c = length-taken c.pieces.blocks.items (c.pieces.held + c.in_ok-count.count) c.read_once.new.piece c.pieces.invariant.each (within g c)

pub returns-in_err-count : goal.returns-in_err-count
returns-in_err-count g c =
    let blocks = c.pieces.blocks.items in
    let state = c.pieces.invariant in
    let fits : c.pieces.held ≤ length c.pieces.piece = omega (arith, state.size, state.held) in
    let size = length-taken blocks c.pieces.held c.pieces.piece state.each fits in
    let remaining = g.R.Read.remaining in
    let failed = c.in_err-count.ensures.err in
    let p = err_from_is_err_and c.from_residual.result c.from_residual.ensures.1 in (
      concat blocks ++ take c.pieces.held c.pieces.piece,
      Consumes-kept (remaining c.args.reader.now) (remaining c.pieces.reader) (remaining c.read_once.new.reader) (concat blocks ++ take c.pieces.held c.pieces.piece) state.taken failed.1,
      rw (p.1, p.2, failed.0) (omega (arith, state.most)),
    )

pub returns-then-taken-count-gt-MAX_BYTES : goal.returns-then-taken-count-gt-MAX_BYTES
returns-then-taken-count-gt-MAX_BYTES g c =
    let at = (goal.at.returns-then-taken-count-gt-MAX_BYTES g c).In_ok-count in
    let few : c.in_ok-count.count ≤ c.min-room.result = c.in_ok-count.ensures.ok.0 in
    (_, taken g at, taken_size g at ∙ omega (arith, c.len.ensures, c.pieces.blocks.ok.0, c.min-room.ensures, c.if-taken-count-gt-MAX_BYTES.true))

pub returns-in_err-store_whole_blocks : goal.returns-in_err-store_whole_blocks
returns-in_err-store_whole_blocks g c =
    let at = (goal.at.returns-in_err-store_whole_blocks g c).In_ok-count in
    let p = err_from_is_err_and c.from_residual-in_err-store_whole_blocks.result c.from_residual-in_err-store_whole_blocks.ensures.1 in
    let few : c.in_ok-count.count ≤ c.min-room.result = c.in_ok-count.ensures.ok.0 in
    (_, taken g at, rw (p.1, p.2) (omega (arith, taken_size g at, c.pieces.invariant.held, c.len.ensures, c.pieces.blocks.ok.0, c.min-room.ensures)))

pub pieces-preserved : goal.pieces-preserved
pieces-preserved g c =
    let at = (goal.at.pieces-preserved g c).In_ok-count in
    let blocks = c.pieces.blocks.items in
    let more = c.store_whole_blocks.new.blocks.items in
    let state = c.pieces.invariant in
    let few : c.in_ok-count.count ≤ c.min-room.result = c.in_ok-count.ensures.ok.0 in
    let end : ℕ = c.pieces.held + c.in_ok-count.count in
    let piece = c.read_once.new.piece in
    let kept : length piece ≡ 65536 = c.read_once.auto.piece ∙ state.size in
    let size : length (take end piece) ≡ end = length-take-le end piece (within g at) in
    let remaining = g.R.Read.remaining in
    let stored : concat more ≡ concat blocks ++ take (512 * (length (take end piece) / 512)) (take end piece) = c.in_ok-store_whole_blocks.ensures.ok in
    let count : length more ≡ length blocks + length (take end piece) / 512 = omega (arith, c.in_ok-store_whole_blocks.ensures.count, c.store_whole_blocks.new.blocks.ok.0, c.pieces.blocks.ok.0) in
    let rest = c.keep_rest-held.ensures.rest ∙ ap (λ n. drop (512 * (n / 512)) (take end piece)) (sym size) in
    let P : List ℕ → Type 0 = λ bytes. Consumes (remaining c.args.reader.now) (remaining c.read_once.new.reader) bytes in
    let left = c.keep_rest-held.ensures.count in
    record {
      taken = subst P (sym (all_placed blocks more (take end piece) (take c.keep_rest-held.result c.keep_rest-held.new.piece) (512 * (length (take end piece) / 512)) stored rest)) (taken g at);
      each = c.in_ok-store_whole_blocks.ensures.each;
      size = c.keep_rest-held.auto.piece ∙ kept;
      held = omega arith;
      most = omega (arith, c.len.ensures, c.pieces.blocks.ok.0, c.if-taken-count-gt-MAX_BYTES.false);
    }

pub returns-then-held-ne0 : goal.returns-then-held-ne0
returns-then-held-ne0 g c =
    let at = (goal.at.returns-then-held-ne0 g c).In_ok-count in
    let state = c.pieces.invariant in
    let size = taken_size g at in
    (_, taken g at, (omega (arith, state.most, c.if-count-eq0.true), λ whole. absurd (omega (arith, state.held, c.if-count-eq0.true, c.if-held-ne0.true)), c.in_ok-count.ensures.ok.1.at_end c.if-count-eq0.true))

pub returns : goal.returns
returns g c =
    let at = (goal.at.returns g c).In_ok-count in
    let blocks = c.pieces.blocks.items in
    let state = c.pieces.invariant in
    let none : c.pieces.held + c.in_ok-count.count ≡ 0 = omega (arith, c.if-count-eq0.true, c.if-held-ne0.false) in
    let P : List ℕ → Type 0 = λ bytes. Consumes (g.R.Read.remaining c.args.reader.now) (g.R.Read.remaining c.read_once.new.reader) bytes in (
      concat blocks,
      subst P (none_held blocks (c.pieces.held + c.in_ok-count.count) c.read_once.new.piece none) (taken g at),
      (IsImage-by_count blocks state.each (omega (arith, state.most)), refl, c.in_ok-count.ensures.ok.1.at_end c.if-count-eq0.true),
    )
