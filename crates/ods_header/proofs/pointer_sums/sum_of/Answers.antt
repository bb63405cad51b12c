use Rattle.std.proofs.Common.{◌≡◌, ◌+◌, ◌*◌, ◌/◌, length, ap, ◌∙◌, arith}
use Rattle.std.specs.List.{flat_map}
use Rattle.std.proofs.lemmas.List.{take_all}
use Rattle.ods_header.specs.Header.{run_blocks, runs_of}
use Rattle.ods_header.proofs.Chunked.{piece_more, pieces_are}
use Rattle.ods_header.proofs.RunsAt.{length-runs_of}
use Rattle.ods_header.proofs.pointer_sums.sum_of.Goals as goal
use Rattle.ods_header.proofs.pointer_sums.sum_of.Goals.{After-as_chunks}

-- there is a piece for each pointer
pieces : (c : After-as_chunks) → length c.as_chunks.result.0.now ≡ length (runs_of c.args.header.now)
pieces c =
    let runs = length-runs_of c.args.header.now in
    pieces_are c.args.header.now c.bytes-bytes.ensures.block c.requires.layout c.as_chunks.result.0.now c.bytes-bytes.ensures.value (omega (arith, c.byte.ensures)) (omega (arith, c.requires.pointers, runs))
    c.as_chunks.ensures.front c.as_chunks.ensures.front_len

pub overflow_mul-count : goal.overflow_mul-count
overflow_mul-count c = let runs = length-runs_of c.args.header.now in omega (arith, runs, c.requires.pointers, c.requires.layout.fits)

pub overflow_add-at-2 : goal.overflow_add-at-2
overflow_add-at-2 c = let runs = length-runs_of c.args.header.now in omega (arith, runs, c.requires.pointers, c.requires.layout.fits, c.byte.ensures)

pub slice_bounds-as_chunks-end : goal.slice_bounds-as_chunks-end
slice_bounds-as_chunks-end c =
    let runs = length-runs_of c.args.header.now in
    let same = ap length c.bytes-bytes.ensures.value in
    let size = c.bytes-bytes.ensures.block.size in
    omega (arith, runs, c.requires.pointers, c.requires.layout.fits, c.byte.ensures, same, size)

pub overflow_add-sum : goal.overflow_add-sum
overflow_add-sum c =
    let many = pieces (goal.at.overflow_add-sum c).After-as_chunks in
    let runs = length-runs_of c.args.header.now in
    let met = c.loop-pointer.invariant.1 in
    let within = c.loop-pointer-test.true in
    omega (arith, many, runs, met, within)

pub loop-pointer-preserved : goal.loop-pointer-preserved
loop-pointer-preserved c = (
  let runs = length-runs_of c.args.header.now in
      piece_more c.args.header.now c.bytes-bytes.ensures.block c.requires.layout c.as_chunks.result.0.now c.bytes-bytes.ensures.value (omega (arith, c.byte.ensures)) (omega (arith, c.requires.pointers, runs))
      c.as_chunks.ensures.front c.as_chunks.ensures.front_len c.loop-pointer.pointer-index c.from_le_bytes-low.result c.loop-pointer.sum c.loop-pointer-test.true c.from_le_bytes-low.ensures c.loop-pointer.invariant.0,
  let met = c.loop-pointer.invariant.1 in omega (arith, met),
)

pub returns-clause-count : goal.returns-clause-count
returns-clause-count c =
    let many = pieces (goal.at.returns-clause-count c).After-as_chunks in
    let past = c.loop-pointer-test.false in
    let end = c.loop-pointer.auto.pointer-index-end in
    let met = c.loop-pointer.invariant.0 in
    let all = ap (λ l. length (flat_map run_blocks l)) (take_all c.loop-pointer.pointer-index (runs_of c.args.header.now) (omega (arith, many, past))) in
    let count = c.requires.pointers in
    omega (arith, many, past, end, met, all, count)

pub returns-clause-few : goal.returns-clause-few
returns-clause-few c =
    let many = pieces (goal.at.returns-clause-few c).After-as_chunks in
    let met = c.loop-pointer.invariant.1 in
    let end = c.loop-pointer.auto.pointer-index-end in
    let runs = length-runs_of c.args.header.now in
    let count = c.requires.pointers in
    omega (arith, many, met, end, runs, count, c.requires.layout.ident, c.requires.layout.map, c.requires.layout.fits)
