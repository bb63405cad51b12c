use Rattle.std.proofs.Common.{◌-◌, ◌∙◌, ap, sym, arith}
use Rattle.ods_alloc.specs.Bitmaps.{counted}
use Rattle.ods_alloc.specs.Counts.{low_bits_set}
use Rattle.ods_alloc.proofs.Counted.{few_bits}
use Rattle.ods_alloc.proofs.counting.count_after.Goals as goal

pub bits_after-requires : goal.bits_after-requires
bits_after-requires c =
    c.requires.count ∙ ap (λ m. counted c.args.len m c.args.k c.args.old.now) c.in-Storage.is ∙ ap (λ n. low_bits_set n c.args.old.now) (sym c.few_of.ensures)

pub overflow_sub-count : goal.overflow_sub-count
overflow_sub-count c =
    let was = c.requires.count ∙ ap (λ m. counted c.args.len m c.args.k c.args.old.now) c.in-Index.is in
    omega (arith, was)

pub bits_after-requires-in-Index : goal.bits_after-requires-in-Index
bits_after-requires-in-Index c =
    let was = c.requires.count ∙ ap (λ m. counted c.args.len m c.args.k c.args.old.now) c.in-Index.is in
    omega (arith, was, few_bits 4096 c.args.old.now 4096)

pub overflow_sub-result : goal.overflow_sub-result
overflow_sub-result c = omega (arith, c.bits_after-in-Index.ensures, few_bits 4096 c.args.new.now 4096)

pub returns-in-Storage : goal.returns-in-Storage
returns-in-Storage c = c.bits_after.ensures ∙ ap (λ n. low_bits_set n c.args.new.now) c.few_of.ensures ∙ ap (λ m. counted c.args.len m c.args.k c.args.new.now) (sym c.in-Storage.is)

pub returns-in-Index : goal.returns-in-Index
returns-in-Index c = ap (λ n. 4096 - n) c.bits_after-in-Index.ensures ∙ ap (λ m. counted c.args.len m c.args.k c.args.new.now) (sym c.in-Index.is)
