use Rattle.std.proofs.Common.{rules, of_calls, ◌≡◌, ℕ, List, string_bytes, slice_index_or, Bor}
use Rattle.std.proofs.lemmas.Fn.{always_returns_same}
use Rattle.std.specs.Ordering.{nat_cmp}
use Rattle.std.specs.declared.cmp.Ordering.{Ordering}
use Rattle.std.specs.Cmp.Lexicographic.{slice_cmp}
use Rattle.std.specs.FinMap.{nat_cmp-IsAntisymmetric, slice_cmp-IsAntisymmetric}
use Rattle.std.proofs.lemmas.Cmp.{nat_list_cmp_total}
use Rattle.std.proofs.lemmas.List.Sorted.{searchable_from_sorted}
use Rattle.fs_reads.specs.declared.comparing.Known.{Known}
use Rattle.fs_reads.proofs.PathsKnown.{lacks_path}
use Rattle.fs_reads.proofs.comparing.place_of.Goals as goal

pub returns-in-Ok-clause-there : goal.returns-in-Ok-clause-there
returns-in-Ok-clause-there c = λ d.
    let ord : Known → Ordering = λ known. slice_cmp nat_cmp (string_bytes known.path) c.args.path.now in
    let found = c.in-Ok.ensures.position ord (always_returns_same _ (λ a r. r ≡ ord a.0.now) _ (λ a r f k. search (rules, of_calls))) in
    slice_cmp-IsAntisymmetric nat_cmp-IsAntisymmetric (string_bytes (slice_index_or c.args.all.now c.in-Ok.place d).path) c.args.path.now (found d)

pub returns-in-Err-clause-none : goal.returns-in-Err-clause-none
returns-in-Err-clause-none c = λ sorted _.
    let ord : Known → Ordering = λ known. slice_cmp nat_cmp (string_bytes known.path) c.args.path.now in
    let found = c.in-Err.ensures.position ord (always_returns_same _ (λ a r. r ≡ ord a.0.now) _ (λ a r f k. search (rules, of_calls))) in
    lacks_path c.args.path.now c.args.all.now c.in-Err.field-0 (found (searchable_from_sorted nat_list_cmp_total (λ (known : Known). string_bytes known.path) c.args.all.now c.args.path.now sorted))
