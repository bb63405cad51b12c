use Rattle.std.proofs.Common.{ℕ, ◌==◌, rules, tests}
use Rattle.std.proofs.lemmas.Iterator.Search.{any_from_yields_List}
use Rattle.std.proofs.lemmas.Iterator.Splits.{YieldsList-from_slice_split}
use Rattle.fs_reads.specs.Folders.{is_name}
use Rattle.fs_reads.proofs.rescue_folder.has_name.Goals as goal

pub returns : goal.returns
returns c =
    any_from_yields_List is_name _ _ c.any.result c.any.ensures.ran
    (YieldsList-from_slice_split _ (λ (b : ℕ). b == 0) c.args.names.now c.split.ensures.rest c.split.ensures.done c.split.ensures.closure (λ x b q k. search (rules, tests)))
    (λ x b q k. search (rules, tests))
