use Rattle.std.proofs.Common.{◌≡◌, ◌++◌, ◌∷◌, [], filter, List, ℕ, refl, subst}
use Rattle.ods_directory.specs.Entry.{used_entries}
use Rattle.ods_directory.specs.Lines.{good_lines}
use Rattle.ods_walk.specs.Listing.{has_name}
use Rattle.ods_walk.proofs.NamedEntries.{none_in_block}
use Rattle.ods_walk.proofs.named.add_named.Goals as goal

pub returns-then-not-has_words : goal.returns-then-not-has_words
returns-then-not-has_words c =
    let old = c.args.found.now.items in
    subst (λ (b : List ℕ). old ≡ old ++ filter (has_name c.args.name.now) (good_lines (used_entries (b ∷ []) c.args.mark))) c.block.ensures.value
    (none_in_block c.args.name.now c.block.result.now c.args.mark old old c.requires.mark c.if-not-has_words.ensures refl)
