-- Blocks of a file that are still to come.
use Rattle.std.proofs.Common.{◌≡◌, ℕ, ◌<◌, List, [], ◌∷◌, ◌++◌, length, map, ap, sym, ◌∙◌, subst}
use Rattle.std.proofs.lemmas.List.{map-append}
use Rattle.std.proofs.lemmas.List.Elements.{All-tail}
use Rattle.ods_base.specs.Image.{block_at}
use Rattle.ods_directory.specs.Tags.{block_tags}
use Rattle.ods_space.specs.Files.{AreInside}
use Rattle.ods_look.specs.Blocks.{AreTaggedBlocks}

-- of blocks of the image those behind the first one are of it
pub others_inside : (I : List (List ℕ)) (lbns : List ℕ) (lbn : ℕ) (rest : List ℕ) → lbns ≡ lbn ∷ rest → AreInside I lbns → AreInside I rest
others_inside I lbns lbn rest is inside = All-tail (λ x. x < length I) lbn rest (subst (AreInside I) is inside)

-- one block more is noted, with its tags
pub tagged_more : (I : List (List ℕ)) (blocks blocks_then : List ℕ) (lbn : ℕ) (tags tags_then : List (List ℕ)) (new block : List ℕ) → AreTaggedBlocks I blocks tags → blocks_then ≡ blocks ++ lbn ∷ [] → tags_then ≡ tags ++ new ∷ []
    → new ≡ block_tags block → block ≡ block_at I lbn → AreTaggedBlocks I blocks_then tags_then
tagged_more I blocks blocks_then lbn tags tags_then new block before more more_tags are value =
    let tag : new ≡ block_tags (block_at I lbn) = are ∙ ap block_tags value in
    more_tags ∙ (λ i. before i ++ tag i ∷ []) ∙ sym (ap (λ l. map block_tags (map (block_at I) l)) more ∙ ap (map block_tags) (map-append (block_at I) blocks (lbn ∷ [])) ∙ map-append block_tags (map (block_at I) blocks) (block_at I lbn ∷ []))
