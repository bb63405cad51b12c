-- Blocks of a file that are still to come: the first of them is the one at its place.
use Rattle.std.proofs.Common.{◌≡◌, ℕ, zero, suc, ◌+◌, ◌<◌, List, [], ◌∷◌, length, map, drop, slice_index_or, sym, ap, ◌∙◌, arith}
use Rattle.std.proofs.lemmas.List.{length-map, get_or-map}
use Rattle.ods_base.specs.Image.{block_at}
use Rattle.ods_directory.proofs.Blockwise.{blocks_from}

-- where blocks are to come, there is one at this place
to_come : (blocks : List (List ℕ)) (i : ℕ) (b : List ℕ) (rest : List (List ℕ)) → b ∷ rest ≡ drop i blocks → i < length blocks
to_come [] zero b rest is = absurd (let clash : b ∷ rest ≡ [] = is in cc)
to_come [] (suc i) b rest is = absurd (let clash : b ∷ rest ≡ [] = is in cc)
to_come (x ∷ blocks) zero b rest is = omega arith
to_come (x ∷ blocks) (suc i) b rest is = let within = to_come blocks i b rest is in omega (arith, within)

first_to_come : (blocks : List (List ℕ)) (i : ℕ) (b : List ℕ) (rest : List (List ℕ)) → b ∷ rest ≡ drop i blocks → (block_at blocks i ≡ b) × (rest ≡ drop (i + 1) blocks)
first_to_come blocks i b rest is =
    let both : b ∷ rest ≡ block_at blocks i ∷ drop (i + 1) blocks = is ∙ blocks_from blocks i (to_come blocks i b rest is) in
    (cc, cc)

-- the block of an image at this place of a file
pub block_there : (I : List (List ℕ)) (lbns : List ℕ) (i : ℕ) (b : List ℕ) (rest : List (List ℕ)) → b ∷ rest ≡ drop i (map (block_at I) lbns)
    → (block_at I (slice_index_or lbns i 0) ≡ b) × (rest ≡ drop (i + 1) (map (block_at I) lbns))
block_there I lbns i b rest is =
    let within : i < length lbns = let within = to_come (map (block_at I) lbns) i b rest is in let same = length-map lbns (block_at I) in omega (arith, within, same) in
    let first = first_to_come (map (block_at I) lbns) i b rest is in
    (sym (get_or-map (block_at I) lbns i 0 [] within) ∙ first.0, first.1)
