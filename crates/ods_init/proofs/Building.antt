-- The image of a planned volume: blocks of one byte, of which the structures take the first.
use Rattle.std.proofs.Common.{◌≡◌, ◌≢◌, ℕ, zero, suc, ◌+◌, ◌*◌, ◌<◌, ◌≤◌, List, [], ◌∷◌, ◌++◌, length, take, drop, refl, sym, ap, ◌∙◌, subst, inl, inr, arith, length-append, length-set}
use Rattle.std.proofs.lemmas.Bool.{cases_lt}
use Rattle.std.proofs.lemmas.List.{append-nil, get_or-replicate, get_or-set_other, get_or-set_same, length-replicate, replicate-append-replicate}
use Rattle.std.proofs.Math.Seq.{take-append_seam, drop-append_seam}
use Rattle.std.specs.Prelude.{replicate, slice_set}
use Rattle.std.specs.List.{All, concat}
use Rattle.ods_base.specs.Block.{IsBlock}
use Rattle.ods_base.specs.Image.{IsImage, block_at, image_bytes}
use Rattle.ods_init.specs.declared.blueprint.Blueprint.{Blueprint}
use Rattle.ods_init.specs.Places.{AreFit}
use Rattle.ods_init.specs.Blocks.{IsNewBlock}
use Rattle.ods_init.specs.New.{IsVolumeOf}

-- blocks whose bytes are one byte are blocks of that byte
pub filled_blocks : (I : List (List ℕ)) (n byte : ℕ) → All IsBlock I → image_bytes I ≡ replicate (512 * n) byte → I ≡ replicate n (replicate 512 byte)
filled_blocks [] zero byte p e = refl
filled_blocks [] (suc n) byte p e = let long : length (replicate (512 * suc n) byte) ≡ 512 * suc n = length-replicate (512 * suc n) byte in absurd (omega (arith, ap length e, long))
filled_blocks (x ∷ xs) zero byte p e = let size : length x ≡ 512 = (p 0 [] (omega arith)).size in absurd (omega (arith, ap length e, length-append x (concat xs), size))
filled_blocks (x ∷ xs) (suc n) byte p e =
    let size : length x ≡ 512 = (p 0 [] (omega arith)).size in
    let block = replicate 512 byte in
    let behind = replicate (512 * n) byte in
    let sizes : length x ≡ length block = size ∙ sym (length-replicate 512 byte) in
    let more : 512 * suc n ≡ 512 + 512 * n = omega arith in
    let whole : x ++ concat xs ≡ block ++ behind = e ∙ ap (λ (k : ℕ). replicate k byte) more ∙ sym (replicate-append-replicate 512 (512 * n) byte) in
    let first : x ≡ block = sym (take-append_seam x (concat xs)) ∙ ap (λ (l : List ℕ). take (length x) l) whole ∙ ap (λ (k : ℕ). take k (block ++ behind)) sizes ∙ take-append_seam block behind in
    let rest : concat xs ≡ behind = sym (drop-append_seam x (concat xs)) ∙ ap (λ (l : List ℕ). drop (length x) l) whole ∙ ap (λ (k : ℕ). drop k (block ++ behind)) sizes ∙ drop-append_seam block behind in
    let others : All IsBlock xs = λ k d h. p (suc k) d (omega (arith, h)) in
    λ i. first i ∷ filled_blocks xs n byte others rest i

-- an image that was read from so many bytes of one kind, to their end
pub filled_read : (I : List (List ℕ)) (n byte : ℕ) (bytes rest : List ℕ) → replicate (512 * n) byte ≡ bytes ++ rest → rest ≡ [] → image_bytes I ≡ bytes → IsImage I → I ≡ replicate n (replicate 512 byte)
filled_read I n byte bytes rest all none is image =
    filled_blocks I n byte image.blocks (is ∙ sym (append-nil bytes) ∙ ap (λ (l : List ℕ). bytes ++ l) (sym none) ∙ sym all)

-- the structures up to an LBN stand, and each block from there on holds one byte
pub record StandTo (W : Blueprint) (n : ℕ) (I : List (List ℕ)) : Type 0 where
  pub size : length I ≡ W.blocks
  pub done : (lbn : ℕ) → lbn < n → IsNewBlock W lbn (block_at I lbn)
  pub left : (lbn : ℕ) → n ≤ lbn → lbn < W.blocks → block_at I lbn ≡ replicate 512 W.filling

-- none stands yet
pub none_stands : (W : Blueprint) (I : List (List ℕ)) → I ≡ replicate W.blocks (replicate 512 W.filling) → StandTo W 0 I
none_stands W I is = record {
  size = ap length is ∙ length-replicate W.blocks (replicate 512 W.filling);
  done = λ lbn below. absurd (omega (arith, below));
  left = λ lbn from below. ap (λ (J : List (List ℕ)). block_at J lbn) is ∙ get_or-replicate W.blocks lbn (replicate 512 W.filling) [] below;
}

-- one more
pub one_more_stands : (W : Blueprint) (n : ℕ) (I J : List (List ℕ)) (b : List ℕ) → J ≡ slice_set I n b → n < W.blocks → IsNewBlock W n b → StandTo W n I → StandTo W (n + 1) J
one_more_stands W n I J b is inside new old =
    let other : (lbn : ℕ) → lbn ≢ n → block_at J lbn ≡ block_at I lbn = λ lbn apart. ap (λ (K : List (List ℕ)). block_at K lbn) is ∙ get_or-set_other I n lbn b [] apart in
    record {
      size = ap length is ∙ length-set I n b ∙ old.size;
      done = λ lbn below. elim (cases_lt lbn n) [
        | inl before ↦ subst (λ (x : List ℕ). IsNewBlock W lbn x) (sym (other lbn (λ e. omega (arith, e, before)))) (old.done lbn before)
        | inr behind ↦
            let last : n ≡ lbn = omega (arith, below, behind) in
            let here : block_at J n ≡ b = ap (λ (K : List (List ℕ)). block_at K n) is ∙ get_or-set_same I n b [] (omega (arith, inside, old.size)) in
            subst (λ (k : ℕ). IsNewBlock W k (block_at J k)) last (subst (λ (x : List ℕ). IsNewBlock W n x) (sym here) new)
      ];
      left = λ lbn from below. other lbn (λ e. omega (arith, e, from)) ∙ old.left lbn (omega (arith, from)) below;
    }

-- a block behind the master directory is free
free_block : (W : Blueprint) (lbn : ℕ) (b : List ℕ) → AreFit W.blocks W.places → W.places.master < lbn → b ≡ replicate 512 W.filling → IsNewBlock W lbn b
free_block W lbn b f behind is = record {
  home = λ e. absurd (omega (arith, e, behind, f.master, f.control));
  index_bitmap = λ low high. absurd (omega (arith, high, behind, f.master, f.control));
  header = λ low high. absurd (omega (arith, high, behind, f.master, f.control));
  control = λ e. absurd (omega (arith, e, behind, f.master));
  storage_bitmap = λ low high. absurd (omega (arith, high, behind));
  master = λ e. absurd (omega (arith, e, behind));
  empty = λ x. elim x [ inl e ↦ absurd (omega (arith, e, behind)) | inr both ↦ absurd (omega (arith, both.1, behind, f.master)) ];
  free = λ _. is;
}

-- all stand
pub all_stand : (W : Blueprint) (n : ℕ) (I : List (List ℕ)) → AreFit W.blocks W.places → n ≡ W.places.master + 1 → IsImage I → StandTo W n I → IsVolumeOf W I
all_stand W n I f last image stand = record {
  image = image;
  size = stand.size;
  each = λ lbn below. elim (cases_lt lbn n) [
    | inl before ↦ stand.done lbn before
    | inr behind ↦ free_block W lbn (block_at I lbn) f (omega (arith, behind, last)) (stand.left lbn behind below)
  ];
}
