-- An image stays an image under changes whose blocks have 512 bytes.
use Rattle.std.proofs.Common.{◌≡◌, ◌∙◌, ℕ, ◌+◌, ◌<◌, ◌≤◌, ◌^◌, List, [], length, get_or, take, refl, sym, subst, arith, inl, inr}
use Rattle.std.specs.Prelude.{unwrap_or}
use Rattle.std.proofs.lemmas.Bool.{cases_lt}
use Rattle.std.proofs.lemmas.List.{get_or_default}
use Rattle.ods_base.specs.Block.{IsBlock}
use Rattle.ods_base.specs.Image.{IsImage, block_at}
use Rattle.ods_space.specs.Changes.{changed, changes_of}
use Rattle.ods_space.specs.Draft.{applied, seen_at}
use Rattle.ods_space.specs.declared.draft.Change.{Change}
use Rattle.ods_space.proofs.Drafts.{applied_more, applied_none, block_at-applied, length-applied, of_inside, of_outside}

-- one change
pub image_changed : (I : List (List ℕ)) (c : Change) → IsImage I → IsBlock c.filling.0 → IsImage (applied I (changed c []))
image_changed I c image block = record {
  size = subst (λ n. n ≤ 2 ^ 20) (sym long) image.size;
  blocks = λ i d low.
      let within : i < length I = omega (arith, low, long) in
      subst IsBlock (sym (block_at-applied I (changed c []) i within) ∙ get_or_default (applied I (changed c [])) i [] d low) (seen i within);
}
  where
    long : length (applied I (changed c [])) ≡ length I
    long = length-applied I (changed c [])

    was : (i : ℕ) → i < length I → IsBlock (block_at I i)
    was i within = image.blocks i [] within

    seen : (i : ℕ) → i < length I → IsBlock (seen_at I (changed c []) i)
    seen i within = elim (cases_lt i c.run.lbn) [
      | inl below ↦ subst (λ o. IsBlock (unwrap_or o (block_at I i))) (sym (of_outside c i (inl below))) (was i within)
      | inr above ↦ elim (cases_lt i (c.run.lbn + c.run.count)) [
        | inl inside ↦ subst (λ o. IsBlock (unwrap_or o (block_at I i))) (sym (of_inside c i above inside)) block
        | inr behind ↦ subst (λ o. IsBlock (unwrap_or o (block_at I i))) (sym (of_outside c i (inr behind))) (was i within)
      ]
    ]

-- no change, and one more
pub image_none : (I : List (List ℕ)) → IsImage I → IsImage (applied I [])
image_none I image = subst IsImage (applied_none I) image

pub image_more : (I : List (List ℕ)) (cs : List Change) (k : ℕ) (c : Change) → k < length cs → c ≡ get_or cs k c → IsBlock c.filling.0 → IsImage (applied I (changes_of (take k cs)))
    → IsImage (applied I (changes_of (take (k + 1) cs)))
image_more I cs k c within is block image =
    subst IsImage (applied_more I (applied I (changes_of (take k cs))) cs k c within is refl) (image_changed (applied I (changes_of (take k cs))) c image block)
