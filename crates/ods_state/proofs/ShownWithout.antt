-- The files that blocks show, where one file is gone and the others stay.
use Rattle.std.proofs.Common.{◌≡◌, ◌≢◌, ℕ, ap, sym, ◌∙◌, subst, false, cond, List, Option, Some, None, inl, inr}
use Rattle.std.specs.Prelude.{◌⊎◌}
use Rattle.std.specs.FinMap as map
use Rattle.std.specs.Ordering.{eq_by_cmp, is_eq}
use Rattle.std.proofs.lemmas.Cmp.{tied_itself}
use Rattle.ods_base.specs.declared.file_id.FileId.{FileId}
use Rattle.ods_header.specs.Header.{sequence_of}
use Rattle.ods_space.specs.Layout.{VolumeLayout, header_at}
use Rattle.ods_space.specs.Files.{HasBlocks}
use Rattle.ods_request.specs.Catalogue.{Catalogue, File, file_cmp}
use Rattle.ods_request.proofs.Orders.{file_cmp-total}
use Rattle.ods_state.specs.Contents.{IsFileIn, ShowsBy}
use Rattle.ods_state.proofs.Shown.{IsAlike, ids, stays, was}

-- the catalogue without the file under an ID
abbrev pub without : Catalogue → FileId → Catalogue
without C id = record { files = map.remove C.files id; past = C.past; default = C.default }

-- nothing is under that ID
get_removed : (C : Catalogue) (id : FileId) → map.get (without C id).files id ≡ None
get_removed C id = map.get-remove file_cmp-total C.files id id ∙ ap (λ b. cond b None (map.get C.files id)) (ap is_eq (tied_itself file_cmp-total id))

-- and another ID has what it had
get_other : (C : Catalogue) (id q : FileId) → eq_by_cmp file_cmp q id ≡ false → map.get (without C id).files q ≡ map.get C.files q
get_other C id q e = map.get-remove file_cmp-total C.files id q ∙ ap (λ b. cond b None (map.get C.files q)) e

-- Where one file is gone, its number keeps its sequence word, and each other file is as it was, the blocks show the catalogue without that file.
module _ (I J : List (List ℕ)) (L : VolumeLayout) (id : FileId) (before : sequence_of (header_at I L id.number) ≡ id.sequence)
    (now : sequence_of (header_at J L id.number) ≡ id.sequence) (gone : (blocks : List ℕ) → ¬ HasBlocks J L id.number blocks)
    (others : (m : ℕ) → m ≢ id.number → IsAlike I J L m) where
  pub shows_removed : (C : Catalogue) → ShowsBy I L C → ShowsBy J L (without C id)
  shows_removed C shown = record {
    there = λ q g e. there_by q g e (ids q id);
    all = λ q g h. all_by q g h (ids q id);
    default = shown.default;
  }
    where
      there_by : (q : FileId) (g : File) → map.get (without C id).files q ≡ Some g → (q ≡ id) ⊎ ((q ≢ id) × (eq_by_cmp file_cmp q id ≡ false)) → IsFileIn J L q g
      there_by q g e (inl is) = absurd (let wrong : ◌≡◌ {A = Option File} None (Some g) = sym (get_removed C id) ∙ ap (λ p. map.get (without C id).files p) (sym is) ∙ e in cc)
      there_by q g e (inr apart) = stays I J L id before now others q g apart.0 (shown.there q g (sym (get_other C id q apart.1) ∙ e))

      all_by : (q : FileId) (g : File) → IsFileIn J L q g → (q ≡ id) ⊎ ((q ≢ id) × (eq_by_cmp file_cmp q id ≡ false)) → map.get (without C id).files q ≡ Some g
      all_by q g h (inl is) = absurd (gone h.blocks (subst (λ p. HasBlocks J L p.number h.blocks) is h.held))
      all_by q g h (inr apart) = get_other C id q apart.1 ∙ shown.all q g (was I J L id before now others q g apart.0 h)
