-- A sound image has a catalogue.
use Rattle.std.proofs.Common.{◌≡◌, ◌≢◌, ℕ, zero, suc, ◌≤◌, refl, ap, sym, ◌∙◌, subst, false, cond, List, Some, None, arith, inl, inr}
use Rattle.std.specs.Prelude.{◌⊎◌}
use Rattle.std.specs.FinMap as map
use Rattle.std.specs.FinSet as set
use Rattle.std.proofs.lemmas.Bool.{cases_eq}
use Rattle.ods_mount.proofs.Decided.{Decided, decide_segment}
use Rattle.ods_base.specs.declared.file_id.FileId.{FileId}
use Rattle.ods_header.specs.Header.{sequence_of}
use Rattle.ods_space.specs.Layout.{VolumeLayout, header_at, last_number}
use Rattle.ods_space.specs.Files.{IsFile}
use Rattle.ods_mount.specs.Faults.{contents_of}
use Rattle.ods_mount.specs.Sound.{IsSoundBy}
use Rattle.ods_request.specs.Catalogue.{Catalogue, File, file_cmp}
use Rattle.ods_request.proofs.Orders.{file_cmp-total}
use Rattle.ods_state.specs.Contents.{file_of, IsFileIn, ShowsBy, IsCatalogueOf}
use Rattle.ods_state.proofs.Shown.{ids, file_is_one}
use Rattle.std.specs.Ordering.{eq_by_cmp, is_eq}
use Rattle.std.proofs.lemmas.Cmp.{tied_itself}

module _ (I : List (List ℕ)) (L : VolumeLayout) (S : IsSoundBy I L) where
  a_file : (n : ℕ) → Decided (IsFile I L n)
  a_file n = decide_segment I L.home L.index (last_number L) n 0

  abbrev id_of : ℕ → FileId
  id_of n = record { number = n; sequence = sequence_of (header_at I L n) }

  abbrev the_file : (n : ℕ) → IsFile I L n → File
  the_file n f = file_of n (header_at I L n) (contents_of I (S.chains n f).0)

  the_file_is : (n : ℕ) (f : IsFile I L n) → IsFileIn I L (id_of n) (the_file n f)
  the_file_is n f = record { blocks = (S.chains n f).0; held = (S.chains n f).1; sequence = refl; shown = refl }

  -- the files with numbers up to n
  abbrev added : (n : ℕ) → Decided (IsFile I L n) → map.FinMap file_cmp File → map.FinMap file_cmp File
  added n (inl f) m = map.insert m (id_of n) (the_file n f)
  added n (inr none) m = m

  files_to : ℕ → map.FinMap file_cmp File
  files_to zero = map.empty
  files_to (suc n) = added (suc n) (a_file (suc n)) (files_to n)

  get_same : (m : map.FinMap file_cmp File) (id : FileId) (f : File) → map.get (map.insert m id f) id ≡ Some f
  get_same m id f = map.get-insert file_cmp-total m id f id ∙ ap (λ b. cond b (Some f) (map.get m id)) (ap is_eq (tied_itself file_cmp-total id))

  get_else : (m : map.FinMap file_cmp File) (id : FileId) (f : File) (q : FileId) → eq_by_cmp file_cmp q id ≡ false → map.get (map.insert m id f) q ≡ map.get m q
  get_else m id f q e = map.get-insert file_cmp-total m id f q ∙ ap (λ b. cond b (Some f) (map.get m q)) e

  added_there : (n : ℕ) (d : Decided (IsFile I L n)) (m : map.FinMap file_cmp File) → ((q : FileId) (g : File) → map.get m q ≡ Some g → IsFileIn I L q g)
      → (q : FileId) (g : File) → map.get (added n d m) q ≡ Some g → IsFileIn I L q g
  added_there n (inr none) m before q g e = before q g e
  added_there n (inl f) m before q g e = by_id (ids q (id_of n))
    where
      by_id : (q ≡ id_of n) ⊎ ((q ≢ id_of n) × (eq_by_cmp file_cmp q (id_of n) ≡ false)) → IsFileIn I L q g
      by_id (inl is) =
          let same : Some (the_file n f) ≡ Some g = sym (get_same m (id_of n) (the_file n f)) ∙ ap (map.get (map.insert m (id_of n) (the_file n f))) (sym is) ∙ e in
          let file : the_file n f ≡ g = cc in
          subst (λ p. IsFileIn I L p g) (sym is) (subst (IsFileIn I L (id_of n)) file (the_file_is n f))
      by_id (inr apart) = before q g (sym (get_else m (id_of n) (the_file n f) q apart.1) ∙ e)

  there_to : (n : ℕ) (q : FileId) (g : File) → map.get (files_to n) q ≡ Some g → IsFileIn I L q g
  unfolding files_to
  there_to zero q g e = let none = map.get-empty {X = File} file_cmp q in let wrong : None ≡ Some g = sym none ∙ e in absurd (cc)
  there_to (suc n) q g e = added_there (suc n) (a_file (suc n)) (files_to n) (there_to n) q g e

  added_all : (n : ℕ) (d : Decided (IsFile I L (suc n))) (m : map.FinMap file_cmp File) → ((q : FileId) (g : File) → q.number ≤ n → IsFileIn I L q g → map.get m q ≡ Some g)
      → (q : FileId) (g : File) → q.number ≤ suc n → IsFileIn I L q g → map.get (added (suc n) d m) q ≡ Some g
  added_all n (inr none) m before q g low p = before q g (by_number (cases_eq q.number (suc n))) p
    where
      by_number : (q.number ≡ suc n) ⊎ (q.number ≢ suc n) → q.number ≤ n
      by_number (inl e) = absurd (none (subst (IsFile I L) e p.held.file))
      by_number (inr ne) = omega arith
  added_all n (inl f) m before q g low p = by_id (ids q (id_of (suc n)))
    where
      lower : q ≢ id_of (suc n) → (q.number ≡ suc n) ⊎ (q.number ≢ suc n) → q.number ≤ n
      lower ne (inl e) = absurd (ne (λ i. record { number = e i; sequence = (sym p.sequence ∙ ap (λ k. sequence_of (header_at I L k)) e) i }))
      lower ne (inr other) = omega arith

      by_id : (q ≡ id_of (suc n)) ⊎ ((q ≢ id_of (suc n)) × (eq_by_cmp file_cmp q (id_of (suc n)) ≡ false)) → map.get (map.insert m (id_of (suc n)) (the_file (suc n) f)) q ≡ Some g
      by_id (inl is) =
          let one : the_file (suc n) f ≡ g = file_is_one I L (id_of (suc n)) (the_file (suc n) f) g (the_file_is (suc n) f) (subst (λ r. IsFileIn I L r g) is p) in
          ap (map.get (map.insert m (id_of (suc n)) (the_file (suc n) f))) is ∙ get_same m (id_of (suc n)) (the_file (suc n) f) ∙ ap Some one
      by_id (inr apart) = get_else m (id_of (suc n)) (the_file (suc n) f) q apart.1 ∙ before q g (lower apart.0 (cases_eq q.number (suc n))) p

  all_to : (n : ℕ) (q : FileId) (g : File) → q.number ≤ n → IsFileIn I L q g → map.get (files_to n) q ≡ Some g
  unfolding files_to
  all_to zero q g low p = let some : 1 ≤ q.number = p.held.file.first in absurd (omega arith)
  all_to (suc n) q g low p = added_all n (a_file (suc n)) (files_to n) (all_to n) q g low p

  pub the_catalogue : Catalogue
  the_catalogue = record { files = files_to (last_number L); past = set.from_list (map.keys (files_to (last_number L))); default = L.home.protection }

  pub is_shown : ShowsBy I L the_catalogue
  unfolding the_catalogue
  is_shown = record { there = there_to (last_number L); all = λ q g p. all_to (last_number L) q g p.held.file.last p; default = refl }

  pub has_catalogue : IsCatalogueOf I the_catalogue
  unfolding the_catalogue
  has_catalogue = record {
    shown = record {
      layout = L;
      is_layout = S.layout;
      shows = record {
        there = there_to (last_number L);
        all = λ q g p. all_to (last_number L) q g p.held.file.last p;
        default = refl;
      };
    };
    past = λ id. set.contains-from_list file_cmp-total (map.keys (files_to (last_number L))) id ∙ sym (map.contains_key-keys (files_to (last_number L)) id);
  }
