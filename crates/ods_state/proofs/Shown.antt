-- The files that blocks show, where one file is changed and the others stay.
use Rattle.std.proofs.Common.{◌≡◌, ◌≢◌, ℕ, refl, ap, sym, ◌∙◌, subst, Bool, true, false, cond, List, [], Some, inl, inr}
use Rattle.std.specs.Prelude.{◌⊎◌, nat_le}
use Rattle.std.specs.FinMap as map
use Rattle.std.specs.Ordering.{eq_by_cmp, is_eq}
use Rattle.std.specs.Cmp.{Equal-is}
use Rattle.std.proofs.lemmas.Cmp.{tied_itself}
use Rattle.ods_base.specs.declared.file_id.FileId.{FileId}
use Rattle.ods_header.specs.Header.{sequence_of}
use Rattle.ods_space.specs.Layout.{VolumeLayout, header_at}
use Rattle.ods_space.specs.Chain.{index_for}
use Rattle.ods_space.specs.Files.{HasBlocks}
use Rattle.ods_mount.specs.Faults.{contents_of}
use Rattle.ods_request.specs.Catalogue.{Catalogue, File, System, file_cmp}
use Rattle.ods_request.specs.Steps.{put}
use Rattle.ods_request.proofs.Orders.{file_cmp-total, file_cmp-antisymmetric}
use Rattle.ods_state.specs.Contents.{body_of, file_of, IsFileIn, ShowsBy}
use Rattle.ods_space.proofs.Chains.{same_chain}

-- neither map shows its contents
pub system_body : (m : ℕ) (b : List ℕ) (xs : List (List ℕ)) → nat_le m 2 ≡ true → body_of m b xs ≡ System
unfolding body_of
system_body m b xs map = rw map refl

-- where the contents are the same, or are not looked at, so is the file
pub same_file : (m : ℕ) (b : List ℕ) (xs ys : List (List ℕ)) → (nat_le m 2 ≡ true) ⊎ (xs ≡ ys) → file_of m b xs ≡ file_of m b ys
unfolding file_of
same_file m b xs ys (inr same) = ap (file_of m b) same
same_file m b xs ys (inl map) = λ i. record (file_of m b xs) { body = (system_body m b xs map ∙ sym (system_body m b ys map)) i }

-- two IDs are equal or not
same_id_or_not : (p q : FileId) (b : Bool) → eq_by_cmp file_cmp p q ≡ b → (p ≡ q) ⊎ ((p ≢ q) × (eq_by_cmp file_cmp p q ≡ false))
same_id_or_not p q true e = inl (file_cmp-antisymmetric p q ((Equal-is (file_cmp p q)).0 e))
same_id_or_not p q false e =
    inr (λ is. let t : true ≡ false = sym (ap is_eq (tied_itself file_cmp-total p)) ∙ ap (λ r. eq_by_cmp file_cmp p r) is ∙ e in absurd (cc), e)

pub ids : (p q : FileId) → (p ≡ q) ⊎ ((p ≢ q) × (eq_by_cmp file_cmp p q ≡ false))
ids p q = same_id_or_not p q (eq_by_cmp file_cmp p q) refl

-- what is put is there
pub get_put : (C : Catalogue) (id : FileId) (f : File) → map.get (put C id f).files id ≡ Some f
get_put C id f = map.get-insert file_cmp-total C.files id f id ∙ ap (λ b. cond b (Some f) (map.get C.files id)) (ap is_eq (tied_itself file_cmp-total id))

-- and another ID has what it had
pub get_other : (C : Catalogue) (id : FileId) (f : File) (q : FileId) → eq_by_cmp file_cmp q id ≡ false → map.get (put C id f).files q ≡ map.get C.files q
get_other C id f q e = map.get-insert file_cmp-total C.files id f q ∙ ap (λ b. cond b (Some f) (map.get C.files q)) e

-- the blocks show one file under an ID
pub file_is_one : (I : List (List ℕ)) (L : VolumeLayout) (id : FileId) (f g : File) → IsFileIn I L id f → IsFileIn I L id g → f ≡ g
file_is_one I L id f g p q =
    let is = (same_chain I L.home (index_for L id.number) [] 0 id.number p.held.others p.blocks q.held.others q.blocks p.held.whole.chain q.held.whole.chain).1 in
    sym p.shown ∙ ap (λ bs. file_of id.number (header_at I L id.number) (contents_of I bs)) is ∙ q.shown

-- Where one file is another one now, and each other ID has the files that it had, the blocks show the catalogue with that file put.
pub shows_put : (I J : List (List ℕ)) (L : VolumeLayout) (C : Catalogue) (id : FileId) (f : File) → ShowsBy I L C
    → IsFileIn J L id f
    → ((q : FileId) (g : File) → q ≢ id → IsFileIn I L q g → IsFileIn J L q g)
    → ((q : FileId) (g : File) → q ≢ id → IsFileIn J L q g → IsFileIn I L q g)
    → ShowsBy J L (put C id f)
shows_put I J L C id f shown here stays was = record {
  there = λ q g e. there_by q g e (ids q id);
  all = λ q g h. all_by q g h (ids q id);
  default = shown.default;
}
  where
    there_by : (q : FileId) (g : File) → map.get (put C id f).files q ≡ Some g → (q ≡ id) ⊎ ((q ≢ id) × (eq_by_cmp file_cmp q id ≡ false)) → IsFileIn J L q g
    there_by q g e (inl is) =
        let same : Some f ≡ Some g = sym (get_put C id f) ∙ ap (λ p. map.get (put C id f).files p) (sym is) ∙ e in
        let f_is : f ≡ g = cc in
        subst (λ p. IsFileIn J L p g) (sym is) (subst (λ h. IsFileIn J L id h) f_is here)
    there_by q g e (inr apart) = stays q g apart.0 (shown.there q g (sym (get_other C id f q apart.1) ∙ e))

    all_by : (q : FileId) (g : File) → IsFileIn J L q g → (q ≡ id) ⊎ ((q ≢ id) × (eq_by_cmp file_cmp q id ≡ false)) → map.get (put C id f).files q ≡ Some g
    all_by q g h (inl is) =
        let one : f ≡ g = file_is_one J L id f g here (subst (λ p. IsFileIn J L p g) is h) in
        ap (λ p. map.get (put C id f).files p) is ∙ get_put C id f ∙ ap Some one
    all_by q g h (inr apart) = get_other C id f q apart.1 ∙ shown.all q g (was q g apart.0 h)

-- file m of the blocks J is file m of the blocks I
pub record IsAlike (I J : List (List ℕ)) (L : VolumeLayout) (m : ℕ) : Type 0 where
  pub sequence : sequence_of (header_at J L m) ≡ sequence_of (header_at I L m)
  pub has : (blocks : List ℕ) → HasBlocks I L m blocks → HasBlocks J L m blocks
  pub had : (blocks : List ℕ) → HasBlocks J L m blocks → HasBlocks I L m blocks
  pub shown : (blocks : List ℕ) → HasBlocks I L m blocks → file_of m (header_at J L m) (contents_of J blocks) ≡ file_of m (header_at I L m) (contents_of I blocks)

-- Where one file changes, and keeps its ID, and each other file is as it was, the blocks show the catalogue with that file put.
module _ (I J : List (List ℕ)) (L : VolumeLayout) (id : FileId) (before : sequence_of (header_at I L id.number) ≡ id.sequence)
    (now : sequence_of (header_at J L id.number) ≡ id.sequence) (others : (m : ℕ) → m ≢ id.number → IsAlike I J L m) where
  -- another file has another number
  other_number : (X : List (List ℕ)) → sequence_of (header_at X L id.number) ≡ id.sequence → (q : FileId) → q ≢ id → sequence_of (header_at X L q.number) ≡ q.sequence → q.number ≢ id.number
  other_number X own q ne known e = ne (λ i. record { number = e i; sequence = (sym known ∙ ap (λ m. sequence_of (header_at X L m)) e ∙ own) i })

  pub stays : (q : FileId) (g : File) → q ≢ id → IsFileIn I L q g → IsFileIn J L q g
  stays q g ne p =
      let alike = others q.number (other_number I before q ne p.sequence) in
      record { blocks = p.blocks; held = alike.has p.blocks p.held; sequence = alike.sequence ∙ p.sequence; shown = alike.shown p.blocks p.held ∙ p.shown }

  pub was : (q : FileId) (g : File) → q ≢ id → IsFileIn J L q g → IsFileIn I L q g
  was q g ne p =
      let alike = others q.number (other_number J now q ne p.sequence) in
      let old = alike.had p.blocks p.held in
      record { blocks = p.blocks; held = old; sequence = sym alike.sequence ∙ p.sequence; shown = sym (alike.shown p.blocks old) ∙ p.shown }

  pub one_is_put : (C : Catalogue) (f : File) → ShowsBy I L C → IsFileIn J L id f → ShowsBy J L (put C id f)
  one_is_put C f shown here = shows_put I J L C id f shown here stays was
