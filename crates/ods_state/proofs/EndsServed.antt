-- A request leaves what is noted of where the chain of a file ends, for each file but INDEXF.SYS and the one whose chain it changes.
use Rattle.std.proofs.Common.{◌≡◌, ◌≢◌, ℕ, refl, ap, sym, ◌∙◌, subst, true, false, not, suc, ◌+◌, List, [], ◌∷◌, ◌++◌, take, Option, Some, None, arith, inl, inr}
use Rattle.std.specs.Prelude.{◌⊎◌, nat_le, slice_get}
use Rattle.std.specs.FinMap as map
use Rattle.std.proofs.lemmas.Bool.{cases_eq}
use Rattle.ods_base.specs.Image.{IsImage, block_at}
use Rattle.ods_base.specs.Name.{RadName}
use Rattle.ods_base.specs.declared.file_id.FileId.{FileId}
use Rattle.ods_base.specs.declared.file_id.Uic.{Uic}
use Rattle.ods_base.specs.declared.name.Pick.{Pick}
use Rattle.ods_space.specs.Layout.{VolumeLayout, header_at}
use Rattle.ods_space.specs.Free.{open_numbers}
use Rattle.ods_mount.specs.Faults.{contents_of}
use Rattle.ods_mount.specs.Sound.{IsSoundBy}
use Rattle.ods_request.specs.declared.requests.Request.TheVariants.{Create, Extend, Truncate, Delete, Enter, Remove, Write, SetUser}
use Rattle.ods_request.specs.declared.answers.Answer.{Answer}
use Rattle.ods_request.specs.declared.answers.Answer.TheVariants.{Created}
use Rattle.ods_request.specs.Catalogue.{Catalogue, File, is_directory}
use Rattle.ods_request.specs.Faults.{fault_of}
use Rattle.ods_request.proofs.FaultTable.{fault_enter, fault_remove, fault_set_user, fault_write, passed}
use Rattle.ods_state.specs.Change.{disk}
use Rattle.ods_state.specs.Contents.{IsFileIn, ShowsBy, body_of, file_of}
use Rattle.ods_state.specs.Moves.{AreAllocated, AreCutOff, AreGivenBack, ChangesOnlyTouched, Moves, NothingMoves, TouchedByAllocating, TouchedByGiving, Touches}
use Rattle.ods_state.specs.Made.{AreZeroed}
use Rattle.ods_space.specs.Files.{Holds, IsFile}
use Rattle.ods_state.specs.Wants.{Wants, allocated_numbers}
use Rattle.ods_state.specs.declared.known_end.KnownEnd.{KnownEnd}
use Rattle.ods_state.specs.Ends.{IsEndKnown}
use Rattle.ods_state.proofs.EndsAllocated.{IsOfFile, allocated_keeps_by}
use Rattle.ods_state.proofs.EndsGiven.{cut_keeps, deleted_keeps}
use Rattle.ods_state.proofs.EndsWritten.{file_keeps, held_keeps, same_keeps, there_keeps}

-- what holds of numbers that are the same, or not, where either of two cases gives it
stable : (a b : ℕ) → ((a ≢ b) → a ≡ b) → a ≡ b
stable a b given = by (cases_eq a b)
  where
    by : (a ≡ b) ⊎ (a ≢ b) → a ≡ b
    by (inl e) = e
    by (inr ne) = given ne

stays_or : (J : List (List ℕ)) (M : VolumeLayout) (end : KnownEnd) (P : Type 0) → (P → IsEndKnown J M end) → ((P → ⊥) → IsEndKnown J M end) → IsEndKnown J M end
stays_or J M end P here else = λ others blocks chain. (
  stable _ _ (λ ne. (else (λ p. ne (here p others blocks chain).0) others blocks chain).0),
  stable _ _ (λ ne. (else (λ p. ne (here p others blocks chain).1) others blocks chain).1),
  stable _ _ (λ ne. (else (λ p. ne (here p others blocks chain).2) others blocks chain).2),
)

-- the first of the numbers that are taken for a new file does not depend on how many blocks that gets
first_is : (a b : ℕ) (xs : List ℕ) (x y : ℕ) (ys : List ℕ) → slice_get (take (suc a) xs) 0 ≡ Some x → take (suc b) xs ≡ y ∷ ys → y ≡ x
first_is a b [] x y ys p q = let wrong : None ≡ Some x = p in absurd (cc)
first_is a b (z ∷ zs) x y ys p q = let one : Some z ≡ Some x = p in let same : z ∷ take b zs ≡ y ∷ ys = q in cc

first_taken : (a b : ℕ) (xs : List ℕ) (x y : ℕ) (ys : List ℕ) → slice_get (take (1 + a) xs) 0 ≡ Some x → take (1 + b) xs ≡ y ∷ ys → y ≡ x
first_taken a b xs x y ys p q =
    let more : (k : ℕ) → 1 + k ≡ suc k = λ k. omega arith in
    first_is a b xs x y ys (subst (λ k. slice_get (take k xs) 0 ≡ Some x) (more a) p) (subst (λ k. take k xs ≡ y ∷ ys) (more b) q)

module _ (I J : List (List ℕ)) (L M : VolumeLayout) (image : IsImage I) (S : IsSoundBy I L) (T : IsSoundBy J M) (end : KnownEnd) (known : IsEndKnown I L end) where
  -- Extend
  module _ (file : FileId) (count : ℕ) (a : Answer) (moves : Moves (disk I L) (Extend file count) a (disk J M)) (only : ChangesOnlyTouched (disk I L) (Extend file count) (disk J M))
      (one : end.file ≢ 1) (other : end.file ≢ file.number) where
    abbrev Wanted : Type 0
    Wanted = (headers : List ℕ) × (old : List ℕ) × (n : ℕ) × Wants I L (Extend file count) headers old n

    extended : Wanted → IsEndKnown J M end
    extended w =
        let t : AreAllocated (disk I L) (disk J M) w.0 w.1 w.2 = moves.0.0 w.0 w.1 w.2 w.3 in
        let heads : file.number ∷ (w.3.0.0 ++ allocated_numbers I L w.0 w.2) ≡ t.number ∷ t.chain.0 = sym (ap (λ l. l ++ allocated_numbers I L w.0 w.2) w.3.0.1) ∙ t.chain.1 in
        let is : file.number ≡ t.number = cc in
        let counted : w.2 ≡ count = w.3.1 in
        allocated_keeps_by I J L M image S T (Extend file count) w.0 w.1 w.2 w.3 t (inl (subst (λ k. AreZeroed (disk I L) (disk J M) k) (sym counted) moves.1)) (λ x untouched beside. only.1 x untouched)
        end one (λ e. other (e ∙ sym is)) known

    pub extend_keeps : IsEndKnown J M end
    extend_keeps = stays_or J M end Wanted extended (λ none.
        let still = moves.0.1 (λ hs bs k w. none (hs, bs, k, w)) in
        same_keeps I J L M still.layout only.0 (λ x. only.1 x (λ p. none (p.0, p.1, p.2, p.3))) end known)

  -- Create
  pub create_keeps : (name : RadName) (version count : ℕ) (stamp : List ℕ) (id : FileId) → Moves (disk I L) (Create name version count stamp) (Created id) (disk J M)
      → ChangesOnlyTouched (disk I L) (Create name version count stamp) (disk J M) → end.file ≢ 1 → end.file ≢ id.number → IsEndKnown J M end
  create_keeps name version count stamp id moves only one other =
      let t : AreAllocated (disk I L) (disk J M) [] [] count = moves.0.0 [] [] count (refl, refl, refl) in
      let is : t.number ≡ id.number = first_taken _ _ (open_numbers I L) id.number t.number t.chain.0 moves.1.1 t.chain.1 in
      allocated_keeps_by I J L M image S T (Create name version count stamp) [] [] count (refl, refl, refl) t (inl moves.3) (λ x untouched beside. only.1 x untouched)
      end one (λ e. other (e ∙ is)) known

  -- Truncate and Delete
  pub truncate_keeps : (file : FileId) (count : ℕ) (a : Answer) → Moves (disk I L) (Truncate file count) a (disk J M) → ChangesOnlyTouched (disk I L) (Truncate file count) (disk J M)
      → end.file ≢ 1 → end.file ≢ file.number → IsEndKnown J M end
  truncate_keeps file count a moves only one other = at M moves.layout moves T (λ x. only.1 x)
    where
      at : (N : VolumeLayout) → N ≡ L → AreCutOff (disk I L) (disk J N) file.number count → IsSoundBy J N → ((x : ℕ) → ¬ TouchedByGiving (disk I L) file.number x → block_at J x ≡ block_at I x) → IsEndKnown J N end
      at N same =
          subst (λ K. AreCutOff (disk I L) (disk J K) file.number count → IsSoundBy J K → ((x : ℕ) → ¬ TouchedByGiving (disk I L) file.number x → block_at J x ≡ block_at I x) → IsEndKnown J K end) (sym same)
          (λ t U each. cut_keeps I J L S file.number each U count t end one other known)

  pub delete_keeps : (file : FileId) (a : Answer) → Moves (disk I L) (Delete file) a (disk J M) → ChangesOnlyTouched (disk I L) (Delete file) (disk J M) → end.file ≢ 1 → IsEndKnown J M end
  delete_keeps file a moves only one = at M moves.layout moves (λ x. only.1 x)
    where
      at : (N : VolumeLayout) → N ≡ L → AreGivenBack (disk I L) (disk J N) file.number → ((x : ℕ) → ¬ TouchedByGiving (disk I L) file.number x → block_at J x ≡ block_at I x) → IsEndKnown J N end
      at N same =
          subst (λ K. AreGivenBack (disk I L) (disk J K) file.number → ((x : ℕ) → ¬ TouchedByGiving (disk I L) file.number x → block_at J x ≡ block_at I x) → IsEndKnown J K end) (sym same)
          (λ t each. deleted_keeps I J L S file.number each t end one known)

  -- the chain of a file that was there, where no chain changes
  kept_there : NothingMoves (disk I L) (disk J M) → IsFile I L end.file → IsEndKnown J M end
  kept_there still file = at M still.layout still
    where
      at : (N : VolumeLayout) → N ≡ L → NothingMoves (disk I L) (disk J N) → IsEndKnown J N end
      at N same = subst (λ K. NothingMoves (disk I L) (disk J K) → IsEndKnown J K end) (sym same) (λ s. there_keeps I J L S s end file known)

  -- blocks of a file that is not INDEXF.SYS
  pub written_keeps : (n : ℕ) → n ≢ 1 → NothingMoves (disk I L) (disk J M) → ((x : ℕ) → ¬ ((vbn : ℕ) × Holds I L n vbn x) → block_at J x ≡ block_at I x) → IsEndKnown J M end
  written_keeps n high still only = by (cases_eq end.file 1)
    where
      by : (end.file ≡ 1) ⊎ (end.file ≢ 1) → IsEndKnown J M end
      by (inl one) = kept_there still (subst (IsFile I L) (sym one) S.layout.index.file)
      by (inr other) = subst (λ K. IsEndKnown J K end) (sym still.layout) (held_keeps I J L S n high only end other known)

  -- and its first header
  still_keeps : (n : ℕ) → n ≢ 1 → ((x : ℕ) → ¬ IsOfFile I L n x → block_at J x ≡ block_at I x) → NothingMoves (disk I L) (disk J M) → end.file ≢ n → IsEndKnown J M end
  still_keeps n high only still other = at M still.layout still T
    where
      at : (N : VolumeLayout) → N ≡ L → NothingMoves (disk I L) (disk J N) → IsSoundBy J N → IsEndKnown J N end
      at N same = subst (λ K. NothingMoves (disk I L) (disk J K) → IsSoundBy J K → IsEndKnown J K end) (sym same) (λ s U. file_keeps I J L S n high only s U end other known)

  pub set_user_keeps : (file : FileId) (attributes : List ℕ) (a : Answer) → file.number ≢ 1 → IsFile I L file.number → Moves (disk I L) (SetUser file attributes) a (disk J M)
      → ChangesOnlyTouched (disk I L) (SetUser file attributes) (disk J M) → IsEndKnown J M end
  set_user_keeps file attributes a high there moves only = by (cases_eq end.file file.number)
    where
      by : (end.file ≡ file.number) ⊎ (end.file ≢ file.number) → IsEndKnown J M end
      by (inl own) = kept_there moves.0 (subst (IsFile I L) (sym own) there)
      by (inr other) = still_keeps file.number high (λ x away. only.1 x (λ p. away (inl p))) moves.0 other

  -- Enter
  module _ (dir : FileId) (name : RadName) (version : Option ℕ) (file : FileId) (a : Answer) (high : dir.number ≢ 1)
      (moves : Moves (disk I L) (Enter dir name version file) a (disk J M)) (only : ChangesOnlyTouched (disk I L) (Enter dir name version file) (disk J M))
      (one : end.file ≢ 1) (other : end.file ≢ dir.number) where
    abbrev Growing : Type 0
    Growing = (headers : List ℕ) × (old : List ℕ) × (n : ℕ) × Wants I L (Enter dir name version file) headers old n

    grown : Growing → IsEndKnown J M end
    grown w =
        let t : AreAllocated (disk I L) (disk J M) w.0 w.1 w.2 = moves.0.0 w.0 w.1 w.2 w.3 in
        let heads : dir.number ∷ (w.3.0.0 ++ allocated_numbers I L w.0 w.2) ≡ t.number ∷ t.chain.0 = sym (ap (λ l. l ++ allocated_numbers I L w.0 w.2) w.3.0.1) ∙ t.chain.1 in
        let is : dir.number ≡ t.number = cc in
        allocated_keeps_by I J L M image S T (Enter dir name version file) w.0 w.1 w.2 w.3 t (inr (λ e. high (is ∙ e))) (λ x untouched beside. only.1 x (touched x is untouched beside)) end one (λ e. other (e ∙ sym is)) known
      where
        touched : (x : ℕ) {n : ℕ} → dir.number ≡ n → ¬ TouchedByAllocating (disk I L) (Enter dir name version file) (disk J M) x → ¬ IsOfFile I L n x → ¬ Touches (disk I L) (Enter dir name version file) (disk J M) x
        touched x is untouched beside (inl p) = untouched p
        touched x is untouched beside (inr (inl p)) = beside (subst (λ k. IsOfFile I L k x) is (inl p))
        touched x is untouched beside (inr (inr p)) = beside (subst (λ k. IsOfFile I L k x) is (inr (high, p)))

    pub enter_keeps : IsEndKnown J M end
    enter_keeps = stays_or J M end Growing grown (λ none.
        let still = moves.0.1 (λ hs bs k w. none (hs, bs, k, w)) in
        still_keeps dir.number high (λ x away. only.1 x (λ p. touched none x away p)) still other)
      where
        touched : (Growing → ⊥) → (x : ℕ) → ¬ IsOfFile I L dir.number x → ¬ Touches (disk I L) (Enter dir name version file) (disk J M) x
        touched none x away (inl p) = none (p.0, p.1, p.2, p.3)
        touched none x away (inr (inl p)) = away (inl p)
        touched none x away (inr (inr p)) = away (inr (high, p))

-- A request that is not refused names no system file for a Write or a SetUser, and no map for a directory.
reserved_high : (n : ℕ) → nat_le n 5 ≡ false → n ≢ 1
reserved_high n above is = let wrong : true ≡ false = sym (ap (λ k. nat_le k 5) is) ∙ above in absurd (cc)

directory_high : (I : List (List ℕ)) (L : VolumeLayout) (C : Catalogue) → ShowsBy I L C → (id : FileId) (f : File) → map.get C.files id ≡ Some f → not (is_directory f.body) ≡ false → id.number ≢ 1
unfolding file_of body_of
directory_high I L C shown id f there kind is =
    let file : IsFileIn I L id f = shown.there id f there in
    let at : is_directory (body_of id.number (header_at I L id.number) (contents_of I file.blocks)) ≡ is_directory f.body = ap (λ (g : File). is_directory g.body) file.shown in
    let none : is_directory (body_of 1 (header_at I L id.number) (contents_of I file.blocks)) ≡ false = refl in
    let body : is_directory f.body ≡ false = sym at ∙ ap (λ n. is_directory (body_of n (header_at I L id.number) (contents_of I file.blocks))) is ∙ none in
    let wrong : true ≡ false = sym (ap not body) ∙ kind in
    absurd (cc)

module _ (I : List (List ℕ)) (L : VolumeLayout) (C : Catalogue) (shown : ShowsBy I L C) (who : Uic) where
  pub write_high : (file : FileId) (vbn : ℕ) (block : List ℕ) → fault_of C who (Write file vbn block) ≡ None → file.number ≢ 1
  write_high file vbn block fine = let there = passed (map.get C.files file) _ (sym (fault_write C who file vbn block) ∙ fine) in reserved_high file.number there.none.0

  pub set_user_high : (file : FileId) (attributes : List ℕ) → fault_of C who (SetUser file attributes) ≡ None → file.number ≢ 1
  set_user_high file attributes fine = let there = passed (map.get C.files file) _ (sym (fault_set_user C who file attributes) ∙ fine) in reserved_high file.number there.none.0

  pub set_user_there : (file : FileId) (attributes : List ℕ) → fault_of C who (SetUser file attributes) ≡ None → IsFile I L file.number
  set_user_there file attributes fine = let at = passed (map.get C.files file) _ (sym (fault_set_user C who file attributes) ∙ fine) in let is : IsFileIn I L file at.file = shown.there file at.file at.there in is.held.file

  pub remove_high : (dir : FileId) (name : RadName) (pick : Pick) → fault_of C who (Remove dir name pick) ≡ None → dir.number ≢ 1
  remove_high dir name pick fine = let there = passed (map.get C.files dir) _ (sym (fault_remove C who dir name pick) ∙ fine) in directory_high I L C shown dir there.file there.there there.none.0

  pub enter_high : (dir : FileId) (name : RadName) (version : Option ℕ) (file : FileId) → fault_of C who (Enter dir name version file) ≡ None → dir.number ≢ 1
  enter_high dir name version file fine = let there = passed (map.get C.files dir) _ (sym (fault_enter C who dir name version file) ∙ fine) in directory_high I L C shown dir there.file there.there there.none.1.0
