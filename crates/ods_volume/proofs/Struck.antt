-- A request leaves the blocks of a file that is neither INDEXF.SYS nor BITMAP.SYS, and their bytes, but for the file whose chain it changes or whose blocks it writes.
use Rattle.std.proofs.Common.{◌≡◌, ◌≢◌, ℕ, ◌+◌, ◌-◌, ◌<◌, refl, ap, sym, ◌∙◌, subst, true, false, IsTrue, suc, List, [], ◌∷◌, ◌++◌, length, take, drop, Option, Some, None, arith, inl, inr}
use Rattle.std.specs.Prelude.{◌⊎◌, slice_get}
use Rattle.std.specs.List.{Contains, range_with_len}
use Rattle.std.proofs.lemmas.List.Elements.{All-contains, All-drop, All-take, filter_passes}
use Rattle.ods_base.specs.Name.{RadName}
use Rattle.ods_base.specs.declared.file_id.FileId.{FileId}
use Rattle.ods_space.specs.Layout.{Disk, VolumeLayout}
use Rattle.ods_space.specs.Files.{HasBlocks, Holds}
use Rattle.ods_space.specs.Free.{free_blocks, is_free_block, open_numbers}
use Rattle.ods_alloc.specs.Extend.{IsHeaderPlace, IsIndexBitmap, IsStorageBitmap}
use Rattle.ods_alloc.proofs.Places.{storage_at}
use Rattle.ods_mount.specs.Faults.{contents_of}
use Rattle.ods_mount.specs.Sound.{IsSoundBy}
use Rattle.ods_request.specs.declared.requests.Request.{Request}
use Rattle.ods_request.specs.declared.requests.Request.TheVariants.{Create, Extend, Truncate, Delete, Enter, LookUp, Remove, Read, Write, List as Lines, Stat, SetUser}
use Rattle.ods_request.specs.declared.answers.Answer.{Answer}
use Rattle.ods_request.specs.declared.answers.Answer.TheVariants as answer
use Rattle.ods_state.specs.Change.{disk}
use Rattle.ods_state.specs.Moves.{AreAllocated, ChangesOnlyTouched, IsNextBlock, Moves, NothingMoves, TouchedByAllocating, TouchedByGiving, TouchedByIndex, Touches}
use Rattle.ods_state.specs.Wants.{HasHeaders, Wants, allocated_blocks, allocated_numbers, blocks_behind, index_blocks, index_end, index_growth}
use Rattle.ods_state.proofs.Bookkeeping.{bitmap_holds, index_holds}
use Rattle.ods_state.proofs.Links.{header_is_no_data}
use Rattle.ods_state.proofs.Taken.{allocated_block_is_free}
use Rattle.ods_look.proofs.NotedNames.{stable_list}
use Rattle.ods_volume.specs.Ends.{falls_for}
use Rattle.ods_volume.specs.Struck.{BeginsWith, IsSpared, IsStruck, Strikes}
use Rattle.ods_volume.proofs.HeldAlike.{HoldsStill, bytes_by, front_by, same_by}

-- the first of the numbers that are taken for a new file does not depend on how many blocks that gets
first_is : (a b : ℕ) (xs : List ℕ) (x y : ℕ) (ys : List ℕ) → slice_get (take (suc a) xs) 0 ≡ Some x → take (suc b) xs ≡ y ∷ ys → y ≡ x
first_is a b [] x y ys p q = let wrong : None ≡ Some x = p in absurd (cc)
first_is a b (z ∷ zs) x y ys p q = let one : Some z ≡ Some x = p in let same : z ∷ take b zs ≡ y ∷ ys = q in cc

first_taken : (a b : ℕ) (xs : List ℕ) (x y : ℕ) (ys : List ℕ) → slice_get (take (1 + a) xs) 0 ≡ Some x → take (1 + b) xs ≡ y ∷ ys → y ≡ x
first_taken a b xs x y ys p q =
    let more : (k : ℕ) → 1 + k ≡ suc k = λ k. omega arith in
    first_is a b xs x y ys (subst (λ k. slice_get (take k xs) 0 ≡ Some x) (more a) p) (subst (λ k. take k xs ≡ y ∷ ys) (more b) q)

-- the blocks that INDEXF.SYS gets are free
index_block_is_free : (I : List (List ℕ)) (L : VolumeLayout) (numbers : List ℕ) (n x : ℕ) → Contains (blocks_behind I L numbers n) x → IsTrue (is_free_block I L x)
unfolding free_blocks
index_block_is_free I L numbers n x c =
    All-contains (λ y. is_free_block I L y ≡ true) (blocks_behind I L numbers n) x
    (All-take (λ y. is_free_block I L y ≡ true) (index_growth L numbers) (drop n (free_blocks I L))
    (All-drop (λ y. is_free_block I L y ≡ true) n (free_blocks I L) (filter_passes (is_free_block I L) (range_with_len 0 (length I))))) c

-- no bookkeeping changes a block that such a file holds
module _ (I : List (List ℕ)) (L : VolumeLayout) (S : IsSoundBy I L) (f : ℕ) (index : f ≢ 1) (bitmap : f ≢ 2) (v x : ℕ) (held : Holds I L f v x) where
  no_index : ¬ IsIndexBitmap L x
  no_index within =
      let i : ℕ = x - L.home.index_bitmap_lbn in
      let low = within.0 in
      let high = within.1 in
      let is : L.home.index_bitmap_lbn + i ≡ x = omega arith in
      let bound : i < L.home.index_bitmap_size + 16 = omega arith in
      index (S.once f 1 v (2 + i + 1) x held (index_holds I L S (2 + i) x (S.index_place i bound ∙ ap Some is))).0

  no_storage : ¬ IsStorageBitmap L x
  no_storage stands = let at = storage_at L x stands in bitmap (S.once f 2 v (at.0 + 1) x held (bitmap_holds I L S at.0 x at.1)).0

  no_place : (numbers : List ℕ) → ¬ IsHeaderPlace L numbers x
  no_place numbers p = index (header_is_no_data I L S p.0 x f v p.2 held)

  not_free : ¬ IsTrue (is_free_block I L x)
  not_free free = let clash : true ≡ false = sym free ∙ S.not_free f v x held in absurd (cc)

  no_allocating : (r : Request) (E : Disk) → ¬ TouchedByAllocating (disk I L) r E x
  no_allocating r E (headers, blocks, count, wants, cases) = at cases
    where
      at : IsIndexBitmap L x ⊎ IsStorageBitmap L x ⊎ IsHeaderPlace L (headers ++ allocated_numbers I L headers count) x ⊎ Contains (allocated_blocks I L count) x ⊎ TouchedByIndex (disk I L) (index_blocks I L headers count) x → ⊥
      at (inl i) = no_index i
      at (inr (inl s)) = no_storage s
      at (inr (inr (inl p))) = no_place (headers ++ allocated_numbers I L headers count) p
      at (inr (inr (inr (inl among)))) = not_free (allocated_block_is_free I L count x among)
      at (inr (inr (inr (inr (inl among))))) = not_free (index_block_is_free I L (allocated_numbers I L headers count) count x among)
      at (inr (inr (inr (inr (inr p))))) = no_place (index_end I L ∷ []) p.1

  no_giving : (n : ℕ) → ¬ TouchedByGiving (disk I L) n x
  no_giving n (inl i) = no_index i
  no_giving n (inr (inl s)) = no_storage s
  no_giving n (inr (inr p)) = no_place p.0 p.3

-- the blocks of file f
module _ (I J : List (List ℕ)) (L M : VolumeLayout) (S : IsSoundBy I L) (f : ℕ) (blocks : List ℕ) (index : f ≢ 1) (bitmap : f ≢ 2) (some : 0 < length blocks) (h : HasBlocks I L f blocks) where
  -- where nothing moves
  still_there : NothingMoves (disk I L) (disk J M) → HasBlocks J M f blocks
  still_there still = same_by I J L M f blocks h some (λ v x a. (still.held f v x).0 a) (λ v x a. (still.held f v x).1 a)

  -- where another file takes blocks
  module _ (headers old : List ℕ) (count : ℕ) (t : AreAllocated (disk I L) (disk J M) headers old count) where
    held_still : HoldsStill I J L M f blocks h
    held_still v x a = (t.held f v x).1 (inl a)

    there_beside : f ≢ t.number → HasBlocks J M f blocks
    there_beside other = same_by I J L M f blocks h some held_still (λ v x a. back v x ((t.held f v x).0 a))
      where
        back : (v x : ℕ) → Holds I L f v x ⊎ IsNextBlock t.number (length old) (allocated_blocks I L count) f v x ⊎ IsNextBlock 1 (length L.index) (index_blocks I L headers count) f v x → Holds I L f v x
        back v x (inl a) = a
        back v x (inr (inl n)) = absurd (other n.1)
        back v x (inr (inr n)) = absurd (index n.1)

  -- a file that takes blocks is the one that wants them
  taker : (n : ℕ) (headers old : List ℕ) (count : ℕ) (t : AreAllocated (disk I L) (disk J M) headers old count) → HasHeaders I L n headers old → n ≡ t.number
  taker n headers old count t own =
      let heads : n ∷ (own.0 ++ allocated_numbers I L headers count) ≡ t.number ∷ t.chain.0 = sym (ap (λ l. l ++ allocated_numbers I L headers count) own.1) ∙ t.chain.1 in
      cc

  bytes_stay : (r : Request) → ChangesOnlyTouched (disk I L) r (disk J M) → ((v x : ℕ) → Holds I L f v x → ¬ Touches (disk I L) r (disk J M) x) → contents_of J blocks ≡ contents_of I blocks
  bytes_stay r only away = bytes_by I J L M f blocks h (λ v x a. only.1 x (away v x a))

  created : (name : RadName) (version count : ℕ) (stamp : List ℕ) (id : FileId) → Moves (disk I L) (Create name version count stamp) (answer.Created id) (disk J M)
      → ChangesOnlyTouched (disk I L) (Create name version count stamp) (disk J M) → f ≢ id.number → IsSpared I J M f blocks
  created name version count stamp id moves only other =
      let t : AreAllocated (disk I L) (disk J M) [] [] count = moves.0.0 [] [] count (refl, refl, refl) in
      let is : t.number ≡ id.number = first_taken _ _ (open_numbers I L) id.number t.number t.chain.0 moves.1.1 t.chain.1 in (
        λ no. no (there_beside [] [] count t (λ e. other (e ∙ is))),
        bytes_stay (Create name version count stamp) only (λ v x a. no_allocating I L S f index bitmap v x a (Create name version count stamp) (disk J M)),
      )

  extended : (file : FileId) (count : ℕ) (a : Answer) → Moves (disk I L) (Extend file count) a (disk J M) → ChangesOnlyTouched (disk I L) (Extend file count) (disk J M) → f ≢ file.number → IsSpared I J M f blocks
  extended file count a moves only other = (
    λ no.
        let none : (hs bs : List ℕ) (k : ℕ) → ¬ Wants I L (Extend file count) hs bs k = λ hs bs k w.
        let t = moves.0.0 hs bs k w in no (there_beside hs bs k t (λ e. other (e ∙ sym (taker file.number hs bs k t w.0)))) in
        no (still_there (moves.0.1 none)),
    bytes_stay (Extend file count) only (λ v x a. no_allocating I L S f index bitmap v x a (Extend file count) (disk J M)),
  )

  cut_off : (file : FileId) (count : ℕ) (a : Answer) → Moves (disk I L) (Truncate file count) a (disk J M) → ChangesOnlyTouched (disk I L) (Truncate file count) (disk J M) → f ≢ file.number → IsSpared I J M f blocks
  cut_off file count a moves only other = (
    λ no. no (same_by I J L M f blocks h some (λ v x a. (moves.held f v x).1 (a, inl other)) (λ v x a. ((moves.held f v x).0 a).0)),
    bytes_stay (Truncate file count) only (λ v x a. no_giving I L S f index bitmap v x a file.number),
  )

  deleted : (file : FileId) (a : Answer) → Moves (disk I L) (Delete file) a (disk J M) → ChangesOnlyTouched (disk I L) (Delete file) (disk J M) → f ≢ file.number → IsSpared I J M f blocks
  deleted file a moves only other = (
    λ no. no (same_by I J L M f blocks h some (λ v x a. (moves.held f v x).1 (a, other)) (λ v x a. ((moves.held f v x).0 a).0)),
    bytes_stay (Delete file) only (λ v x a. no_giving I L S f index bitmap v x a file.number),
  )

  module _ (dir : FileId) (name : RadName) (version : Option ℕ) (file : FileId) (a : Answer) (moves : Moves (disk I L) (Enter dir name version file) a (disk J M))
      (only : ChangesOnlyTouched (disk I L) (Enter dir name version file) (disk J M)) where
    entered : f ≢ dir.number → IsSpared I J M f blocks
    entered other = (
      λ no.
          let none : (hs bs : List ℕ) (k : ℕ) → ¬ Wants I L (Enter dir name version file) hs bs k = λ hs bs k w.
          let t = moves.0.0 hs bs k w in no (there_beside hs bs k t (λ e. other (e ∙ sym (taker dir.number hs bs k t w.0)))) in
          no (still_there (moves.0.1 none)),
      bytes_stay (Enter dir name version file) only away,
    )
      where
        away : (v x : ℕ) → Holds I L f v x → ¬ Touches (disk I L) (Enter dir name version file) (disk J M) x
        away v x held (inl p) = no_allocating I L S f index bitmap v x held (Enter dir name version file) (disk J M) p
        away v x held (inr (inl p)) = no_place I L S f index bitmap v x held (dir.number ∷ []) p
        away v x held (inr (inr p)) = other (S.once f dir.number v p.0 x held p.1).0

    grown : BeginsWith J M f blocks
    grown held has = stable_list (take (length blocks) held) blocks (λ no.
        let none : (hs bs : List ℕ) (k : ℕ) → ¬ Wants I L (Enter dir name version file) hs bs k = λ hs bs k w.
        no (front_by I J L M f blocks h (held_still hs bs k (moves.0.0 hs bs k w)) held has) in
        let still = moves.0.1 none in
        no (front_by I J L M f blocks h (λ v x b. (still.held f v x).0 b) held has))

  -- by the request
  pub struck_so : (r : Request) (a : Answer) → Moves (disk I L) r a (disk J M) → ChangesOnlyTouched (disk I L) r (disk J M) → IsStruck I J M (falls_for r a) f blocks
  struck_so (Create name version count stamp) (answer.Created id) moves only = created name version count stamp id moves only
  struck_so (Create name version count stamp) (answer.Extended n) moves only = tt
  struck_so (Create name version count stamp) (answer.Truncated n) moves only = tt
  struck_so (Create name version count stamp) answer.Done moves only = tt
  struck_so (Create name version count stamp) (answer.Entered n) moves only = tt
  struck_so (Create name version count stamp) (answer.Found i n) moves only = tt
  struck_so (Create name version count stamp) (answer.Removed i n) moves only = tt
  struck_so (Create name version count stamp) (answer.Bytes b) moves only = tt
  struck_so (Create name version count stamp) (answer.Names l) moves only = tt
  struck_so (Create name version count stamp) (answer.Info s) moves only = tt
  struck_so (Extend file count) a moves only = extended file count a moves only
  struck_so (Truncate file count) a moves only = cut_off file count a moves only
  struck_so (Delete file) a moves only = deleted file a moves only
  struck_so (Enter dir name version file) a moves only = (entered dir name version file a moves only, grown dir name version file a moves only)
  struck_so (Remove dir name pick) a moves only = λ no. no (still_there moves.0)
  struck_so (Write file vbn block) a moves only = λ no. no (still_there moves)
  struck_so (SetUser file attributes) a moves only = λ no. no (still_there moves.0)
  struck_so (LookUp dir name pick) a moves only = λ no. no (still_there moves)
  struck_so (Read file vbn) a moves only = λ no. no (still_there moves)
  struck_so (Lines dir) a moves only = λ no. no (still_there moves)
  struck_so (Stat file) a moves only = λ no. no (still_there moves)

-- so a request strikes only what falls
pub strikes_by : (I J : List (List ℕ)) (L M : VolumeLayout) → IsSoundBy I L → (r : Request) (a : Answer) → Moves (disk I L) r a (disk J M) → ChangesOnlyTouched (disk I L) r (disk J M) → Strikes I L J M (falls_for r a)
strikes_by I J L M S r a moves only f blocks index bitmap some h = struck_so I J L M S f blocks index bitmap some h r a moves only
