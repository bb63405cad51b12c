-- A file that is put in one piece, step by step: the free blocks below its run are marked as taken, it is made, they are marked as free, it is filled, and its header says that it is contiguous.
use Rattle.std.proofs.Common.{◌≡◌, ℕ, refl, ap, sym, ◌∙◌, subst, Bool, true, false, cond, List, length, Option, Some, None, arith, get_or, inl, inr}
use Rattle.std.specs.Prelude.{◌<◌, ◌+◌, ◌==◌, replicate}
use Rattle.std.specs.List.{All, range_with_len}
use Rattle.ods_base.specs.declared.file_id.FileId.{FileId}
use Rattle.ods_space.specs.Layout.{Disk, VolumeLayout}
use Rattle.ods_space.specs.Files.{HasBlocks}
use Rattle.ods_space.proofs.Surveyed.{file_of_chain}
use Rattle.ods_mount.specs.Sound.{IsSoundBy}
use Rattle.ods_request.specs.declared.answers.Answer.TheVariants.{Created}
use Rattle.ods_request.specs.declared.refusals.Refusal.{Refusal}
use Rattle.ods_request.specs.declared.requests.Request.TheVariants.{Create, Write}
use Rattle.ods_request.specs.Catalogue.{Body, Catalogue, File, Plain}
use Rattle.ods_request.specs.Steps.{created, file_at, put, zero_blocks}
use Rattle.ods_state.specs.Contents.{ShowsBy}
use Rattle.ods_state.specs.Change.{disk}
use Rattle.ods_state.specs.Moves.{ChangesOnlyTouched, Moves, NothingMoves}
use Rattle.ods_amend.specs.Access.{with_access}
use Rattle.ods_amend.specs.Bits.{AreMarked, IsLoose}
use Rattle.ods_amend.specs.Runs.{IsLowestRun, free_below}
use Rattle.ods_amend.proofs.InRun.{all_loose, has_run}
use Rattle.ods_filing.specs.Contiguous.{HasCharacterised, HasMarked, HasRun, IsAddedInOnePiece, IsNotInOnePiece, IsUnmadeInRun, IsWrittenShort, KeepsBlocks, contiguous_with, no_memory, not_made}
use Rattle.ods_filing.specs.Filed.{Filed, IsDone, IsRefusedFor, disk_at}
use Rattle.ods_filing.specs.Put.{Heading, IsAdded, block_count, block_with, file_with, so_far}
use Rattle.ods_filing.proofs.Added.{shown_once, there}

module _ (old H M : Filed) (S : IsSoundBy old.image old.layout) (first n : ℕ) (run : IsLowestRun old.image old.layout n first) (a : HasMarked old (free_below old.image old.layout first) false H)
    (h : Heading) (id : FileId) (done : IsDone H (Create h.name h.version n h.stamp) (Created id) M) (SM : IsSoundBy M.image M.layout) where
  mk : AreMarked old.image old.layout (free_below old.image old.layout first) false H.image
  mk = a.marked.0

  same : H.layout ≡ old.layout
  same = a.marked.1

  moves : Moves (disk H.image old.layout) (Create h.name h.version n h.stamp) (Created id) (disk M.image M.layout)
  moves = subst (λ X. Moves (record { image = H.image; layout = X }) (Create h.name h.version n h.stamp) (Created id) (disk_at M)) same done.moves

  elsewhere : ChangesOnlyTouched (disk H.image old.layout) (Create h.name h.version n h.stamp) (disk M.image M.layout)
  elsewhere = subst (λ X. ChangesOnlyTouched (record { image = H.image; layout = X }) (Create h.name h.version n h.stamp) (disk_at M)) same done.elsewhere

  -- what was hidden may be shown again
  pub loose : All (IsLoose M.image M.layout) (free_below old.image old.layout first)
  loose = all_loose old.image H.image M.image old.layout M.layout S first n run mk h.name h.version h.stamp id moves elsewhere SM

  module _ (N : Filed) (b : HasMarked M (free_below old.image old.layout first) true N) where
    pub placed : HasBlocks N.image N.layout id.number (range_with_len first n)
    placed =
        subst (λ X. HasBlocks N.image X id.number (range_with_len first n)) (sym b.marked.1)
        (b.marked.0.kept id.number (range_with_len first n) (has_run old.image H.image M.image old.layout M.layout S first n run mk h.name h.version h.stamp id moves elsewhere SM))

    hidden : (C : Catalogue) → ShowsBy old.image old.layout C → ShowsBy H.image H.layout C
    hidden C s = subst (λ X. ShowsBy H.image X C) (sym same) (mk.shown C s)

    pub added : (body : Body) → IsAdded H h id body M → IsAdded old h id body N
    added body one = record {
      free = λ C s. one.free C (hidden C s);
      shown = λ C s.
          let made : ShowsBy M.image M.layout (created C id (file_with H.user C.default h body)) = one.shown C (hidden C s) in
          subst (λ X. ShowsBy N.image X (created C id (file_with old.user C.default h body))) (sym b.marked.1)
          (b.marked.0.shown (created C id (file_with old.user C.default h body)) (subst (λ u. ShowsBy M.image M.layout (created C id (file_with u C.default h body))) a.user made));
      user = b.user ∙ one.user ∙ a.user;
    }

-- where nothing moves each file keeps its blocks
pub nothing_moves_blocks : (D E : Disk) → NothingMoves D E → length E.image ≡ length D.image → IsSoundBy E.image E.layout → (m : ℕ) (blocks : List ℕ) → HasBlocks D.image D.layout m blocks → HasBlocks E.image E.layout m blocks
nothing_moves_blocks D E still long sound m blocks has =
    let chain = still.chains m has.others blocks has.whole.chain in
    record {
      file = file_of_chain E.image E.layout m has.others blocks (record { home = sound.layout.home; index = sound.layout.index }) chain;
      others = has.others;
      whole = record { chain = chain; inside = subst (λ k. (i : ℕ) (d : ℕ) → i < length blocks → get_or blocks i d < k) (sym long) has.whole.inside };
    }

-- in the end the header says that the file is contiguous
pub said_contiguous : (old G E : Filed) (h : Heading) (id : FileId) (count first : ℕ) (body : Body) → (count == 0) ≡ false → IsLowestRun old.image old.layout count first → IsAdded old h id body G
    → HasBlocks G.image G.layout id.number (range_with_len first count) → HasCharacterised G id 128 E → IsAddedInOnePiece old h id count body E
said_contiguous old G E h id count first body some run one has given = record {
  free = one.free;
  shown = λ C s.
      let f : File = file_with old.user C.default h body in
      let g : File = contiguous_with old.user C.default h count body in
      let now = given.given.0.set.shown (created C id f) (one.shown C s) in
      let is : with_access (file_at (created C id f) id) None None (Some 128) ≡ g = ap (λ x. with_access x None None (Some 128)) (there C id f) ∙ (λ i. record f { user_char = cond (sym some i) 0 128 }) in
      subst (λ X. ShowsBy E.image X (created C id g)) (sym given.given.1)
      (shown_once E.image G.layout C id f g (subst (λ x. ShowsBy E.image G.layout (put (created C id f) id x)) is now));
  user = given.user ∙ one.user;
  place = record {
    first = first;
    run = run;
    blocks = nothing_moves_blocks (disk_at G) (disk_at E) (subst (λ X. NothingMoves (disk_at G) (record { image = E.image; layout = X })) (sym given.given.1) given.given.0.set.moves) given.given.0.set.long
        (subst (IsSoundBy E.image) (sym given.given.1) given.given.0.set.sound) id.number (range_with_len first count) has;
  };
}

-- of a file with no block nothing is said
pub nothing_said : (old G : Filed) (h : Heading) (id : FileId) (count first : ℕ) (body : Body) → count ≡ 0 → IsLowestRun old.image old.layout count first → IsAdded old h id body G
    → HasBlocks G.image G.layout id.number (range_with_len first count) → IsAddedInOnePiece old h id count body G
nothing_said old G h id count first body none run one has = record {
  free = one.free;
  shown = λ C s.
      let f : File = file_with old.user C.default h body in
      let is : f ≡ contiguous_with old.user C.default h count body = (λ i. record f { user_char = cond (sym none i == 0) 0 128 }) in
      subst (λ g. ShowsBy G.image G.layout (created C id g)) is (one.shown C s);
  user = one.user;
  place = record { first = first; run = run; blocks = has };
}

-- a Write that is refused leaves the file with the bytes before
pub writing_stops : (id : FileId) (bytes block : List ℕ) (k : ℕ) (start mid new : Filed) → k < block_count bytes
    → ((old : Filed) (h : Heading) → IsAdded old h id (Plain (replicate 32 0) (zero_blocks (block_count bytes))) start → IsAdded old h id (Plain (replicate 32 0) (so_far bytes (block_count bytes) k)) mid)
    → block ≡ block_with bytes k → new ≡ mid → (reason : Refusal) → IsRefusedFor mid (Write id (k + 1) block) reason
    → (old : Filed) (h : Heading) → IsAdded old h id (Plain (replicate 32 0) (zero_blocks (block_count bytes))) start → IsWrittenShort old h id bytes new reason
writing_stops id bytes block k start mid new under so is stays reason refused old h begun = (
  k,
  under,
  subst (IsAdded old h id (Plain (replicate 32 0) (so_far bytes (block_count bytes) k))) (sym stays) (so old h begun),
  subst (λ f. IsRefusedFor f (Write id (k + 1) (block_with bytes k)) reason) (sym stays) (subst (λ b. IsRefusedFor mid (Write id (k + 1) b) reason) is refused),
)

-- why no file is made in the run
pub making_stops : (h : Heading) (attributes bytes : List ℕ) (old new : Filed) (count first : ℕ) → count ≡ block_count bytes → IsLowestRun old.image old.layout count first → (reason : Refusal)
    → IsUnmadeInRun h count first old new reason → IsNotInOnePiece h attributes bytes old new reason
making_stops h attributes bytes old new count first is run reason (inl none) = subst (IsNotInOnePiece h attributes bytes old new) (sym none) no_memory
making_stops h attributes bytes old new count first is run reason (inr (marked, refused)) =
    not_made reason first (subst (λ n. IsLowestRun old.image old.layout n first) is run) marked (subst (λ n. IsRefusedFor new (Create h.name h.version n h.stamp) reason) is refused)
