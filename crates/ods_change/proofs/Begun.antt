-- The volume with which a request goes on is as good as the volume: the request wants the same of it, and a step of it is a step of the volume.
use Rattle.std.proofs.Common.{◌≡◌, ◌≢◌, ℕ, ◌+◌, ◌≤◌, refl, ap, sym, ◌∙◌, subst, List, [], length, drop, take, None, arith, inl, inr}
use Rattle.std.specs.Prelude.{◌⊎◌}
use Rattle.std.specs.List.{Contains}
use Rattle.std.proofs.lemmas.List.{length-drop, length-take}
use Rattle.ods_base.specs.Image.{IsImage}
use Rattle.ods_base.specs.declared.file_id.Uic.{Uic}
use Rattle.ods_header.specs.Header.{sequence_of}
use Rattle.ods_space.specs.Layout.{VolumeLayout, greatest_number, header_at, last_number, with_places}
use Rattle.ods_space.specs.Files.{IsFile}
use Rattle.ods_space.specs.Free.{free_blocks}
use Rattle.ods_mount.specs.Faults.{contents_of}
use Rattle.ods_mount.specs.Sound.{IsSoundBy}
use Rattle.ods_request.specs.declared.requests.Request.{Request}
use Rattle.ods_request.specs.declared.answers.Answer.{Answer}
use Rattle.ods_request.specs.Catalogue.{Catalogue}
use Rattle.ods_state.specs.Contents.{ShowsBy}
use Rattle.ods_state.specs.IndexGrowth.{CanGrowIndex, GrowsIndex, IsGrownFor, IsNoMap, WantsTheSame}
use Rattle.ods_state.specs.Served.{IsStepOf}
use Rattle.ods_state.specs.Wants.{HasHeaders, Wants, index_blocks, index_growth, lack_of, allocated_numbers}
use Rattle.ods_state.proofs.GrownMoves.{no_places}
use Rattle.ods_state.proofs.GrowthAllocates.{is_enough}
use Rattle.ods_state.proofs.IndexGrown as index_grown
use Rattle.ods_state.proofs.IndexGrown.{is_longer, longer}
use Rattle.ods_state.proofs.IndexSound as index_sound
use Rattle.ods_state.proofs.IndexAllocates as takes
use Rattle.ods_state.proofs.IndexAllocates.{HadThese, can_grow, so_many_places}
use Rattle.ods_state.proofs.StepBehind as behind
use Rattle.ods_change.specs.Beginning.{IsBegun}
use Rattle.ods_change.specs.Taking.{HasPlaces}

-- What a request wants that lacks nothing, and these are the blocks that INDEXF.SYS gets for it.
pub record IsAsked (I : List (List ℕ)) (L : VolumeLayout) (r : Request) (headers old : List ℕ) (count : ℕ) (places : List ℕ) : Type 0 where
  pub image : IsImage I
  pub sound : IsSoundBy I L
  pub wants : Wants I L r headers old count
  pub file : IsNoMap headers
  pub enough : lack_of I L headers count ≡ None
  pub are : places ≡ index_blocks I L headers count

-- What stays of the volume I by L in K by M, for a file that had these headers and blocks: it is sound, and the same is wanted and shown.
pub record IsKept (I : List (List ℕ)) (L : VolumeLayout) (headers old : List ℕ) (count : ℕ) (K : List (List ℕ)) (M : VolumeLayout) : Type 0 where
  pub sound : IsSoundBy K M
  pub image : IsImage K
  pub wants : WantsTheSame I L headers count K M
  pub shown : (C : Catalogue) → ShowsBy K M C → ShowsBy I L C
  pub sequences : (n : ℕ) → sequence_of (header_at K M n) ≡ sequence_of (header_at I L n)
  pub own : (n : ℕ) → Contains headers n → header_at K M n ≡ header_at I L n
  pub home : M.home ≡ L.home
  pub file : (n : ℕ) → IsFile I L n → IsFile K M n
  pub has : (n : ℕ) → 3 ≤ n → HasHeaders I L n headers old → HasHeaders K M n headers old
  pub contents : (n : ℕ) → 3 ≤ n → HasHeaders I L n headers old → contents_of K old ≡ contents_of I old

-- INDEXF.SYS can grow by such blocks, as far as it may have so many
pub can_grow_by : {I : List (List ℕ)} {L : VolumeLayout} (count growth : ℕ) {places : List ℕ} → IsSoundBy I L → HasPlaces I L count growth places → last_number L + growth ≤ greatest_number L.home
    → CanGrowIndex I L places
can_grow_by {I = I} {L = L} count growth {places = places} S has most =
    let behind : List ℕ = drop count (free_blocks I L) in
    let enough = has.enough in
    let size = S.index_bitmap_size in
    let long : length places ≡ growth = omega (arith, enough, ap length has.are, length-take growth behind, length-drop count (free_blocks I L)) in
    record {
      before = count;
      free = has.are ∙ ap (λ k. take k behind) (sym long);
      fits = omega (arith, long, most, size);
      room = has.room;
    }

module _ {I : List (List ℕ)} {L : VolumeLayout} {r : Request} {headers old : List ℕ} {count : ℕ} {places : List ℕ} (q : IsAsked I L r headers old count places) where
  abbrev X : List ℕ
  X = index_blocks I L headers count

  -- where INDEXF.SYS gets no block
  still : X ≡ [] → index_growth L (allocated_numbers I L headers count) ≡ 0
  still none = sym (so_many_places I L headers count (is_enough I L headers count q.enough)) ∙ ap length none

  kept_same : X ≡ [] → IsKept I L headers old count I L
  kept_same none = record {
    sound = q.sound;
    image = q.image;
    wants = record { blocks = refl; numbers = refl; no_growth = still none; enough = q.enough };
    shown = λ C shown. shown;
    sequences = λ n. refl;
    own = λ n among. refl;
    home = refl;
    file = λ n f. f;
    has = λ n high has. has;
    contents = λ n high has. refl;
  }

  -- where it gets some
  module _ {K : List (List ℕ)} (image : IsImage K) (g : GrowsIndex I L X K) where
    had : HadThese I L headers old
    had = behind.had_these I L r headers old count q.file q.wants

    can : CanGrowIndex I L X
    can = can_grow I L q.sound headers count q.enough

    kept_longer : IsKept I L headers old count K (longer L X)
    kept_longer = record {
      sound = index_sound.sound_now q.image q.sound can g;
      image = image;
      wants = takes.wants_the_same I K L headers old count q.image q.sound q.enough had g;
      shown = index_sound.shown_was q.image q.sound can g;
      sequences = takes.sequence_stays I K L headers old count q.image q.sound q.enough had g;
      own = takes.own_stays I K L headers old count q.image q.sound q.enough had g;
      home = refl;
      file = index_grown.stays_file q.image q.sound can g;
      has = behind.has_then I K K L headers old count q.image q.sound q.enough had g;
      contents = λ n high has.
          index_sound.contents_stay q.image q.sound can g n old (λ is. absurd (omega (arith, high, is))) (λ is. absurd (omega (arith, high, is)))
          (behind.along_own I K K L headers old count q.image q.sound q.enough had g n high has);
    }

    kept_grown : IsKept I L headers old count K (with_places L X)
    kept_grown = subst (IsKept I L headers old count K) (sym (is_longer L X can.fits)) kept_longer

  -- by the places that the request's own code has
  module _ {K : List (List ℕ)} {M : VolumeLayout} (b : IsBegun I L places K M) where
    as_before : places ≡ [] → M ≡ L
    as_before none = b.layout ∙ no_places L places none

    grows : GrowsIndex I L places K → GrowsIndex I L X K
    grows g = subst (λ l. GrowsIndex I L l K) q.are g

    pub kept : IsKept I L headers old count K M
    kept = by b.blocks
      where
        by : ((places ≡ []) × (K ≡ I)) ⊎ ((places ≢ []) × GrowsIndex I L places K) → IsKept I L headers old count K M
        by (inl p) = subst (IsKept I L headers old count K) (sym (as_before p.0)) (subst (λ J. IsKept I L headers old count J L) (sym p.1) (kept_same (sym q.are ∙ p.0)))
        by (inr p) = subst (IsKept I L headers old count K) (sym (b.layout ∙ ap (with_places L) q.are)) (kept_grown b.image (grows p.1))

    -- a step of the volume with which the request goes on is a step of the volume
    pub step_of : (J : List (List ℕ)) (who : Uic) (a : Answer) → IsStepOf K M who r a J M → IsStepOf I L who r a J (with_places L places)
    step_of J who a step = by b.blocks
      where
        by : ((places ≡ []) × (K ≡ I)) ⊎ ((places ≢ []) × GrowsIndex I L places K) → IsStepOf I L who r a J (with_places L places)
        by (inl p) =
            subst (λ N. IsStepOf I L who r a J N) b.layout
            (subst (λ N. IsStepOf I N who r a J M) (as_before p.0) (subst (λ H. IsStepOf H M who r a J M) p.1 step))
        by (inr p) =
            let f : IsGrownFor I L r headers old count K = record { image = q.image; sound = q.sound; wants = q.wants; file = q.file; enough = q.enough; some = λ none. p.0 (q.are ∙ none); grows = grows p.1 } in
            let same : M ≡ with_places L X = b.layout ∙ ap (with_places L) q.are in
            subst (λ l. IsStepOf I L who r a J (with_places L l)) (sym q.are)
            (behind.step_behind_growth I K J L who r a headers old count f (subst (λ N. IsStepOf K N who r a J N) same step))
