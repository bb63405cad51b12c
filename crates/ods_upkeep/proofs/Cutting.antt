-- A file is cut: its blocks go, and its attributes are set.
use Rattle.std.proofs.Common.{◌≡◌, ◌<◌, ◌≤◌, ◌≢◌, ◌+◌, ◌/◌, ◌%◌, refl, sym, ◌∙◌, subst, ℕ, Bool, true, false, cond, List, [], ◌∷◌, ◌++◌, inl, inr, Some, Result, Ok, Err, arith}
use Rattle.std.specs.Prelude.{nat_lt, if◌then◌else◌, min, MatchResult}
use Rattle.std.specs.Str.{bytes_eq}
use Rattle.std.proofs.lemmas.Slice.Eq.{bytes_eq-Decides}
use Rattle.std.specs.Int.{div_ceil}
use Rattle.std.proofs.lemmas.Bool.{lt-ltb, le-ltb}
use Rattle.ods_base.specs.declared.file_id.FileId.{FileId}
use Rattle.ods_request.specs.declared.requests.Request.{Request}
use Rattle.ods_request.specs.declared.requests.Request.TheVariants.{SetUser, Truncate}
use Rattle.ods_filing.specs.Filed.{Filed}
use Rattle.ods_filing.specs.Led.{IsObeyed}
use Rattle.ods_space.specs.Layout.{VolumeLayout}
use Rattle.ods_shell.specs.declared.alone.Alone.TheVariants as alone
use Rattle.ods_shell.specs.Named.{highest}
use Rattle.ods_shell.specs.declared.facts.Facts.{Facts}
use Rattle.ods_shell.specs.declared.found.Found.{Found}
use Rattle.ods_upkeep.specs.declared.failure.Why.{Why}
use Rattle.ods_upkeep.specs.Cut.{AreCuts, IsCut, IsCuttable, IsNoCut, IsNotCut, SetsEnd, StopsCutting, blocks_gone, blocks_for}
use Rattle.ods_upkeep.specs.Pieces.{with_end}
use Rattle.ods_upkeep.specs.Removed.{Does}
use Rattle.ods_upkeep.specs.Sources.{AreOfPath}
use Rattle.ods_upkeep.specs.Refused.{IsRefusedBy, StopsAt}
use Rattle.ods_upkeep.proofs.Doing.{does_one, then_does}
use Rattle.ods_upkeep.proofs.Stopping.{stops_first, stops_later, stops_one}

-- there are more blocks, and they go
pub cut_off : (old new : Filed) (file : FileId) (blocks all : ℕ) → blocks < all → IsObeyed old (Truncate file blocks) new → Does old (if nat_lt blocks all then Truncate file blocks ∷ [] else []) new
cut_off old new file blocks all more done =
    subst (λ b. Does old (cond b (Truncate file blocks ∷ []) []) new) (sym (lt-ltb blocks all more)) (does_one old new (Truncate file blocks) done)

-- there are no more
pub not_cut : (old : Filed) (file : FileId) (blocks all : ℕ) → all ≤ blocks → Does old (if nat_lt blocks all then Truncate file blocks ∷ [] else []) old
not_cut old file blocks all none = subst (λ b. Does old (cond b (Truncate file blocks ∷ []) []) old) (sym (le-ltb blocks all none)) refl

-- the blocks are gone, and the attributes are those that the file has
pub ends_as_before : (old new : Filed) (facts : Facts) (bytes : ℕ) (attributes : List ℕ) → Does old (blocks_gone facts bytes) new → attributes ≡ with_end facts.attributes bytes → attributes ≡ facts.attributes
    → (requests : List Request) × AreCuts facts bytes requests × Does old requests new
ends_as_before old new facts bytes attributes cut are same = (blocks_gone facts bytes ++ [], ([], inl (cc, refl), refl), then_does old new new (blocks_gone facts bytes) [] cut refl)

-- the blocks are gone, and the attributes are set
pub ends_anew : (old mid new : Filed) (facts : Facts) (bytes : ℕ) (attributes : List ℕ) → Does old (blocks_gone facts bytes) mid → attributes ≡ with_end facts.attributes bytes → attributes ≢ facts.attributes
    → IsObeyed mid (SetUser facts.file attributes) new → (requests : List Request) × AreCuts facts bytes requests × Does old requests new
ends_anew old mid new facts bytes attributes cut are other set =
    let last : List Request = SetUser facts.file (with_end facts.attributes bytes) ∷ [] in
    let done : IsObeyed mid (SetUser facts.file (with_end facts.attributes bytes)) new = subst (λ a. IsObeyed mid (SetUser facts.file a) new) are set in (
      blocks_gone facts bytes ++ last,
      (last, inr ((λ same. other (are ∙ same)), refl), refl),
      then_does old mid new (blocks_gone facts bytes) last cut (does_one mid new (SetUser facts.file (with_end facts.attributes bytes)) done),
    )

-- so many blocks take the bytes
as_many : (bytes : ℕ) → bytes / 512 + min 1 (bytes % 512) ≡ blocks_for bytes
as_many bytes = omega arith

pub gone_for : (old new : Filed) (facts : Facts) (bytes blocks : ℕ) → blocks ≡ div_ceil bytes 512
    → Does old (if nat_lt blocks facts.blocks then Truncate facts.file blocks ∷ [] else []) new → Does old (blocks_gone facts bytes) new
gone_for old new facts bytes blocks are cut =
    subst (λ n. Does old (if nat_lt n facts.blocks then Truncate facts.file n ∷ [] else []) new) (are ∙ as_many bytes) cut

-- the one file that a path names, where it can be cut, or why it cannot
pub cut_or_not : (I : List (List ℕ)) (L : VolumeLayout) (path : List ℕ) (bytes : ℕ) (x : Found) (result : Result Facts Why) → AreOfPath I L (highest alone.Refused) path (x ∷ []) → MatchResult result (IsCuttable x.facts bytes) (IsNoCut x.facts bytes)
    → MatchResult result (IsCut I L path bytes) (IsNotCut I L path bytes)
cut_or_not I L path bytes x (Ok facts) one is = record { found = x; one = one; cuttable = is }
cut_or_not I L path bytes x (Err why) one is = inr (x ∷ [], one, inr (x, refl, is))

-- the end is set, or it is there already
some_end : (facts : Facts) (bytes : ℕ) → (last : List Request) × SetsEnd facts bytes last
some_end facts bytes = by (bytes_eq (with_end facts.attributes bytes) facts.attributes) refl
  where
    by : (same : Bool) → bytes_eq (with_end facts.attributes bytes) facts.attributes ≡ same → (last : List Request) × SetsEnd facts bytes last
    by true is = ([], inl ((bytes_eq-Decides (with_end facts.attributes bytes) facts.attributes).0 is, refl))
    by false is = (
      SetUser facts.file (with_end facts.attributes bytes) ∷ [],
      inr (λ same. (let both : false ≡ true = sym is ∙ (bytes_eq-Decides (with_end facts.attributes bytes) facts.attributes).1 same in absurd (cc)), refl),
    )

-- the blocks do not go
pub blocks_stay : (old new : Filed) (facts : Facts) (bytes blocks : ℕ) (why : Why) → blocks ≡ div_ceil bytes 512
    → StopsAt old (if nat_lt blocks facts.blocks then Truncate facts.file blocks ∷ [] else []) new why → StopsCutting facts bytes old new why
blocks_stay old new facts bytes blocks why are stop =
    let last = some_end facts bytes in
    let first : StopsAt old (blocks_gone facts bytes) new why = subst (λ n. StopsAt old (if nat_lt n facts.blocks then Truncate facts.file n ∷ [] else []) new why) (are ∙ as_many bytes) stop in
    inr (blocks_gone facts bytes ++ last.0, (last.0, last.1, refl), stops_first old new (blocks_gone facts bytes) last.0 why first)

-- the blocks are gone, and the attributes are not set
pub end_stays : (old mid new : Filed) (facts : Facts) (bytes : ℕ) (attributes : List ℕ) (why : Why) → Does old (blocks_gone facts bytes) mid → attributes ≡ with_end facts.attributes bytes → attributes ≢ facts.attributes → new ≡ mid
    → IsRefusedBy mid (SetUser facts.file attributes) why → StopsCutting facts bytes old new why
end_stays old mid new facts bytes attributes why cut are other same refused =
    let last : List Request = SetUser facts.file (with_end facts.attributes bytes) ∷ [] in
    let set : IsRefusedBy mid (SetUser facts.file (with_end facts.attributes bytes)) why = subst (λ a. IsRefusedBy mid (SetUser facts.file a) why) are refused in
    inr (
      blocks_gone facts bytes ++ last,
      (last, inr ((λ is. other (are ∙ is)), refl), refl),
      stops_later old mid new (blocks_gone facts bytes) last why cut (stops_one mid new (SetUser facts.file (with_end facts.attributes bytes)) same why set),
    )
