-- When the faults of a volume as a whole are true, and are told.
use Rattle.std.proofs.Common.{◌≡◌, ℕ, Bool, true, false, ◌<◌, ◌≤◌, List, [], length, inl, inr, refl, sym, subst, ap, arith}
use Rattle.std.specs.Prelude.{IsTrue, MatchBool}
use Rattle.ods_space.specs.Layout.{VolumeLayout}
use Rattle.ods_space.specs.Chain.{index_for}
use Rattle.ods_space.specs.Files.{IsLayoutOf}
use Rattle.ods_space.proofs.Chains.{same_chain}
use Rattle.ods_mount.specs.declared.fault.MountFault.TheVariants.{BadIndex, BadStorageMap, BadMaster, UnsupportedMap, BadChain, OutsideVolume, DoublyUsed, MarkedFree, BadDirectory, DuplicateName}
use Rattle.ods_mount.specs.Faults.{IsTrueOf}
use Rattle.ods_mount.specs.Sound.{IsSoundBy}
use Rattle.ods_mount.proofs.Soundness.{none_true_of}
use Rattle.ods_check.specs.declared.fault_line.IndexFault.TheVariants.{HeldPlace}
use Rattle.ods_check.specs.declared.fault_line.FaultLine.{FaultLine}
use Rattle.ods_check.specs.declared.fault_line.FaultLine.TheVariants.{Plain, Index}
use Rattle.ods_check.specs.Lists.{Adds}
use Rattle.ods_check.specs.Faults.{TellsAll}
use Rattle.ods_check.proofs.Adding.{told_still}
use Rattle.ods_check.proofs.Lines.{index_true}
use Rattle.ods_check.proofs.FileFaults.{told_file_still}
use Rattle.ods_check.proofs.Pairs.{told_pair_still}

-- a test after another one
pub both : (b : Bool) (U H F : Type 0) → U → MatchBool b (H × ¬ F) (H → F) → MatchBool b (U × H × ¬ F) (¬ (U × H × ¬ F))
both true U H F u h = (u, h.0, h.1)
both false U H F u h = λ t. t.2 (h t.1)

-- a test that answers both ways tells whether it holds
pub true_holds : (b : Bool) (T : Type 0) → MatchBool b T (¬ T) → IsTrue b → T
true_holds true T h e = h
true_holds false T h e = absurd (cc)

pub holds_true : (b : Bool) (T : Type 0) → MatchBool b T (¬ T) → T → IsTrue b
holds_true true T h t = refl
holds_true false T h t = absurd (h t)

pub false_fails : (b : Bool) (T : Type 0) → MatchBool b T (¬ T) → b ≡ false → ¬ T
false_fails true T h e = absurd (cc)
false_fails false T h e = h

module _ (I : List (List ℕ)) (L : VolumeLayout) where
  pub long_enough : IsLayoutOf I L → 2 ≤ length L.bitmap → ¬ IsTrueOf I L BadStorageMap
  long_enough l size (inl f) = f l.bitmap.file
  long_enough l size (inr (file, ns, bs, chain, few)) =
      let has = l.bitmap in
      let same = same_chain I L.home (index_for L 2) [] 0 2 ns bs has.others L.bitmap chain has.whole.chain in
      absurd (omega (arith, ap length same.1))

  pub too_short : IsLayoutOf I L → length L.bitmap < 2 → IsTrueOf I L BadStorageMap
  too_short l size = let has = l.bitmap in inr (has.file, has.others, L.bitmap, has.whole.chain, size)

-- what is told of a volume stays told
pub told_all_still : (P : FaultLine → Type 0) (I : List (List ℕ)) (L : VolumeLayout) (others : List ℕ) (old new : List FaultLine × ℕ) → Adds P old new → TellsAll I L others old.0 → TellsAll I L others new.0
told_all_still P I L others old new a t = record {
  index = λ why h. told_still P old new (Index why) a (t.index why h);
  bad_index = λ h. let was = t.bad_index h in (was.0, told_still P old new (Index was.0) a was.1);
  storage = λ h. told_still P old new (Plain BadStorageMap) a (t.storage h);
  master = λ h. told_still P old new (Plain BadMaster) a (t.master h);
  formats = λ n h. told_still P old new (Plain (UnsupportedMap n)) a (t.formats n h);
  files = λ n. told_file_still I L n P old new a (t.files n);
  shared = λ m n low. elim (t.shared m n low) [ inl told ↦ inl (told_pair_still I L P old new a m n told) | inr there ↦ inr there ];
}

-- a sound image has nothing to tell
pub none_to_tell : (I : List (List ℕ)) (L : VolumeLayout) (others : List ℕ) (faults : List FaultLine) → IsSoundBy I L → TellsAll I L others faults
none_to_tell I L others faults s = record {
  index = λ why h. absurd (none_true_of I L s BadIndex (index_true I L why h));
  bad_index = λ h. absurd (none_true_of I L s BadIndex h);
  storage = λ h. absurd (none_true_of I L s BadStorageMap h);
  master = λ h. absurd (none_true_of I L s BadMaster h);
  formats = λ n h. absurd (none_true_of I L s (UnsupportedMap n) h);
  files = λ n. record {
    chain = λ h. absurd (none_true_of I L s (BadChain n) h);
    outside = λ b h. absurd (none_true_of I L s (OutsideVolume n b) h);
    whole = record {
      free = λ b h. absurd (none_true_of I L s (MarkedFree n b) h);
      places = λ k h. absurd (none_true_of I L s BadIndex (index_true I L (HeldPlace k n) h));
      names = λ h. absurd (none_true_of I L s (BadDirectory n) h);
      twins = λ h. absurd (none_true_of I L s (DuplicateName n) h);
    };
  };
  shared = λ m n low. inl (λ b h. absurd (none_true_of I L s (DoublyUsed m n b) h));
}

-- a test by another word for what it says
pub match_as : (b : Bool) (P Q : Type 0) → (P → Q) → (Q → P) → MatchBool b P (¬ P) → MatchBool b Q (¬ Q)
match_as true P Q to from h = to h
match_as false P Q to from h = λ q. h (from q)

-- a test of a file's header, which is that of the block at hand
pub told_of_header : (b : Bool) (F : Type 0) (P : List ℕ → Type 0) (block header : List ℕ) → F → block ≡ header → MatchBool b (P block) (¬ P block) → MatchBool b (F × P header) (¬ (F × P header))
told_of_header true F P block header file same h = (file, subst P same h)
told_of_header false F P block header file same h = λ t. h (subst P (sym same) t.1)
