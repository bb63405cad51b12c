-- What a list of faults tells of a file.
use Rattle.std.proofs.Common.{◌≢◌, ℕ, List, [], length, inl, inr, refl, subst, arith, ◌≡◌, ◌+◌, ◌⊎◌, ◌∷◌, ◌++◌, ap, ◌∙◌}
use Rattle.std.specs.List.{Contains}
use Rattle.ods_space.specs.Layout.{VolumeLayout}
use Rattle.ods_space.specs.Chain.{index_for}
use Rattle.ods_space.specs.Files.{IsFile, HasBlocks}
use Rattle.ods_space.specs.Faults.{IsChainFault}
use Rattle.ods_space.specs.declared.fault.ChainFault.{ChainFault}
use Rattle.ods_space.specs.declared.fault.ChainFault.TheVariants as chain
use Rattle.ods_space.specs.declared.fault.LayoutFault.TheVariants.{Chain}
use Rattle.ods_space.proofs.Chains.{same_chain}
use Rattle.ods_mount.specs.Checks.{mount_fault_of}
use Rattle.ods_mount.specs.declared.fault.MountFault.TheVariants.{BadChain, OutsideVolume, MarkedFree}
use Rattle.ods_mount.specs.Faults.{IsTrueOf, SharesHeader}
use Rattle.ods_mount.proofs.Soundness.{all_at}
use Rattle.ods_check.specs.declared.fault_line.FaultLine.{FaultLine}
use Rattle.ods_check.specs.Lists.{Adds, AddsInTurn}
use Rattle.ods_check.specs.Faults.{Tells, TellsFile, TellsWhole}
use Rattle.ods_check.specs.declared.fault_line.FaultLine.TheVariants.{Plain, Index}
use Rattle.ods_check.specs.declared.fault_line.IndexFault.TheVariants.{HeldPlace}
use Rattle.ods_check.specs.Turns.{turn_of, file_turn}
use Rattle.ods_check.proofs.Turning.{turn_one, turn_more}
use Rattle.ods_check.proofs.Adding.{told_still}

-- what a list of faults tells of a file
module _ (I : List (List ℕ)) (L : VolumeLayout) where
  module _ (n : ℕ) where
    -- the fault of a chain
    pub chain_true : (fault : ChainFault) → IsFile I L n → IsChainFault I L n fault → fault ≢ chain.NoMemory → IsTrueOf I L (mount_fault_of (Chain n fault))
    chain_true chain.BadChain file none some = (file, inl none)
    chain_true (chain.OutsideVolume lbn) file (ns, bs, goes, one, past) some = (file, ns, bs, goes, one, past)
    chain_true chain.NoMemory file none some = absurd (some refl)

    module _ (faults : List FaultLine) where
      -- nothing is to be told of a file that has no whole chain
      no_whole : ((blocks : List ℕ) → ¬ HasBlocks I L n blocks) → TellsWhole I L faults n
      no_whole none = record {
        free = λ b t. absurd (none t.1.blocks t.1.file);
        places = λ k t. absurd (none t.2.blocks t.2.file);
        names = λ t. absurd (none t.1 t.2);
        twins = λ t. absurd (none t.1 t.2);
      }

      pub no_file : ¬ IsFile I L n → TellsFile I L faults n
      no_file none = record {
        chain = λ t. absurd (none t.0);
        outside = λ b t. absurd (none t.0);
        whole = no_whole (λ blocks has. none has.file);
      }

      module _ (shares : SharesHeader I L n → Tells faults (BadChain n)) where
        pub bad_file : (fault : ChainFault) → IsChainFault I L n fault → fault ≢ chain.NoMemory → Tells faults (mount_fault_of (Chain n fault)) → TellsFile I L faults n
        bad_file chain.BadChain none some told = record {
          chain = λ t. told;
          outside = λ b t. absurd (none t.1 t.2 t.3);
          whole = no_whole (λ blocks has. none has.others blocks has.whole.chain);
        }
        bad_file (chain.OutsideVolume lbn) (ns, bs, goes, one, past) some told = record {
          chain = λ t. elim t.1 [ inl gone ↦ absurd (gone ns bs goes) | inr s ↦ shares s ];
          outside = λ b t. (lbn, told);
          whole = no_whole (λ blocks has.
              let same = same_chain I L.home (index_for L n) [] 0 n ns bs has.others blocks goes has.whole.chain in
              let P : List ℕ → Type 0 = λ l. Contains l lbn in
              let inside = all_at blocks (length I) lbn has.whole.inside (subst P same.1 one) in
              omega arith);
        }
        bad_file chain.NoMemory none some told = absurd (some refl)

        pub whole_file : (blocks : List ℕ) → HasBlocks I L n blocks → TellsWhole I L faults n → TellsFile I L faults n
        whole_file blocks has whole = record {
          chain = λ t. elim t.1 [ inl gone ↦ absurd (gone has.others blocks has.whole.chain) | inr s ↦ shares s ];
          outside = λ b t.
              let same = same_chain I L.home (index_for L n) [] 0 n t.1 t.2 has.others blocks t.3 has.whole.chain in
              let P : List ℕ → Type 0 = λ l. Contains l b in
              let inside = all_at blocks (length I) b has.whole.inside (subst P same.1 t.4) in
              let past = t.5 in
              absurd (omega arith);
          whole = whole;
        }

    -- what is told of a file stays told
    module _ (P : FaultLine → Type 0) (old new : List FaultLine × ℕ) (a : Adds P old new) where
      still : (x : FaultLine) → Contains old.0 x → Contains new.0 x
      still x = told_still P old new x a

      pub told_whole_still : TellsWhole I L old.0 n → TellsWhole I L new.0 n
      told_whole_still t = record {
        free = λ b h. still _ (t.free b h);
        places = λ k h. still _ (t.places k h);
        names = λ h. still _ (t.names h);
        twins = λ h. still _ (t.twins h);
      }

      pub told_file_still : TellsFile I L old.0 n → TellsFile I L new.0 n
      told_file_still t = record {
        chain = λ h. still _ (t.chain h);
        outside = λ b h. let o = t.outside b h in (o.0, still _ o.1);
        whole = told_whole_still t.whole;
      }

-- The fault of a chain comes behind the line that the file shares a header, or is that line, which is told of no file without a chain.
pub chain_in_turn : (I : List (List ℕ)) (L : VolumeLayout) (n : ℕ) (start mid new : List FaultLine × ℕ) (fault : ChainFault) → IsChainFault I L n fault → fault ≢ chain.NoMemory → (mid ≡ start) ⊎ SharesHeader I L n
    → AddsInTurn turn_of (file_turn n) (file_turn n + 1) start mid → new ≡ (mid.0 ++ Plain (mount_fault_of (Chain n fault)) ∷ [], mid.1) → AddsInTurn turn_of (file_turn n) (file_turn n + 2) start new
chain_in_turn I L n start mid new chain.BadChain none some (inl same) before is =
    turn_one turn_of (file_turn n) (file_turn n + 2) start new (Plain (BadChain n)) (is ∙ ap (λ l. (l.0 ++ Plain (BadChain n) ∷ [], l.1)) same) (omega arith) (omega arith)
chain_in_turn I L n start mid new chain.BadChain none some (inr s) before is = absurd (none s.2 s.4 s.9)
chain_in_turn I L n start mid new (chain.OutsideVolume lbn) fault some only before is =
    turn_more turn_of (file_turn n) (file_turn n + 1) (file_turn n + 2) start mid new (omega arith) (omega arith) before
    (turn_one turn_of (file_turn n + 1) (file_turn n + 2) mid new (Plain (OutsideVolume n lbn)) is (omega arith) (omega arith))
chain_in_turn I L n start mid new chain.NoMemory fault some only before is = absurd (some refl)

-- lines of one file that are the same are of one block
pub same_marked : (n b c : ℕ) → Plain (MarkedFree n b) ≡ Plain (MarkedFree n c) → b ≡ c
same_marked n b c e = cc

pub same_held : (n b c : ℕ) → Index (HeldPlace b n) ≡ Index (HeldPlace c n) → b ≡ c
same_held n b c e = cc
