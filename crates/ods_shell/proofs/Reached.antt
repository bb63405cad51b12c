-- What is known of a file, by how far its chain goes; and on a sound image, where it is whole.
use Rattle.std.proofs.Common.{◌≡◌, ◌≢◌, ℕ, ◌<◌, ◌≤◌, Bool, true, false, cond, refl, sym, ap, ◌∙◌, subst, List, [], length, Option, Some, None, arith}
use Rattle.std.specs.Prelude.{nat_eq}
use Rattle.std.specs.List.{All, Contains}
use Rattle.std.proofs.lemmas.Bool.{eqb-true}
use Rattle.std.proofs.lemmas.List.Elements.{All-contains}
use Rattle.ods_space.specs.Layout.{VolumeLayout, header_at}
use Rattle.ods_space.specs.Chain.{IsIndex, IsSegment, index_for, known, most}
use Rattle.ods_space.specs.Files.{AreInside, FindsFiles, HasBlocks, IsFile}
use Rattle.ods_space.specs.Reach.{Begins, Reaches}
use Rattle.ods_space.specs.declared.fault.ChainFault.TheVariants.{BadChain, OutsideVolume}
use Rattle.ods_space.proofs.AsFar.{reached_is_one, whole_is_chain}
use Rattle.ods_space.proofs.Chains.{head_of}
use Rattle.ods_space.proofs.Surveyed.{index_for_other}
use Rattle.ods_mount.specs.Sound.{IsSoundBy}
use Rattle.ods_walk.proofs.Directories.{no_bad_chain, none_outside}
use Rattle.ods_shell.specs.Contents.{SoundChainsAreGot}
use Rattle.ods_shell.specs.Facts.{AreFacts, FactsOfSound, HasCondition, facts_in}
use Rattle.ods_shell.specs.declared.facts.Condition.{Condition}
use Rattle.ods_shell.specs.declared.facts.Condition.TheVariants.{Whole, Broken, Outside}
use Rattle.ods_shell.specs.declared.facts.Facts.{Facts}

-- a layout has the blocks that INDEXF.SYS maps by its own chain
pub index_of_layout : {I : List (List ℕ)} {L : VolumeLayout} → FindsFiles I L → IsIndex I L.home L.index
index_of_layout layout = (layout.index.others, layout.index.whole.chain)

-- the chain of a file begins
pub begins : (I : List (List ℕ)) (L : VolumeLayout) (n : ℕ) → FindsFiles I L → IsFile I L n → Begins I L n
begins I L n layout file = by (nat_eq n 1) refl
  where
    by : (b : Bool) → nat_eq n 1 ≡ b → Begins I L n
    by true e =
        let first : Begins I L 1 = head_of I L.home None [] 0 1 layout.index.others L.index layout.index.whole.chain in
        subst (Begins I L) (sym (eqb-true n 1 e)) first
    by false e =
        let other : n ≢ 1 = λ same. (let clash : true ≡ false = subst (λ m. nat_eq m 1 ≡ false) same e in absurd (cc)) in
        let P : Option (List ℕ) → Type 0 = λ o. IsSegment I L.home (known o []) (most L.home o []) n 0 in
        subst P (sym (index_for_other L n other)) file

-- no block lies both before the end and past it
not_both : (len : ℕ) (lbns : List ℕ) (lbn : ℕ) → All (λ b. b < len) lbns → Contains lbns lbn → len ≤ lbn → ⊥
not_both len lbns lbn inside among above = let below : lbn < len = All-contains (λ b. b < len) lbns lbn inside among in absurd (omega (arith, above, below))

-- a whole chain of blocks of the image has them all
all_there : (len : ℕ) (lbns : List ℕ) (whole : Bool) (condition : Condition) → whole ≡ true → ((lbn : ℕ) → len ≤ lbn → ¬ Contains lbns lbn) → HasCondition len lbns whole condition → condition ≡ Whole
all_there len lbns whole Whole is inside has = refl
all_there len lbns whole Broken is inside has = let clash : true ≡ false = sym is ∙ has in absurd (cc)
all_there len lbns whole Outside is inside has = absurd (inside has.1 has.3 has.2)

pub facts_of_sound : FactsOfSound
facts_of_sound I L n facts sound are =
    let chain = sound.chains n are.file in
    let lbns : List ℕ = chain.0 in
    let reached : Reaches I L.home (index_for L n) n lbns true = (whole_is_chain I L.home (index_for L n) n lbns).1 chain.1.others chain.1.whole.chain in
    let same = reached_is_one I L.home (index_for L n) n are.lbns lbns are.whole true are.reached reached in
    let inside : (lbn : ℕ) → length I ≤ lbn → ¬ Contains are.lbns lbn = λ lbn above among. not_both (length I) are.lbns lbn (subst (λ bs. AreInside I bs) (sym same.0) chain.1.whole.inside) among above in
    let condition : facts.condition ≡ Whole = all_there (length I) are.lbns are.whole facts.condition same.1 inside are.condition in
    (lbns, chain.1, are.are ∙ (λ i. facts_in n (header_at I L n) (length (same.0 i)) (condition i)))

pub sound_chains_are_got : SoundChainsAreGot
sound_chains_are_got I L n lbn wanted sound = (λ bad. no_bad_chain sound BadChain refl bad.0 bad.1, λ out. none_outside sound (OutsideVolume lbn) lbn refl out.0 out.1)

-- so much is there of a file in one way
one_condition : (len : ℕ) (lbns : List ℕ) (whole : Bool) (a b : Condition) → HasCondition len lbns whole a → HasCondition len lbns whole b → a ≡ b
one_condition len lbns whole Whole Whole f g = refl
one_condition len lbns whole Broken Broken f g = refl
one_condition len lbns whole Outside Outside f g = refl
one_condition len lbns whole Whole Broken f g = let clash : true ≡ false = sym f.0 ∙ g in absurd (cc)
one_condition len lbns whole Broken Whole f g = let clash : true ≡ false = sym g.0 ∙ f in absurd (cc)
one_condition len lbns whole Broken Outside f g = let clash : true ≡ false = sym g.0 ∙ f in absurd (cc)
one_condition len lbns whole Outside Broken f g = let clash : true ≡ false = sym f.0 ∙ g in absurd (cc)
one_condition len lbns whole Whole Outside f g = absurd (not_both len lbns g.1 f.1 g.2 g.3)
one_condition len lbns whole Outside Whole f g = absurd (not_both len lbns f.1 g.1 f.2 f.3)

-- a file is known in one way
pub known_in_one_way : (I : List (List ℕ)) (L : VolumeLayout) (n : ℕ) (f g : Facts) → AreFacts I L n f → AreFacts I L n g → f ≡ g
known_in_one_way I L n f g a b =
    let same = reached_is_one I L.home (index_for L n) n a.lbns b.lbns a.whole b.whole a.reached b.reached in
    let moved : HasCondition (length I) b.lbns b.whole f.condition = subst (λ w. HasCondition (length I) b.lbns w f.condition) same.1 (subst (λ l. HasCondition (length I) l a.whole f.condition) same.0 a.condition) in
    let condition : f.condition ≡ g.condition = one_condition (length I) b.lbns b.whole f.condition g.condition moved b.condition in
    a.are ∙ (λ i. facts_in n (header_at I L n) (length (same.0 i)) (condition i)) ∙ sym b.are
