-- A directory of a sound image, read by its blocks and its end mark; and why its chain is whole.
use Rattle.std.proofs.Common.{◌≡◌, ◌≢◌, ℕ, ◌+◌, ◌-◌, ◌*◌, ◌<◌, ◌≤◌, refl, ap, sym, ◌∙◌, subst, Bool, true, false, cond, List, [], length, map, take, get_or, Option, arith}
use Rattle.std.specs.Prelude.{◌==◌, min, nat_le, if◌then◌else◌, IsPermutation}
use Rattle.std.specs.List.{All}
use Rattle.std.proofs.lemmas.List.Sorted.{IsPermutation-sym, IsPermutation-trans}
use Rattle.std.proofs.lemmas.List.{length-map, get_or-take, length-take-le, take_all}
use Rattle.std.proofs.lemmas.Bool.{leb-false, lt-leb}
use Rattle.ods_text.proofs.Firsts.{front_is}
use Rattle.ods_text.specs.Cuts.{IsFirst}
use Rattle.std.proofs.lemmas.List.Elements.{All-contains, All-from_get_or, All-get_or}
use Rattle.ods_base.specs.Image.{block_at}
use Rattle.ods_base.specs.Names.{lines_of}
use Rattle.ods_header.specs.Header.{attributes_of, is_directory_header}
use Rattle.ods_space.specs.Layout.{VolumeLayout, header_at}
use Rattle.ods_space.specs.Chain.{IsSegment, index_for, known, most}
use Rattle.ods_space.specs.Reach.{Begins, ReachesBy}
use Rattle.ods_space.specs.Files.{IsFile, HasBlocks, AreInside}
use Rattle.ods_space.specs.Faults.{IsChainFault}
use Rattle.ods_space.specs.declared.fault.ChainFault.{ChainFault}
use Rattle.ods_space.specs.declared.fault.ChainFault.TheVariants.{BadChain, OutsideVolume}
use Rattle.ods_space.proofs.Chains.{same_chain}
use Rattle.ods_space.proofs.Surveyed.{index_for_other}
use Rattle.ods_space.proofs.AsFar.{reached_is_one, whole_is_chain}
use Rattle.ods_directory.specs.Mark.{mark_in, end_block, end_byte}
use Rattle.ods_directory.specs.Names.{IsDirectory, names_of}
use Rattle.ods_directory.proofs.Ordered.{good_lines_are_names}
use Rattle.ods_directory.proofs.Marks.{mark_inside}
use Rattle.ods_mount.specs.Faults.{IsDirectoryFile, contents_of, mark_at}
use Rattle.ods_mount.specs.Sound.{IsSoundBy}
use Rattle.ods_walk.specs.Listing.{AreThere, ListsTheNames, up_to_end}

-- these blocks and this mark are those of directory n
pub record IsReadAs (I : List (List ℕ)) (L : VolumeLayout) (n : ℕ) (lbns : List ℕ) (blocks : List (List ℕ)) (mark : ℕ) : Type 0 where
  pub blocks_are : blocks ≡ contents_of I lbns
  pub mark_is : mark ≡ mark_at I L n lbns
  pub inside : mark ≤ 512 * length blocks
  pub directory : IsDirectory blocks mark

module _ {I : List (List ℕ)} {L : VolumeLayout} (sound : IsSoundBy I L) {n : ℕ} where
  pub no_bad_chain : (fault : ChainFault) → fault ≡ BadChain → IsFile I L n → IsChainFault I L n fault → ⊥
  no_bad_chain fault is file told = let bad : IsChainFault I L n BadChain = subst (IsChainFault I L n) is told in let whole = sound.chains n file in bad whole.1.others whole.0 whole.1.whole.chain

  pub none_outside : (fault : ChainFault) (lbn : ℕ) → fault ≡ OutsideVolume lbn → IsFile I L n → IsChainFault I L n fault → ⊥
  none_outside fault lbn is file told =
      let out : IsChainFault I L n (OutsideVolume lbn) = subst (IsChainFault I L n) is told in
      let whole = sound.chains n file in
      let same : whole.0 ≡ out.1 = (same_chain I L.home (index_for L n) [] 0 n whole.1.others whole.0 out.0 out.1 whole.1.whole.chain out.2).1 in
      let below : lbn < length I = All-contains (λ b. b < length I) out.1 lbn (subst (λ bs. AreInside I bs) same whole.1.whole.inside) out.3 in
      let above : length I ≤ lbn = out.4 in
      absurd (omega arith)

  -- the image, the LBNs and the header at hand are those of the directory
  pub read_as : (J : List (List ℕ)) (lbns at_hand : List ℕ) (header attributes : List ℕ) (count mark : ℕ) → IsDirectoryFile I L n → HasBlocks I L n lbns → J ≡ I → at_hand ≡ lbns
      → header ≡ header_at I L n → attributes ≡ attributes_of header → count ≡ length (map (block_at J) at_hand) → mark ≡ mark_in attributes count → IsReadAs I L n lbns (map (block_at J) at_hand) mark
  read_as J lbns at_hand header attributes count mark is has same_image same_blocks same_header attributes_are count_is mark_is =
      let blocks : map (block_at J) at_hand ≡ contents_of I lbns = λ i. map (block_at (same_image i)) (same_blocks i) in
      let size : count ≡ length lbns = count_is ∙ ap length blocks ∙ length-map lbns (block_at I) in
      let end : mark ≡ mark_at I L n lbns = mark_is ∙ (λ i. mark_in ((attributes_are ∙ ap attributes_of same_header) i) (size i)) in
      record {
        blocks_are = blocks;
        mark_is = end;
        inside = subst (λ m. m ≤ 512 * length (map (block_at J) at_hand)) (sym mark_is) (subst (λ k. mark_in attributes count ≤ 512 * k) count_is (mark_inside attributes count));
        directory = subst (λ m. IsDirectory (map (block_at J) at_hand) m) (sym end) (subst (λ bs. IsDirectory bs (mark_at I L n lbns)) (sym blocks) (sound.directories n lbns is has));
      }

-- two readings of the blocks of a file that are there are one
pub same_there : (I : List (List ℕ)) (L : VolumeLayout) (n : ℕ) (xs ys : List ℕ) → AreThere I L n xs → AreThere I L n ys → xs ≡ ys
same_there I L n xs ys f g =
    f.front ∙ ap (up_to_end (length I)) (reached_is_one I L.home (index_for L n) n f.blocks g.blocks f.whole g.whole f.reached g.reached).0 ∙ sym g.front

-- the blocks at hand are those of directory n that are there, and the mark at hand is its mark
pub record IsAtHand (I : List (List ℕ)) (L : VolumeLayout) (n : ℕ) (lbns : List ℕ) (blocks : List (List ℕ)) (mark : ℕ) : Type 0 where
  pub there : AreThere I L n lbns
  pub blocks_are : blocks ≡ contents_of I lbns
  pub mark_is : mark ≡ mark_at I L n lbns

pub at_hand : (I : List (List ℕ)) (L : VolumeLayout) (n : ℕ) (J : List (List ℕ)) (lbns reached : List ℕ) (whole : Bool) (len : ℕ) (header attributes : List ℕ) (count mark : ℕ) → ReachesBy I L n reached whole
    → lbns ≡ up_to_end len reached → len ≡ length I → J ≡ I → header ≡ header_at I L n → attributes ≡ attributes_of header → count ≡ length (map (block_at J) lbns) → mark ≡ mark_in attributes count
    → IsAtHand I L n lbns (map (block_at J) lbns) mark
at_hand I L n J lbns reached whole len header attributes count mark by front same_len same header_is attributes_are count_is mark_is =
    let size : count ≡ length lbns = count_is ∙ length-map lbns (block_at J) in
    record {
      there = record { blocks = reached; whole = whole; reached = by; front = front ∙ ap (λ k. up_to_end k reached) same_len };
      blocks_are = ap (λ K. map (block_at K) lbns) same;
      mark_is = mark_is ∙ (λ i. mark_in ((attributes_are ∙ ap attributes_of header_is) i) (size i));
    }

-- the first header of a directory is there
pub begins : (I : List (List ℕ)) (L : VolumeLayout) (n : ℕ) → IsDirectoryFile I L n → Begins I L n
begins I L n is =
    let other : n ≢ 1 = λ same. (let none : false ≡ true = subst (λ x. is_directory_header x (header_at I L n) ≡ true) same is.1 in absurd (cc)) in
    let P : Option (List ℕ) → Type 0 = λ o. IsSegment I L.home (known o []) (most L.home o []) n 0 in
    subst P (sym (index_for_other L n other)) is.0

-- what stands before the first that lies past the end lies before it
pub before_end : (len : ℕ) (lbns : List ℕ) (n : ℕ) → IsFirst (λ lbn. nat_le len lbn) lbns n → All (λ lbn. lbn < len) (take n lbns)
before_end len lbns n first = All-from_get_or (λ lbn. lbn < len) (take n lbns) 0 (λ k below.
    let small : k < n = omega (arith, below, length-take-le n lbns) in
    let here : get_or (take n lbns) k 0 ≡ get_or lbns k 0 = get_or-take n lbns k 0 small in
    omega (arith, leb-false len (get_or lbns k 0) (first.before k small), here))

-- none of these lies past the end
all_before : (len : ℕ) (lbns : List ℕ) → All (λ lbn. lbn < len) lbns → up_to_end len lbns ≡ lbns
all_before len lbns inside =
    let first : IsFirst (λ lbn. nat_le len lbn) lbns (length lbns) = record {
      within = omega arith;
      before = λ k below. lt-leb len (get_or lbns k 0) (All-get_or (λ lbn. lbn < len) lbns k 0 below inside);
      found = λ below. absurd (omega (arith, below));
    } in
    sym (front_is (λ lbn. nat_le len lbn) lbns (length lbns) first) ∙ take_all (length lbns) lbns (omega arith)

-- on a sound image the blocks that are there are those of the file
pub there_sound : (I : List (List ℕ)) (L : VolumeLayout) → IsSoundBy I L → (n : ℕ) (lbns : List ℕ) → IsFile I L n → AreThere I L n lbns → HasBlocks I L n lbns
there_sound I L sound n lbns file there =
    let whole = sound.chains n file in
    let reached = (whole_is_chain I L.home (index_for L n) n whole.0).1 whole.1.others whole.1.whole.chain in
    let same : there.blocks ≡ whole.0 = (reached_is_one I L.home (index_for L n) n there.blocks whole.0 there.whole true there.reached reached).0 in
    let all : lbns ≡ whole.0 = there.front ∙ ap (up_to_end (length I)) same ∙ all_before (length I) whole.0 whole.1.whole.inside in
    subst (HasBlocks I L n) (sym all) whole.1

pub lists_the_names : ListsTheNames
lists_the_names I L n lines sound is listing =
    let are = listing.are in
    let has = there_sound I L sound n are.lbns is.0 are.there in
    let names = lines_of (names_of (contents_of I are.lbns) (mark_at I L n are.lbns)) in
    let good = good_lines_are_names (contents_of I are.lbns) (mark_at I L n are.lbns) (sound.directories n are.lbns is has) in
    let entries : IsPermutation listing.entries names = subst (λ ls. IsPermutation ls names) (sym are.all) good in
    (are.lbns, has, IsPermutation-trans names listing.entries lines (IsPermutation-sym listing.entries names entries) listing.all)
