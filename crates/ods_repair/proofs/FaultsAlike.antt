-- The faults of two images that are alike but for the pointers of one file are the same, but for those of blocks that are held twice or marked free.
use Rattle.std.proofs.Common.{◌≡◌, ◌≢◌, ℕ, ◌<◌, ◌≤◌, ap, sym, ◌∙◌, subst, IsTrue, List, length, arith, inl, inr}
use Rattle.std.specs.List.{Contains}
use Rattle.std.proofs.lemmas.Bool.{cases_eq}
use Rattle.std.proofs.lemmas.List.{length-map}
use Rattle.ods_base.specs.Image.{block_at}
use Rattle.ods_header.specs.Header.{IsFormat1, IsHeader, attributes_of, is_directory_header, sequence_of, system_char_of, user_char_of}
use Rattle.ods_header.proofs.DirectoryHeaders.{is_apart}
use Rattle.ods_space.specs.Layout.{VolumeLayout, header_at, is_in_use}
use Rattle.ods_space.specs.Chain.{IsChain}
use Rattle.ods_space.specs.Files.{HasBlocks, IsFile}
use Rattle.ods_directory.specs.Entry.{used_entries}
use Rattle.ods_directory.specs.Mark.{mark_in}
use Rattle.ods_directory.specs.Names.{HasBadEntry, HasTwins}
use Rattle.ods_mount.specs.declared.fault.MountFault.{MountFault}
use Rattle.ods_mount.specs.declared.fault.MountFault.TheVariants.{NoHome, BadIndex, BadStorageMap, BadMaster, UnsupportedMap, BadChain, OutsideVolume, DoublyUsed, MarkedFree, BadDirectory, DuplicateName, NoMemory}
use Rattle.ods_mount.specs.Faults.{IsDirectoryFile, IsTrueOf, contents_of, mark_at}

-- Y is alike X but for the pointers of file n: each other header and chain is the same, and what each file but 1 and 2 has. The chain of n is whole in both, with the same headers and bytes.
pub record IsAlike (X Y : List (List ℕ)) (L : VolumeLayout) (n : ℕ) : Type 0 where
  pub above : 5 < n
  pub long : length Y ≡ length X
  pub in_use : (q : ℕ) → is_in_use Y L.home q ≡ is_in_use X L.home q
  pub headers : (q : ℕ) → q ≢ n → header_at Y L q ≡ header_at X L q
  pub file : IsFile X L n
  pub sequence : sequence_of (header_at Y L n) ≡ sequence_of (header_at X L n)
  pub user_char : user_char_of (header_at Y L n) ≡ user_char_of (header_at X L n)
  pub system_char : system_char_of (header_at Y L n) ≡ system_char_of (header_at X L n)
  pub attributes : attributes_of (header_at Y L n) ≡ attributes_of (header_at X L n)
  pub directory : is_directory_header n (header_at Y L n) ≡ is_directory_header n (header_at X L n)
  pub files : (q : ℕ) → IsFile X L q → IsFile Y L q
  pub were_files : (q : ℕ) → IsFile Y L q → IsFile X L q
  pub chains : (q : ℕ) (ms bs : List ℕ) → q ≢ n → IsChain X L q ms bs → IsChain Y L q ms bs
  pub were_chains : (q : ℕ) (ms bs : List ℕ) → q ≢ n → IsChain Y L q ms bs → IsChain X L q ms bs
  pub own_chain : (ms bs : List ℕ) → IsChain X L n ms bs → (cs : List ℕ) × IsChain Y L n ms cs
  pub was_own_chain : (ms cs : List ℕ) → IsChain Y L n ms cs → (bs : List ℕ) × IsChain X L n ms bs
  pub inside : (ms bs : List ℕ) (b : ℕ) → IsChain X L n ms bs → Contains bs b → b < length X
  pub has : (q : ℕ) (bs : List ℕ) → q ≢ n → HasBlocks X L q bs → HasBlocks Y L q bs
  pub own_has : (bs : List ℕ) → HasBlocks X L n bs → (cs : List ℕ) × HasBlocks Y L n cs × (contents_of Y cs ≡ contents_of X bs)
  pub contents : (q : ℕ) (bs : List ℕ) → q ≢ n → q ≢ 1 → q ≢ 2 → HasBlocks X L q bs → contents_of Y bs ≡ contents_of X bs

-- a fault of neither the index nor of blocks that are held twice or marked free
abbrev pub IsOfFiles : MountFault → Type 0
IsOfFiles BadIndex = ⊥
IsOfFiles (DoublyUsed m n b) = ⊥
IsOfFiles (MarkedFree n b) = ⊥
IsOfFiles other = Unit {0}

module _ (X Y : List (List ℕ)) (L : VolumeLayout) (n : ℕ) (a : IsAlike X Y L n) where
  pub any_chain : (q : ℕ) (ms bs : List ℕ) → IsChain X L q ms bs → (cs : List ℕ) × IsChain Y L q ms cs
  any_chain q ms bs c = elim (cases_eq q n) [
    | inl same ↦
        let own = a.own_chain ms bs (subst (λ z. IsChain X L z ms bs) same c) in
        (own.0, subst (λ z. IsChain Y L z ms own.0) (sym same) own.1)
    | inr other ↦ (bs, a.chains q ms bs other c)
  ]

  was_chain : (q : ℕ) (ms cs : List ℕ) → IsChain Y L q ms cs → (bs : List ℕ) × IsChain X L q ms bs
  was_chain q ms cs c = elim (cases_eq q n) [
    | inl same ↦
        let own = a.was_own_chain ms cs (subst (λ z. IsChain Y L z ms cs) same c) in
        (own.0, subst (λ z. IsChain X L z ms own.0) (sym same) own.1)
    | inr other ↦ (cs, a.were_chains q ms cs other c)
  ]

  pub same_attributes : (q : ℕ) → attributes_of (header_at Y L q) ≡ attributes_of (header_at X L q)
  same_attributes q = elim (cases_eq q n) [
    | inl same ↦ ap (λ z. attributes_of (header_at Y L z)) same ∙ a.attributes ∙ sym (ap (λ z. attributes_of (header_at X L z)) same)
    | inr other ↦ ap attributes_of (a.headers q other)
  ]

  pub directory_stays : (q : ℕ) → IsDirectoryFile X L q → IsDirectoryFile Y L q
  directory_stays q d = (
    a.files q d.0,
    elim (cases_eq q n) [
      | inl same ↦ ap (λ z. is_directory_header z (header_at Y L z)) same ∙ a.directory ∙ sym (ap (λ z. is_directory_header z (header_at X L z)) same) ∙ d.1
      | inr other ↦ ap (is_directory_header q) (a.headers q other) ∙ d.1
    ],
  )

  -- a directory is neither INDEXF.SYS nor BITMAP.SYS
  not_one : (q : ℕ) → IsDirectoryFile X L q → q ≢ 1
  not_one q d = is_apart q (header_at X L q) d.1 1 (omega arith) (λ e. absurd (omega (arith, e)))

  not_two : (q : ℕ) → IsDirectoryFile X L q → q ≢ 2
  not_two q d = is_apart q (header_at X L q) d.1 2 (omega arith) (λ e. absurd (omega (arith, e)))

  -- what a directory has, with its end mark, is as before
  pub directory_has : (P : List (List ℕ) → ℕ → Type 0) (q : ℕ) (bs : List ℕ) → IsDirectoryFile X L q → HasBlocks X L q bs → P (contents_of X bs) (mark_at X L q bs)
      → (cs : List ℕ) × HasBlocks Y L q cs × P (contents_of Y cs) (mark_at Y L q cs)
  directory_has P q bs dir has p =
      let found = blocks in
      let few : length found.0 ≡ length bs = sym (length-map found.0 (block_at Y)) ∙ ap length found.2 ∙ length-map bs (block_at X) in
      let mark : mark_at Y L q found.0 ≡ mark_at X L q bs = (λ i. mark_in (same_attributes q i) (few i)) in
      (found.0, found.1, subst (λ cs. P cs (mark_at Y L q found.0)) (sym found.2) (subst (P (contents_of X bs)) (sym mark) p))
    where
      blocks : (cs : List ℕ) × HasBlocks Y L q cs × (contents_of Y cs ≡ contents_of X bs)
      blocks = elim (cases_eq q n) [
        | inl same ↦
            let own = a.own_has bs (subst (λ z. HasBlocks X L z bs) same has) in
            (own.0, subst (λ z. HasBlocks Y L z own.0) (sym same) own.1, own.2)
        | inr other ↦ (bs, a.has q bs other has, a.contents q bs other (not_one q dir) (not_two q dir) has)
      ]

  pub fault_stays : (fault : MountFault) → IsOfFiles fault → IsTrueOf X L fault → IsTrueOf Y L fault
  fault_stays BadIndex of f = absurd of
  fault_stays (DoublyUsed m k b) of f = absurd of
  fault_stays (MarkedFree k b) of f = absurd of
  fault_stays BadStorageMap of (inl none) = inl (λ file. none (a.were_files 2 file))
  fault_stays BadStorageMap of (inr (file, ns, bs, chain, few)) = inr (a.files 2 file, ns, bs, a.chains 2 ns bs (λ e. absurd (omega (arith, e, a.above))) chain, few)
  fault_stays BadMaster of f = λ file. f (a.were_files 4 file)
  fault_stays (UnsupportedMap q) of (used, is, other) = elim (cases_eq q n) [
    | inl same ↦ absurd (other (subst (λ z. IsFormat1 (header_at X L z)) (sym same) a.file.valid.format))
    | inr apart ↦ (subst IsTrue (sym (a.in_use q)) used, subst (λ c. IsHeader c q) (sym (a.headers q apart)) is, λ one. other (subst IsFormat1 (a.headers q apart) one))
  ]
  fault_stays (BadChain q) of (file, inl none) = (a.files q file, inl (λ ms cs chain. let was = was_chain q ms cs chain in none ms was.0 was.1))
  fault_stays (BadChain q) of (file, inr (m, ms, ns, cs, bs, x, other, mfile, mchain, nchain, xm, xn)) =
      let one = any_chain m ms cs mchain in
      let two = any_chain q ns bs nchain in
      (a.files q file, inr (m, ms, ns, one.0, two.0, x, other, a.files m mfile, one.1, two.1, xm, xn))
  fault_stays (OutsideVolume q b) of (file, ns, bs, chain, one, past) = elim (cases_eq q n) [
    | inl same ↦ let low = a.inside ns bs b (subst (λ z. IsChain X L z ns bs) same chain) one in absurd (omega (arith, low, past))
    | inr other ↦ (a.files q file, ns, bs, a.chains q ns bs other chain, one, subst (λ k. k ≤ b) (sym a.long) past)
  ]
  fault_stays (BadDirectory q) of (dir, bs, has, bad) =
      let there = directory_has (λ cs mark. HasBadEntry (used_entries cs mark)) q bs dir has bad in
      (directory_stays q dir, there.0, there.1, there.2)
  fault_stays (DuplicateName q) of (dir, bs, has, twins) =
      let there = directory_has (λ cs mark. HasTwins (used_entries cs mark)) q bs dir has twins in
      (directory_stays q dir, there.0, there.1, there.2)
  fault_stays NoHome of f = absurd f
  fault_stays NoMemory of f = absurd f
