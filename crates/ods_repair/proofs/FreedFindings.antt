-- What a check finds of a sound volume stays where bits of its storage bitmap change, but for blocks that no file holds.
use Rattle.std.proofs.Common.{◌≡◌, ◌≢◌, ℕ, ◌+◌, sym, ap, ◌∙◌, true, List, [], length, Some, arith}
use Rattle.std.specs.Prelude.{◌↔◌}
use Rattle.std.proofs.lemmas.Option.{slice_get-get_or}
use Rattle.ods_base.specs.Image.{block_at}
use Rattle.ods_header.proofs.DirectoryHeaders.{is_apart}
use Rattle.ods_space.specs.Layout.{VolumeLayout, header_at, is_in_use}
use Rattle.ods_space.specs.Chain.{IsChain}
use Rattle.ods_space.specs.Files.{Holds, IsFile}
use Rattle.ods_space.proofs.Surveyed.{file_of_chain}
use Rattle.ods_alloc.specs.Extend.{IsStorageBitmap}
use Rattle.ods_alloc.proofs.Places.{storage_at}
use Rattle.ods_mount.specs.Sound.{IsSoundBy}
use Rattle.ods_mount.proofs.Each.{holds_at}
use Rattle.ods_state.proofs.Chains.{IsLinkedBut, chain_was, file_stays}
use Rattle.ods_state.proofs.Links.{bits_stay, linked_same}
use Rattle.ods_amend.specs.Bits.{AreMarked}
use Rattle.ods_amend.proofs.BitsSound.{has, headers_same, holds_now, home_was}
use Rattle.ods_check.specs.declared.finding.Finding.{Finding}
use Rattle.ods_check.specs.Findings.{IsFound, run_of}
use Rattle.ods_repair.specs.Framed.{IsReadAs}
use Rattle.ods_repair.proofs.FindingsKept.{KeepDirectories, other_finding_stays}
use Rattle.ods_repair.proofs.Framed.{contents_stay}

-- no header
abbrev NoHeader : ℕ → Type 0
NoHeader n = ⊥

module _ (I J : List (List ℕ)) (L : VolumeLayout) (S : IsSoundBy I L) (T : IsSoundBy J L) (long : length J ≡ length I) (others : (x : ℕ) → ¬ IsStorageBitmap L x → block_at J x ≡ block_at I x) where
  -- a block that another file than BITMAP.SYS holds stays
  there : (n v x : ℕ) → n ≢ 2 → Holds I L n v x → block_at J x ≡ block_at I x
  there n v x other holds = others x (λ b. let at = storage_at L x b in other (S.once n 2 v (at.0 + 1) x holds (holds_at I L 2 L.bitmap at.0 x S.layout.bitmap at.1)).0)

  bits_same : (n : ℕ) → is_in_use J L.home n ≡ is_in_use I L.home n
  bits_same = bits_stay I J L.home (λ i low.
      there 1 (2 + i + 1) (L.home.index_bitmap_lbn + i) (λ e. absurd (omega (arith, e))) (holds_at I L 1 L.index (2 + i) (L.home.index_bitmap_lbn + i) S.layout.index (S.index_place i (omega (arith, low)))))

  frame : IsLinkedBut I J L NoHeader
  frame = record {
    long = long;
    linked = λ n far. linked_same I J L.home L.index n (headers_same I J L S long others n) (bits_same n);
    back = λ n far. linked_same J I L.home L.index n (sym (headers_same I J L S long others n)) (sym (bits_same n));
    apart = λ n more blocks f c far x among. far;
  }

  file_here : (n : ℕ) → IsFile I L n → IsFile J L n
  file_here n = file_stays I J L S NoHeader frame n (λ e. e)

  chain_before : (n : ℕ) (ms bs : List ℕ) → IsChain J L n ms bs → IsChain I L n ms bs
  chain_before n ms bs c = (chain_was I J L S NoHeader frame n ms bs (λ e. e) (file_of_chain J L n ms bs (record { home = T.layout.home; index = T.layout.index }) c) c).0

  directories : KeepDirectories I J L
  directories n bs dir held = contents_stay I J bs (λ b among.
      there n (among.0 + 1) b (is_apart n (header_at I L n) dir.1 2 (omega arith) (λ e. absurd (omega (arith, e))))
      (holds_at I L n bs among.0 b held (slice_get-get_or bs among.0 b among.1 ∙ ap Some among.2)))

module _ (I J : List (List ℕ)) (L : VolumeLayout) (S : IsSoundBy I L) (T : IsSoundBy J L) (long : length J ≡ length I) (others : (x : ℕ) → ¬ IsStorageBitmap L x → block_at J x ≡ block_at I x) where
  others_back : (x : ℕ) → ¬ IsStorageBitmap L x → block_at I x ≡ block_at J x
  others_back x apart = sym (others x apart)

  read : IsReadAs I J L
  read = record {
    long = long;
    layout = T.layout;
    homes = λ lbn. (home_was J I L T (sym long) others_back lbn, home_was I J L S long others lbn);
    headers = headers_same I J L S long others;
    in_use = bits_same I J L S T long others;
    files = λ n. (file_here I J L S T long others n, file_here J I L T S (sym long) others_back n);
    chains = λ n ms bs. (chain_before J I L T S (sym long) others_back n ms bs, chain_before I J L S T long others n ms bs);
    has = λ n bs. (has I J L S long others n bs, has J I L T (sym long) others_back n bs);
    holds = λ n v b. (holds_now I J L S long others n v b, holds_now J I L T (sym long) others_back n v b);
  }

  -- each other finding is there where it was
  pub other_finding_here : (finding : Finding) → run_of finding ≡ [] → IsFound I L finding → IsFound J L finding
  other_finding_here = other_finding_stays I J L S.layout read (directories I J L S T long others)

pub freed_findings : (I J : List (List ℕ)) (L : VolumeLayout) (blocks : List ℕ) → IsSoundBy I L → AreMarked I L blocks true J → (finding : Finding) → run_of finding ≡ [] → IsFound I L finding ↔ IsFound J L finding
freed_findings I J L blocks S m finding of = (
  other_finding_here I J L S m.sound m.long m.elsewhere finding of,
  other_finding_here J I L m.sound S (sym m.long) (λ x apart. sym (m.elsewhere x apart)) finding of,
)
