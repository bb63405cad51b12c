-- What it leaves that one run of a file gets blocks of its own; and that more of its runs can move then.
use Rattle.std.proofs.Common.{◌≡◌, ◌≢◌, ℕ, ◌+◌, ◌-◌, ◌/◌, ◌<◌, ◌≤◌, ap, sym, ◌∙◌, subst, true, false, List, [], length, get_or, Some, arith, inl, inr}
use Rattle.std.specs.Prelude.{◌⊎◌, slice_get}
use Rattle.std.specs.List.{Contains, range_with_len}
use Rattle.std.proofs.lemmas.Bool.{cases_eq, cases_lt}
use Rattle.std.proofs.lemmas.List.FromFn.{get_or-range_with_len, length-range_with_len}
use Rattle.ods_header.specs.Header.{IsLaidOut, used_words_of}
use Rattle.ods_header.specs.Home.{IsHomeAt}
use Rattle.ods_space.specs.Layout.{VolumeLayout, header_at, place_of}
use Rattle.ods_space.specs.Chain.{IsChain, index_for}
use Rattle.ods_space.specs.Files.{Holds}
use Rattle.ods_space.specs.Free.{is_free_block}
use Rattle.ods_space.proofs.Chains.{same_chain}
use Rattle.ods_mount.specs.declared.fault.MountFault.{MountFault}
use Rattle.ods_mount.specs.declared.fault.MountFault.TheVariants.{NoHome, BadIndex, BadStorageMap, BadMaster, UnsupportedMap, BadChain, OutsideVolume, DoublyUsed, MarkedFree, BadDirectory, DuplicateName, NoMemory}
use Rattle.ods_mount.specs.Faults.{CouldBeWritten, HasBadIndex, IsTrueOf, contents_of}
use Rattle.ods_mount.proofs.Each.{holds_at}
use Rattle.ods_check.specs.Findings.{IsHeldByNone}
use Rattle.ods_repair.specs.Moved.{CanMove, IsMoved, run_named}
use Rattle.ods_repair.specs.Repointed.{KeepsFile}
use Rattle.ods_repair.specs.Unshared.{IsBetween, IsNotShared, Moves}
use Rattle.ods_repair.proofs.FaultsAlike.{IsAlike, fault_stays}
use Rattle.ods_repair.proofs.FindingsAlike.{finding_stays}
use Rattle.ods_repair.proofs.Marked as marked
use Rattle.ods_repair.proofs.Moving as moving
use Rattle.ods_repair.proofs.Repointed as repointed

module _ (I J : List (List ℕ)) (L : VolumeLayout) (n at to : ℕ) (can : CanMove I L n) (m : IsMoved I L n at to J) (low : at < used_words_of (header_at I L n) / 2)
    (free : (x : ℕ) → to ≤ x → x < to + (run_named I L n at).count → is_free_block I L x ≡ true) where
  abbrev pub count : ℕ
  count = (run_named I L n at).count

  abbrev pub new : List ℕ
  new = range_with_len to count

  abbrev pub now : List ℕ
  now = moving.now I J L n at to can m low free

  abbrev pub start : ℕ
  start = length (moving.front I J L n at to can m low free)

  held_was : (q v y : ℕ) → Holds J L q v y → Holds I L q v y ⊎ ((q ≡ n) × ((k : ℕ) × (k < count) × (v ≡ start + k + 1) × (y ≡ to + k)))
  held_was = moving.held_was I J L n at to can m low free

  in_new : (k : ℕ) → k < count → Contains new (to + k)
  in_new k small = (k, omega (arith, small, length-range_with_len to count), get_or-range_with_len to count k (to + k) small)

  unheld_at : (k q v y : ℕ) → k < count → y ≡ to + k → ¬ Holds I L q v y
  unheld_at k q v y small e h = moving.new_unheld I J L n at to can m low free (to + k) q v (in_new k small) (subst (Holds I L q v) e h)

  free_at : (k y : ℕ) → k < count → y ≡ to + k → is_free_block I L y ≡ true
  free_at k y small e = subst (λ z. is_free_block I L z ≡ true) (sym e) (moving.new_free I J L n at to can m low free (to + k) (in_new k small))

  free_was : (b : ℕ) → is_free_block J L b ≡ true → (is_free_block I L b ≡ true) × ¬ Contains new b
  free_was = marked.free_was I J L new m.long m.bits

  -- no block that is held is free
  none_free : (q b : ℕ) → ¬ IsTrueOf J L (MarkedFree q b)
  none_free q b (v, h, f) =
      let was = free_was b f in
      elim (held_was q v b h) [
        | inl old ↦ can.used q b (v, old, was.0)
        | inr (same, (k, small, at, is)) ↦ was.1 (subst (Contains new) (sym is) (in_new k small))
      ]

  -- a block that two places hold was held by both, and neither is in the run that moved
  twice_was : (a c b : ℕ) → IsTrueOf J L (DoublyUsed a c b) → IsTrueOf I L (DoublyUsed a c b)
  twice_was a c b (v, w, p, q, apart) = elim (held_was a v b p) [
    | inl one ↦ elim (held_was c w b q) [
      | inl two ↦ (v, w, one, two, apart)
      | inr (same, (k, small, at, is)) ↦ absurd (unheld_at k a v b small is one)
    ]
    | inr (first, (k, small, at, is)) ↦ elim (held_was c w b q) [
      | inl two ↦ absurd (unheld_at k c w b small is two)
      | inr (second, (j, few, there, e)) ↦
          let k_is : k ≡ j = omega (arith, is, e) in
          let v_is : v ≡ w = omega (arith, at, there, k_is) in
          let a_is : a ≡ c = first ∙ sym second in
          absurd (elim apart [ inl files ↦ files a_is | inr places ↦ places v_is ])
    ]
  ]

  written_was : (k : ℕ) → CouldBeWritten J L k → CouldBeWritten I L k
  written_was k (inl f) = inl (free_was k f).0
  written_was k (inr (q, v, h, three, five, bookkeeping)) = elim (held_was q v k h) [
    | inl old ↦ inr (q, v, old, three, five, bookkeeping)
    | inr (same, (j, small, at, is)) ↦ inl (free_at j k small is)
  ]

  home_was : (lbn : ℕ) → IsHomeAt J lbn → IsHomeAt I lbn
  home_was lbn = moving.home_was I J L n at to can m low free lbn

  good_index : ¬ HasBadIndex J L
  good_index (inl few) = can.index (inl few)
  good_index (inr (inl misplaced)) = can.index (inr (inl misplaced))
  good_index (inr (inr (inl (lbn, home, first, second)))) = can.index (inr (inr (inl (lbn, home_was lbn home, first, second))))
  good_index (inr (inr (inr (lbn, k, home, place, below, written)))) = can.index (inr (inr (inr (lbn, k, home_was lbn home, place, below, written_was k written))))

  old_chain_is : (ms bs : List ℕ) → IsChain I L n ms bs → (ms ≡ can.has.others) × (bs ≡ can.blocks)
  old_chain_is ms bs c = same_chain I L.home (index_for L n) [] 0 n ms bs can.has.others can.blocks c can.has.whole.chain

  new_chain_is : (ms cs : List ℕ) → IsChain J L n ms cs → (ms ≡ can.has.others) × (cs ≡ now)
  new_chain_is ms cs c = same_chain J L.home (index_for L n) [] 0 n ms cs can.has.others now c (moving.new_chain I J L n at to can m low free)

  laid : IsLaidOut (header_at I L n)
  laid = can.has.file.valid.header.layout

  kept : KeepsFile (header_at I L n) (header_at J L n)
  kept = moving.kept_header I J L n at to can m low free

  inside_of : (X : List (List ℕ)) (xs bs : List ℕ) (b : ℕ) → ((i : ℕ) (d : ℕ) → i < length xs → get_or xs i d < length X) → bs ≡ xs → Contains bs b → b < length X
  inside_of X xs bs b inside is c =
      let there : Contains xs b = subst (λ l. Contains l b) is c in
      subst (λ z. z < length X) there.2 (inside there.0 b there.1)

  alike : IsAlike I J L n
  alike = record {
    above = can.other;
    long = m.long;
    in_use = moving.bits_kept I J L n at to can m low free;
    headers = moving.header_stays I J L n at to can m low free;
    file = can.has.file;
    sequence = repointed.same_sequence (header_at I L n) (header_at J L n) laid kept;
    user_char = repointed.same_user_char (header_at I L n) (header_at J L n) laid kept;
    system_char = repointed.same_system_char (header_at I L n) (header_at J L n) laid kept;
    attributes = repointed.same_attributes (header_at I L n) (header_at J L n) laid kept;
    directory = repointed.same_directory (header_at I L n) (header_at J L n) laid kept n;
    files = moving.file_stays I J L n at to can m low free;
    were_files = moving.file_was I J L n at to can m low free;
    chains = moving.chain_stays I J L n at to can m low free;
    were_chains = moving.chain_was I J L n at to can m low free;
    own_chain = λ ms bs c. (now, subst (λ l. IsChain J L n l now) (sym (old_chain_is ms bs c).0) (moving.new_chain I J L n at to can m low free));
    was_own_chain = λ ms cs c. (can.blocks, subst (λ l. IsChain I L n l can.blocks) (sym (new_chain_is ms cs c).0) can.has.whole.chain);
    inside = λ ms bs b c. inside_of I can.blocks bs b can.has.whole.inside (old_chain_is ms bs c).1;
    has = moving.has_stays I J L n at to can m low free;
    own_has = λ bs h. (now, moving.own_has I J L n at to can m low free, moving.own_contents I J L n at to can m low free ∙ ap (contents_of I) (sym (moving.own_was I J L n at to can m low free bs h)));
    contents = λ q bs other one two h. moving.contents_stay I J L n at to can m low free q bs one two h;
  }

  alike_back : IsAlike J I L n
  alike_back = record {
    above = can.other;
    long = sym m.long;
    in_use = λ q. sym (moving.bits_kept I J L n at to can m low free q);
    headers = λ q other. sym (moving.header_stays I J L n at to can m low free q other);
    file = moving.file_stays I J L n at to can m low free n can.has.file;
    sequence = sym (repointed.same_sequence (header_at I L n) (header_at J L n) laid kept);
    user_char = sym (repointed.same_user_char (header_at I L n) (header_at J L n) laid kept);
    system_char = sym (repointed.same_system_char (header_at I L n) (header_at J L n) laid kept);
    attributes = sym (repointed.same_attributes (header_at I L n) (header_at J L n) laid kept);
    directory = sym (repointed.same_directory (header_at I L n) (header_at J L n) laid kept n);
    files = moving.file_was I J L n at to can m low free;
    were_files = moving.file_stays I J L n at to can m low free;
    chains = moving.chain_was I J L n at to can m low free;
    were_chains = moving.chain_stays I J L n at to can m low free;
    own_chain = alike.was_own_chain;
    was_own_chain = alike.own_chain;
    inside = λ ms cs b c. inside_of J now cs b (moving.own_has I J L n at to can m low free).whole.inside (new_chain_is ms cs c).1;
    has = moving.has_was I J L n at to can m low free;
    own_has = λ cs h. (can.blocks, can.has, sym (moving.own_contents I J L n at to can m low free) ∙ ap (contents_of J) (sym (moving.own_is I J L n at to can m low free cs h)));
    contents = λ q bs other one two h. sym (moving.contents_stay I J L n at to can m low free q bs one two (moving.has_was I J L n at to can m low free q bs other h));
  }

  -- more runs of the file can move
  pub more_can : CanMove J L n
  more_can = record {
    layout = moving.layout_stays I J L n at to can m low free;
    other = can.other;
    blocks = now;
    has = moving.own_has I J L n at to can m low free;
    index = good_index;
    once = can.once;
    bitmap = record {
      apart = λ b has. ((can.bitmap.apart b has).0, λ held. not_of_bitmap b has held.0 held.1.0 held.1.1.0 held.1.1.1);
      once = can.bitmap.once;
    };
    header = λ x place held. not_of_header x place held.0 held.1.0 held.1.1.0 held.1.1.1;
    used = none_free;
  }
    where
      not_of_bitmap : (b : ℕ) → (i : ℕ) × (0 ≤ i) × (slice_get L.bitmap i ≡ Some b) → (q : ℕ) → q ≢ 2 → (v : ℕ) → Holds J L q v b → ⊥
      not_of_bitmap b has q other v h = elim (held_was q v b h) [
        | inl old ↦ (can.bitmap.apart b has).1 (q, (other, (v, old)))
        | inr (same, (k, small, there, is)) ↦ unheld_at k 2 (has.0 + 1) b small is (holds_at I L 2 L.bitmap has.0 b can.layout.bitmap has.2)
      ]

      not_of_header : (x : ℕ) → place_of L n ≡ Some x → (q : ℕ) → q ≢ 1 → (v : ℕ) → Holds J L q v x → ⊥
      not_of_header x place q other v h = elim (held_was q v x h) [
        | inl old ↦ can.header x place (q, (other, (v, old)))
        | inr (same, (k, small, there, is)) ↦ unheld_at k 1 (1 + L.home.index_bitmap_size + n + 1) x small is (moving.place_held I L n can n x place)
      ]

  -- no fault is new
  fault_was : (fault : MountFault) → IsTrueOf J L fault → IsTrueOf I L fault
  fault_was BadIndex f = absurd (good_index f)
  fault_was (DoublyUsed a c b) f = twice_was a c b f
  fault_was (MarkedFree q b) f = absurd (none_free q b f)
  fault_was BadStorageMap f = fault_stays J I L n alike_back BadStorageMap tt f
  fault_was BadMaster f = fault_stays J I L n alike_back BadMaster tt f
  fault_was (UnsupportedMap q) f = fault_stays J I L n alike_back (UnsupportedMap q) tt f
  fault_was (BadChain q) f = fault_stays J I L n alike_back (BadChain q) tt f
  fault_was (OutsideVolume q b) f = fault_stays J I L n alike_back (OutsideVolume q b) tt f
  fault_was (BadDirectory q) f = fault_stays J I L n alike_back (BadDirectory q) tt f
  fault_was (DuplicateName q) f = fault_stays J I L n alike_back (DuplicateName q) tt f
  fault_was NoHome f = absurd f
  fault_was NoMemory f = absurd f

  -- and each that is not a block which is held twice is there still
  fault_is : (fault : MountFault) → IsNotShared fault → IsTrueOf I L fault → IsTrueOf J L fault
  fault_is BadIndex of f = absurd (can.index f)
  fault_is (DoublyUsed a c b) of f = absurd of
  fault_is (MarkedFree q b) of f = absurd (can.used q b f)
  fault_is BadStorageMap of f = fault_stays I J L n alike BadStorageMap tt f
  fault_is BadMaster of f = fault_stays I J L n alike BadMaster tt f
  fault_is (UnsupportedMap q) of f = fault_stays I J L n alike (UnsupportedMap q) tt f
  fault_is (BadChain q) of f = fault_stays I J L n alike (BadChain q) tt f
  fault_is (OutsideVolume q b) of f = fault_stays I J L n alike (OutsideVolume q b) tt f
  fault_is (BadDirectory q) of f = fault_stays I J L n alike (BadDirectory q) tt f
  fault_is (DuplicateName q) of f = fault_stays I J L n alike (DuplicateName q) tt f
  fault_is NoHome of f = absurd f
  fault_is NoMemory of f = absurd f

  -- a block of the file that is not in the run stays
  holds_outside : (v b : ℕ) → ¬ IsBetween start (start + count) v → Holds I L n v b → Holds J L n v b
  holds_outside v b outside h =
      let is : h.blocks ≡ can.blocks = moving.own_was I J L n at to can m low free h.blocks h.file in
      let first = h.first in
      let e : slice_get can.blocks (v - 1) ≡ Some b = ap (λ l. slice_get l (v - 1)) (sym is) ∙ h.named in
      record { blocks = now; file = moving.own_has I J L n at to can m low free; first = h.first; named = moving.place_stays I J L n at to can m low free (v - 1) b (by first) e }
    where
      by : 1 ≤ v → (v - 1 < start) ⊎ (start + count ≤ v - 1)
      by first = elim (cases_lt (v - 1) start) [
        | inl less ↦ inl less
        | inr more ↦ elim (cases_lt (v - 1) (start + count)) [
          | inl within ↦ absurd (outside (omega (arith, more, first), omega (arith, within, first)))
          | inr past ↦ inr past
        ]
      ]

  unheld_was : (b : ℕ) → IsHeldByNone J L b → IsHeldByNone I L b ⊎ ((v : ℕ) × IsBetween start (start + count) v × Holds I L n v b)
  unheld_was b h = elim (moving.own_or_not I J L n at to can m low free b) [
    | inl (v, between, held) ↦ inr (v, between, held)
    | inr none ↦ inl (record {
      marked = record {
        inside = subst (λ k. b < k) m.long h.marked.inside;
        covered = h.marked.covered;
        used = sym (marked.bit_was I J L new m.long m.bits b h.marked.covered (λ c. moving.new_is_held I J L n at to can m low free b c h.none)) ∙ h.marked.used;
      };
      other = h.other;
      place = h.place;
      none = λ q v held. elim (cases_eq q n) [
        | inl same ↦ h.none n v (holds_outside v b (λ between. none (v, between, subst (λ z. Holds I L z v b) same held)) (subst (λ z. Holds I L z v b) same held))
        | inr other ↦ h.none q v (moving.holds_stays I J L n at to can m low free q v b other held)
      ];
    })
  ]

  unheld_stays : (b : ℕ) → IsHeldByNone I L b → IsHeldByNone J L b
  unheld_stays b h = record {
    marked = record {
      inside = subst (λ k. b < k) (sym m.long) h.marked.inside;
      covered = h.marked.covered;
      used = marked.used_stays I J L new m.long m.bits b h.marked.covered h.marked.used;
    };
    other = h.other;
    place = h.place;
    none = λ q v held. elim (held_was q v b held) [
      | inl old ↦ h.none q v old
      | inr (same, (k, small, there, is)) ↦ absurd (let f = marked.bit_of_free I L b (free_at k b small is) in let clash : false ≡ true = sym h.marked.used ∙ f in cc)
    ];
  }

  pub moves : Moves I L n start (start + count) J
  moves = record {
    long = m.long;
    layout = moving.layout_stays I J L n at to can m low free;
    homes = λ lbn. (moving.home_stays I J L n at to can m low free lbn, home_was lbn);
    in_use = moving.bits_kept I J L n at to can m low free;
    headers = moving.header_stays I J L n at to can m low free;
    header = kept;
    files = λ q. (moving.file_stays I J L n at to can m low free q, moving.file_was I J L n at to can m low free q);
    chains = λ q ms bs other. (moving.chain_stays I J L n at to can m low free q ms bs other, moving.chain_was I J L n at to can m low free q ms bs other);
    has = λ q bs other. (moving.has_stays I J L n at to can m low free q bs other, moving.has_was I J L n at to can m low free q bs other);
    contents = λ q bs other one two h. moving.contents_stay I J L n at to can m low free q bs one two h;
    own = alike.own_has;
    held = λ v b h. elim (held_was n v b h) [
      | inl old ↦ inl old
      | inr (same, (k, small, there, is)) ↦ inr ((omega (arith, there), omega (arith, there, small)), free_at k b small is)
    ];
    stays = holds_outside;
    free = λ b f. (free_was b f).0;
    unheld = unheld_was;
    still_unheld = unheld_stays;
    elsewhere = λ b bitmap header used. m.elsewhere b bitmap header (λ c. used (moving.new_free I J L n at to can m low free b c));
    faults = fault_was;
    still = fault_is;
    findings = λ finding of. (finding_stays I J L n alike alike_back finding of, finding_stays J I L n alike_back alike finding of);
  }

  -- the file holds each block of the new run
  pub new_held : (k : ℕ) → k < count → Holds J L n (start + k + 1) (to + k)
  new_held k small = moving.new_at_place I J L n at to can m low free k small
