-- A file keeps its first blocks and gives the others back, with the headers behind the one that has the last of them: each other file is as it was, and the volume stays sound.
use Rattle.std.proofs.Common.{◌≡◌, ◌≢◌, ℕ, ◌+◌, ◌-◌, ◌*◌, ◌<◌, ◌≤◌, refl, ap, sym, ◌∙◌, subst, false, IsTrue, List, [], ◌∷◌, ◌++◌, length, take, drop, get_or, Some, arith, inl, inr}
use Rattle.std.specs.Prelude.{◌⊎◌}
use Rattle.std.specs.List.{All, Contains, flat_map}
use Rattle.std.proofs.lemmas.Bool.{cases_eq}
use Rattle.std.proofs.lemmas.List.{same_from_push, append-nil, append_assoc, length-append, take-append-drop, take-append-le}
use Rattle.std.proofs.lemmas.List.Elements.{All-contains, All-take, Contains-append_cases, Contains-append_left, Contains-append_right, Contains-get_or}
use Rattle.std.proofs.lemmas.Grind.{flat_map-append}
use Rattle.ods_header.proofs.Cutting.{first_blocks}
use Rattle.ods_base.specs.Block.{byte}
use Rattle.ods_header.specs.Cutting.{IsCutTo, first_runs}
use Rattle.ods_header.specs.Header.{IsValidHeader, blocks_of, is_directory_header, map_word, runs_of, segment_of, sequence_of}
use Rattle.ods_header.specs.Pointing.{KeepsFields}
use Rattle.ods_header.specs.Writing.{deleted}
use Rattle.ods_space.specs.Layout.{VolumeLayout, header_at, is_in_use, last_number}
use Rattle.ods_space.specs.Chain.{IsSegment, IsChain, Follows}
use Rattle.ods_space.specs.Files.{IsFile, IsWhole, HasBlocks}
use Rattle.ods_space.proofs.Chains.{head_of}
use Rattle.ods_alloc.specs.Extend.{IsBookkeeping, chain_runs}
use Rattle.ods_mount.specs.Faults.{contents_of}
use Rattle.ods_mount.specs.Sound.{IsSoundBy}
use Rattle.ods_state.specs.Change.{disk}
use Rattle.ods_state.specs.Cutting.{CutsOff, mapped_by}
use Rattle.ods_state.specs.Moves.{AreCutOff}
use Rattle.ods_state.proofs.Chains.{first_in, later_in}
use Rattle.ods_state.proofs.CutChain.{chain_maps, chain_once, cut_follows, mapped_same, runs_cut, runs_same, take_within}
use Rattle.ods_state.proofs.Rechained as re
use Rattle.ods_state.proofs.Shrunk as shrunk
use Rattle.ods_state.proofs.Links.{LinkedAt, linked_same}
use Rattle.ods_state.proofs.OnlyBookkeeping.{first_or_later, only_headers}
use Rattle.ods_state.proofs.Shown.{IsAlike}
use Rattle.ods_state.proofs.Taken.{contains_or_not}

module _ (I J : List (List ℕ)) (L : VolumeLayout) (S : IsSoundBy I L) (n : ℕ) (high : 5 < n) (others blocks : List ℕ)
    (file : IsFile I L n) (whole : IsWhole I L n others blocks) (count : ℕ) (C : CutsOff I L n others blocks count J) where
  -- the headers of the file
  abbrev H : ℕ → Type 0
  H m = Contains (n ∷ others) m

  abbrev front : List ℕ
  front = C.front

  abbrev last : ℕ
  last = C.last

  abbrev gone : List ℕ
  gone = C.gone

  chain : Follows I L.home (Some L.index) [] 0 n others blocks
  chain = shrunk.chain S high file whole

  -- the parts of its headers
  pub tail_in : (m : ℕ) → Contains (last ∷ gone) m → H m
  tail_in m c = subst (λ l. Contains l m) (sym C.parts) (Contains-append_right front (last ∷ gone) m c)

  in_parts : (m : ℕ) → H m → Contains front m ⊎ ((last ≡ m) ⊎ Contains gone m)
  in_parts m c = elim (Contains-append_cases front (last ∷ gone) m (subst (λ l. Contains l m) C.parts c)) [
    | inl before ↦ inl before
    | inr behind ↦ inr (first_or_later last gone m behind)
  ]

  front_apart : (m : ℕ) → Contains front m → ¬ Contains (last ∷ gone) m
  front_apart m before behind = chain_once I L [] 0 n others blocks chain front (last ∷ gone) m C.parts before behind

  last_apart : ¬ Contains gone last
  last_apart behind = chain_once I L [] 0 n others blocks chain (front ++ last ∷ []) gone last (C.parts ∙ sym (append_assoc front (last ∷ []) gone)) (Contains-append_right front (last ∷ []) last (first_in last [])) behind

  header_far : (m : ℕ) → ¬ Contains (last ∷ gone) m → header_at J L m ≡ header_at I L m
  header_far = only_headers I L S J (last ∷ gone) C.only

  deleted_in : (m : ℕ) → Contains gone m → header_at J L m ≡ deleted (header_at I L m)
  deleted_in m among = All-contains (λ k. header_at J L k ≡ deleted (header_at I L k)) gone m C.headers among

  last_valid : IsValidHeader (header_at I L last) last
  last_valid = (shrunk.segment_of_them S high file whole last (tail_in last (first_in last gone))).1.valid

  last_map : map_word (header_at J L last) ≡ map_word (header_at I L last)
  last_map = let p = last_valid.header.layout.ident in let q = last_valid.header.layout.map in C.fields 1 (inl (omega arith))

  last_segment : segment_of (header_at J L last) ≡ segment_of (header_at I L last)
  last_segment = ap (λ w. byte (header_at J L last) (2 * w)) last_map ∙ C.fields (2 * map_word (header_at I L last)) (inl (omega arith))

  pub sequence_kept : (m : ℕ) → sequence_of (header_at J L m) ≡ sequence_of (header_at I L m)
  sequence_kept m = elim (contains_or_not gone m) [
    | inl c ↦ ap sequence_of (deleted_in m c) ∙ shrunk.deleted_sequence (header_at I L m)
    | inr none ↦ elim (cases_eq last m) [
      | inl same ↦ subst (λ k. sequence_of (header_at J L k) ≡ sequence_of (header_at I L k)) same
          (let p = last_valid.header.layout.ident in let q = last_valid.header.layout.map in λ i. C.fields 4 (inl (omega arith)) i + 256 * C.fields 5 (inl (omega arith)) i)
      | inr other ↦ ap sequence_of (header_far m (λ c. elim (first_or_later last gone m c) [ inl same ↦ other same | inr later ↦ none later ]))
    ]
  ]

  -- the chain that is left
  linked_front : (m : ℕ) → Contains front m → LinkedAt I J L.home L.index m
  linked_front m c = linked_same I J L.home L.index m (header_far m (front_apart m c)) (shrunk.used_far C.bits m (λ g. front_apart m c (later_in last gone m g)))

  ends_last : (k : ℕ) → IsSegment I L.home L.index (last_number L) last k → IsSegment J L.home L.index (last_number L) last k
  ends_last k s = record {
    first = s.first;
    last = s.last;
    in_use = shrunk.used_far C.bits last last_apart ∙ s.in_use;
    valid = C.valid last s.valid;
    segment = last_segment ∙ s.segment;
  }

  now : (ks : List ℕ) × (n ∷ ks ≡ front ++ last ∷ []) × Follows J L.home (Some L.index) [] 0 n ks ([] ++ mapped_by J L (n ∷ ks))
  now = cut_follows I J L last gone sequence_kept ends_last C.cut.number front [] 0 n others blocks C.parts linked_front chain

  -- its blocks are the first ones
  blocks_are : blocks ≡ mapped_by I L front ++ (blocks_of (header_at I L last) ++ mapped_by I L gone)
  blocks_are = chain_maps I L [] 0 n others blocks chain ∙ ap (mapped_by I L) C.parts ∙ flat_map-append (λ m. blocks_of (header_at I L m)) front (last ∷ gone)

  one_more : (K : List (List ℕ)) → mapped_by K L (front ++ last ∷ []) ≡ mapped_by K L front ++ blocks_of (header_at K L last)
  one_more K = flat_map-append (λ m. blocks_of (header_at K L m)) front (last ∷ []) ∙ ap (λ l. mapped_by K L front ++ l) (append-nil (blocks_of (header_at K L last)))

  last_maps : blocks_of (header_at J L last) ≡ take (count - length (mapped_by I L front)) (blocks_of (header_at I L last))
  last_maps = ap (flat_map _) C.cut.pointers ∙ first_blocks (count - length (mapped_by I L front)) (runs_of (header_at I L last))

  blocks_now : mapped_by J L (n ∷ now.0) ≡ take count blocks
  blocks_now =
      ap (mapped_by J L) now.1 ∙ one_more J
      ∙ (λ i. mapped_same I J L front (λ m c. header_far m (front_apart m c)) i ++ last_maps i)
      ∙ sym (take_within (mapped_by I L front) (blocks_of (header_at I L last)) (mapped_by I L gone) count C.passed (subst (λ l. count ≤ length l) (one_more I) C.has))
      ∙ ap (take count) (sym blocks_are)

  follows_now : Follows J L.home (Some L.index) [] 0 n now.0 (take count blocks)
  follows_now = subst (Follows J L.home (Some L.index) [] 0 n now.0) blocks_now now.2

  chain_now : IsChain J L n now.0 (take count blocks)
  chain_now = subst (λ o. Follows J L.home o [] 0 n now.0 (take count blocks)) (sym (shrunk.found_by L n high)) follows_now

  whole_now : IsWhole J L n now.0 (take count blocks)
  whole_now = record { chain = chain_now; inside = subst (λ k. All (λ b. b < k) (take count blocks)) (sym C.only.size) (All-take (λ b. b < length I) count blocks whole.inside) }

  -- so the file itself has its first blocks
  pub has_first : HasBlocks J L n (take count blocks)
  has_first = record { file = head_of J L.home (Some L.index) [] 0 n now.0 (take count blocks) follows_now; others = now.0; whole = whole_now }

  kept_in : (x : ℕ) → Contains (n ∷ now.0) x → H x
  kept_in x c = subst (λ l. Contains l x) (sym (C.parts ∙ sym (append_assoc front (last ∷ []) gone))) (Contains-append_left (front ++ last ∷ []) gone x (subst (λ l. Contains l x) now.1 c))

  -- a header of it that is in use is one of those that are left
  left_in : (m : ℕ) → H m → IsTrue (is_in_use J L.home m) → Contains (n ∷ now.0) m
  left_in m among used = subst (λ l. Contains l m) (sym now.1) (elim (in_parts m among) [
    | inl before ↦ Contains-append_left front (last ∷ []) m before
    | inr (inl same) ↦ Contains-append_right front (last ∷ []) m (subst (Contains (last ∷ [])) same (first_in last []))
    | inr (inr behind) ↦ absurd (shrunk.not_gone C.bits m used behind)
  ])

  widened : (x : ℕ) → IsBookkeeping L (last ∷ gone) x → IsBookkeeping L (n ∷ others) x
  widened x (inl p) = inl p
  widened x (inr (inl p)) = inr (inl p)
  widened x (inr (inr p)) = inr (inr (p.0, tail_in p.0 p.1, p.2))

  -- so the file gives back the headers behind the cut and the blocks behind the first ones
  shrinks : shrunk.Shrinks I J L n others blocks count now.0 gone
  shrinks = record {
    goes = λ m c. tail_in m (later_in last gone m c);
    within = kept_in;
    left = λ m among used. (chain_now, left_in m among used);
    sequences = sequence_kept;
    bits = C.bits;
    only = record { size = C.only.size; others = λ x none. C.only.others x (λ p. none (widened x p)) };
  }

  pub contents_far : (m : ℕ) (bs : List ℕ) → HasBlocks I L m bs → 2 < m → contents_of J bs ≡ contents_of I bs
  contents_far m bs b past = re.contents_stay S (shrunk.rechained S high file whole shrinks) m bs past b

  -- each other file is as it was
  pub others_alike : (m : ℕ) → m ≢ n → IsAlike I J L m
  others_alike = shrunk.others_alike S high file whole shrinks

  -- where the first header, which may be the one that is cut, does not become that of a directory
  pub still_sound : is_directory_header n (header_at J L n) ≡ false → IsSoundBy J L
  still_sound plain = shrunk.still_sound S high file whole shrinks (λ f. plain)

  -- its first header stays, or it is the last one too, and is cut
  pub first_says : (P : List ℕ → Type 0) → P (header_at I L n) → ((c : List ℕ) → length c ≡ length (header_at I L n) → KeepsFields (header_at I L n) c → P c) → P (header_at J L n)
  first_says P same kept = elim (in_parts n (first_in n others)) [
    | inl before ↦ subst P (sym (header_far n (front_apart n before))) same
    | inr (inl is) ↦ kept (header_at J L n) (subst (λ k. length (header_at J L k) ≡ length (header_at I L k)) is C.cut.size) (subst (λ k. KeepsFields (header_at I L k) (header_at J L k)) is C.fields)
    | inr (inr behind) ↦ absurd (shrunk.not_gone C.bits n has_first.file.in_use behind)
  ]

  -- so the file is cut off
  few_passed : (k : ℕ) → 1 ≤ k → k < length (front ++ last ∷ []) → length (mapped_by I L (take k (front ++ last ∷ []))) < count
  few_passed k some low = elim C.fewer [
    | inl none ↦ absurd (let long = length-append front (last ∷ []) in let empty = ap length none in omega (arith, some, low, long, empty))
    | inr fewer ↦
        let long = length-append front (last ∷ []) in
        let before : take k (front ++ last ∷ []) ≡ take k front = take-append-le k front (last ∷ []) (omega (arith, low, long)) in
        let parts = ap length (ap (mapped_by I L) (sym (take-append-drop k front)) ∙ flat_map-append (λ m. blocks_of (header_at I L m)) (take k front) (drop k front)) ∙ length-append (mapped_by I L (take k front)) (mapped_by I L (drop k front)) in
        subst (λ l. length (mapped_by I L l) < count) (sym before) (omega (arith, parts, fewer))
  ]

  pointers_now : chain_runs J L (front ++ last ∷ []) ≡ first_runs count (chain_runs I L (front ++ last ∷ []))
  pointers_now =
      flat_map-append (λ m. runs_of (header_at J L m)) front (last ∷ []) ∙ ap (λ l. chain_runs J L front ++ l) (append-nil (runs_of (header_at J L last)))
      ∙ (λ i. runs_same I J L front (λ m c. header_far m (front_apart m c)) i ++ C.cut.pointers i)
      ∙ sym (runs_cut I L front (runs_of (header_at I L last)) count C.passed)
      ∙ sym (ap (first_runs count) (flat_map-append (λ m. runs_of (header_at I L m)) front (last ∷ []) ∙ ap (λ l. chain_runs I L front ++ l) (append-nil (runs_of (header_at I L last)))))

  pub are_cut_off : AreCutOff (disk I L) (disk J L) n count
  are_cut_off = record {
    layout = refl;
    kept = front ++ last ∷ [];
    gone = gone;
    blocks = blocks;
    file = (others, append_assoc front (last ∷ []) gone ∙ sym C.parts, whole);
    ends = record { some = let long = length-append front (last ∷ []) in omega (arith, long); has = C.has; first = few_passed };
    chain = (now.0, sym now.1, whole_now);
    pointers = pointers_now;
    held = λ m v x. (shrunk.held_now S high file whole shrinks m v x, λ h. shrunk.held_still S high file whole shrinks has_first.file m v x h.0 h.1);
    free = shrunk.free_now S high file whole shrinks;
    numbers = shrunk.number_now S high file whole shrinks;
    bits = C.bits;
    deletes = deleted_in;
    stays = λ before end is.
        let same = same_from_push front before last end is in
        subst (λ l. All (λ m. header_at J L m ≡ header_at I L m) l) same.0 (λ k d within. header_far (get_or front k d) (front_apart (get_or front k d) (Contains-get_or front k d within)));
    last = λ before end is.
        let same = same_from_push front before last end is in
        subst (λ e. IsCutTo (header_at I L e) (first_runs (count - length (mapped_by I L before)) (runs_of (header_at I L e))) (header_at J L e)) same.1
        (subst (λ l. IsCutTo (header_at I L last) (first_runs (count - length (mapped_by I L l)) (runs_of (header_at I L last))) (header_at J L last)) same.0 C.cut);
  }
