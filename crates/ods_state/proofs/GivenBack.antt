-- The blocks and the headers of one file are given back, all of them: each other file is as it was, the numbers are free again, and the volume stays sound.
use Rattle.std.proofs.Common.{◌≡◌, ◌≢◌, ℕ, ◌<◌, ap, ◌∙◌, refl, IsTrue, List, ◌∷◌, arith, inl, inr}
use Rattle.std.specs.List.{Contains}
use Rattle.std.proofs.lemmas.List.Elements.{All-contains}
use Rattle.ods_header.specs.Header.{sequence_of}
use Rattle.ods_header.specs.Writing.{deleted}
use Rattle.ods_space.specs.Layout.{VolumeLayout, header_at, is_in_use}
use Rattle.ods_space.specs.Files.{IsFile, IsWhole, HasBlocks, Holds}
use Rattle.ods_alloc.specs.Extend.{GivesBack}
use Rattle.ods_mount.specs.Sound.{IsSoundBy}
use Rattle.ods_state.specs.Change.{disk}
use Rattle.ods_state.specs.Moves.{AreGivenBack}
use Rattle.ods_state.proofs.Chains.{first_in}
use Rattle.ods_state.proofs.OnlyBookkeeping.{only_headers}
use Rattle.ods_state.proofs.Rechained as re
use Rattle.ods_state.proofs.Shown.{IsAlike}
use Rattle.ods_state.proofs.Shrunk as shrunk
use Rattle.ods_state.proofs.Taken.{contains_or_not}

module _ (I J : List (List ℕ)) (L : VolumeLayout) (S : IsSoundBy I L) (n : ℕ) (high : 5 < n) (others blocks : List ℕ)
    (file : IsFile I L n) (whole : IsWhole I L n others blocks) (G : GivesBack I L blocks (n ∷ others) J) where
  -- none of its headers is in use any more
  away : (m : ℕ) → Contains (n ∷ others) m → ¬ IsTrue (is_in_use J L.home m)
  away m among used = shrunk.not_gone G.bits m used among

  kept : (m : ℕ) → Contains (n ∷ others) m → header_at J L m ≡ deleted (header_at I L m)
  kept m among = All-contains (λ k. header_at J L k ≡ deleted (header_at I L k)) (n ∷ others) m G.headers among

  pub sequence_kept : (m : ℕ) → sequence_of (header_at J L m) ≡ sequence_of (header_at I L m)
  sequence_kept m = elim (contains_or_not (n ∷ others) m) [
    | inl c ↦ ap sequence_of (kept m c) ∙ shrunk.deleted_sequence (header_at I L m)
    | inr none ↦ ap sequence_of (only_headers I L S J (n ∷ others) G.only m none)
  ]

  -- of its blocks it keeps the first none
  shrinks : shrunk.Shrinks I J L n others blocks 0 others (n ∷ others)
  shrinks = record {
    goes = λ m c. c;
    within = λ m c. c;
    left = λ m c used. absurd (away m c used);
    sequences = sequence_kept;
    bits = G.bits;
    only = G.only;
  }

  -- the file is gone
  pub gone : (bs : List ℕ) → ¬ HasBlocks J L n bs
  gone bs b = away n (first_in n others) b.file.in_use

  pub still_sound : IsSoundBy J L
  still_sound = shrunk.still_sound S high file whole shrinks (λ f. absurd (away n (first_in n others) f.in_use))

  -- each other file is as it was
  pub others_alike : (m : ℕ) → m ≢ n → IsAlike I J L m
  others_alike = shrunk.others_alike S high file whole shrinks

  held_now : (m v x : ℕ) → Holds J L m v x → Holds I L m v x × (m ≢ n)
  held_now m v x h = let before = shrunk.held_now S high file whole shrinks m v x h in (before.0, elim before.1 [ inl ne ↦ ne | inr none ↦ absurd (let first = h.first in omega (arith, first, none)) ])

  -- so its blocks and its numbers are given back
  pub are_given_back : AreGivenBack (disk I L) (disk J L) n
  are_given_back = record {
    layout = refl;
    headers = n ∷ others;
    blocks = blocks;
    file = (others, refl, whole);
    held = λ m v x. (held_now m v x, λ h. re.others_hold S (shrunk.rechained S high file whole shrinks) m v x h.0 h.1);
    free = shrunk.free_now S high file whole shrinks;
    numbers = shrunk.number_now S high file whole shrinks;
    bits = G.bits;
    kept = kept;
  }
