-- What is noted of a directory stays true in a change, or falls.
use Rattle.std.proofs.Common.{◌≡◌, ◌≢◌, ℕ, ◌<◌, ◌≤◌, refl, ap, sym, ◌∙◌, subst, Bool, true, false, not, List, length, take, get_or, Option, Some, None, arith, inl, inr}
use Rattle.std.specs.Prelude.{◌⊎◌, ◌==◌, nat_eq, IfSome}
use Rattle.std.specs.Option.{option_copied}
use Rattle.std.proofs.lemmas.Bool.{cases_lt, eq-eqb}
use Rattle.std.proofs.lemmas.List.{take_all}
use Rattle.std.specs.Cmp.Lexicographic.{pointwise, pointwise_decides, bytes_decides}
use Rattle.ods_space.specs.Draft.{Changes, applied}
use Rattle.ods_space.specs.Files.{AreInside, HasBlocks}
use Rattle.ods_space.specs.Layout.{Disk, VolumeLayout, with_places}
use Rattle.ods_directory.specs.Tags.{AreTags}
use Rattle.ods_mount.specs.Faults.{contents_of}
use Rattle.ods_state.specs.declared.known_names.KnownNames.{KnownNames}
use Rattle.ods_state.specs.Noted.{AreNamesKnown, AreOfFile}
use Rattle.ods_look.proofs.NotedNames.{stable_list}
use Rattle.ods_volume.specs.declared.ends.Falls.{Falls}
use Rattle.ods_volume.specs.declared.ends.Falls.TheVariants.{Nothing, File, Growth, Everything}
use Rattle.ods_volume.specs.Struck.{AreNamesThen, AreThen, BeginsWith, StillHas, Strikes, is_left, is_spared, may_grow}

-- lists of blocks that cannot differ are the same
stable_blocks : (xs ys : List (List ℕ)) → ¬ (¬ (xs ≡ ys)) → xs ≡ ys
stable_blocks xs ys cannot = by (pointwise (pointwise nat_eq) xs ys) refl
  where
    by : (b : Bool) → pointwise (pointwise nat_eq) xs ys ≡ b → xs ≡ ys
    by true same = (pointwise_decides bytes_decides xs ys).0 same
    by false off = absurd (cannot (λ e. let clash : true ≡ false = sym ((pointwise_decides bytes_decides xs ys).1 e) ∙ off in absurd (cc)))

apart_by : (f n : ℕ) → not (f == n) ≡ true → f ≢ n
apart_by f n told e = let wrong : false ≡ true = sym (ap not (eq-eqb f n e)) ∙ told in absurd (cc)

apart_of : (f n : ℕ) → (f == n) ≡ false → f ≢ n
apart_of f n told e = let wrong : true ≡ false = sym (eq-eqb f n e) ∙ told in absurd (cc)

never : false ≡ true → ⊥
never wrong = absurd (cc)

module _ {I : List (List ℕ)} {L : VolumeLayout} {f : ℕ} {blocks : List ℕ} {tags : List (List ℕ)} (known : AreOfFile I L f blocks tags) where
  -- each block is of the image
  pub inside_known : AreInside I blocks
  inside_known k d below = by (cases_lt (get_or blocks k d) (length I))
    where
      by : (get_or blocks k d < length I) ⊎ (length I ≤ get_or blocks k d) → get_or blocks k d < length I
      by (inl low) = low
      by (inr high) = absurd (known.held (λ h. let low : get_or blocks k d < length I = h.whole.inside k d below in absurd (omega (arith, low, high))))

  module _ (J : List (List ℕ)) (M : VolumeLayout) where
    still_so : (falls : Falls) → Strikes I L J M falls → is_left falls f ≡ true → may_grow falls f ≡ false → StillHas J M f blocks
    still_so Nothing strikes left short = λ no. known.held (λ h. strikes f blocks known.index known.bitmap known.some h no)
    still_so (File n) strikes left short = λ no. known.held (λ h. (strikes f blocks known.index known.bitmap known.some h (apart_by f n left)).0 no)
    still_so (Growth n) strikes left short = λ no. known.held (λ h. ((strikes f blocks known.index known.bitmap known.some h).0 (apart_of f n short)).0 no)
    still_so Everything strikes left short = absurd (never left)

    front_so : (falls : Falls) → Strikes I L J M falls → may_grow falls f ≡ true → BeginsWith J M f blocks
    front_so Nothing strikes grows = absurd (never grows)
    front_so (File n) strikes grows = absurd (never grows)
    front_so (Growth n) strikes grows = λ held has. stable_list (take (length blocks) held) blocks (λ no. known.held (λ h. no ((strikes f blocks known.index known.bitmap known.some h).1 held has)))
    front_so Everything strikes grows = absurd (never grows)

    bytes_so : (falls : Falls) → Strikes I L J M falls → is_spared falls f ≡ true → contents_of J blocks ≡ contents_of I blocks
    bytes_so Nothing strikes spared = absurd (never spared)
    bytes_so (File n) strikes spared = stable_blocks _ _ (λ no. known.held (λ h. no (strikes f blocks known.index known.bitmap known.some h (apart_by f n spared)).1))
    bytes_so (Growth n) strikes spared = stable_blocks _ _ (λ no. known.held (λ h. no ((strikes f blocks known.index known.bitmap known.some h).0 (apart_by f n spared)).1))
    bytes_so Everything strikes spared = absurd (never spared)

    -- with the tags of what the blocks become
    pub known_then : (falls : Falls) → Strikes I L J M falls → is_left falls f ≡ true → (new : List (List ℕ)) → AreTags (contents_of J blocks) new → AreThen J M falls f blocks new
    known_then falls strikes left new tagged = record {
      index = known.index;
      bitmap = known.bitmap;
      some = known.some;
      held = still_so falls strikes left;
      front = front_so falls strikes;
      tagged = tagged;
    }

    -- and with the same tags where the bytes are spared
    pub spared_then : (falls : Falls) → Strikes I L J M falls → is_left falls f ≡ true → is_spared falls f ≡ true → AreThen J M falls f blocks tags
    spared_then falls strikes left spared = known_then falls strikes left tags (subst (λ bs. AreTags bs tags) (sym (bytes_so falls strikes spared)) known.tagged)

module _ {J : List (List ℕ)} {M : VolumeLayout} {falls : Falls} {f : ℕ} {blocks : List ℕ} {tags : List (List ℕ)} (then_so : AreThen J M falls f blocks tags) where
  -- no block came behind
  pub known_still : may_grow falls f ≡ false → AreOfFile J M f blocks tags
  known_still short = record { index = then_so.index; bitmap = then_so.bitmap; some = then_so.some; held = then_so.held short; tagged = then_so.tagged }

  pub known_again : may_grow falls f ≡ true → (held : List ℕ) → HasBlocks J M f held → length held ≡ length blocks → AreOfFile J M f blocks tags
  known_again grows held has long = record {
    index = then_so.index;
    bitmap = then_so.bitmap;
    some = then_so.some;
    held = λ no. no (subst (HasBlocks J M f) (sym (take_all (length blocks) held (omega (arith, long))) ∙ then_so.front grows held has) has);
    tagged = then_so.tagged;
  }

-- what is noted, behind a reference
pub by_reference : (I : List (List ℕ)) (L : VolumeLayout) (o : Option _) (names : Option KnownNames) → option_copied o ≡ names → IfSome names (AreNamesKnown I L) → IfSome o (λ k. AreNamesKnown I L k.now)
by_reference I L None names is known = tt
by_reference I L (Some k) names is known = subst (λ n. IfSome n (AreNamesKnown I L)) (sym is) known

-- what is left of what is noted, by the volume after its change
pub passed_on : (I K : List (List ℕ)) (L N : VolumeLayout) (d : Changes) (places : List ℕ) (falls : Falls) (names : Option KnownNames) (E : Disk) → K ≡ I → N ≡ L
    → Strikes I L (applied I d) (with_places L places) falls → ((M : VolumeLayout) → Strikes K N (applied K d) M falls → IfSome names (AreNamesThen (applied K d) M falls))
    → E ≡ record { image = applied I d; layout = with_places L places } → IfSome names (AreNamesThen E.image E.layout falls)
passed_on I K L N d places falls names E same alike strikes told is =
    subst (λ (x : Disk). IfSome names (AreNamesThen x.image x.layout falls)) (sym is)
    (subst (λ J. IfSome names (AreNamesThen (applied J d) (with_places L places) falls)) same
    (told (with_places L places) (subst (λ J. Strikes J N (applied J d) (with_places L places) falls) (sym same) (subst (λ Q. Strikes I Q (applied I d) (with_places L places) falls) (sym alike) strikes))))
