-- What lines count, and one line more.
use Rattle.std.proofs.Common.{◌≡◌, ◌⊎◌, inl, inr, ℕ, ◌+◌, ◌-◌, ◌^◌, ◌<◌, refl, sym, ap, ◌∙◌, subst, Bool, true, false, cond, List, [], ◌∷◌, ◌++◌, length, set, get_or, take, append_assoc, append-nil, Option, Some, None, slice_get, arith}
use Rattle.std.specs.Prelude.{MatchBool, min, nat_eq}
use Rattle.std.specs.List.{Contains, flat_map, range_with_len, sum_by}
use Rattle.std.specs.List.Sorted.{IsSortedBy}
use Rattle.std.specs.Cmp.{IsStrictWeakOrder}
use Rattle.std.specs.Ordering.{is_lt, nat_cmp}
use Rattle.std.proofs.lemmas.Cmp.{nat_cmp_total}
use Rattle.std.proofs.lemmas.Bool.{cases_eq, eq-eqb, eqb-true}
use Rattle.std.proofs.lemmas.Grind.{flat_map-append, get_or-set_at}
use Rattle.std.proofs.lemmas.List.{get_or-set_other, map-append}
use Rattle.std.proofs.lemmas.List.Elements.{Contains-append_left, Contains-push, Contains-push_cases}
use Rattle.std.proofs.lemmas.List.Sorted.{IsStrictWeakOrder-flip, ranks_by, sorted_far}
use Rattle.std.proofs.lemmas.List.Sums.{sum_by-append}
use Rattle.std.proofs.lemmas.Map.Keys.{ge_from_not_lt}
use Rattle.std.proofs.lemmas.Option.{slice_get_within, get_or_from_slice_get}
use Rattle.ods_alloc.proofs.Scans.{range-append}
use Rattle.ods_base.specs.declared.file_id.FileId.{FileId}
use Rattle.ods_space.specs.Layout.{VolumeLayout}
use Rattle.ods_walk.specs.declared.tables.Line.{Line}
use Rattle.ods_shell.proofs.Flags.{flags_same, flags_set}
use Rattle.ods_shell.proofs.WaysLists.{front_more}
use Rattle.ods_shell.specs.Facts.{AreFacts}
use Rattle.ods_shell.specs.Named.{IsKnown, id_of}
use Rattle.ods_shell.specs.There.{AreFlags, ids_in}
use Rattle.ods_shell.specs.Usage.{AreFalling, AreUses, IsCounted, IsUse, blocks_at, blocks_for}
use Rattle.ods_shell.specs.declared.facts.Facts.{Facts}
use Rattle.ods_shell.specs.declared.usage.Use.{Use}

-- ---- sums and texts, one more

more_taken : {X : Type 0} (xs : List X) (n : ℕ) (x : X) → slice_get xs n ≡ Some x → take (n + 1) xs ≡ take n xs ++ x ∷ []
more_taken xs n x at = front_more xs n x (slice_get_within xs n x at) (sym (get_or_from_slice_get xs n x x at))

-- the blocks so far of the directory at a place, and those of one more file
one_only : (m : ℕ) → 0 + m ≡ m
one_only m = omega arith

no_more : (m : ℕ) → m + 0 ≡ m
no_more m = omega arith

sum_next : (uses : List Use) (n : ℕ) (used : Use) (place : ℕ) → slice_get uses n ≡ Some used → sum_by (blocks_for place) (take (n + 1) uses) ≡ sum_by (blocks_for place) (take n uses) + blocks_for place used
sum_next uses n used place at =
    let one : sum_by (blocks_for place) (used ∷ []) ≡ blocks_for place used = one_only (blocks_for place used) in
    let both : sum_by (blocks_for place) (take n uses ++ used ∷ []) ≡ sum_by (blocks_for place) (take n uses) + sum_by (blocks_for place) (used ∷ []) = sum_by-append (blocks_for place) (take n uses) (used ∷ []) in
    ap (sum_by (blocks_for place)) (more_taken uses n used at) ∙ both ∙ ap (λ m. sum_by (blocks_for place) (take n uses) + m) one

not_true : (b : Bool) → (b ≡ true → ⊥) → b ≡ false
not_true true none = absurd (none refl)
not_true false none = refl

pub blocks_next : (uses : List Use) (n : ℕ) (used : Use) (place : ℕ) (old new : List ℕ) → slice_get uses n ≡ Some used → place < length old
    → new ≡ set old used.line.directory (min (get_or old used.line.directory 0 + used.blocks) (2 ^ 64 - 1)) → get_or old place 0 ≡ blocks_at (take n uses) place → get_or new place 0 ≡ blocks_at (take (n + 1) uses) place
blocks_next uses n used place old new at within is was = by (cases_eq place used.line.directory)
  where
    before : ℕ
    before = sum_by (blocks_for place) (take n uses)

    here : (x m : ℕ) → x ≡ min before (2 ^ 64 - 1) → m ≡ before + used.blocks → min (x + used.blocks) (2 ^ 64 - 1) ≡ min m (2 ^ 64 - 1)
    here x m a b = omega arith

    by : (place ≡ used.line.directory) ⊎ (place ≡ used.line.directory → ⊥) → get_or new place 0 ≡ blocks_at (take (n + 1) uses) place
    by (inl one) =
        let own : blocks_for place used ≡ used.blocks = ap (λ b. cond b used.blocks 0) (eq-eqb used.line.directory place (sym one)) in
        ap (λ l. get_or l place 0) is ∙ get_or-set_at old used.line.directory place (min (get_or old used.line.directory 0 + used.blocks) (2 ^ 64 - 1)) 0 one (subst (λ k. k < length old) one within)
        ∙ here (get_or old used.line.directory 0) (sum_by (blocks_for place) (take (n + 1) uses)) (ap (λ k. get_or old k 0) (sym one) ∙ was) (sum_next uses n used place at ∙ ap (λ m. before + m) own)
    by (inr other) =
        let none : blocks_for place used ≡ 0 = ap (λ b. cond b used.blocks 0) (not_true (nat_eq used.line.directory place) (λ same. other (sym (eqb-true used.line.directory place same)))) in
        ap (λ l. get_or l place 0) is ∙ get_or-set_other old used.line.directory place (min (get_or old used.line.directory 0 + used.blocks) (2 ^ 64 - 1)) 0 other
        ∙ was ∙ ap (λ m. min m (2 ^ 64 - 1)) (sym (sum_next uses n used place at ∙ ap (λ m. before + m) none ∙ no_more before))

-- the texts of the first numbers, and one more
pub flat_next : (f : ℕ → List ℕ) (k : ℕ) (old new : List ℕ) → new ≡ old ++ f k → old ≡ flat_map f (range_with_len 0 k) → new ≡ flat_map f (range_with_len 0 (k + 1))
flat_next f k old new is was =
    let here : 0 + k ≡ k = omega arith in
    let longer : range_with_len 0 (k + 1) ≡ range_with_len 0 k ++ k ∷ [] = range-append 0 k 1 ∙ ap (λ n. range_with_len 0 k ++ n ∷ []) here in
    is ∙ ap (λ t. t ++ f k) was ∙ ap (λ t. flat_map f (range_with_len 0 k) ++ t) (sym (append-nil (f k))) ∙ sym (flat_map-append f (range_with_len 0 k) (k ∷ [])) ∙ ap (flat_map f) (sym longer)

-- ---- the order of the largest

pub falls : IsStrictWeakOrder (λ (x y : Use). is_lt (nat_cmp y.blocks x.blocks))
falls = IsStrictWeakOrder-flip (λ (x y : Use). is_lt (nat_cmp x.blocks y.blocks)) (ranks_by nat_cmp_total (λ (u : Use). u.blocks))

pub falling_by : (uses : List Use) → IsSortedBy (λ (x y : Use). is_lt (nat_cmp y.blocks x.blocks)) uses → AreFalling uses
falling_by uses sorted i j d less within =
    ge_from_not_lt (get_or uses i d).blocks (get_or uses j d).blocks (sorted_far (λ (x y : Use). is_lt (nat_cmp y.blocks x.blocks)) falls uses sorted i j d (omega (arith, less)) within)

module _ (I : List (List ℕ)) (L : VolumeLayout) where
  uses_more : (before lines : List Line) (uses : List Use) (line : Line) (known : Option Facts) (counted : List Use) → IsKnown I L line.entry.file known → IsUse (before ++ lines) line known counted → AreUses I L before lines uses
      → AreUses I L before (lines ++ line ∷ []) (uses ++ counted)
  uses_more before [] uses line known counted is counts are =
      (known, counted, [], is, subst (λ b. IsUse b line known counted) (append-nil before) counts, ap (λ u. u ++ counted) are ∙ sym (append-nil counted), refl)
  uses_more before (first ∷ lines) uses line known counted is counts are = (
    are.0,
    are.1,
    are.2 ++ counted,
    are.3,
    are.4,
    ap (λ u. u ++ counted) are.5 ∙ append_assoc are.1 are.2 counted,
    uses_more (before ++ first ∷ []) lines are.2 line known counted is (subst (λ b. IsUse b line known counted) (sym (append_assoc before (first ∷ []) lines)) counts) are.6,
  )

  -- what is known of a file is that of its ID
  own_id : (file : FileId) (facts : Facts) → AreFacts I L file.number facts → facts.file ≡ file → file ≡ id_of I L file.number
  own_id file facts are same = sym same ∙ ap (λ (f : Facts). f.file) are.are

  -- the flags with an ID more that is none of a known file
  unknown_more : (ids : List FileId) (file : FileId) (flags : List Bool) → IsKnown I L file None → AreFlags (IsCounted I L ids) flags → AreFlags (IsCounted I L (ids ++ file ∷ [])) flags
  unknown_more ids file flags none are = flags_same (IsCounted I L ids) (IsCounted I L (ids ++ file ∷ [])) flags
      (λ n. record {
        on = λ is. (is.0, is.1, Contains-append_left ids (file ∷ []) (id_of I L n) is.2);
        back = λ is. (
          is.0,
          is.1,
          elim (Contains-push_cases ids file (id_of I L n) is.2) [
            | inl left ↦ left
            | inr same ↦ absurd (none is.0 (subst (λ k. AreFacts I L k is.0) (sym (ap (λ (f : FileId). f.number) same)) is.1) (ap (λ (f : Facts). f.file) is.1.are ∙ sym same))
          ],
        );
      }) are

  -- and with one of a known file
  known_more : (ids : List FileId) (file : FileId) (facts : Facts) (old new : List Bool) → AreFacts I L file.number facts → facts.file ≡ file → new ≡ set old file.number true → AreFlags (IsCounted I L ids) old
      → AreFlags (IsCounted I L (ids ++ file ∷ [])) new
  known_more ids file facts old new known same is are = flags_set (IsCounted I L ids) (IsCounted I L (ids ++ file ∷ [])) old new file.number is
      (facts, known, subst (Contains (ids ++ file ∷ [])) (own_id file facts known same) (Contains-push ids file))
      (λ n other. record {
        on = λ is. (is.0, is.1, Contains-append_left ids (file ∷ []) (id_of I L n) is.2);
        back = λ is. (is.0, is.1, elim (Contains-push_cases ids file (id_of I L n) is.2) [ inl left ↦ left | inr here ↦ absurd (other (sym (ap (λ (f : FileId). f.number) here))) ]);
      }) are

  at_true : (b : Bool) (P : Type 0) → b ≡ true → MatchBool b P (¬ P) → P
  at_true true P e is = is
  at_true false P e is = absurd (cc)

  at_false : (b : Bool) (P : Type 0) → b ≡ false → MatchBool b P (¬ P) → ¬ P
  at_false true P e is = absurd (cc)
  at_false false P e is = is

  -- what a line behind these adds to what is counted, and what is flagged then
  abbrev pub Adds : List Line → Line → List Bool → List Use → List Bool → List Use → Type 0
  Adds before line flags all new more =
      (known : Option Facts) × ((counted : List Use) × IsKnown I L line.entry.file known × IsUse before line known counted × (more ≡ all ++ counted) × AreFlags (IsCounted I L (ids_in (before ++ line ∷ []))) new)

  module _ (before : List Line) (line : Line) (flags : List Bool) (all : List Use) (are : AreFlags (IsCounted I L (ids_in before)) flags) where
    with_line : (new : List Bool) → AreFlags (IsCounted I L (ids_in before ++ line.entry.file ∷ [])) new → AreFlags (IsCounted I L (ids_in (before ++ line ∷ []))) new
    with_line new = subst (λ ids. AreFlags (IsCounted I L ids) new) (sym (map-append (λ (l : Line). l.entry.file) before (line ∷ [])))

    pub adds_none : IsKnown I L line.entry.file None → Adds before line flags all flags all
    adds_none none = (None, ([], none, refl, sym (append-nil all), with_line flags (unknown_more (ids_in before) line.entry.file flags none are)))

    module _ (facts : Facts) (known : AreFacts I L line.entry.file.number facts × (facts.file ≡ line.entry.file)) (small : line.entry.file.number < 65536) (new : List Bool) (noted : new ≡ set flags line.entry.file.number true) where
      flagged : AreFlags (IsCounted I L (ids_in (before ++ line ∷ []))) new
      flagged = with_line new (known_more (ids_in before) line.entry.file facts flags new known.0 known.1 noted are)

      pub adds_again : get_or flags line.entry.file.number false ≡ true → Adds before line flags all new all
      adds_again seen =
          let was = at_true (get_or flags line.entry.file.number false) (IsCounted I L (ids_in before) line.entry.file.number) seen (are.each line.entry.file.number small) in
          (Some facts, ([], known, inl (subst (Contains (ids_in before)) (sym (own_id line.entry.file facts known.0 known.1)) was.2, refl), sym (append-nil all), flagged))

      pub adds_first : (more : List Use) → get_or flags line.entry.file.number false ≡ false → more ≡ all ++ record { line = line; blocks = facts.blocks } ∷ [] → Adds before line flags all new more
      adds_first more unseen pushed =
          let was = at_false (get_or flags line.entry.file.number false) (IsCounted I L (ids_in before) line.entry.file.number) unseen (are.each line.entry.file.number small) in (
            Some facts,
            (
              record { line = line; blocks = facts.blocks } ∷ [],
              known,
              inr ((λ has. was (facts, known.0, subst (Contains (ids_in before)) (own_id line.entry.file facts known.0 known.1) has)), refl),
              pushed,
              flagged,
            ),
          )

  -- a line more
  pub uses_next : (lines : List Line) (n : ℕ) (line : Line) (flags new : List Bool) (all more : List Use) → slice_get lines n ≡ Some line
      → (AreFlags (IsCounted I L (ids_in (take n lines))) flags → Adds (take n lines) line flags all new more)
      → AreUses I L [] (take n lines) all × AreFlags (IsCounted I L (ids_in (take n lines))) flags
      → AreUses I L [] (take (n + 1) lines) more × AreFlags (IsCounted I L (ids_in (take (n + 1) lines))) new
  uses_next lines n line flags new all more at adds are =
      let one = adds are.1 in
      let took = sym (more_taken lines n line at) in (
        subst (λ ls. AreUses I L [] ls more) took (subst (AreUses I L [] (take n lines ++ line ∷ [])) (sym one.1.3) (uses_more [] (take n lines) all line one.0 one.1.0 one.1.1 one.1.2 are.0)),
        subst (λ ls. AreFlags (IsCounted I L (ids_in ls)) new) took one.1.4,
      )
