-- Files that are noted of blocks.
use Rattle.std.proofs.Common.{◌≡◌, ◌≢◌, ℕ, ◌+◌, ◌<◌, ◌≤◌, List, [], ◌++◌, length, map, take, get_or, Some, inl, inr, sym, ap, ◌∙◌, subst, arith}
use Rattle.std.specs.Prelude.{slice_get, slice_set, slice_index, Vec}
use Rattle.std.specs.declared.alloc.Global.{Global}
use Rattle.std.specs.List.{Contains}
use Rattle.std.proofs.lemmas.Bool.{cases_lt, cases_eq}
use Rattle.std.proofs.lemmas.List.{length-append, length-map, get_or-map, get_or-set_same, get_or-set_other, map-set}
use Rattle.std.proofs.lemmas.Option.{slice_get-get_or}
use Rattle.std.proofs.Math.Seq.{take-append_seam}
use Rattle.ods_space.specs.Layout.{VolumeLayout}
use Rattle.ods_space.specs.Files.{HasBlocks}
use Rattle.ods_mount.proofs.Each.{held_at}
use Rattle.ods_check.specs.Findings.{HasBlock}
use Rattle.ods_check.specs.Holders.{noted, AreNoted, IsStamped, IsBefore}
use Rattle.ods_check.specs.Lists.{Adds, IsFull}
use Rattle.ods_check.specs.declared.before.Before.{Before}
use Rattle.ods_check.proofs.Adding.{adds_most}
use Rattle.ods_check.proofs.Noting.{files_more, set_same}

abbrev Lists : Type 0
Lists = List (Vec ℕ Global)

abbrev items_of : Vec ℕ Global → List ℕ
items_of list = list.items

noted_same : (lists : Lists) (k : ℕ) (list : Vec ℕ Global) → k < length lists → noted (slice_set lists k list) k ≡ list.items
noted_same lists k list low =
    ap (λ ls. get_or ls k []) (map-set items_of lists k list) ∙ get_or-set_same (map items_of lists) k list.items [] (let size = length-map lists items_of in omega arith)

noted_other : (lists : Lists) (k j : ℕ) (list : Vec ℕ Global) → j ≢ k → noted (slice_set lists k list) j ≡ noted lists j
noted_other lists k j list apart =
    ap (λ ls. get_or ls j []) (map-set items_of lists k list) ∙ get_or-set_other (map items_of lists) k j list.items [] apart

-- one list has more
module _ (lists : Lists) (k : ℕ) (d new : Vec ℕ Global) (low : k < length lists) (grows : (m : ℕ) → Contains (get_or lists k d).items m → Contains new.items m) where
  noted_old : noted lists k ≡ (get_or lists k d).items
  noted_old = get_or-map items_of lists k d [] low

  pub noted_still : (b m : ℕ) → Contains (noted lists b) m → Contains (noted (slice_set lists k new) b) m
  noted_still b m there = elim (cases_eq b k) [
    | inl e ↦
        let P : ℕ → Type 0 = λ j. Contains (noted lists j) m in
        let Q : ℕ → Type 0 = λ j. Contains (noted (slice_set lists k new) j) m in
        let here : Contains (noted lists k) m = subst P e there in
        subst Q (sym e) (subst (λ l. Contains l m) (sym (noted_same lists k new low)) (grows m (subst (λ l. Contains l m) noted_old here)))
    | inr apart ↦ subst (λ l. Contains l m) (sym (noted_other lists k b new apart)) there
  ]

  pub noted_more : (xs : List ℕ) (i n : ℕ) → k ≡ slice_index xs i → i < length xs → Contains new.items n → ((j b : ℕ) → j < i → slice_get xs j ≡ Some b → Contains (noted lists b) n)
      → (j b : ℕ) → j < i + 1 → slice_get xs j ≡ Some b → Contains (noted (slice_set lists k new) b) n
  noted_more xs i n at within added before j b below there = elim (cases_lt j i) [
    | inl less ↦ noted_still b n (before j b less there)
    | inr more ↦
        let e : j ≡ i = omega arith in
        let same : Some b ≡ Some k = sym there ∙ ap (slice_get xs) e ∙ slice_get-get_or xs i 0 within ∙ ap Some (sym at) in
        let is_k : b ≡ k = cc in
        let Q : ℕ → Type 0 = λ j. Contains (noted (slice_set lists k new) j) n in
        subst Q (sym is_k) (subst (λ l. Contains l n) (sym (noted_same lists k new low)) added)
  ]

-- what is not above a number is not above a greater one
pub stamped_more : (I : List (List ℕ)) (stamps : List ℕ) (a b : ℕ) → IsStamped I stamps a → a ≤ b → IsStamped I stamps b
stamped_more I stamps a b s low = record { size = s.size; low = λ i. let below = s.low i in omega arith }

-- what was lent as a slice comes back as it is
pub items_back : {X : Type 0} (new rest : List X) (n : ℕ) → n ≡ length new → take n (new ++ rest) ≡ new
items_back new rest n size = ap (λ k. take k (new ++ rest)) size ∙ take-append_seam new rest

pub stamps_back : (I : List (List ℕ)) (new rest : List ℕ) (n most : ℕ) → IsStamped I new most → n ≡ length new → IsStamped I (take n (new ++ rest)) most
stamps_back I new rest n most s size = subst (λ stamps. IsStamped I stamps most) (sym (items_back new rest n size)) s

-- what is noted with one file more
module _ (I : List (List ℕ)) (L : VolumeLayout) (n : ℕ) where
  pub noted_next : (xs : List ℕ) (old new : Lists) → HasBlocks I L n xs → AreNoted I L n old → ((j b : ℕ) → slice_get xs j ≡ Some b → Contains (noted new b) n) → ((b m : ℕ) → Contains (noted old b) m → Contains (noted new b) m)
      → AreNoted I L (n + 1) new
  noted_next xs old new own are added kept m b low has = elim (cases_lt m n) [
    | inl less ↦ kept b m (are m b less has)
    | inr more ↦
        let e : m ≡ n = omega arith in
        let P : ℕ → Type 0 = λ k. HasBlock I L k b in
        let here : HasBlock I L n b = subst P e has in
        let at = held_at I L n xs here.0 b own here.1 in
        subst (λ k. Contains (noted new b) k) (sym e) (added at.0 b at.2)
  ]

  pub before_same : (Full : Type 0) (before : Before) → ((b : ℕ) → ¬ HasBlock I L n b) → IsBefore I L Full n before → IsBefore I L Full (n + 1) before
  before_same Full before none h = record {
    held = files_more (HasBlock I L) n before.held before.held h.held (set_same (HasBlock I L n) before.held none);
    room = h.room;
    noted = λ some m b low has. elim (cases_lt m n) [
      | inl less ↦ h.noted some m b less has
      | inr more ↦
          let e : m ≡ n = omega arith in
          let P : ℕ → Type 0 = λ k. HasBlock I L k b in
          absurd (none b (subst P e has))
    ];
    lists = h.lists;
    stamps = stamped_more I before.stamps.items _ _ h.stamps (omega arith);
  }

-- where lines are added to a list that is full, it is full
pub still_full : {X : Type 0} (P : X → Type 0) (old new : List X × ℕ) → Adds P old new → IsFull old → IsFull new
still_full P old new a full =
    let most : new.1 ≡ old.1 = adds_most P old new a in
    let size : length new.0 ≡ length old.0 + length a.more = ap (λ l. length l.0) a.is ∙ length-append old.0 a.more in
    omega arith
