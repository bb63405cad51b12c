-- A volume that is laid out in a container, sector by sector.
use Rattle.std.proofs.Common.{◌≡◌, ℕ, zero, suc, ◌+◌, ◌-◌, ◌*◌, ◌<◌, ◌≤◌, List, ◌++◌, length, take, drop, get_or, inl, inr, refl, sym, ap, ◌∙◌, subst, arith, length-append, length-drop, length-take-le}
use Rattle.std.specs.Prelude.{slice_index}
use Rattle.std.proofs.lemmas.Bool.{cases_lt}
use Rattle.std.proofs.lemmas.List.{drop-take, get_or-take, get_or-drop, ext_get_or, take_all, take_at, drop_at}
use Rattle.std.proofs.lemmas.Slice.{take-put_mid_below, drop-put_mid}
use borrow.Rule.Slice.PartMut.{put_mid}
use Rattle.ods_order.specs.declared.order.Order.{Order}
use Rattle.ods_order.specs.Order.{sector_size, sector_count, block_count, container_size, first_track, place, IsBeside}
use Rattle.ods_order.specs.Volumes.{sector_at, sector_of, volume_of, IsLaidOut}
use Rattle.ods_order.proofs.Places.{inside, one_before_other, first_beside, first_inside, filled, falls_into_block, sectors_are_blocks}
use Rattle.ods_order.proofs.Pieces.{same_pieces, front_of_pieces}
use Rattle.ods_order.proofs.Volumes.{sector_of_volume}

-- the first n sectors of these bytes are in their places, and what is beside all sectors is as it was
pub record IsPartly (order : Order) (old volume new : List ℕ) (n : ℕ) : Type 0 where
  pub size : length new ≡ length old
  pub laid : (m : ℕ) → m < n → sector_at order new m ≡ sector_of order volume m
  pub beside : (i : ℕ) → IsBeside order i → slice_index new i ≡ slice_index old i

-- no sector is laid out yet
pub none_laid : (order : Order) (old volume : List ℕ) → IsPartly order old volume old 0
none_laid order old volume = record { size = refl; laid = λ m low. absurd (omega arith); beside = λ i is. refl }

length-put : (a k : ℕ) (xs ys : List ℕ) → a + k ≤ length xs → length ys ≡ k → length (put_mid a k xs ys) ≡ length xs
length-put a k xs ys within size =
    let rest : List ℕ = drop k (drop a xs) in
    let front = length-take-le a xs (omega arith) in
    let behind : length rest ≡ length xs - a - k = length-drop k (drop a xs) ∙ ap (λ n. n - k) (length-drop a xs) in
    let back = length-append ys rest in
    length-append (take a xs) (ys ++ rest) ∙ omega arith

-- the part that was put
put_there : (a k : ℕ) (xs ys : List ℕ) → a + k ≤ length xs → length ys ≡ k → take k (drop a (put_mid a k xs ys)) ≡ ys
put_there a k xs ys within size =
    let front = length-take-le a xs (omega arith) in
    ap (take k) (drop_at (take a xs) (ys ++ drop k (drop a xs)) a front) ∙ take_at ys (drop k (drop a xs)) k size

-- a part before it, and one behind it
put_behind : (a k b z : ℕ) (xs ys : List ℕ) → a ≤ length xs → b + z ≤ a → take z (drop b (put_mid a k xs ys)) ≡ take z (drop b xs)
put_behind a k b z xs ys within before =
    sym (drop-take b z (put_mid a k xs ys)) ∙ ap (drop b) (take-put_mid_below a k xs ys (b + z) before within) ∙ drop-take b z xs

put_before : (a k b z : ℕ) (xs ys : List ℕ) → a + k ≤ length xs → length ys ≡ k → a + k ≤ b → take z (drop b (put_mid a k xs ys)) ≡ take z (drop b xs)
put_before a k b z xs ys within size behind = ap (take z) (drop-put_mid a k xs ys b behind (omega arith) size)

-- a byte outside it
put_elsewhere : (a k i : ℕ) (xs ys : List ℕ) → a + k ≤ length xs → length ys ≡ k → ¬ ((a ≤ i) × (i < a + k)) → get_or (put_mid a k xs ys) i 0 ≡ get_or xs i 0
put_elsewhere a k i xs ys within size outside = elim (cases_lt i a) [
  | inl before ↦
      sym (get_or-take a (put_mid a k xs ys) i 0 before) ∙ ap (λ l. get_or l i 0) (take-put_mid_below a k xs ys a (omega arith) (omega arith)) ∙ get_or-take a xs i 0 before
  | inr from ↦ elim (cases_lt i (a + k)) [
    | inl below ↦ absurd (outside (from, below))
    | inr behind ↦
        let whole : i + 0 ≡ i = omega arith in
        ap (λ j. get_or (put_mid a k xs ys) j 0) (sym whole) ∙ sym (get_or-drop i (put_mid a k xs ys) 0 0)
        ∙ ap (λ l. get_or l 0 0) (drop-put_mid a k xs ys i behind (omega arith) size) ∙ get_or-drop i xs 0 0 ∙ ap (λ j. get_or xs j 0) whole
  ]
]

-- the next sector is put in its place
pub next_laid : (order : Order) (old volume now sector next : List ℕ) (n : ℕ) → length old ≡ container_size order → n < sector_count order →
    next ≡ put_mid (place order n) (sector_size order) now sector → sector ≡ sector_of order volume n → length sector ≡ sector_size order →
    IsPartly order old volume now n → IsPartly order old volume next (n + 1)
next_laid order old volume now sector next n whole low is here size partly =
    let within : place order n + sector_size order ≤ length now = omega (arith, inside order n low, partly.size) in
    let P : List ℕ → Type 0 = λ l. IsPartly order old volume l (n + 1) in
    let a : ℕ = place order n in
    let z : ℕ = sector_size order in
    subst P (sym is) (record {
      size = length-put a z now sector within size ∙ partly.size;
      laid = λ m below. elim (cases_lt m n) [
        | inl before ↦ elim (one_before_other order n m low (omega arith) (omega arith)) [
          | inl ends ↦ put_behind a z (place order m) z now sector (omega arith) ends ∙ partly.laid m before
          | inr begins ↦ put_before a z (place order m) z now sector within size begins ∙ partly.laid m before
        ]
        | inr last ↦
            let same : n ≡ m = omega arith in
            let Q : ℕ → Type 0 = λ k. sector_at order (put_mid a z now sector) k ≡ sector_of order volume k in
            subst Q same (put_there a z now sector within size ∙ here)
      ];
      beside = λ i out. put_elsewhere a z i now sector within size (out n low) ∙ partly.beside i out;
    })

-- all sectors are in their places
pub all_laid : (order : Order) (old volume new : List ℕ) (n : ℕ) → n ≡ sector_count order → length volume ≡ 512 * block_count order → IsPartly order old volume new n → IsLaidOut order old volume new
unfolding volume_of
all_laid order old volume new n all size partly =
    let N : ℕ = sector_count order in
    let whole : length volume ≤ sector_size order * N = omega (arith, sectors_are_blocks order) in
    record {
      size = partly.size;
      holds = same_pieces (sector_at order new) (sector_of order volume) 0 N (λ m from to. partly.laid m (omega arith))
          ∙ front_of_pieces (sector_size order) N volume ∙ take_all (sector_size order * N) volume whole;
      beside = partly.beside;
    }

partly_laid : (order : Order) (old volume : List ℕ) (n : ℕ) → length old ≡ container_size order → length volume ≡ 512 * block_count order → n ≤ sector_count order →
    (new : List ℕ) × IsPartly order old volume new n
partly_laid order old volume zero whole size few = (old, none_laid order old volume)
partly_laid order old volume (suc n) whole size few =
    let before = partly_laid order old volume n whole size (omega arith) in
    let sector : List ℕ = sector_of order volume n in
    let next : List ℕ = put_mid (place order n) (sector_size order) before.0 sector in
    let falls = falls_into_block order n (omega arith) in
    let long = length-take-le (sector_size order) (drop (sector_size order * n) volume) (omega (arith, falls.whole, length-drop (sector_size order * n) volume)) in
    let one : n + 1 ≡ suc n = omega arith in
    let P : ℕ → Type 0 = λ k. IsPartly order old volume next k in
    (next, subst P one (next_laid order old volume before.0 sector next n whole (omega arith) refl refl long before.1))

-- a volume can be laid out in any container
pub can_be_laid : (order : Order) (old volume : List ℕ) → length old ≡ container_size order → length volume ≡ 512 * block_count order → (new : List ℕ) × IsLaidOut order old volume new
can_be_laid order old volume whole size =
    let laid = partly_laid order old volume (sector_count order) whole size (omega arith) in
    (laid.0, all_laid order old volume laid.0 (sector_count order) refl size laid.1)

-- a byte of a sector, by the sector
byte_of_sector : (order : Order) (container : List ℕ) (n i : ℕ) → place order n ≤ i → i < place order n + sector_size order →
    get_or (sector_at order container n) (i - place order n) 0 ≡ get_or container i 0
byte_of_sector order container n i from to =
    let whole : place order n + (i - place order n) ≡ i = omega arith in
    get_or-take (sector_size order) (drop (place order n) container) (i - place order n) 0 (omega arith)
    ∙ get_or-drop (place order n) container (i - place order n) 0 ∙ ap (λ j. get_or container j 0) whole

-- and in one way only
pub one_way : (order : Order) (old volume new other : List ℕ) → length old ≡ container_size order → IsLaidOut order old volume new → IsLaidOut order old volume other → new ≡ other
one_way order old volume new other whole one two =
    let one_size : length new ≡ container_size order = one.size ∙ whole in
    let two_size : length other ≡ container_size order = two.size ∙ whole in
    ext_get_or 0 new other (one_size ∙ sym two_size) (λ i low. elim (cases_lt i (first_track order)) [
      | inl first ↦ one.beside i (first_beside order i first) ∙ sym (two.beside i (first_beside order i first))
      | inr behind ↦
          let f = filled order i behind (omega arith) in
          let same : sector_at order new f.0 ≡ sector_at order other f.0 =
          sym (sector_of_volume order new f.0 one_size f.1) ∙ ap (λ v. sector_of order v f.0) (one.holds ∙ sym two.holds) ∙ sector_of_volume order other f.0 two_size f.1 in
          sym (byte_of_sector order new f.0 i f.2.0 f.2.1) ∙ ap (λ l. get_or l (i - place order f.0) 0) same ∙ byte_of_sector order other f.0 i f.2.0 f.2.1
    ])

-- a container's own volume is laid out in it already
pub own_volume : (order : Order) (old new : List ℕ) → length old ≡ container_size order → IsLaidOut order old (volume_of order old) new → new ≡ old
own_volume order old new whole laid = one_way order old (volume_of order old) new old whole laid (record { size = refl; holds = refl; beside = λ i is. refl })

-- the track that is not of the volume stays
pub first_stays : (order : Order) (old volume new : List ℕ) → length old ≡ container_size order → IsLaidOut order old volume new → take (first_track order) new ≡ take (first_track order) old
first_stays order old volume new whole laid =
    let t : ℕ = first_track order in
    let within = first_inside order in
    let long = laid.size in
    let new_front : length (take t new) ≡ t = length-take-le t new (omega arith) in
    let old_front : length (take t old) ≡ t = length-take-le t old (omega arith) in
    ext_get_or 0 (take t new) (take t old) (new_front ∙ sym old_front)
    (λ i low. let first : i < t = omega arith in get_or-take t new i 0 first ∙ laid.beside i (first_beside order i first) ∙ sym (get_or-take t old i 0 first))
