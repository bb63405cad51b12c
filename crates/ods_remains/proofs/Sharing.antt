-- Tables of the lowest and the highest deleted file that names a block.
use Rattle.std.proofs.Common.{◌≡◌, ◌≢◌, ◌⊎◌, inl, inr, ℕ, ◌+◌, ◌-◌, ◌<◌, ◌≤◌, Bool, true, false, refl, sym, ap, subst, List, [], ◌∷◌, ◌++◌, length, take, Option, Some, None, arith, ◌∙◌}
use Rattle.std.specs.Prelude.{slice_index, slice_set}
use Rattle.std.specs.List.{Contains}
use Rattle.std.proofs.lemmas.Bool.{cases_lt, cases_eq}
use Rattle.std.proofs.Math.Seq.{take-append_seam}
use Rattle.std.proofs.lemmas.List.{get_or-set_same, get_or-set_other, get_or_past, length-set}
use Rattle.std.proofs.lemmas.List.Elements.{Contains-append_left, Contains-append_right, Contains-append_cases, Contains-push, Contains-push_cases}
use Rattle.ods_header.specs.Header.{blocks_of}
use Rattle.ods_space.specs.Layout.{VolumeLayout, last_number}
use Rattle.ods_remains.specs.Chains.{named_at}
use Rattle.ods_remains.specs.Deleted.{IsDeleted, IsDeletedFile, former}
use Rattle.ods_remains.specs.Shared.{NamesBlock, IsFirstNaming, IsTable, IsNoted, AreSeen, AreTables, AreWithin, IsFilled, IsOtherOf, IsSharerAt, is_seen}
use Rattle.ods_remains.proofs.FileFronts.{only_one, chain_deleted, front_names, front_comes, front_all}

module _ (n : ℕ) (old : List ℕ) where
  not_pushed : (places : List ℕ) (p lbn : ℕ) → lbn ≢ p → ¬ Contains places lbn → ¬ Contains (places ++ p ∷ []) lbn
  not_pushed places p lbn other none has = elim (Contains-push_cases places p lbn has) [
    | inl before ↦ none before
    | inr same ↦ other (sym same)
  ]

  module _ (places now : List ℕ) (size : length now ≡ length old) (p : ℕ) where
    module _ (some : n ≢ 0) (so : IsFilled n places old now) where
      -- at another place all is as it was
      fill_other : (lbn : ℕ) (new : ℕ) → lbn < length old → lbn ≢ p → new ≡ slice_index now lbn
          → (Contains (places ++ p ∷ []) lbn × (slice_index old lbn ≡ 0) × (new ≡ n)) ⊎ (((¬ Contains (places ++ p ∷ []) lbn) ⊎ (slice_index old lbn ≢ 0)) × (new ≡ slice_index old lbn))
      fill_other lbn new inside other is = elim (so lbn inside) [
        | inl one ↦ inl (Contains-append_left places (p ∷ []) lbn one.0, one.1, is ∙ one.2)
        | inr kept ↦ inr (
          elim kept.0 [
            | inl none ↦ inl (not_pushed places p lbn other none)
            | inr there ↦ inr there
          ],
          is ∙ kept.1,
        )
      ]

      pub fill_set : p < length now → slice_index now p ≡ 0 → IsFilled n (places ++ p ∷ []) old (slice_set now p n)
      fill_set low empty lbn inside = elim (cases_eq lbn p) [
        | inl same ↦
            let empty_here : slice_index now lbn ≡ 0 = ap (slice_index now) same ∙ empty in
            let new : slice_index (slice_set now p n) lbn ≡ n = ap (slice_index (slice_set now p n)) same ∙ get_or-set_same now p n 0 low in
            elim (so lbn inside) [
              | inl one ↦ absurd (some (sym one.2 ∙ empty_here))
              | inr kept ↦ inl (subst (Contains (places ++ p ∷ [])) (sym same) (Contains-push places p), sym kept.1 ∙ empty_here, new)
            ]
        | inr other ↦ fill_other lbn (slice_index (slice_set now p n) lbn) inside other (get_or-set_other now p lbn n 0 other)
      ]

      pub fill_kept : slice_index now p ≢ 0 → IsFilled n (places ++ p ∷ []) old now
      fill_kept full lbn inside = elim (cases_eq lbn p) [
        | inl same ↦
            elim (so lbn inside) [
              | inl one ↦ inl (Contains-append_left places (p ∷ []) lbn one.0, one.1, one.2)
              | inr kept ↦ inr (inr (λ empty. full (ap (slice_index now) (sym same) ∙ kept.1 ∙ empty)), kept.1)
            ]
        | inr other ↦ fill_other lbn (slice_index now lbn) inside other refl
      ]

      pub fill_past : length now ≤ p → IsFilled n (places ++ p ∷ []) old now
      fill_past past lbn inside =
          let other : lbn ≢ p = λ same. absurd (omega (arith, past, inside, size, same)) in
          fill_other lbn (slice_index now lbn) inside other refl

-- one place more is filled
pub fill_step : (n : ℕ) (old places now : List ℕ) (p : ℕ) (new : List ℕ) → n ≢ 0 → length now ≡ length old → IsFilled n places old now
    → ((p < length now) × (slice_index now p ≡ 0) × (new ≡ slice_set now p n)) ⊎ (((length now ≤ p) ⊎ (slice_index now p ≢ 0)) × (new ≡ now)) → (length new ≡ length old) × IsFilled n (places ++ p ∷ []) old new
fill_step n old places now p new some size so (inl put) =
    (ap length put.2 ∙ length-set now p n ∙ size, subst (IsFilled n (places ++ p ∷ []) old) (sym put.2) (fill_set n old places now size p some so put.0 put.1))
fill_step n old places now p new some size so (inr kept) = (
  ap length kept.1 ∙ size,
  subst (IsFilled n (places ++ p ∷ []) old) (sym kept.1) (elim kept.0 [
    | inl past ↦ fill_past n old places now size p some so past
    | inr full ↦ fill_kept n old places now size p some so full
  ]),
)

module _ (I : List (List ℕ)) (L : VolumeLayout) where
  -- 0 is no deleted file
  names_some : (m lbn : ℕ) → NamesBlock I L m lbn → m ≢ 0
  names_some m lbn names none = let low = names.0.0.low in absurd (omega (arith, low, none))

  named_there : (headers : List ℕ) (lbn : ℕ) → Contains (named_at (former I L) headers) lbn → ((h : ℕ) → Contains headers h → IsDeleted I L h) → (h : ℕ) × IsDeleted I L h × Contains (blocks_of (former I L h)) lbn
  named_there [] lbn has deleted = let none = has.1 in absurd (omega (arith, none))
  named_there (x ∷ xs) lbn has deleted = elim (Contains-append_cases (blocks_of (former I L x)) (named_at (former I L) xs) lbn has) [
    | inl here ↦ (x, deleted x (Contains-append_left (x ∷ []) xs x (0, omega arith, refl)), here)
    | inr there ↦ named_there xs lbn there (λ h more. deleted h (Contains-append_right (x ∷ []) xs h more))
  ]

  -- a block that a deleted file names is one that a deleted header names
  names_within : (size : ℕ) → AreWithin I L size → (n lbn : ℕ) → NamesBlock I L n lbn → lbn < size
  names_within size within n lbn names =
      let of = names.2 in
      let headers : List ℕ = n ∷ of.others in
      let deleted : (h : ℕ) → Contains headers h → IsDeleted I L h = λ h has. elim (Contains-append_cases (n ∷ []) of.others h has) [
        | inl one ↦ subst (IsDeleted I L) (sym (only_one n h one)) names.0.0
        | inr more ↦ chain_deleted I L n of.others of.cut of.chain h more
      ] in
      let it = named_there headers lbn (subst (λ xs. Contains xs lbn) of.named names.3) deleted in
      within it.0 lbn it.1 it.2

  module _ (Among : ℕ → Type 0) (IsBefore : ℕ → ℕ → Type 0) where
    -- before any file a table is zeros, and nothing was seen
    pub table_begun : (table : List ℕ) (seen : List Bool) → ((n : ℕ) → Among n → ¬ IsDeletedFile I L n) → ((i : ℕ) → slice_index table i ≡ 0) → ((h : ℕ) → is_seen seen h ≡ false) → IsTable I L Among IsBefore table seen
    table_begun table seen none zeros unseen = record {
      first = λ lbn inside. inl (zeros lbn, λ n among names. none n among names.0);
      met = λ h was. let clash : false ≡ true = sym (unseen h) ∙ was in absurd (cc);
    }

    -- behind all files it is that of all
    pub table_ended : (table : List ℕ) (seen : List Bool) → ((n : ℕ) → IsDeletedFile I L n → Among n) → IsTable I L Among IsBefore table seen
        → (lbn : ℕ) → lbn < length table → IsFirstNaming I L (λ n. Unit {0}) IsBefore lbn (slice_index table lbn)
    table_ended table seen all so lbn inside = elim (so.first lbn inside) [
      | inl none ↦ inl (none.0, λ n any names. none.1 n (all n names.0) names)
      | inr one ↦ inr (one.0, tt, λ n any names. one.2 n (all n names.0) names)
    ]

    pub seen_any : (seen : List Bool) → AreSeen I L Among seen → AreSeen I L (λ n. Unit {0}) seen
    seen_any seen so h was = let of = so h was in (of.0, tt, of.2)

    module _ (On : ℕ → Type 0) (k : ℕ) (split : (n : ℕ) → On n → (n ≡ k) ⊎ Among n) (joins : (n : ℕ) → Among n → On n) (table : List ℕ) (seen : List Bool) (so : IsTable I L Among IsBefore table seen) where
      -- a number that is no deleted file changes nothing
      pub table_same : ¬ IsDeletedFile I L k → IsTable I L On IsBefore table seen
      table_same other = record {
        first = λ lbn inside. elim (so.first lbn inside) [
          | inl none ↦ inl (
            none.0,
            λ n on names. elim (split n on) [
              | inl same ↦ other (subst (IsDeletedFile I L) same names.0)
              | inr among ↦ none.1 n among names
            ],
          )
          | inr one ↦ inr (
            one.0,
            joins (slice_index table lbn) one.1,
            λ n on names. elim (split n on) [
              | inl same ↦ absurd (other (subst (IsDeletedFile I L) same names.0))
              | inr among ↦ one.2 n among names
            ],
          )
        ];
        met = λ h was. let of = so.met h was in (of.0, joins of.0 of.1, of.2);
      }

      module _ (here : On k) (behind : (m : ℕ) → Among m → IsBefore m k) (self : IsBefore k k) (new : List ℕ) (marked : List Bool) (noted : IsNoted I L k table seen new marked) where
        it_names : (lbn : ℕ) → Contains noted.blocks lbn → NamesBlock I L k lbn
        it_names = front_names I L seen k noted.headers noted.blocks noted.deleted noted.front

        first_on : (lbn was is : ℕ) → IsFirstNaming I L Among IsBefore lbn was
            → (Contains noted.blocks lbn × (was ≡ 0) × (is ≡ k)) ⊎ (((¬ Contains noted.blocks lbn) ⊎ (was ≢ 0)) × (is ≡ was)) → IsFirstNaming I L On IsBefore lbn is
        first_on lbn was is (inl none) (inl put) = subst (IsFirstNaming I L On IsBefore lbn) (sym put.2) (inr (
          it_names lbn put.0,
          here,
          λ n on names. elim (split n on) [
            | inl same ↦ subst (IsBefore k) (sym same) self
            | inr among ↦ absurd (none.1 n among names)
          ],
        ))
        first_on lbn was is (inr one) (inl put) = absurd (names_some was lbn one.0 put.1)
        first_on lbn was is (inl none) (inr kept) = subst (IsFirstNaming I L On IsBefore lbn) (sym kept.1) (inl (
          none.0,
          λ n on names. elim (split n on) [
            | inl same ↦
                elim (front_all I L seen k noted.headers noted.blocks noted.deleted noted.front Among so.met lbn (subst (λ m. NamesBlock I L m lbn) same names)) [
                  | inl has ↦ elim kept.0 [
                    | inl out ↦ out has
                    | inr some ↦ some none.0
                  ]
                  | inr other ↦ none.1 other.0 other.1 other.2
                ]
            | inr among ↦ none.1 n among names
          ],
        ))
        first_on lbn was is (inr one) (inr kept) = subst (IsFirstNaming I L On IsBefore lbn) (sym kept.1) (inr (
          one.0,
          joins was one.1,
          λ n on names. elim (split n on) [
            | inl same ↦ subst (IsBefore was) (sym same) (behind was one.1)
            | inr among ↦ one.2 n among names
          ],
        ))

        -- a deleted file more is noted
        pub table_noted : IsTable I L On IsBefore new marked
        table_noted = record {
          first = λ lbn inside.
              let low : lbn < length table = subst (λ s. lbn < s) noted.size inside in
              first_on lbn (slice_index table lbn) (slice_index new lbn) (so.first lbn low) (noted.filled lbn low);
          met = λ h is. elim (noted.marked.only h is) [
            | inl was ↦ let of = so.met h was in (of.0, joins of.0 of.1, of.2)
            | inr mine ↦ (k, here, front_comes I L seen k noted.headers noted.blocks noted.deleted noted.front h mine)
          ];
        }

  -- what noting a number does to its table, or leaves
  abbrev pub notes : ℕ → List ℕ → List Bool → List ℕ → List Bool → Type 0
  notes k table seen new marked = IsNoted I L k table seen new marked ⊎ ((¬ IsDeletedFile I L k) × (new ≡ table) × (marked ≡ seen))

  step : (Among : ℕ → Type 0) (IsBefore : ℕ → ℕ → Type 0) (On : ℕ → Type 0) (k : ℕ) → ((n : ℕ) → On n → (n ≡ k) ⊎ Among n) → ((n : ℕ) → Among n → On n) → On k → ((m : ℕ) → Among m → IsBefore m k) → IsBefore k k
      → (table : List ℕ) (seen : List Bool) (new : List ℕ) (marked : List Bool) → IsTable I L Among IsBefore table seen → notes k table seen new marked
      → (length new ≡ length table) × IsTable I L On IsBefore new marked
  step Among IsBefore On k split joins here behind self table seen new marked so (inl noted) =
      (noted.size, table_noted Among IsBefore On k split joins table seen so here behind self new marked noted)
  step Among IsBefore On k split joins here behind self table seen new marked so (inr kept) = (
    ap length kept.1,
    subst (IsTable I L On IsBefore new) (sym kept.2) (subst (λ t. IsTable I L On IsBefore t seen) (sym kept.1) (table_same Among IsBefore On k split joins table seen so kept.0)),
  )

  pub low_step : (before : ℕ) (table : List ℕ) (seen : List Bool) (new : List ℕ) (marked : List Bool) → IsTable I L (λ n. n ≤ before) (λ m n. m ≤ n) table seen → notes (before + 1) table seen new marked
      → (length new ≡ length table) × IsTable I L (λ n. n ≤ before + 1) (λ m n. m ≤ n) new marked
  low_step before =
      let split : (n : ℕ) → n ≤ before + 1 → (n ≡ before + 1) ⊎ (n ≤ before) = λ n up. elim (cases_lt before n) [
        | inl last ↦ inl (omega (arith, up, last))
        | inr earlier ↦ inr earlier
      ] in
      step (λ n. n ≤ before) (λ m n. m ≤ n) (λ n. n ≤ before + 1) (before + 1) split (λ n up. omega (arith, up)) (omega arith) (λ m up. omega (arith, up)) (omega arith)

  pub high_step : (last done : ℕ) → done < last → (table : List ℕ) (seen : List Bool) (new : List ℕ) (marked : List Bool) → IsTable I L (λ n. last - done < n) (λ m n. n ≤ m) table seen
      → notes (last - done) table seen new marked → (length new ≡ length table) × IsTable I L (λ n. last - (done + 1) < n) (λ m n. n ≤ m) new marked
  high_step last done more =
      let split : (n : ℕ) → last - (done + 1) < n → (n ≡ last - done) ⊎ (last - done < n) = λ n up. elim (cases_lt (last - done) n) [
        | inl later ↦ inr later
        | inr here ↦ inl (omega (arith, up, here, more))
      ] in
      step (λ n. last - done < n) (λ m n. n ≤ m) (λ n. last - (done + 1) < n) (last - done) split (λ n up. omega (arith, up)) (omega (arith, more)) (λ m up. omega (arith, up)) (omega arith)

  pub low_begun : (table : List ℕ) (seen : List Bool) → ((i : ℕ) → slice_index table i ≡ 0) → ((h : ℕ) → is_seen seen h ≡ false) → IsTable I L (λ n. n ≤ 0) (λ m n. m ≤ n) table seen
  low_begun table seen = table_begun (λ n. n ≤ 0) (λ m n. m ≤ n) table seen (λ n up is. let low = is.0.low in absurd (omega (arith, up, low)))

  pub high_begun : (table : List ℕ) (seen : List Bool) → ((i : ℕ) → slice_index table i ≡ 0) → ((h : ℕ) → is_seen seen h ≡ false) → IsTable I L (λ n. last_number L - 0 < n) (λ m n. n ≤ m) table seen
  high_begun table seen = table_begun (λ n. last_number L - 0 < n) (λ m n. n ≤ m) table seen (λ n up is. let high = is.0.high in absurd (omega (arith, up, high)))

  pub low_ended : (before : ℕ) → last_number L ≤ before → (table : List ℕ) (seen : List Bool) → IsTable I L (λ n. n ≤ before) (λ m n. m ≤ n) table seen
      → (lbn : ℕ) → lbn < length table → IsFirstNaming I L (λ n. Unit {0}) (λ m n. m ≤ n) lbn (slice_index table lbn)
  low_ended before past table seen = table_ended (λ n. n ≤ before) (λ m n. m ≤ n) table seen (λ n is. let high = is.0.high in omega (arith, high, past))

  pub high_ended : (last done : ℕ) → last ≤ done → (table : List ℕ) (seen : List Bool) → IsTable I L (λ n. last - done < n) (λ m n. n ≤ m) table seen
      → (lbn : ℕ) → lbn < length table → IsFirstNaming I L (λ n. Unit {0}) (λ m n. n ≤ m) lbn (slice_index table lbn)
  high_ended last done past table seen = table_ended (λ n. last - done < n) (λ m n. n ≤ m) table seen (λ n is. let low = is.0.low in omega (arith, low, past))

  -- what the tables say of a block
  module _ (n lbn low high : ℕ) (lowest : IsFirstNaming I L (λ n. Unit {0}) (λ m n. m ≤ n) lbn low) (highest : IsFirstNaming I L (λ n. Unit {0}) (λ m n. n ≤ m) lbn high) where
    names_low : (m : ℕ) → m ≢ 0 → m ≡ low → NamesBlock I L m lbn
    names_low m some is = elim lowest [
      | inl nothing ↦ absurd (some (is ∙ nothing.0))
      | inr one ↦ subst (λ k. NamesBlock I L k lbn) (sym is) one.0
    ]

    names_high : (m : ℕ) → m ≢ 0 → m ≡ high → NamesBlock I L m lbn
    names_high m some is = elim highest [
      | inl nothing ↦ absurd (some (is ∙ nothing.0))
      | inr one ↦ subst (λ k. NamesBlock I L k lbn) (sym is) one.0
    ]

    low_is : (low ≡ 0) ⊎ (low ≡ n) → (m : ℕ) → NamesBlock I L m lbn → n ≤ m
    low_is is m names = elim lowest [
      | inl nothing ↦ absurd (nothing.1 m tt names)
      | inr one ↦ elim is [
        | inl none ↦ absurd (names_some low lbn one.0 none)
        | inr same ↦ let least = one.2 m tt names in omega (arith, least, same)
      ]
    ]

    high_is : (high ≡ 0) ⊎ (high ≡ n) → (m : ℕ) → NamesBlock I L m lbn → m ≤ n
    high_is is m names = elim highest [
      | inl nothing ↦ absurd (nothing.1 m tt names)
      | inr one ↦ elim is [
        | inl none ↦ absurd (names_some high lbn one.0 none)
        | inr same ↦ let most = one.2 m tt names in omega (arith, most, same)
      ]
    ]

    sharer_of : (which : Option ℕ) → IsOtherOf low high n which → IsSharerAt I L n lbn which
    sharer_of None others = λ m names. let up = low_is others.0 m names in let down = high_is others.1 m names in omega (arith, up, down)
    sharer_of (Some m) other = (
      other.1,
      elim other.2 [
        | inl is ↦ names_low m other.0 is
        | inr is ↦ names_high m other.0 is
      ],
    )

  -- past its end a table has 0, and no file names the block
  first_at : (IsBefore : ℕ → ℕ → Type 0) (table : List ℕ) → AreWithin I L (length table) → ((lbn : ℕ) → lbn < length table → IsFirstNaming I L (λ n. Unit {0}) IsBefore lbn (slice_index table lbn))
      → (lbn : ℕ) → IsFirstNaming I L (λ n. Unit {0}) IsBefore lbn (slice_index table lbn)
  first_at IsBefore table within first lbn = elim (cases_lt lbn (length table)) [
    | inl inside ↦ first lbn inside
    | inr past ↦ inl (get_or_past table lbn 0 past, λ n any names. let inside = names_within (length table) within n lbn names in absurd (omega (arith, past, inside)))
  ]

  -- the same where the tables have these numbers at the block
  pub sharer_by : (lowest highest : List ℕ) → AreTables I L lowest highest → (n lbn low high : ℕ) (which : Option ℕ)
      → low ≡ slice_index lowest lbn → high ≡ slice_index highest lbn → IsOtherOf low high n which → IsSharerAt I L n lbn which
  sharer_by lowest highest so n lbn low high which is_low is_high other =
      sharer_of n lbn low high
      (subst (IsFirstNaming I L (λ n. Unit {0}) (λ m n. m ≤ n) lbn) (sym is_low) (first_at (λ m n. m ≤ n) lowest so.low_size so.low lbn))
      (subst (IsFirstNaming I L (λ n. Unit {0}) (λ m n. n ≤ m) lbn) (sym is_high) (first_at (λ m n. n ≤ m) highest so.high_size so.high lbn)) which other

-- what was lent as a slice comes back as it is
pub items_back : {X : Type 0} (new rest : List X) (n : ℕ) → n ≡ length new → take n (new ++ rest) ≡ new
items_back new rest n size = ap (λ k. take k (new ++ rest)) size ∙ take-append_seam new rest
