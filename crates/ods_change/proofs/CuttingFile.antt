-- A Truncate of a sound volume: its checks, what its blocks are when its file is cut, and what they show.
use Rattle.std.proofs.Common.{◌≡◌, ℕ, ◌<◌, ◌≤◌, Bool, true, false, nat_lt, List, [], ◌∷◌, length, take, refl, sym, ap, ◌∙◌, subst, inl, inr, arith}
use Rattle.std.specs.Prelude.{unwrap_or}
use Rattle.std.proofs.lemmas.Bool.{cases_lt, lt-ltb}
use Rattle.std.proofs.lemmas.List.{length-map, take-map}
use Rattle.ods_base.specs.declared.file_id.FileId.{FileId}
use Rattle.ods_base.specs.declared.file_id.Uic.{Uic}
use Rattle.ods_base.specs.Image.{block_at}
use Rattle.ods_header.specs.Header.{is_directory_header}
use Rattle.ods_space.specs.Layout.{VolumeLayout, header_at}
use Rattle.ods_space.specs.Files.{HasBlocks, IsWhole}
use Rattle.ods_alloc.specs.Extend.{IsBookkeeping}
use Rattle.ods_mount.specs.Faults.{contents_of}
use Rattle.ods_mount.specs.Sound.{IsSoundBy}
use Rattle.ods_request.specs.declared.answers.Answer.TheVariants.{Truncated}
use Rattle.ods_request.specs.declared.refusals.Refusal.TheVariants as refusal
use Rattle.ods_request.specs.declared.requests.Request.TheVariants.{Truncate}
use Rattle.ods_request.specs.declared.rights.Right.TheVariants as right
use Rattle.ods_request.specs.Catalogue.{Catalogue, Plain, blocks_of, is_directory}
use Rattle.ods_request.specs.Faults.{is_denied, is_reserved}
use Rattle.ods_request.specs.Steps.{after, answer_of, file_at, first_blocks, no_file, with_body}
use Rattle.ods_state.specs.Change.{disk}
use Rattle.ods_state.specs.Contents.{body_of, file_of, ShowsBy}
use Rattle.ods_state.specs.Cutting.{CutsOff}
use Rattle.ods_state.specs.Moves.{Touches}
use Rattle.ods_state.specs.Served.{IsStepOf}
use Rattle.ods_state.proofs.CutOff as off
use Rattle.ods_state.proofs.Served.{carried_is_step}
use Rattle.ods_state.proofs.Shown.{one_is_put}
use Rattle.ods_look.specs.Opening.{Rows, file_shown}
use Rattle.ods_look.proofs.BlockPlaces.{blocks_are_one}
use Rattle.ods_look.proofs.FileBodies.{plain_body}
use Rattle.ods_change.specs.Truncating.{IsCuttable}
use Rattle.ods_change.proofs.KeptFields.{SaysTheSame, says_the_same}

-- the checks of a Truncate, in their order
abbrev pub truncate_rows : ℕ → Uic → Rows
truncate_rows count who f = (nat_lt (length (blocks_of f.body)) count, refusal.BadCount) ∷ (is_denied f who right.Extend, refusal.Denied) ∷ []

-- how many blocks the file shows that has these
pub shown_length : (I : List (List ℕ)) (L : VolumeLayout) (id : FileId) (lbns : List ℕ) → 5 < id.number → is_directory_header id.number (header_at I L id.number) ≡ false → length (blocks_of (file_shown I L id lbns).body) ≡ length lbns
unfolding file_of
shown_length I L id lbns high kind =
    ap (λ b. length (blocks_of b)) (plain_body id.number (header_at I L id.number) (contents_of I lbns) (omega (arith, high)) kind) ∙ length-map lbns (block_at I)

-- whether it has fewer than are wanted
pub fewer_seen : (I : List (List ℕ)) (L : VolumeLayout) (id : FileId) (lbns : List ℕ) (count : ℕ) (d k : Bool) → 5 < id.number → is_directory_header id.number (header_at I L id.number) ≡ false
    → d ≡ nat_lt (length lbns) count → d ≡ k → nat_lt (length (blocks_of (file_shown I L id lbns).body)) count ≡ k
fewer_seen I L id lbns count d k high kind is e = ap (λ m. nat_lt m count) (shown_length I L id lbns high kind) ∙ sym is ∙ e

pub enough_there : (has count : ℕ) → nat_lt has count ≡ false → count ≤ has
enough_there has count fine = elim (cases_lt has count) [
  | inl short ↦ let wrong : true ≡ false = sym (lt-ltb has count short) ∙ fine in absurd (cc)
  | inr fits ↦ fits
]

-- the file that the user may cut has so many blocks, whatever its list
pub enough_of : {I : List (List ℕ)} {L : VolumeLayout} {who : Uic} {id : FileId} {count : ℕ} (o : IsCuttable I L who id count) → (blocks : List ℕ) → HasBlocks I L id.number blocks → count ≤ length blocks
enough_of {count = count} o blocks held = subst (λ l. count ≤ length l) (blocks_are_one o.held held) o.enough

-- a plain file with its first blocks is the one with its first contents
file_cut : (n : ℕ) (b d : List ℕ) (cs ds : List (List ℕ)) (count : ℕ) → 2 < n → is_directory_header n b ≡ false → SaysTheSame b d → ds ≡ take count cs → file_of n d ds ≡ with_body (file_of n b cs) (first_blocks (file_of n b cs).body count)
unfolding file_of
file_cut n b d cs ds count high kind says less =
    let was = plain_body n b cs high kind in
    let body : body_of n d ds ≡ first_blocks (body_of n b cs) count =
    plain_body n d ds high (says.kind n ∙ kind) ∙ (λ i. Plain (says.attributes i) (less i)) ∙ sym (ap (λ c. first_blocks c count) was) in
    λ i. record { owner = says.owner i; protection = says.protection i; user_char = says.user_char i; system_char = says.system_char i; ident = says.ident i; body = body i }

-- The file that the user may cut is cut in J.
module _ {I : List (List ℕ)} {L : VolumeLayout} (S : IsSoundBy I L) {who : Uic} {id : FileId} {count : ℕ} (o : IsCuttable I L who id count) (J : List (List ℕ))
    (cuts : (others blocks : List ℕ) → IsWhole I L id.number others blocks → CutsOff I L id.number others blocks count J) where
  abbrev n : ℕ
  n = id.number

  abbrev old : List ℕ
  old = o.lbns

  C : CutsOff I L n o.held.others old count J
  C = cuts o.held.others old o.held.whole

  above : 2 < n
  above = let high : 5 < n = o.number in omega arith

  -- the first header says what it said
  says : SaysTheSame (header_at I L n) (header_at J L n)
  says = off.first_says I J L S n o.number o.held.others old o.held.file o.held.whole count C (λ c. SaysTheSame (header_at I L n) c) (same_says (header_at I L n)) (λ c size kept. says_the_same (header_at I L n) c n o.held.file.valid size kept)
    where
      same_says : (b : List ℕ) → SaysTheSame b b
      same_says b = record { sequence = refl; owner = refl; protection = refl; user_char = refl; system_char = refl; attributes = refl; ident = refl; kind = λ m. refl }

  still_plain : is_directory_header n (header_at J L n) ≡ false
  still_plain = says.kind n ∙ o.kind

  there : (K : Catalogue) → ShowsBy I L K → file_at K id ≡ file_of n (header_at I L n) (contents_of I old)
  there K shown = ap (λ f. unwrap_or f no_file) (o.there K shown)

  contents_now : contents_of J (take count old) ≡ take count (contents_of I old)
  contents_now = sym (take-map (block_at J) count old) ∙ ap (take count) (off.contents_far I J L S n o.number o.held.others old o.held.file o.held.whole count C n old o.held above)

  cut_is_shown : (K : Catalogue) → ShowsBy I L K → ShowsBy J L (after K (Truncate id count))
  unfolding after
  cut_is_shown K shown =
      one_is_put I J L id o.file.1 (off.sequence_kept I J L S n o.number o.held.others old o.held.file o.held.whole count C n ∙ o.file.1)
      (off.others_alike I J L S n o.number o.held.others old o.held.file o.held.whole count C) K (with_body (file_at K id) (first_blocks (file_at K id).body count)) shown (record {
        blocks = take count old;
        held = off.has_first I J L S n o.number o.held.others old o.held.file o.held.whole count C;
        sequence = says.sequence ∙ o.file.1;
        shown = file_cut n (header_at I L n) (header_at J L n) (contents_of I old) (contents_of J (take count old)) count above o.kind says contents_now
            ∙ ap (λ f. with_body f (first_blocks f.body count)) (sym (there K shown));
      })

  -- a request may touch what is given back, and the header of the cut
  touched : (x : ℕ) → IsBookkeeping L (C.last ∷ C.gone) x → Touches (disk I L) (Truncate id count) (disk J L) x
  touched x (inl p) = inl p
  touched x (inr (inl p)) = inr (inl p)
  touched x (inr (inr p)) = inr (inr (n ∷ o.held.others, old, (o.held.others, refl, o.held.whole), (p.0, off.tail_in I J L S n o.number o.held.others old o.held.file o.held.whole count C p.0 p.1, p.2)))

  -- the Truncate that is not refused is made by cutting the file
  pub truncate_is_step : IsStepOf I L who (Truncate id count) (Truncated count) J L
  unfolding answer_of
  truncate_is_step = carried_is_step I L who (Truncate id count) (Truncated count) J refl (λ f lacks. lacks.wants) (record {
    answered = λ K shown. (o.fine K shown, refl);
    sound = off.still_sound I J L S n o.number o.held.others old o.held.file o.held.whole count C still_plain;
    shown = cut_is_shown;
    sequences = λ m. omega (arith, off.sequence_kept I J L S n o.number o.held.others old o.held.file o.held.whole count C m);
    moves = off.are_cut_off I J L S n o.number o.held.others old o.held.file o.held.whole count C;
    elsewhere = (C.only.size, λ x untouched. C.only.others x (λ p. untouched (touched x p)));
  })
