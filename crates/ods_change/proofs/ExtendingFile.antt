-- An Extend of a sound volume: its checks, what its blocks are when its file has grown, and what they show.
use Rattle.std.proofs.Common.{◌≡◌, ℕ, ◌+◌, ◌<◌, ◌≤◌, true, false, nat_lt, List, [], ◌∷◌, ◌++◌, length, None, refl, sym, ap, ◌∙◌, subst, inl, inr, arith}
use Rattle.std.specs.Prelude.{◌||◌, ◌==◌, MatchOption, unwrap_or}
use Rattle.std.proofs.lemmas.Bool.{cases_lt, lt-ltb}
use Rattle.std.proofs.lemmas.List.{length-map}
use Rattle.ods_base.specs.declared.file_id.FileId.{FileId}
use Rattle.ods_base.specs.declared.file_id.Uic.{Uic}
use Rattle.ods_base.specs.Image.{IsImage, block_at}
use Rattle.ods_header.specs.Header.{is_directory_header}
use Rattle.ods_space.specs.Layout.{VolumeLayout, header_at}
use Rattle.ods_mount.specs.Faults.{contents_of}
use Rattle.ods_mount.specs.Sound.{IsSoundBy}
use Rattle.ods_request.specs.declared.answers.Answer.TheVariants.{Extended}
use Rattle.ods_request.specs.declared.refusals.Refusal.{Refusal}
use Rattle.ods_request.specs.declared.refusals.Refusal.TheVariants as refusal
use Rattle.ods_request.specs.declared.requests.Request.{Request}
use Rattle.ods_request.specs.declared.requests.Request.TheVariants.{Extend}
use Rattle.ods_request.specs.declared.rights.Right.TheVariants as right
use Rattle.ods_request.specs.Catalogue.{Catalogue, Plain, blocks_of, is_directory}
use Rattle.ods_request.specs.Catalogue.{attributes_of as body_attributes}
use Rattle.ods_request.specs.Faults.{fault_of, is_denied, is_reserved}
use Rattle.ods_request.specs.Steps.{after, answer_of, file_at, grown, no_file, zero_blocks}
use Rattle.ods_state.specs.Change.{disk}
use Rattle.ods_state.specs.Contents.{body_of, file_of, ShowsBy}
use Rattle.ods_state.specs.Served.{IsRefusalOf, IsShortOf, IsStepOf}
use Rattle.ods_state.specs.Wants.{HasHeaders, Lacks, lack_of, allocated_blocks}
use Rattle.ods_state.proofs.GrownContents.{grown_contents, grown_file}
use Rattle.ods_state.proofs.GrownMoves.{grown_taken, grown_touches, sequences_rise}
use Rattle.ods_state.proofs.GrownShown.{grown_is_put}
use Rattle.ods_state.proofs.GrownSound.{grown_sound}
use Rattle.ods_state.proofs.Served.{carried_is_step}
use Rattle.ods_state.proofs.Wanted.{may_take, none_lacks}
use Rattle.ods_look.specs.Opening.{Rows}
use Rattle.ods_look.proofs.FileBodies.{no_directory, plain_body}
use Rattle.ods_change.specs.Extending.{IsExtensible, IsGrownBy, SaysGrown}

-- the checks of an Extend, in their order
abbrev pub extend_rows : ℕ → Uic → Rows
extend_rows count who f = (nat_lt 65535 count || (count == 0), refusal.BadCount) ∷ (is_denied f who right.Extend, refusal.Denied) ∷ []

pub few_enough : (count : ℕ) → (nat_lt 65535 count || (count == 0)) ≡ false → count ≤ 65535
few_enough count fine = elim (cases_lt 65535 count) [
  | inl many ↦ let wrong : true ≡ false = sym (ap (λ t. t || (count == 0)) (lt-ltb 65535 count many)) ∙ fine in absurd (cc)
  | inr few ↦ few
]

-- a request that has no fault is refused for what the volume lacks
pub refused_for_lack : (I : List (List ℕ)) (L : VolumeLayout) (who : Uic) (r : Request) (f : Refusal) → Lacks I L r f → ((C : Catalogue) → ShowsBy I L C → fault_of C who r ≡ None) → IsRefusalOf I L who r f
refused_for_lack I L who r f lacks fine C shown = subst (λ o. MatchOption o (IsShortOf I L r f) (λ g. f ≡ g)) (sym (fine C shown)) (inl lacks)

-- a plain file with zeros behind its blocks is the grown one
file_grown : (n : ℕ) (b d : List ℕ) (cs ds : List (List ℕ)) (count : ℕ) → 2 < n → is_directory_header n b ≡ false → SaysGrown b d → ds ≡ cs ++ zero_blocks count → file_of n d ds ≡ grown (file_of n b cs) count
unfolding file_of
file_grown n b d cs ds count high kind says more =
    let was = plain_body n b cs high kind in
    let body : body_of n d ds ≡ Plain (body_attributes (body_of n b cs)) (blocks_of (body_of n b cs) ++ zero_blocks count) =
    plain_body n d ds high (says.kind n ∙ kind) ∙ (λ i. Plain (says.attributes i) (more i)) ∙ sym (ap (λ c. Plain (body_attributes c) (blocks_of c ++ zero_blocks count)) was) in
    λ i. record { owner = says.owner i; protection = says.protection i; user_char = says.user_char i; system_char = says.system_char i; ident = says.ident i; body = body i }

-- The file that the user may extend has grown in J.
module _ {I : List (List ℕ)} {L : VolumeLayout} (S : IsSoundBy I L) {who : Uic} {id : FileId} {count : ℕ} (o : IsExtensible I L who id count) where
  abbrev n : ℕ
  n = id.number

  abbrev headers : List ℕ
  headers = n ∷ o.held.others

  abbrev old : List ℕ
  old = o.lbns

  pub has : HasHeaders I L n headers old
  has = (o.held.others, refl, o.held.whole)

  above : 2 < n
  above = let high : 5 < n = o.number in omega arith

  module _ (C : Catalogue) (shown : ShowsBy I L C) where
    there : file_at C id ≡ file_of n (header_at I L n) (contents_of I old)
    there = ap (λ f. unwrap_or f no_file) (o.there C shown)

    so_many : length (blocks_of (file_at C id).body) ≡ length old
    unfolding file_of
    so_many = ap (λ f. length (blocks_of f.body)) there ∙ ap (λ b. length (blocks_of b)) (plain_body n (header_at I L n) (contents_of I old) above o.kind) ∙ length-map old (block_at I)

  module _ {numbers : List ℕ} {J : List (List ℕ)} (g : IsGrownBy I L n headers old count numbers J) where
    still_plain : is_directory_header n (header_at J L n) ≡ false
    still_plain = g.first.kind n ∙ o.kind

    extend_is_shown : (C : Catalogue) → ShowsBy I L C → ShowsBy J L (after C (Extend id count))
    unfolding after
    extend_is_shown C shown = grown_is_put S g.grown id refl o.file.0 o.file.1 C (grown (file_at C id) count) shown
        (grown_file S g.grown id (grown (file_at C id) count) refl (g.first.sequence ∙ o.file.1)
        (file_grown n (header_at I L n) (header_at J L n) (contents_of I old) (contents_of J (old ++ allocated_blocks I L count)) count above o.kind g.first (grown_contents S g.grown g.zeroed)
        ∙ ap (λ f. grown f count) (sym (there C shown))))

    -- the Extend that is not refused is made by that
    pub extend_is_step : IsImage I → (total : ℕ) → total ≡ length old + count → lack_of I L headers count ≡ None → IsStepOf I L who (Extend id count) (Extended total) J L
    unfolding answer_of
    extend_is_step image total is enough = carried_is_step I L who (Extend id count) (Extended total) J refl (none_lacks I L (Extend id count) headers old count (has, refl) enough) (record {
      answered = λ C shown. (o.fine C shown, ap Extended (ap (λ k. k + count) (so_many C shown) ∙ sym is));
      sound = grown_sound S g.grown (λ says. absurd (no_directory n (header_at J L n) still_plain says.1));
      shown = extend_is_shown;
      sequences = sequences_rise S g.grown;
      moves = (may_take I L (Extend id count) headers old count (has, refl) (disk J L) (grown_taken S g.grown image g.made), g.zeroed);
      elsewhere = (g.grown.long, grown_touches S g.grown (Extend id count) (has, refl));
    })
