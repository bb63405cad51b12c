-- A file on the volume with which a request goes on: what was known of it is known still.
use Rattle.std.proofs.Common.{◌≡◌, ℕ, ◌≤◌, ◌<◌, refl, ap, sym, ◌∙◌, subst, List, [], ◌∷◌, drop, None, Some, arith}
use Rattle.std.specs.List.{Contains}
use Rattle.std.specs.FinMap as map
use Rattle.ods_base.specs.Image.{IsImage}
use Rattle.ods_base.specs.declared.file_id.FileId.{FileId}
use Rattle.ods_base.specs.declared.file_id.Uic.{Uic}
use Rattle.ods_header.specs.Header.{is_directory_header, sequence_of}
use Rattle.ods_space.specs.Layout.{VolumeLayout, header_at}
use Rattle.ods_space.specs.Chain.{index_for}
use Rattle.ods_space.specs.Files.{IsWhole}
use Rattle.ods_space.proofs.Chains.{same_chain}
use Rattle.ods_alloc.specs.Extend.{last_of}
use Rattle.ods_alloc.proofs.Fields.{last_in}
use Rattle.ods_mount.specs.Sound.{IsSoundBy}
use Rattle.ods_request.specs.declared.requests.Request.TheVariants.{Extend}
use Rattle.ods_state.specs.Contents.{file_of}
use Rattle.ods_state.specs.Wants.{HasHeaders, index_blocks, lack_of}
use Rattle.ods_state.proofs.Chains.{first_in}
use Rattle.ods_look.specs.Opening.{file_shown}
use Rattle.ods_alloc.specs.declared.end.ChainEnd.{ChainEnd}
use Rattle.ods_alloc.specs.Ends.{IsEndOf}
use Rattle.ods_change.specs.Extending.{IsExtensible}
use Rattle.ods_change.proofs.Begun.{IsAsked, IsKept}
use Rattle.ods_change.proofs.ExtendingFile.{has}

-- the chain of a file ends where it ended
pub end_kept : {I : List (List ℕ)} {L : VolumeLayout} {K : List (List ℕ)} {M : VolumeLayout} {n : ℕ} {headers old : List ℕ} (end : ChainEnd) (was : HasHeaders I L n headers old) (now : HasHeaders K M n headers old)
    → ((m : ℕ) → Contains headers m → header_at K M m ≡ header_at I L m) → IsEndOf I L n end → IsEndOf K M n end
end_kept {I = I} {L = L} {K = K} {M = M} {n = n} {headers = headers} {old = old} end was now own e =
    let at : end.number ≡ last_of n was.0 = e.number was.0 old was.2.chain in
    record {
      number = λ others blocks chain.
          at ∙ ap (last_of n) (ap (drop 1) (sym was.1 ∙ now.1) ∙ sym (same_chain K M.home (index_for M n) [] 0 n others blocks now.0 old chain now.2.chain).0);
      last = e.last ∙ sym (own end.number (subst (λ l. Contains l end.number) (sym was.1) (subst (Contains (n ∷ was.0)) (sym at) (last_in n was.0))));
    }

module _ {I : List (List ℕ)} {L : VolumeLayout} {who : Uic} {id : FileId} {count : ℕ} (o : IsExtensible I L who id count) where
  abbrev n : ℕ
  n = id.number

  abbrev headers : List ℕ
  headers = n ∷ o.held.others

  pub above_reserved : 3 ≤ n
  above_reserved = let high : 5 < n = o.number in omega arith

  -- what an Extend asks
  pub asked_of_extend : IsImage I → (S : IsSoundBy I L) → lack_of I L headers count ≡ None → {places : List ℕ} → places ≡ index_blocks I L headers count → IsAsked I L (Extend id count) headers o.lbns count places
  asked_of_extend image S enough are = record {
    image = image;
    sound = S;
    wants = (has S o, refl);
    file = λ m others is. let same : n ≡ m = cc in subst (λ k. 3 ≤ k) same above_reserved;
    enough = enough;
    are = are;
  }

  -- the file may be extended on the volume with which the request goes on
  module _ {K : List (List ℕ)} {M : VolumeLayout} (k : IsKept I L headers o.lbns count K M) where
    was : HasHeaders I L n headers o.lbns
    was = (o.held.others, refl, o.held.whole)

    now : HasHeaders K M n headers o.lbns
    now = k.has n above_reserved was

    pub header : header_at K M n ≡ header_at I L n
    header = k.own n (first_in n o.held.others)

    pub same_shown : file_shown K M id o.lbns ≡ file_shown I L id o.lbns
    same_shown = λ i. file_of n (header i) (k.contents n above_reserved was i)

    pub whole_now : IsWhole K M n o.held.others o.lbns
    whole_now = subst (λ l. IsWhole K M n l o.lbns) (ap (drop 1) (sym now.1)) now.2

    abbrev pub extensible_then : IsExtensible K M who id count
    extensible_then = record {
      file = (k.file n o.file.0, ap sequence_of header ∙ o.file.1);
      number = o.number;
      kind = ap (is_directory_header n) header ∙ o.kind;
      count_fits = o.count_fits;
      lbns = o.lbns;
      held = record { file = k.file n o.held.file; others = o.held.others; whole = whole_now };
      there = λ C shown. o.there C (k.shown C shown) ∙ ap Some (sym same_shown);
      fine = λ C shown. o.fine C (k.shown C shown);
    }
