-- The first header of a new file, as it is written, before its chain grows.
use Rattle.std.proofs.Common.{◌≡◌, ℕ, ◌/◌, List, [], length, ap, subst, ◌∙◌, arith}
use Rattle.std.proofs.lemmas.List.FromFn.{length-map-range_with_len}
use Rattle.ods_base.specs.Name.{RadName}
use Rattle.ods_base.specs.declared.file_id.FileId.{FileId}
use Rattle.ods_base.specs.declared.file_id.Uic.{Uic}
use Rattle.ods_header.specs.Header.{IsValidHeader, map_word, most_words_of, room_of, run_at, runs_of, used_words_of}
use Rattle.ods_header.proofs.Made.{zeros_behind}
use Rattle.ods_space.specs.Layout.{VolumeLayout, header_at}
use Rattle.ods_state.specs.Growth.{IsNewFirst}
use Rattle.ods_change.specs.Creating.{IsNewHeaderFor, new_id}

-- a header of that form with no pointer has room for 102
whole_room : (b : List ℕ) (n : ℕ) → IsValidHeader b n → runs_of b ≡ [] → map_word b ≡ 46 → most_words_of b ≡ 204 → room_of b ≡ 204
unfolding runs_of
whole_room b n valid none map most =
    let size = length-map-range_with_len (run_at b) 0 (used_words_of b / 2) in
    let even = valid.header.layout.even in
    omega (arith, size, ap length none)

pub new_first : (I : List (List ℕ)) (L : VolumeLayout) (n : ℕ) (who : Uic) (protection : ℕ) (id : FileId) (name : RadName) (version count : ℕ) (stamp b : List ℕ) → id ≡ new_id I L n
    → IsNewHeaderFor who protection id name version count stamp b → IsNewFirst (header_at I L n) b n
new_first I L n who protection id name version count stamp b is h =
    let number : id.number ≡ n = ap (λ f. f.number) is in
    let none : runs_of b ≡ [] = ap (λ f. f.pointers.items) h.fields in
    let map : map_word b ≡ 46 = ap (λ f. f.map_offset) h.fields in
    let most : most_words_of b ≡ 204 = ap (λ f. f.most_words) h.fields in
    record {
      valid = subst (λ m. IsValidHeader b m) number h.valid;
      segment = ap (λ f. f.segment) h.fields;
      alone = ap (λ f. f.next.number) h.fields;
      clean = ap (λ f. f.next.sequence) h.fields;
      pointers = none;
      room = whole_room b id.number h.valid none map most;
      form = record {
        ident = ap (λ f. f.ident_offset) h.fields;
        map = map;
        most = most;
        volume = ap (λ f. f.next_volume) h.fields;
        rest = zeros_behind b id.number 0 h.valid map (ap length none) h.rest;
      };
      sequence = ap (λ f. f.file.sequence) h.fields ∙ ap (λ f. f.sequence) is;
    }
