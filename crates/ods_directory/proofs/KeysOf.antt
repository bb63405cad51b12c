-- Whether two entries have one key, by their keys in order.
use Rattle.std.proofs.Common.{◌≡◌, ℕ, ◌+◌, Bool, true, false, List, map, length, sym, ap, ◌∙◌, arith}
use Rattle.std.specs.Prelude.{MatchBool}
use Rattle.std.specs.List.Sorted.{IsPermutation}
use Rattle.std.proofs.lemmas.List.Sorted.{IsPermutation-sym}
use Rattle.ods_base.specs.declared.file_id.FileId.{FileId}
use Rattle.ods_directory.specs.Entry.{Entry}
use Rattle.ods_directory.specs.Lines.{IsInOrder, HasTwinNeighbours, HasNoTwinNeighbours}
use Rattle.ods_directory.specs.Names.{AreDistinct, HasTwins, HasTwoOf}
use Rattle.ods_directory.proofs.InOrder.{strictly_sorted, no_twins}
use Rattle.ods_directory.proofs.Keyed.{two_moved, taken_to, map_at}

abbrev entry_key : Entry → List ℕ
entry_key e = e.key

abbrev itself : List ℕ → List ℕ
itself key = key

abbrev no_file : List ℕ → FileId
no_file key = record { number = 0; sequence = 0 }

-- the keys of these entries, put into order
module _ (es : List Entry) (keys : List (List ℕ)) (permuted : IsPermutation (map entry_key es) keys) (order : IsInOrder itself keys) where
  twins_found : HasTwinNeighbours itself keys → HasTwins es
  twins_found h =
      let t = two_moved itself keys (map entry_key es) (IsPermutation-sym (map entry_key es) keys permuted) (record {
        i = h.at;
        j = h.at + 1;
        apart = omega arith;
        one = h.one;
        other = h.other;
        first = h.first;
        second = h.second;
        same = h.same;
      }) in
      let one = taken_to entry_key es t.i t.one t.first in
      let other = taken_to entry_key es t.j t.other t.second in
      record {
        i = t.i;
        j = t.j;
        apart = t.apart;
        one = one.element;
        other = other.element;
        first = one.there;
        second = other.there;
        same = one.same ∙ t.same ∙ sym other.same;
      }

  distinct_found : HasNoTwinNeighbours itself keys (length keys) → AreDistinct es
  distinct_found alone i j apart e f there here same =
      let t = two_moved itself (map entry_key es) keys permuted (record {
        i = i;
        j = j;
        apart = apart;
        one = e.key;
        other = f.key;
        first = map_at entry_key es i e there;
        second = map_at entry_key es j f here;
        same = same;
      }) in
      no_twins itself no_file keys (strictly_sorted itself no_file keys order alone) t.i t.j t.apart t.one t.other t.first t.second t.same

  pub found : (b : Bool) → MatchBool b (HasTwinNeighbours itself keys) (HasNoTwinNeighbours itself keys (length keys)) → MatchBool b (HasTwins es) (AreDistinct es)
  found true h = twins_found h
  found false h = distinct_found h
