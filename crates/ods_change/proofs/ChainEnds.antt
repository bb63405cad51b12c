-- The ends of a chain whose first header is written anew.
use Rattle.std.proofs.Common.{◌≡◌, ◌≢◌, ℕ, List, drop, sym, ap, ◌∙◌}
use Rattle.ods_space.specs.Layout.{VolumeLayout, header_at}
use Rattle.ods_alloc.specs.declared.end.ChainEnd.{ChainEnd}
use Rattle.ods_alloc.specs.Ends.{AreEnds, IsEndOf}
use Rattle.ods_alloc.specs.Extend.{last_of}
use Rattle.ods_state.specs.Wants.{HasHeaders}

-- Its other headers stay, and those behind the first are said in other words.
pub ends_asked : (I K : List (List ℕ)) (L : VolumeLayout) (n : ℕ) (headers blocks first : List ℕ) (end : ChainEnd) {behind : List ℕ} → HasHeaders I L n headers blocks → IsEndOf I L n end → behind ≡ drop 1 headers
    → (header_at K L n ≡ first) × ((m : ℕ) → m ≢ n → header_at K L m ≡ header_at I L m) → AreEnds K L n behind first end
ends_asked I K L n headers blocks first end has is same there = record {
  first = sym there.0;
  number = is.number has.0 blocks has.2.chain ∙ ap (last_of n) (sym (same ∙ ap (drop 1) has.1));
  last = λ apart. is.last ∙ sym (there.1 end.number apart);
}
