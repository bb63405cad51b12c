-- Rows over pools that grow.
use Rattle.std.proofs.Common.{◌≡◌, ℕ, refl, sym, ap, subst, ◌∙◌, List, [], ◌∷◌, ◌++◌, ◌+◌, ◌<◌, All, length, map, slice_index_or, arith}
use Rattle.std.proofs.Math.Seq.{get_or-append_seam}
use Rattle.std.proofs.lemmas.List.{append-nil, get_or_append_left, get_or-map, length-append, length-map, map-append}
use Rattle.std.proofs.lemmas.List.Elements.{All-append, All-cons, All-head, All-nil, All-tail}
use Rattle.ods_request.specs.declared.answers.Answer.{Answer}
use Rattle.ods_request.specs.declared.answers.Answer.TheVariants as answer
use Rattle.ods_request.specs.declared.answers.Entry.{Entry}
use Rattle.ods_request.specs.declared.answers.Stat.{Stat}
use Rattle.ods_volume.specs.declared.entries.EntryRow.{EntryRow}
use Rattle.ods_volume.specs.declared.entries.RowAnswer.{RowAnswer}
use Rattle.ods_volume.specs.declared.entries.RowAnswer.TheVariants as row
use Rattle.ods_volume.specs.Entries.{answer_in, entry_in, no_stat, IsWithin, IsPooled, IsPut}

-- an answer of which nothing goes into a pool
pub put_nothing : (blocks : List (List ℕ)) (stats : List Stat) (a : Answer) (r : RowAnswer) → answer_in blocks stats r ≡ a → IsWithin (length blocks) (length stats) r → IsPut blocks blocks stats stats a r
put_nothing blocks stats a r shows within = record {
  more = [];
  blocks = sym (append-nil blocks);
  blocks_one = omega arith;
  others = [];
  stats = sym (append-nil stats);
  stats_one = omega arith;
  within = within;
  shows = shows;
}

-- what is shown of a file goes into its pool
pub put_stat : (blocks : List (List ℕ)) (was now : List Stat) (a : Answer) (stat : Stat) (at : ℕ) → a ≡ answer.Info stat → at ≡ length was → now ≡ was ++ stat ∷ []
    → IsPut blocks blocks was now a (row.Info at)
put_stat blocks was now a stat at is place grown = record {
  more = [];
  blocks = sym (append-nil blocks);
  blocks_one = omega arith;
  others = stat ∷ [];
  stats = grown;
  stats_one = omega arith;
  within = omega (arith, ap length grown, length-append was (stat ∷ []));
  shows = (λ i. answer.Info (slice_index_or (grown i) (place i) no_stat)) ∙ (ap answer.Info (get_or-append_seam was stat [] no_stat) ∙ sym is);
}

module _ (blocks more : List (List ℕ)) (stats others : List Stat) where
  -- a row stays within pools that grow,
  within_grown : (r : RowAnswer) → IsWithin (length blocks) (length stats) r → IsWithin (length (blocks ++ more)) (length (stats ++ others)) r
  within_grown (row.Created file) h = tt
  within_grown (row.Extended count) h = tt
  within_grown (row.Truncated count) h = tt
  within_grown row.Done h = tt
  within_grown (row.Entered version) h = tt
  within_grown (row.Found file version) h = tt
  within_grown (row.Removed file version) h = tt
  within_grown (row.Bytes at) h = omega (arith, length-append blocks more, h)
  within_grown (row.Names lines) h = tt
  within_grown (row.Info at) h = omega (arith, length-append stats others, h)

  -- and shows what it showed
  shows_still : (r : RowAnswer) → IsWithin (length blocks) (length stats) r → answer_in (blocks ++ more) (stats ++ others) r ≡ answer_in blocks stats r
  shows_still (row.Created file) h = refl
  shows_still (row.Extended count) h = refl
  shows_still (row.Truncated count) h = refl
  shows_still row.Done h = refl
  shows_still (row.Entered version) h = refl
  shows_still (row.Found file version) h = refl
  shows_still (row.Removed file version) h = refl
  shows_still (row.Bytes at) h = ap answer.Bytes (get_or_append_left blocks more [] at h)
  shows_still (row.Names lines) h = refl
  shows_still (row.Info at) h = ap answer.Info (get_or_append_left stats others no_stat at h)

  abbrev In : EntryRow → Type 0
  In r = IsWithin (length blocks) (length stats) r.answer

  abbrev InGrown : EntryRow → Type 0
  InGrown r = IsWithin (length (blocks ++ more)) (length (stats ++ others)) r.answer

  all_within_grown : (rows : List EntryRow) → All In rows → All InGrown rows
  all_within_grown [] h = All-nil InGrown
  all_within_grown (r ∷ rows) h = All-cons InGrown r rows (within_grown r.answer (All-head In r rows h)) (all_within_grown rows (All-tail In r rows h))

  entries_still : (rows : List EntryRow) → All In rows → map (entry_in (blocks ++ more) (stats ++ others)) rows ≡ map (entry_in blocks stats) rows
  entries_still [] h = refl
  entries_still (r ∷ rows) h =
      let same = shows_still r.answer (All-head In r rows h) in
      let rest = entries_still rows (All-tail In r rows h) in
      λ i. record { session = r.session; nth = r.nth; who = r.who; request = r.request; answer = same i } ∷ rest i

-- A row with its answer put, behind the others: what the list is then, and that it is pooled.
module _ (rows after : List EntryRow) (r : EntryRow) (old new : List (List ℕ)) (was now : List Stat) (a : Answer) (put : IsPut old new was now a r.answer) (room block_room stat_room : ℕ)
    (kept : IsPooled rows old was room block_room stat_room) (grown : after ≡ rows ++ r ∷ []) where
  pub pooled_grown : (x y z : ℕ) → x ≡ room → y ≡ block_room → z ≡ stat_room → IsPooled after new now x y z
  pooled_grown x y z room_is block_room_is stat_room_is =
      let more_rows : length after ≡ length rows + 1 = omega (arith, ap length grown, length-append rows (r ∷ [])) in
      let P : EntryRow → Type 0 = λ (s : EntryRow). IsWithin (length new) (length now) s.answer in
      let earlier : All P rows = subst (λ (b : List (List ℕ)). All (λ (s : EntryRow). IsWithin (length b) (length now) s.answer) rows) (sym put.blocks)
      (subst (λ (l : List Stat). All (λ (s : EntryRow). IsWithin (length (old ++ put.more)) (length l) s.answer) rows) (sym put.stats) (all_within_grown old put.more was put.others rows kept.within)) in
      record {
        within = subst (All P) (sym grown) (All-append P rows (r ∷ []) earlier (All-cons P r [] put.within (All-nil P)));
        blocks_few = omega (arith, kept.blocks_few, more_rows, ap length put.blocks, length-append old put.more, put.blocks_one);
        stats_few = omega (arith, kept.stats_few, more_rows, ap length put.stats, length-append was put.others, put.stats_one);
        blocks_fit = omega (arith, kept.blocks_fit, room_is, block_room_is);
        stats_fit = omega (arith, kept.stats_fit, room_is, stat_room_is);
      }

  pub entries_grown : map (entry_in new now) after ≡ map (entry_in old was) rows ++ record { session = r.session; nth = r.nth; who = r.who; request = r.request; answer = a } ∷ []
  entries_grown =
      let earlier : map (entry_in new now) rows ≡ map (entry_in old was) rows = (λ i. map (entry_in (put.blocks i) (put.stats i)) rows) ∙ entries_still old put.more was put.others rows kept.within in
      ap (map (entry_in new now)) grown ∙ (map-append (entry_in new now) rows (r ∷ [])
      ∙ (λ i. earlier i ++ record { session = r.session; nth = r.nth; who = r.who; request = r.request; answer = put.shows i } ∷ []))

-- what a row shows is the entry at its place
pub row_shows : (rows : List EntryRow) (blocks : List (List ℕ)) (stats : List Stat) (at : ℕ) (x : EntryRow) (e : Entry) → at < length (map (entry_in blocks stats) rows) → x ≡ slice_index_or rows at x
    → slice_index_or (map (entry_in blocks stats) rows) at e ≡ entry_in blocks stats x
row_shows rows blocks stats at x e place is =
    get_or-map (entry_in blocks stats) rows at x e (omega (arith, place, length-map rows (entry_in blocks stats))) ∙ ap (entry_in blocks stats) (sym is)
