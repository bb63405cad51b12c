-- The form of a list of accepted requests: a row for each entry, and two pools next to the rows for large answers.
use Rattle.std.specs.Prelude.{◌≡◌, ℕ, ◌<◌, ◌≤◌, List, [], ◌++◌, All, length, slice_index_or}
use Rattle.ods_request.specs.declared.answers.Answer.{Answer}
use Rattle.ods_request.specs.declared.answers.Answer.TheVariants as answer
use Rattle.ods_request.specs.declared.answers.Entry.{Entry}
use Rattle.ods_request.specs.declared.answers.Kind.TheVariants.{System}
use Rattle.ods_request.specs.declared.answers.Stat.{Stat}
use Rattle.ods_volume.specs.declared.entries.EntryRow.{EntryRow}
use Rattle.ods_volume.specs.declared.entries.RowAnswer.{RowAnswer}
use Rattle.ods_volume.specs.declared.entries.RowAnswer.TheVariants as row

-- what contracts see of a list: its entries, and the number of entries for which it has memory
pub record EntryList : Type 0 where
  pub items : List Entry
  pub room : ℕ

-- the value of a pool past its end; no row refers to it
pub no_stat : Stat
no_stat = record { file = record { number = 0; sequence = 0 }; ident = []; owner = record { group = 0; member = 0 }; protection = 0; user_char = 0; system_char = 0; kind = System }

-- the answer of a row, by the blocks and the stats of the pools
abbrev pub answer_in : List (List ℕ) → List Stat → RowAnswer → Answer
answer_in blocks stats (row.Created file) = answer.Created file
answer_in blocks stats (row.Extended count) = answer.Extended count
answer_in blocks stats (row.Truncated count) = answer.Truncated count
answer_in blocks stats row.Done = answer.Done
answer_in blocks stats (row.Entered version) = answer.Entered version
answer_in blocks stats (row.Found file version) = answer.Found file version
answer_in blocks stats (row.Removed file version) = answer.Removed file version
answer_in blocks stats (row.Bytes at) = answer.Bytes (slice_index_or blocks at [])
answer_in blocks stats (row.Names lines) = answer.Names lines
answer_in blocks stats (row.Info at) = answer.Info (slice_index_or stats at no_stat)

-- the entry of a row
abbrev pub entry_in : List (List ℕ) → List Stat → EntryRow → Entry
entry_in blocks stats r = record { session = r.session; nth = r.nth; who = r.who; request = r.request; answer = answer_in blocks stats r.answer }

-- a row refers only to indexes in pools of these lengths
abbrev pub IsWithin : ℕ → ℕ → RowAnswer → Type 0
IsWithin blocks stats (row.Bytes at) = at < blocks
IsWithin blocks stats (row.Info at) = at < stats
IsWithin blocks stats _ = Unit {0}

-- each row is within the pools; no pool holds more than there are rows, or has less room
pub record IsPooled (rows : List EntryRow) (blocks : List (List ℕ)) (stats : List Stat) (room block_room stat_room : ℕ) : Type 0 where
  pub within : All (λ (r : EntryRow). IsWithin (length blocks) (length stats) r.answer) rows
  pub blocks_few : length blocks ≤ length rows
  pub stats_few : length stats ≤ length rows
  pub blocks_fit : room ≤ block_room
  pub stats_fit : room ≤ stat_room

-- the pools have grown by no more than one element each, and the row shows this answer
pub record IsPut (old new : List (List ℕ)) (was now : List Stat) (a : Answer) (r : RowAnswer) : Type 0 where
  pub more : List (List ℕ)
  pub blocks : new ≡ old ++ more
  pub blocks_one : length more ≤ 1
  pub others : List Stat
  pub stats : now ≡ was ++ others
  pub stats_one : length others ≤ 1
  pub within : IsWithin (length new) (length now) r
  pub shows : answer_in new now r ≡ a
