-- A walk under way: what is passed and what is still to come make the whole walk.
use Rattle.std.proofs.Common.{◌≡◌, inl, inr, ℕ, ◌+◌, ◌<◌, refl, sym, ap, ◌∙◌, subst, Bool, true, List, [], ◌∷◌, ◌++◌, length, map, set, append_assoc, Some, None, arith}
use Rattle.std.specs.List.{All, Contains}
use Rattle.std.specs.Option.{option_map_or}
use Rattle.std.proofs.lemmas.List.{append-nil, map-append, take_at, drop_at, length_push}
use Rattle.std.proofs.lemmas.List.Elements.{All-nil, All-cons, All-contains_itself, All-head, All-tail, All-push, All-append, All-same, All-take, All-drop, All-weaker, All-map}
use Rattle.ods_base.specs.declared.listed.Listed.{Listed}
use Rattle.ods_space.specs.Layout.{VolumeLayout}
use Rattle.ods_walk.specs.declared.tables.Entered.{Entered}
use Rattle.ods_walk.specs.declared.tables.Line.{Line as Placed}
use Rattle.ods_walk.specs.Listing.{IsListing}
use Rattle.ods_walk.specs.Complete.{HasEntry}
use Rattle.ods_walk.specs.Paths.{path_to, number_at, line_in, led_by, IsWalkButFor}
use Rattle.ods_walk.specs.Steps.{AreEntered, IsPast, IsStop, from_top, placed}
use Rattle.ods_walk.specs.Walk.{Line, Walks, IsWalkedInto, below}
use Rattle.ods_walk.proofs.Flagged.{entered_more}
use Rattle.ods_walk.proofs.Reaching.{IsReaching, begin_reaching, keeps_reaching}
use Rattle.ods_walk.proofs.Ways.{way_stays, way_of_new, get_stays, get_new, number_stays, number_of_new}

-- the place of each of these lines is one of the table
abbrev pub ArePlaced : List Entered → List Placed → Type 0
ArePlaced table lines = All (λ l. l.directory < length table) lines

-- each of these lines is an entry of its directory
abbrev pub AreRight : List (List ℕ) → VolumeLayout → List Entered → List Placed → Type 0
AreRight I L table lines = All (λ l. HasEntry I L (number_at table l.directory) l.entry) lines

-- So a walk stands, with this table, these lines passed, these flags and this pile: whatever goes on from here goes on from the start.
pub record IsUnderWay (I : List (List ℕ)) (L : VolumeLayout) (start : ℕ) (closed : List ℕ) (table : List Entered) (lines : List Placed) (flags : List Bool) (pile : List Placed) : Type 0 where
  pub entered : List ℕ
  pub are : AreEntered flags entered
  pub first : List Listed
  pub listing : IsListing I L start first
  pub leads : (rest : List Line) → Walks I L entered (map (line_in table) (from_top pile)) rest → Walks I L (start ∷ 4 ∷ closed) (below [] start first) (map (line_in table) lines ++ rest)
  pub lines_placed : ArePlaced table lines
  pub pile_placed : ArePlaced table (from_top pile)
  pub reaching : IsReaching I L start (4 ∷ closed) table entered lines (from_top pile)
  pub right : AreRight I L table (from_top pile)

-- a directory that is entered changes no line
pub lines_stay : (table : List Entered) (e : Entered) (lines : List Placed) → ArePlaced table lines → map (line_in (table ++ e ∷ [])) lines ≡ map (line_in table) lines
lines_stay table e [] are = refl
lines_stay table e (l ∷ lines) are =
    let within : l.directory < length table = All-head (λ (x : Placed). x.directory < length table) l lines are in
    let one : line_in (table ++ e ∷ []) l ≡ line_in table l =
    λ i. record { path = way_stays table e l.directory within i; directory = option_map_or (λ (x : Entered). x.number) (get_stays table e l.directory within i) 0; entry = l.entry } in
    λ i. one i ∷ lines_stay table e lines (All-tail (λ (x : Placed). x.directory < length table) l lines are) i

-- and its lines are below it
pub lines_below : (table : List Entered) (e : Entered) (entries : List Listed) → map (line_in (table ++ e ∷ [])) (map (placed (length table)) entries) ≡ below (led_by (λ at. path_to table at) e.from) e.number entries
lines_below table e [] = refl
lines_below table e (x ∷ entries) =
    let one : line_in (table ++ e ∷ []) (placed (length table) x) ≡ record { path = led_by (λ at. path_to table at) e.from; directory = e.number; entry = x } =
    λ i. record { path = way_of_new table e i; directory = option_map_or (λ (y : Entered). y.number) (get_new table e i) 0; entry = x } in
    λ i. one i ∷ lines_below table e entries i

-- the places of a front and of a rest
front_placed : (table : List Entered) (front rest : List Placed) → ArePlaced table (front ++ rest) → ArePlaced table front
front_placed table front rest are = subst (ArePlaced table) (take_at front rest (length front) refl) (All-take (λ (x : Placed). x.directory < length table) (length front) (front ++ rest) are)

rest_placed : (table : List Entered) (front rest : List Placed) → ArePlaced table (front ++ rest) → ArePlaced table rest
rest_placed table front rest are = subst (ArePlaced table) (drop_at front rest (length front) refl) (All-drop (λ (x : Placed). x.directory < length table) (length front) (front ++ rest) are)

more_placed : (table : List Entered) (e : Entered) (lines : List Placed) → ArePlaced table lines → ArePlaced (table ++ e ∷ []) lines
more_placed table e lines are =
    let size = length_push table e in
    All-weaker (λ (x : Placed). x.directory < length table) (λ (x : Placed). x.directory < length (table ++ e ∷ [])) (λ x (below_it : x.directory < length table). omega arith) lines are

new_placed : (table : List Entered) (e : Entered) (entries : List Listed) → ArePlaced (table ++ e ∷ []) (map (placed (length table)) entries)
new_placed table e entries =
    let size = length_push table e in
    let within : length table < length (table ++ e ∷ []) = omega arith in
    All-map (λ (x : Placed). x.directory < length (table ++ e ∷ [])) (placed (length table)) entries (λ k d small. within)

module _ {I : List (List ℕ)} {L : VolumeLayout} where
  -- lines stay entries of their directories
  more_right : (table : List Entered) (e : Entered) (lines : List Placed) → ArePlaced table lines → AreRight I L table lines → AreRight I L (table ++ e ∷ []) lines
  more_right table e [] placed right = All-nil (λ (x : Placed). HasEntry I L (number_at (table ++ e ∷ []) x.directory) x.entry)
  more_right table e (l ∷ lines) placed right =
      let within : l.directory < length table = All-head (λ (x : Placed). x.directory < length table) l lines placed in
      let one : HasEntry I L (number_at table l.directory) l.entry = All-head (λ (x : Placed). HasEntry I L (number_at table x.directory) x.entry) l lines right in
      All-cons (λ (x : Placed). HasEntry I L (number_at (table ++ e ∷ []) x.directory) x.entry) l lines (subst (λ k. HasEntry I L k l.entry) (sym (number_stays table e l.directory within)) one)
      (more_right table e lines (All-tail (λ (x : Placed). x.directory < length table) l lines placed) (All-tail (λ (x : Placed). HasEntry I L (number_at table x.directory) x.entry) l lines right))

  -- the lines of a directory that is entered are its entries
  new_right : (table : List Entered) (e : Entered) (entries : List Listed) → IsListing I L e.number entries → AreRight I L (table ++ e ∷ []) (map (placed (length table)) entries)
  new_right table e entries listing =
      All-map (λ (x : Placed). HasEntry I L (number_at (table ++ e ∷ []) x.directory) x.entry) (placed (length table)) entries
      (All-weaker (Contains entries) (λ x. HasEntry I L (number_at (table ++ e ∷ []) (length table)) x)
      (λ x among. subst (λ k. HasEntry I L k x) (sym (number_of_new table e)) (record { lines = entries; listing = listing; among = among })) entries (All-contains_itself entries))

  right_behind : (table : List Entered) (front rest : List Placed) → AreRight I L table (front ++ rest) → AreRight I L table rest
  right_behind table front rest are =
      subst (AreRight I L table) (drop_at front rest (length front) refl) (All-drop (λ (x : Placed). HasEntry I L (number_at table x.directory) x.entry) (length front) (front ++ rest) are)

  -- lines that are not walked into are passed one after another
  pub passing : (table : List Entered) (entered : List ℕ) (passed : List Placed) (pending rest : List Line) → All (λ l. ¬ IsWalkedInto I L entered l.entry) passed → Walks I L entered pending rest
      → Walks I L entered (map (line_in table) passed ++ pending) (map (line_in table) passed ++ rest)
  passing table entered [] pending rest none walks = walks
  passing table entered (p ∷ ps) pending rest none walks = (
    refl,
    inr (All-head (λ (l : Placed). ¬ IsWalkedInto I L entered l.entry) p ps none, passing table entered ps pending rest (All-tail (λ (l : Placed). ¬ IsWalkedInto I L entered l.entry) p ps none) walks),
  )

  module _ {start : ℕ} {closed : List ℕ} {table : List Entered} {lines : List Placed} {flags : List Bool} {pile : List Placed} (u : IsUnderWay I L start closed table lines flags pile) where
    abbrev pub shown : List Placed → List Line
    shown ls = map (line_in table) ls

    -- nothing is left
    pub arrived : (after : List Placed) → IsPast I L flags pile lines after → IsWalkButFor I L start closed (record { directories = table; lines = after })
    arrived after past =
        let all = shown (from_top pile) in
        let goes : Walks I L u.entered (all ++ []) (all ++ []) = passing table u.entered (from_top pile) [] [] (past.are u.entered u.are) tt in
        let whole = u.leads all (subst (λ l. Walks I L u.entered l l) (append-nil all) goes) in
        let same : shown lines ++ all ≡ shown after = sym (map-append (line_in table) lines (from_top pile)) ∙ ap shown (sym past.lines) in
        (u.first, u.listing, subst (Walks I L (start ∷ 4 ∷ closed) (below [] start u.first)) same whole)

    -- a directory is walked into
    module _ {rest after : List Placed} {line : Placed} (stop : IsStop I L flags pile lines rest after line) where
      abbrev pub n : ℕ
      n = line.entry.file.number

      abbrev pub new : Entered
      new = record { number = n; from = Some (line.directory, line.entry.name) }

      all_placed : ArePlaced table (stop.passed ++ line ∷ from_top rest)
      all_placed = subst (ArePlaced table) stop.order u.pile_placed

      ahead : ArePlaced table (line ∷ from_top rest)
      ahead = rest_placed table stop.passed (line ∷ from_top rest) all_placed

      rest_is_placed : ArePlaced table (from_top rest)
      rest_is_placed = All-tail (λ (x : Placed). x.directory < length table) line (from_top rest) ahead

      after_placed : ArePlaced table after
      after_placed = All-same (λ (x : Placed). x.directory < length table) after (lines ++ (stop.passed ++ line ∷ [])) stop.lines
          (All-append (λ (x : Placed). x.directory < length table) lines (stop.passed ++ line ∷ []) u.lines_placed
          (All-push (λ (x : Placed). x.directory < length table) stop.passed line (front_placed table stop.passed (line ∷ from_top rest) all_placed) (All-head (λ (x : Placed). x.directory < length table) line (from_top rest) ahead)))

      -- what goes on behind the lines that are passed goes on from the start
      goes_on : (entries : List Listed) → IsListing I L n entries → (more : List Line) → Walks I L (n ∷ u.entered) (below (path_to table line.directory ++ line.entry.name ∷ []) n entries ++ shown (from_top rest)) more
          → Walks I L (start ∷ 4 ∷ closed) (below [] start u.first) (shown after ++ more)
      goes_on entries listing more walks =
          let one : Walks I L u.entered (line_in table line ∷ shown (from_top rest)) (line_in table line ∷ more) = (refl, inl (stop.into u.entered u.are, entries, listing, walks)) in
          let goes = passing table u.entered stop.passed (line_in table line ∷ shown (from_top rest)) (line_in table line ∷ more) (stop.are u.entered u.are) one in
          let pile_is : shown stop.passed ++ line_in table line ∷ shown (from_top rest) ≡ shown (from_top pile) = sym (map-append (line_in table) stop.passed (line ∷ from_top rest)) ∙ ap shown (sym stop.order) in
          let whole = u.leads (shown stop.passed ++ line_in table line ∷ more) (subst (λ p. Walks I L u.entered p (shown stop.passed ++ line_in table line ∷ more)) pile_is goes) in
          let seen : shown after ≡ shown lines ++ (shown stop.passed ++ line_in table line ∷ []) =
          ap shown stop.lines ∙ map-append (line_in table) lines (stop.passed ++ line ∷ []) ∙ ap (λ l. shown lines ++ l) (map-append (line_in table) stop.passed (line ∷ [])) in
          let same : shown lines ++ (shown stop.passed ++ line_in table line ∷ more) ≡ shown after ++ more =
          ap (λ l. shown lines ++ l) (sym (append_assoc (shown stop.passed) (line_in table line ∷ []) more)) ∙ sym (append_assoc (shown lines) (shown stop.passed ++ line_in table line ∷ []) more) ∙ ap (λ l. l ++ more) (sym seen) in
          subst (Walks I L (start ∷ 4 ∷ closed) (below [] start u.first)) same whole

      rest_right : AreRight I L table (line ∷ from_top rest)
      rest_right = right_behind table stop.passed (line ∷ from_top rest) (subst (AreRight I L table) stop.order u.right)

      pub entering : (next : List Placed) (entries : List Listed) → n < 65536 → IsListing I L n entries → from_top next ≡ map (placed (length table)) entries ++ from_top rest
          → IsUnderWay I L start closed (table ++ new ∷ []) after (set flags n true) next
      entering next entries small listing order =
          let path = path_to table line.directory ++ line.entry.name ∷ [] in
          let pile_is : map (line_in (table ++ new ∷ [])) (from_top next) ≡ below path n entries ++ shown (from_top rest) =
          ap (map (line_in (table ++ new ∷ []))) order ∙ map-append (line_in (table ++ new ∷ [])) (map (placed (length table)) entries) (from_top rest)
          ∙ (λ i. lines_below table new entries i ++ lines_stay table new (from_top rest) rest_is_placed i) in
          record {
            entered = n ∷ u.entered;
            are = entered_more flags u.entered n small u.are;
            first = u.first;
            listing = u.listing;
            leads = λ more walks. subst (λ l. Walks I L (start ∷ 4 ∷ closed) (below [] start u.first) (l ++ more)) (sym (lines_stay table new after after_placed))
                (goes_on entries listing more (subst (λ p. Walks I L (n ∷ u.entered) p more) pile_is walks));
            lines_placed = more_placed table new after after_placed;
            pile_placed = All-same (λ (x : Placed). x.directory < length (table ++ new ∷ [])) (from_top next) (map (placed (length table)) entries ++ from_top rest) order
                (All-append (λ (x : Placed). x.directory < length (table ++ new ∷ [])) (map (placed (length table)) entries) (from_top rest) (new_placed table new entries) (more_placed table new (from_top rest) rest_is_placed));
            reaching = keeps_reaching u.reaching stop.passed line (from_top rest) stop.order (stop.are u.entered u.are) (stop.into u.entered u.are)
                (All-head (λ (x : Placed). HasEntry I L (number_at table x.directory) x.entry) line (from_top rest) rest_right) (All-head (λ (x : Placed). x.directory < length table) line (from_top rest) ahead) entries listing
                after (from_top next) stop.lines order;
            right = All-same (λ (x : Placed). HasEntry I L (number_at (table ++ new ∷ []) x.directory) x.entry) (from_top next) (map (placed (length table)) entries ++ from_top rest) order
                (All-append (λ (x : Placed). HasEntry I L (number_at (table ++ new ∷ []) x.directory) x.entry) (map (placed (length table)) entries) (from_top rest) (new_right table new entries listing)
                (more_right table new (from_top rest) rest_is_placed (All-tail (λ (x : Placed). HasEntry I L (number_at table x.directory) x.entry) line (from_top rest) rest_right)));
          }

-- so it begins
pub begins : (I : List (List ℕ)) (L : VolumeLayout) (start : ℕ) (closed : List ℕ) (flags : List Bool) (pile : List Placed) (entries : List Listed) → AreEntered flags (start ∷ 4 ∷ closed) → IsListing I L start entries
    → from_top pile ≡ map (placed 0) entries → IsUnderWay I L start closed (record { number = start; from = None } ∷ []) [] flags pile
begins I L start closed flags pile entries are listing order =
    let e : Entered = record { number = start; from = None } in
    let pile_is : map (line_in (e ∷ [])) (from_top pile) ≡ below [] start entries = ap (map (line_in (e ∷ []))) order ∙ lines_below [] e entries in
    record {
      entered = start ∷ 4 ∷ closed;
      are = are;
      first = entries;
      listing = listing;
      leads = λ more walks. subst (λ p. Walks I L (start ∷ 4 ∷ closed) p more) pile_is walks;
      lines_placed = All-nil (λ (x : Placed). x.directory < 1);
      pile_placed = All-same (λ (x : Placed). x.directory < 1) (from_top pile) (map (placed 0) entries) order (new_placed [] e entries);
      reaching = begin_reaching start (4 ∷ closed) entries (from_top pile) listing order;
      right = All-same (λ (x : Placed). HasEntry I L (number_at (e ∷ []) x.directory) x.entry) (from_top pile) (map (placed 0) entries) order (new_right [] e entries listing);
    }
