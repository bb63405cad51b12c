-- A catalogue with one more file, request by request.
use Rattle.std.proofs.Common.{◌≡◌, ◌≢◌, ℕ, ◌-◌, refl, ap, sym, ◌∙◌, subst, Bool, true, false, cond, List, ◌++◌, replicate, Some}
use Rattle.std.specs.Prelude.{◌==◌, slice_set, unwrap_or}
use Rattle.std.specs.FinMap as map
use Rattle.std.specs.Ordering.{eq_by_cmp}
use Rattle.std.proofs.lemmas.Bool.{eqb-true}
use Rattle.ods_base.specs.declared.file_id.FileId.{FileId}
use Rattle.ods_base.specs.Name.{directory_type}
use Rattle.ods_space.specs.Layout.{VolumeLayout}
use Rattle.ods_mount.specs.Sound.{IsSoundBy}
use Rattle.ods_request.specs.declared.answers.Answer.{Answer}
use Rattle.ods_request.specs.declared.answers.Answer.TheVariants as answer
use Rattle.ods_request.specs.declared.requests.Request.{Request}
use Rattle.ods_request.specs.declared.requests.Request.TheVariants.{Create, Extend, Write, SetUser}
use Rattle.ods_request.specs.Catalogue.{Catalogue, File, Body, Plain, Directory, file_cmp, blocks_of}
use Rattle.ods_request.specs.Steps.{change, after, create, created, created_id, put, grown, written, with_body, file_at, no_file, new_file, new_body, zero_blocks, is_new}
use Rattle.ods_request.specs.Table.{creates}
use Rattle.ods_request.proofs.Orders.{file_cmp-total}
use Rattle.ods_request.proofs.StepLaws.{changed, determined, given}
use Rattle.ods_request.proofs.FrameLaws.{created_new}
use Rattle.ods_state.specs.Contents.{ShowsBy, IsCatalogueOf}
use Rattle.ods_state.proofs.Exists.{the_catalogue, has_catalogue}
use Rattle.ods_state.proofs.One.{files_are_one}
use Rattle.ods_state.proofs.Shown.{get_put}
use Rattle.ods_mount.proofs.Layouts.{layout_is_one}
use Rattle.ods_filing.specs.Filed.{Filed, IsDone}
use Rattle.ods_filing.specs.Put.{Heading, IsAdded, file_with}
use Rattle.ods_filing.proofs.Done.{same_shown}

-- a file that is put twice is the one put last
twice : (C : Catalogue) (id : FileId) (f g : File) (q : FileId) → map.get (map.insert (map.insert C.files id f) id g) q ≡ map.get (map.insert C.files id g) q
twice C id f g q =
    map.get-insert file_cmp-total (map.insert C.files id f) id g q
    ∙ ap (λ o. cond (eq_by_cmp file_cmp q id) (Some g) o) (map.get-insert file_cmp-total C.files id f q)
    ∙ by (eq_by_cmp file_cmp q id)
    ∙ sym (map.get-insert file_cmp-total C.files id g q)
  where
    by : (b : Bool) → cond b (Some g) (cond b (Some f) (map.get C.files q)) ≡ cond b (Some g) (map.get C.files q)
    by true = refl
    by false = refl

pub shown_once : (J : List (List ℕ)) (M : VolumeLayout) (C : Catalogue) (id : FileId) (f g : File) → ShowsBy J M (put (created C id f) id g) → ShowsBy J M (created C id g)
shown_once J M C id f g s = record {
  there = λ q h e. s.there q h (twice C id f g q ∙ e);
  all = λ q h i. sym (twice C id f g q) ∙ s.all q h i;
  default = s.default;
}

-- the new file is there
pub there : (C : Catalogue) (id : FileId) (f : File) → file_at (created C id f) id ≡ f
there C id f = ap (λ o. unwrap_or o no_file) (get_put C id f)

module _ (old mid new : Filed) (h : Heading) (id : FileId) (a : Answer) where
  -- a request that makes no file leaves what it leaves of each catalogue
  left_by : (r : Request) → IsDone mid r a new → mid.user ≡ old.user → creates r ≡ false → (C : Catalogue) → ShowsBy mid.image mid.layout C → ShowsBy new.image new.layout (after C r)
  left_by r done user makes_none C s =
      let made = done.steps C s (λ n yes e. let wrong : false ≡ true = sym makes_none ∙ yes in absurd (cc)) in
      subst (ShowsBy new.image new.layout) (determined C made.0 mid.user r a makes_none made.1).1 made.2

  abbrev with_that : Catalogue → Body → File
  with_that C body = file_with old.user C.default h body

  abbrev before : Catalogue → Body → Catalogue
  before C body = created C id (with_that C body)

  -- where it puts another body into the new file, the new file has that
  put_more : (r : Request) (body other : Body) → creates r ≡ false → ((C : Catalogue) → after (before C body) r ≡ put (before C body) id (with_that C other)) → IsAdded old h id body mid → IsDone mid r a new → IsAdded old h id other new
  put_more r body other makes_none puts added done = record {
    free = added.free;
    shown = λ C s.
        let now = left_by r done added.user makes_none (before C body) (added.shown C s) in
        shown_once new.image new.layout C id (with_that C body) (with_that C other) (subst (ShowsBy new.image new.layout) (puts C) now);
    user = done.user ∙ added.user;
  }

  pub extended : (count : ℕ) (attributes : List ℕ) (blocks : List (List ℕ)) → IsAdded old h id (Plain attributes blocks) mid → IsDone mid (Extend id count) a new
      → IsAdded old h id (Plain attributes (blocks ++ zero_blocks count)) new
  unfolding after
  extended count attributes blocks added done = put_more (Extend id count) (Plain attributes blocks) (Plain attributes (blocks ++ zero_blocks count)) refl puts added done
    where
      puts : (C : Catalogue) → after (before C (Plain attributes blocks)) (Extend id count) ≡ put (before C (Plain attributes blocks)) id (with_that C (Plain attributes (blocks ++ zero_blocks count)))
      puts C = ap (λ f. put (before C (Plain attributes blocks)) id (grown f count)) (there C id (with_that C (Plain attributes blocks)))

  pub wrote : (vbn : ℕ) (block attributes : List ℕ) (blocks : List (List ℕ)) → IsAdded old h id (Plain attributes blocks) mid → IsDone mid (Write id vbn block) a new
      → IsAdded old h id (Plain attributes (slice_set blocks (vbn - 1) block)) new
  unfolding after
  wrote vbn block attributes blocks added done = put_more (Write id vbn block) (Plain attributes blocks) (Plain attributes (slice_set blocks (vbn - 1) block)) refl puts added done
    where
      puts : (C : Catalogue) → after (before C (Plain attributes blocks)) (Write id vbn block) ≡ put (before C (Plain attributes blocks)) id (with_that C (Plain attributes (slice_set blocks (vbn - 1) block)))
      puts C = ap (λ f. put (before C (Plain attributes blocks)) id (with_body f (written f.body vbn block))) (there C id (with_that C (Plain attributes blocks)))

  pub attributed : (attributes others : List ℕ) (blocks : List (List ℕ)) → IsAdded old h id (Plain others blocks) mid → IsDone mid (SetUser id attributes) a new
      → IsAdded old h id (Plain attributes blocks) new
  unfolding after
  attributed attributes others blocks added done = put_more (SetUser id attributes) (Plain others blocks) (Plain attributes blocks) refl puts added done
    where
      puts : (C : Catalogue) → after (before C (Plain others blocks)) (SetUser id attributes) ≡ put (before C (Plain others blocks)) id (with_that C (Plain attributes blocks))
      puts C = ap (λ f. put (before C (Plain others blocks)) id (with_body f (Plain attributes (blocks_of f.body)))) (there C id (with_that C (Plain others blocks)))

-- Create is answered by a new file
answered : (C D : Catalogue) (f : File) (a : Answer) → create C f (created_id a) ≡ Some D → (id : FileId) × (a ≡ answer.Created id)
answered C D f (answer.Created id) e = (id, refl)
answered C D f (answer.Extended count) e = absurd (cc)
answered C D f (answer.Truncated count) e = absurd (cc)
answered C D f answer.Done e = absurd (cc)
answered C D f (answer.Entered version) e = absurd (cc)
answered C D f (answer.Found file version) e = absurd (cc)
answered C D f (answer.Removed file version) e = absurd (cc)
answered C D f (answer.Bytes block) e = absurd (cc)
answered C D f (answer.Names lines) e = absurd (cc)
answered C D f (answer.Info stat) e = absurd (cc)

module _ (old new : Filed) (sound : IsSoundBy old.image old.layout) (h : Heading) (count : ℕ) where
  abbrev first : Catalogue
  first = the_catalogue old.image old.layout sound

  is_first : IsCatalogueOf old.image first
  is_first = has_catalogue old.image old.layout sound

  first_shown : ShowsBy old.image old.layout first
  first_shown = subst (λ L. ShowsBy old.image L first) (layout_is_one old.image is_first.shown.layout old.layout is_first.shown.is_layout sound.layout) is_first.shown.shows

  abbrev the_request : Request
  the_request = Create h.name h.version count h.stamp

  pub is_created : (a : Answer) → IsDone old the_request a new → (id : FileId) × (a ≡ answer.Created id)
  unfolding change
  is_created a done =
      let made = done.steps first first_shown (done.fresh first is_first) in
      answered first made.0 (new_file first old.user h.name h.version count h.stamp) a (changed first made.0 old.user the_request a made.1)

  same_files : (C : Catalogue) → ShowsBy old.image old.layout C → first.files ≡ C.files
  same_files C s = files_are_one old.image first C is_first.shown (record { layout = old.layout; is_layout = sound.layout; shows = s })

  pub first_added : (id : FileId) → h.name.ext ≢ directory_type → IsDone old the_request (answer.Created id) new → IsAdded old h id (Plain (replicate 32 0) (zero_blocks count)) new
  unfolding change
  first_added id plain done =
      let made = done.steps first first_shown (done.fresh first is_first) in
      let f = new_file first old.user h.name h.version count h.stamp in
      let is : made.0 ≡ created first id f = given (is_new first id) (created first id f) made.0 (changed first made.0 old.user the_request (answer.Created id) made.1) in
      let shown : ShowsBy new.image new.layout (created first id f) = subst (ShowsBy new.image new.layout) is made.2 in
      let free = (created_new first made.0 old.user the_request (answer.Created id) id made.1 refl).0 in
      record {
        free = λ C s. ap (λ m. map.get m id) (sym (same_files C s)) ∙ free;
        shown = λ C s.
            let default : C.default ≡ first.default = s.default ∙ sym first_shown.default in
            same_shown new.image new.layout (created C id (file_with old.user C.default h (Plain (replicate 32 0) (zero_blocks count)))) (created first id f) shown
            ((λ i. map.insert (sym (same_files C s) i) id (file_with old.user (default i) h (Plain (replicate 32 0) (zero_blocks count))))
            ∙ ap (λ b. map.insert first.files id (file_with old.user first.default h b)) (sym (is_plain (h.name.ext == directory_type) refl)))
            default;
        user = done.user;
      }
    where
      is_plain : (b : Bool) → (h.name.ext == directory_type) ≡ b → new_body h.name count ≡ Plain (replicate 32 0) (zero_blocks count)
      is_plain true e = absurd (plain (eqb-true h.name.ext directory_type e))
      is_plain false e = ap (λ b. cond b (Directory map.empty) (Plain (replicate 32 0) (zero_blocks count))) e
