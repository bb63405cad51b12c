-- Why two commands together leave what the blocks showed before.
use Rattle.std.proofs.Common.{◌≡◌, ℕ, refl, sym, ap, ◌∙◌, subst, true, false, List, [], ◌∷◌, length, Option, Some, None}
use Rattle.std.specs.FinMap as map
use Rattle.ods_base.specs.declared.file_id.FileId.{FileId}
use Rattle.ods_base.specs.declared.file_id.Uic.{Uic}
use Rattle.ods_base.specs.declared.name.Pick.TheVariants.{Exact}
use Rattle.ods_base.specs.Name.{RadName, key_of}
use Rattle.ods_request.specs.declared.answers.Answer.{Answer}
use Rattle.ods_request.specs.declared.answers.Answer.TheVariants.{Entered}
use Rattle.ods_request.specs.declared.requests.Request.{Request}
use Rattle.ods_request.specs.declared.requests.Request.TheVariants.{Delete, Enter, Remove}
use Rattle.ods_request.specs.Catalogue.{Catalogue, File, Plain, names_of}
use Rattle.ods_request.specs.Steps.{after, created, file_at, step}
use Rattle.ods_request.specs.Table.{creates}
use Rattle.ods_request.proofs.Orders.{file_cmp-total, file_cmp-antisymmetric}
use Rattle.ods_request.proofs.StepLaws.{determined}
use Rattle.ods_state.specs.Contents.{ShowsBy}
use Rattle.ods_filing.specs.Contiguous.{contiguous_with}
use Rattle.ods_filing.specs.Filed.{Filed, IsOpenFor, for_another}
use Rattle.ods_filing.specs.Led.{IsObeyed}
use Rattle.ods_filing.specs.Put.{Heading, block_count, blocks_with, file_with}
use Rattle.ods_filing.proofs.Done.{same_shown}
use Rattle.ods_upkeep.specs.Laws.{MvThereAndBack, RmUndoesPut}
use Rattle.ods_upkeep.specs.Removed.{Does}
use Rattle.ods_upkeep.specs.declared.asked.Placing.TheVariants.{Anywhere, InOnePiece}
use Rattle.ods_upkeep.proofs.LawsNames.{entered_and_removed, entered_there, entry_stays, removed_and_entered, taken_out}
use Rattle.ods_upkeep.proofs.LawsShown.{three_words}

-- a request that makes no file asks nothing of the past
pub makes_none : (C : Catalogue) (r : Request) (a : Answer) → creates r ≡ false → IsOpenFor C r a
makes_none C r a none id makes e = absurd (let wrong : false ≡ true = sym none ∙ makes in cc)

-- what the blocks show, by another name of the volume or of the catalogue
shown_by : (C : Catalogue) (f g : Filed) → f ≡ g → ShowsBy g.image g.layout C → ShowsBy f.image f.layout C
shown_by C f g same s = subst (λ (h : Filed). ShowsBy h.image h.layout C) (sym same) s

shown_as : (C D : Catalogue) (f : Filed) → C ≡ D → ShowsBy f.image f.layout C → ShowsBy f.image f.layout D
shown_as C D f same s = subst (λ (E : Catalogue). ShowsBy f.image f.layout E) same s

-- what is left when a file is deleted
deleted : (C : Catalogue) (file : FileId) → ((after C (Delete file)).files ≡ map.remove C.files file) × ((after C (Delete file)).default ≡ C.default)
unfolding after
deleted C file = (refl, refl)

-- A file that is made and entered, and whose name is removed before it is deleted, leaves the files that were there.
came_and_went : (C D E F : Catalogue) (file : FileId) (made : File) (who other third : Uic) (dir : FileId) (name : RadName) (said : Option ℕ) (version : ℕ) (a b : Answer) → length name.words ≡ 3
    → map.get C.files file ≡ None → step (created C file made) who (Enter dir name said file) (Entered version) ≡ Some D → step D other (Remove dir name (Exact version)) a ≡ Some E
    → step E third (Delete file) b ≡ Some F → (C.files ≡ F.files) × (C.default ≡ F.default)
came_and_went C D E F file made who other third dir name said version a b three free entered removed gone =
    let first : Catalogue = created C file made in
    let back : E ≡ first = entered_and_removed first D E who other dir file name said version a three entered removed in
    let left : F ≡ after first (Delete file) = (determined E F third (Delete file) b refl gone).1 ∙ ap (λ G. after G (Delete file)) back in
    let files : F.files ≡ C.files = ap (λ (G : Catalogue). G.files) left ∙ (deleted first file).0 ∙ taken_out file_cmp-total file_cmp-antisymmetric C.files file made free in
    let default : F.default ≡ C.default = ap (λ (G : Catalogue). G.default) left ∙ (deleted first file).1 in
    (sym files, sym default)

-- A name that is entered elsewhere and removed, and then entered again and removed there, leaves the catalogue as it was.
went_and_came : (C D E F G : Catalogue) (file from to : FileId) (name other : RadName) (version reached : ℕ) (said : Option ℕ) (who second third fourth : Uic) (a b c : Answer) → length other.words ≡ 3
    → map.get (names_of (file_at C from).body) (key_of name version) ≡ Some file → step C who (Enter to other said file) (Entered reached) ≡ Some D
    → step D second (Remove from name (Exact version)) a ≡ Some E → step E third (Enter from name (Some version) file) b ≡ Some F → step F fourth (Remove to other (Exact reached)) c ≡ Some G → G ≡ C
went_and_came C D E F G file from to name other version reached said who second third fourth a b c three entry entered left again gone =
    let has = entry_stays C D who to file other said reached from (key_of name version) entered entry in
    let same : F ≡ D = removed_and_entered D E F second third from file name version a b has left again in
    entered_and_removed C D G who fourth to file other said reached c three entered (ap (λ H. step H fourth (Remove to other (Exact reached)) c) (sym same) ∙ gone)

-- a file that is made, entered, and removed under the version by which it was entered
undone : (made : Filed) (whole : File) (dir file : FileId) (said : Option ℕ) (heading : Heading) (version : ℕ) (old mid new : Filed) (C : Catalogue)
    → map.get C.files file ≡ None → ShowsBy made.image made.layout (created C file whole) → (entered : IsObeyed (for_another made old.user) (Enter dir heading.name said file) mid)
    → entered.0 ≡ Entered version → Does mid (Remove dir heading.name (Exact version) ∷ Delete file ∷ []) new → ShowsBy new.image new.layout C
undone made whole dir file said heading version old mid new C free there put is rm =
    let first : Catalogue = created C file whole in
    let into = put.1.steps first there (makes_none first (Enter dir heading.name said file) put.0 refl) in
    let out = rm.1.1.steps into.0 into.2 (makes_none into.0 (Remove dir heading.name (Exact version)) rm.1.0 refl) in
    let gone = rm.2.1.1.steps out.0 out.2 (makes_none out.0 (Delete file) rm.2.1.0 refl) in
    let entered : step first old.user (Enter dir heading.name said file) (Entered version) ≡ Some into.0 = subst (λ a. step first old.user (Enter dir heading.name said file) a ≡ Some into.0) is into.1 in
    let three = three_words mid.image mid.layout into.0 dir heading.name version file into.2 (entered_there first into.0 old.user dir file heading.name said version entered) in
    let left = came_and_went C into.0 out.0 gone.0 file whole old.user mid.user rm.0.user dir heading.name said version rm.1.0 rm.2.1.0 three free entered out.1 gone.1 in
    same_shown new.image new.layout C gone.0 (shown_by gone.0 new rm.2.0 rm.2.2 gone.2) left.0 left.1

pub rm_undoes_put : RmUndoesPut
rm_undoes_put Anywhere owner dir said heading attributes bytes file version old mid new put is rm C shown =
    undone put.made (file_with owner C.default heading (Plain attributes (blocks_with bytes))) dir file said heading version old mid new C
    (put.stored.1.free C shown) (put.stored.1.shown C shown) put.entered is rm
rm_undoes_put InOnePiece owner dir said heading attributes bytes file version old mid new put is rm C shown =
    undone put.made (contiguous_with owner C.default heading (block_count bytes) (Plain attributes (blocks_with bytes))) dir file said heading version old mid new C
    (put.stored.free C shown) (put.stored.shown C shown) put.entered is rm

pub mv_there_and_back : MvThereAndBack
mv_there_and_back file from to name other version reached said old mid new there is back C shown entry =
    let into = there.1.1.steps C shown (makes_none C (Enter to other said file) there.1.0 refl) in
    let out = there.2.1.1.steps into.0 into.2 (makes_none into.0 (Remove from name (Exact version)) there.2.1.0 refl) in
    let again = back.1.1.steps out.0 (shown_by out.0 mid there.2.0 there.2.2 out.2) (makes_none out.0 (Enter from name (Some version) file) back.1.0 refl) in
    let gone = back.2.1.1.steps again.0 again.2 (makes_none again.0 (Remove to other (Exact reached)) back.2.1.0 refl) in
    let entered : step C old.user (Enter to other said file) (Entered reached) ≡ Some into.0 = subst (λ a. step C old.user (Enter to other said file) a ≡ Some into.0) is into.1 in
    let three = three_words there.0.image there.0.layout into.0 to other reached file into.2 (entered_there C into.0 old.user to file other said reached entered) in
    let all = went_and_came C into.0 out.0 again.0 gone.0 file from to name other version reached said old.user there.0.user mid.user back.0.user there.2.1.0 back.1.0 back.2.1.0 three entry entered out.1 again.1 gone.1 in
    shown_as gone.0 C new all (shown_by gone.0 new back.2.0 back.2.2 gone.2)
