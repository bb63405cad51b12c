-- What a path names in the one directory that its folder means is known in one way.
use Rattle.std.proofs.Common.{◌≡◌, inl, inr, ℕ, ◌<◌, refl, sym, ap, ◌∙◌, subst, Bool, true, false, List, [], ◌∷◌, ◌++◌, length, map, get_or, append-nil, eq-eqb, Option, Some, None, arith}
use Rattle.std.specs.Prelude.{nat_eq}
use Rattle.std.specs.List.{All, Contains, IsDistinct}
use Rattle.std.proofs.lemmas.List.{map-append}
use Rattle.std.proofs.lemmas.List.Elements.{All-append, All-cons, All-contains, All-head, All-map, All-nil, All-tail, All-weaker, Contains-get_or, Contains-push}
use Rattle.std.proofs.lemmas.Option.{same_Some}
use Rattle.ods_base.specs.Name.{RadName}
use Rattle.ods_base.specs.declared.file_id.FileId.{FileId}
use Rattle.ods_base.specs.declared.listed.Listed.{Listed}
use Rattle.ods_space.specs.Layout.{VolumeLayout}
use Rattle.ods_mount.specs.Faults.{IsDirectoryFile}
use Rattle.ods_mount.specs.Sound.{IsSoundBy}
use Rattle.ods_paths.specs.declared.versions.Versions.{Versions}
use Rattle.ods_paths.specs.declared.versions.Versions.TheVariants.{Highest}
use Rattle.ods_paths.specs.Paths.{Files, Folder}
use Rattle.ods_paths.specs.Steps.{Step}
use Rattle.ods_walk.specs.Complete.{LeadsPast}
use Rattle.ods_walk.specs.declared.tables.Line.{Line}
use Rattle.ods_shell.specs.Choosing.{AreThose, IsChosen}
use Rattle.ods_shell.proofs.Reached.{known_in_one_way}
use Rattle.ods_shell.specs.Facts.{AreFacts}
use Rattle.ods_shell.specs.Found.{AreFound, AreFoundIn, AreLinesOf, placed}
use Rattle.ods_shell.specs.Named.{AreLines, AreNamed, IsKnown}
use Rattle.ods_shell.specs.Ways.{AreAllBelow, AreLedTo, AreMaster, AreMeant, AreNamedIn, AreOpen, AreOpenOrBelow, AreStarts, AreSteps, AreWays, IsStep, IsWayBy, LeadsOn}
use Rattle.ods_shell.specs.declared.facts.Facts.{Facts}
use Rattle.ods_shell.specs.declared.folders.Directory.{Directory}
use Rattle.ods_shell.specs.declared.found.Found.{Found}
use Rattle.ods_upkeep.proofs.Again.{from_mapped, mapped}
use Rattle.ods_upkeep.proofs.Listings.{one_listing}

-- just those are chosen that are
those_one : (P : Listed → Type 0) (xs f g : List Listed) → AreThose P xs f → AreThose P xs g → f ≡ g
those_one P [] f g a b = a ∙ sym b
those_one P (x ∷ xs) f g a b = elim a [
  | inl one ↦ elim b [ inl other ↦ one.2 ∙ ap (λ l. x ∷ l) (those_one P xs one.1 other.1 one.3 other.3) ∙ sym other.2 | inr none ↦ absurd (none.0 one.0) ]
  | inr left ↦ elim b [ inl other ↦ absurd (left.0 other.0) | inr none ↦ those_one P xs f g left.1 none.1 ]
]

those_are : (P : Listed → Type 0) (xs f : List Listed) → AreThose P xs f → All P f
those_are P [] f are = subst (All P) (sym are) (All-nil P)
those_are P (x ∷ xs) f are = elim are [
  | inl taken ↦ subst (All P) (sym taken.2) (All-append P (x ∷ []) taken.1 (λ k d small. subst P (at_zero x k d small) taken.0) (those_are P xs taken.1 taken.3))
  | inr left ↦ those_are P xs f left.1
]
  where
    at_zero : (y : Listed) (k : ℕ) (d : Listed) → k < 1 → y ≡ get_or (y ∷ []) k d
    at_zero y k d small = let zero_is : 0 ≡ k = omega arith in subst (λ n. y ≡ get_or (y ∷ []) n d) zero_is refl

those_keep : (P Q : Listed → Type 0) (xs f : List Listed) → AreThose P xs f → All Q xs → All Q f
those_keep P Q [] f are all = subst (All Q) (sym are) (All-nil Q)
those_keep P Q (x ∷ xs) f are all = elim are [
  | inl taken ↦ subst (All Q) (sym taken.2) (All-cons Q x taken.1 (All-head Q x xs all) (those_keep P Q xs taken.1 taken.3 (All-tail Q x xs all)))
  | inr left ↦ those_keep P Q xs f left.1 (All-tail Q x xs all)
]

none_in : (n : ℕ) → ¬ Contains [] n
none_in n has = let none_below : has.0 < 0 = has.1 in absurd (omega arith)

abbrev numbers : List Directory → List ℕ
numbers ds = map (λ (d : Directory). d.number) ds

module _ (I : List (List ℕ)) (L : VolumeLayout) (sound : IsSoundBy I L) where
  lines_one : (n : ℕ) (xs ys : List Listed) → IsDirectoryFile I L n → AreLinesOf I L n xs → AreLinesOf I L n ys → xs ≡ ys
  lines_one n xs ys is a b = one_listing I L sound n xs ys is (a.0 is) (b.0 is)

  ways_one : (n : ℕ) (v w : List Listed) → IsDirectoryFile I L n → AreWays I L [] n v → AreWays I L [] n w → v ≡ w
  ways_one n v w is a b = elim a [
    | inl shut ↦ absurd (none_in n shut.0)
    | inr one ↦ elim b [
      | inl shut ↦ absurd (none_in n shut.0)
      | inr other ↦ (
          let lines : one.1.0 ≡ other.1.0 = lines_one n one.1.0 other.1.0 is one.1.1 other.1.1 in
          those_one (LeadsOn I L) other.1.0 v w (subst (λ l. AreThose (LeadsOn I L) l v) lines one.1.2) other.1.2)
    ]
  ]

  ways_lead : (n : ℕ) (v : List Listed) → AreWays I L [] n v → All (LeadsOn I L) v
  ways_lead n v a = elim a [ inl shut ↦ absurd (none_in n shut.0) | inr one ↦ those_are (LeadsOn I L) one.1.0 v one.1.2 ]

  -- two lists of directories with the same numbers
  record Alike (xs ys : List Directory) : Type 0 where
    pub same : numbers xs ≡ numbers ys
    pub are : All (IsDirectoryFile I L) (numbers xs)

  named_numbers : (names : List RadName) (es : List Listed) (found : List Directory) → AreNamedIn names es found → numbers found ≡ map (λ (e : Listed). e.file.number) es
  named_numbers names [] found are = ap numbers are
  named_numbers names (e ∷ es) found are = ap numbers are.2 ∙ (λ i. are.3.0 i ∷ named_numbers names es are.1 are.4 i)

  -- those that the same entries name
  named_alike : (names others : List RadName) (es : List Listed) (f g : List Directory) → All (LeadsOn I L) es → AreNamedIn names es f → AreNamedIn others es g → Alike f g
  named_alike names others es f g lead a b =
      let here = named_numbers names es f a in
      let all : All (IsDirectoryFile I L) (map (λ (e : Listed). e.file.number) es) =
      All-map (IsDirectoryFile I L) (λ (e : Listed). e.file.number) es (All-weaker (LeadsOn I L) (λ (e : Listed). IsDirectoryFile I L e.file.number) (λ x is. is.names.file) es lead) in
      record { same = here ∙ sym (named_numbers others es g b); are = subst (All (IsDirectoryFile I L)) (sym here) all }

  -- chosen ways from one directory
  chosen_alike : (P : List Listed → Listed → Type 0) (n : ℕ) (names others : List RadName) (v w those these : List Listed) (f g : List Directory) → IsDirectoryFile I L n
      → AreWays I L [] n v → AreWays I L [] n w → AreThose (P v) v those → AreThose (P w) w these → AreNamedIn names those f → AreNamedIn others these g → Alike f g
  chosen_alike P n names others v w those these f g is a b x y p q =
      let ways : v ≡ w = ways_one n v w is a b in
      let same : those ≡ these = those_one (P w) w those these (subst (λ u. AreThose (P u) u those) ways x) y in
      named_alike names others these f g (those_keep (P w) (LeadsOn I L) w these y (ways_lead n w b)) (subst (λ l. AreNamedIn names l f) same p) q

  step_alike : (step : Step) (a b : Directory) (f g : List Directory) → a.number ≡ b.number → IsDirectoryFile I L a.number → IsStep I L [] step a f → IsStep I L [] step b g → Alike f g
  step_alike step a b f g same is x y =
      chosen_alike (λ w. IsWayBy step w) a.number a.names.items b.names.items x.0 y.0 x.1 y.1 f g is x.2 (subst (λ n. AreWays I L [] n y.0) (sym same) y.2) x.3 y.3 x.4 y.4

  joined : (us vs cs ds : List Directory) → Alike us vs → Alike cs ds → Alike (us ++ cs) (vs ++ ds)
  joined us vs cs ds x y = record {
    same = map-append (λ (d : Directory). d.number) us cs ∙ (λ i. x.same i ++ y.same i) ∙ sym (map-append (λ (d : Directory). d.number) vs ds);
    are = subst (All (IsDirectoryFile I L)) (sym (map-append (λ (d : Directory). d.number) us cs)) (All-append (IsDirectoryFile I L) (numbers us) (numbers cs) x.are y.are);
  }

  steps_alike : (step : Step) (us vs f g : List Directory) → Alike us vs → AreSteps I L [] step us f → AreSteps I L [] step vs g → Alike f g
  steps_alike step [] [] f g from a b = record { same = ap numbers (a ∙ sym b); are = subst (λ l. All (IsDirectoryFile I L) (numbers l)) (sym a) (All-nil (IsDirectoryFile I L)) }
  steps_alike step [] (b ∷ vs) f g from x y = let clash : [] ≡ b.number ∷ numbers vs = from.same in absurd (cc)
  steps_alike step (a ∷ us) [] f g from x y = let clash : a.number ∷ numbers us ≡ [] = from.same in absurd (cc)
  steps_alike step (a ∷ us) (b ∷ vs) f g from x y =
      let both : a.number ∷ numbers us ≡ b.number ∷ numbers vs = from.same in
      let head : a.number ≡ b.number = cc in
      let tail : numbers us ≡ numbers vs = cc in
      let next = step_alike step a b x.0 y.0 head (All-head (IsDirectoryFile I L) a.number (numbers us) from.are) x.3 y.3 in
      let rest = steps_alike step us vs x.1 y.1 (record { same = tail; are = All-tail (IsDirectoryFile I L) a.number (numbers us) from.are }) x.4 y.4 in
      let whole = joined x.0 y.0 x.1 y.1 next rest in
      subst (λ l. Alike l g) (sym x.2) (subst (λ l. Alike (x.0 ++ x.1) l) (sym y.2) whole)

  led_alike : (steps : List Step) (us vs f g : List Directory) → Alike us vs → AreLedTo I L [] steps us f → AreLedTo I L [] steps vs g → Alike f g
  led_alike [] us vs f g from a b = subst (λ l. Alike l g) (sym a) (subst (λ l. Alike us l) (sym b) from)
  led_alike (step ∷ steps) us vs f g from x y = led_alike steps x.0 y.0 f g (steps_alike step us vs x.0 y.0 from x.1 y.1) x.2 y.2

  is_master : IsDirectoryFile I L 4
  is_master = (sound.master, refl)

  masters_alike : (f g : List Directory) → AreMaster f → AreMaster g → Alike f g
  masters_alike f g a b =
      let one : numbers f ≡ 4 ∷ [] = ap numbers a.1 ∙ (λ i. a.2 i ∷ []) in
      let other : numbers g ≡ 4 ∷ [] = ap numbers b.1 ∙ (λ i. b.2 i ∷ []) in
      record { same = one ∙ sym other; are = subst (All (IsDirectoryFile I L)) (sym one) (All-cons (IsDirectoryFile I L) 4 [] is_master (All-nil (IsDirectoryFile I L))) }

  starts_alike : (steps : List Step) (f g : List Directory) → AreStarts I L [] steps f → AreStarts I L [] steps g → Alike f g
  starts_alike steps f g a b = led_alike steps a.0 b.0 f g (masters_alike a.0 b.0 a.1 b.1) a.2 b.2

  open_all : (starts found : List Directory) → AreOpen [] starts found → found ≡ starts
  open_all [] found are = are
  open_all (d ∷ starts) found are = elim are [ inl shut ↦ absurd (none_in d.number shut.0) | inr open_one ↦ open_one.2 ∙ ap (λ l. d ∷ l) (open_all starts open_one.1 open_one.3) ]

  -- names lead to directories
  leads_there : (shut : List ℕ) (names : List RadName) (n m : ℕ) → IsDirectoryFile I L n → LeadsPast I L shut n names m → IsDirectoryFile I L m
  leads_there shut [] n m is same = subst (IsDirectoryFile I L) same is
  leads_there shut (name ∷ names) n m is leads = leads_there shut names leads.0.file.number m leads.3.file leads.5

  in_one : (x y : ℕ) → Contains (x ∷ []) y → x ≡ y
  in_one x y has = let first : has.0 ≡ 0 = (let low : has.0 < 1 = has.1 in omega arith) in sym (ap (λ k. get_or (x ∷ []) k y) first) ∙ has.2

  other_start : (xs ys : List Directory) (d : Directory) → numbers xs ≡ numbers ys → Contains xs d → (e : Directory) × Contains ys e × (e.number ≡ d.number)
  other_start xs ys d same has = from_mapped (λ (d : Directory). d.number) ys d.number (subst (λ l. Contains l d.number) same (mapped (λ (d : Directory). d.number) xs d has))

  -- one number alone
  single : (ns : List ℕ) (n : ℕ) → All (λ k. k ≡ n) ns → Contains ns n → IsDistinct nat_eq ns → ns ≡ n ∷ []
  unfolding IsDistinct
  single [] n all has apart = absurd (none_in n has)
  single (k ∷ []) n all has apart = λ i. All-head (λ j. j ≡ n) k [] all i ∷ []
  single (k ∷ l ∷ ns) n all has apart =
      let first : k ≡ n = All-head (λ j. j ≡ n) k (l ∷ ns) all in
      let second : l ≡ n = All-head (λ j. j ≡ n) l ns (All-tail (λ j. j ≡ n) k (l ∷ ns) all) in
      let clash : true ≡ false = sym (eq-eqb k l (first ∙ sym second)) ∙ apart.0.0 in absurd (cc)

  -- where all below belong to it too
  one_below : (starts others ds : List Directory) (d : Directory) → Alike starts others → AreAllBelow I L [] starts (d ∷ []) → AreAllBelow I L [] others ds → (numbers ds ≡ d.number ∷ []) × IsDirectoryFile I L d.number
  one_below starts others ds d alike first second =
      let is_start : (s : Directory) → Contains starts s → IsDirectoryFile I L s.number = λ s has. All-contains (IsDirectoryFile I L) (numbers starts) s.number alike.are (mapped (λ (d : Directory). d.number) starts s has) in
      let each : (e : Directory) → Contains ds e → e.number ≡ d.number = λ e has. (
      let below = second.only e has in
      let start = other_start others starts below.0 (sym alike.same) below.2 in
      let there = first.all start.0 below.1 e.number start.1 (none_in start.0.number) (is_start start.0 start.1) (subst (λ n. LeadsPast I L (4 ∷ []) n below.1 e.number) (sym start.2) below.5) in
      sym (in_one d.number e.number there)) in
      let here = first.only d (Contains-push [] d) in
      let start = other_start starts others here.0 alike.same here.2 in
      let is_here : IsDirectoryFile I L here.0.number = is_start here.0 here.2 in
      let there = second.all start.0 here.1 d.number start.1 (none_in start.0.number) (subst (IsDirectoryFile I L) (sym start.2) is_here) (subst (λ n. LeadsPast I L (4 ∷ []) n here.1 d.number) (sym start.2) here.5) in
      let all : All (λ k. k ≡ d.number) (numbers ds) = All-map (λ k. k ≡ d.number) (λ (d : Directory). d.number) ds (λ k e small. each (get_or ds k e) (Contains-get_or ds k e small)) in
      (single (numbers ds) d.number all there second.once, leads_there (4 ∷ []) here.1 here.0.number d.number is_here here.5)

  one_meant : (below : Bool) (starts others ds : List Directory) (d : Directory) → Alike starts others → AreOpenOrBelow I L [] below starts (d ∷ []) → AreOpenOrBelow I L [] below others ds
      → (numbers ds ≡ d.number ∷ []) × IsDirectoryFile I L d.number
  one_meant true starts others ds d alike a b = one_below starts others ds d alike a b
  one_meant false starts others ds d alike a b =
      let first : d ∷ [] ≡ starts = open_all starts (d ∷ []) a in
      let second : ds ≡ others = open_all others ds b in
      let one : All (IsDirectoryFile I L) (d.number ∷ []) = subst (λ l. All (IsDirectoryFile I L) (numbers l)) (sym first) alike.are in
      (ap numbers second ∙ sym alike.same ∙ ap numbers (sym first), All-head (IsDirectoryFile I L) d.number [] one)

  -- a folder that means one directory means no other
  pub meant_one : (folder : Folder) (ds : List Directory) (d : Directory) → AreMeant I L [] folder (d ∷ []) → AreMeant I L [] folder ds → (numbers ds ≡ d.number ∷ []) × IsDirectoryFile I L d.number
  meant_one folder ds d a b = one_meant folder.below a.0 b.0 ds d (starts_alike folder.steps a.0 b.0 a.1 b.1) a.2 b.2

  -- a file is known in one way
  known_one : (file : FileId) (f g : Option Facts) → IsKnown I L file f → IsKnown I L file g → f ≡ g
  known_one file None None a b = refl
  known_one file None (Some g) a b = absurd (a g b.0 b.1)
  known_one file (Some f) None a b = absurd (b f a.0 a.1)
  known_one file (Some f) (Some g) a b = ap Some (known_in_one_way I L file.number f g a.0 b.0)

  lines_known : (ds es : List Directory) (lines : List Line) (xs ys : List Found) → AreLines I L ds lines xs → AreLines I L es lines ys → map (λ (f : Found). f.facts) xs ≡ map (λ (f : Found). f.facts) ys
  lines_known ds es [] xs ys a b = ap (map (λ (f : Found). f.facts)) (a ∙ sym b)
  lines_known ds es (line ∷ lines) xs ys a b =
      let x = a.2 in
      let y = b.2 in
      ap (map (λ (f : Found). f.facts)) x.1.1 ∙ (λ i. known_one line.entry.file x.0.facts y.0.facts x.1.2.known y.1.2.known i ∷ lines_known ds es lines x.1.0 y.1.0 x.1.3 y.1.3 i)
      ∙ sym (ap (map (λ (f : Found). f.facts)) y.1.1)

  one_of : (ds : List Directory) (n : ℕ) → numbers ds ≡ n ∷ [] → (d : Directory) × (ds ≡ d ∷ []) × (d.number ≡ n)
  one_of [] n e = absurd (cc)
  one_of (d ∷ []) n e = (d, refl, cc)
  one_of (d ∷ f ∷ ds) n e = absurd (cc)

  -- the lines that are found in one directory
  found_one : (files : Files) (v : Versions) (n : ℕ) (ds : List Directory) (lines : List Line) → numbers ds ≡ n ∷ [] → AreFound I L (Some files) v 0 ds lines
      → (entries : List Listed) × (lines ≡ map (placed 0) entries) × AreFoundIn I L (Some files) v n entries
  found_one files v n ds lines one are =
      let d = one_of ds n one in
      let here : AreFound I L (Some files) v 0 (d.0 ∷ []) lines = subst (λ l. AreFound I L (Some files) v 0 l lines) d.1 are in
      (here.0, here.2 ∙ ap (λ l. map (placed 0) here.0 ++ l) here.4 ∙ append-nil (map (placed 0) here.0), subst (λ k. AreFoundIn I L (Some files) v k here.0) d.2 here.3)

  chosen_one : (files : Files) (v : Versions) (n : ℕ) (xs ys : List Listed) → IsDirectoryFile I L n → AreFoundIn I L (Some files) v n xs → AreFoundIn I L (Some files) v n ys → xs ≡ ys
  chosen_one files v n xs ys is a b =
      let lines : a.0 ≡ b.0 = lines_one n a.0 b.0 is a.1 b.1 in
      those_one (IsChosen files v b.0) b.0 xs ys (subst (λ l. AreThose (IsChosen files v l) l xs) lines a.2) b.2

  -- what is named in the one directory that is meant is known in one way
  pub same_facts : (folder : Folder) (files : Files) (d : Directory) (xs ys : List Found) → AreMeant I L [] folder (d ∷ []) → AreNamed I L [] folder files None xs → AreNamed I L [] folder files None ys
      → map (λ (f : Found). f.facts) xs ≡ map (λ (f : Found). f.facts) ys
  same_facts folder files d xs ys meant a b =
      let v : a.0 ≡ b.0 = same_Some _ _ (sym a.1 ∙ b.1) in
      let x = a.2 in
      let y = b.2 in
      let one = meant_one folder x.0 d meant x.1 in
      let other = meant_one folder y.0 d meant y.1 in
      let first = found_one files a.0 d.number x.0 x.2.0 one.0 x.2.1 in
      let second = found_one files b.0 d.number y.0 y.2.0 other.0 y.2.1 in
      let same : first.0 ≡ second.0 = chosen_one files b.0 d.number first.0 second.0 one.1 (subst (λ u. AreFoundIn I L (Some files) u d.number first.0) v first.2) second.2 in
      let lines : x.2.0 ≡ y.2.0 = first.1 ∙ ap (map (placed 0)) same ∙ sym second.1 in
      lines_known x.0 y.0 y.2.0 xs ys (subst (λ l. AreLines I L x.0 l xs) lines x.2.2) y.2.2
