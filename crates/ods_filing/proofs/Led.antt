-- Lists of what is asked that lead from one volume to another: put together, and what they keep.
use Rattle.std.proofs.Common.{◌≡◌, ℕ, refl, ap, sym, ◌∙◌, subst, List, [], ◌∷◌, ◌++◌, get_or, inl, inr}
use Rattle.std.specs.FinSet as set
use Rattle.std.proofs.lemmas.List.Elements.{All-nil, All-cons, All-append}
use Rattle.ods_request.specs.declared.requests.Request.{Request}
use Rattle.ods_request.specs.Catalogue.{Catalogue, file_cmp}
use Rattle.ods_state.specs.Contents.{ShowsBy}
use Rattle.ods_filing.specs.Filed.{Filed, HasGrown}
use Rattle.ods_filing.specs.Led.{Deed, Asks, Grows, IsDeed, IsObeyed, IsAsked, Leads, MakesFiles, Permits, IsLed, AreSteps, ListsAreSteps, forgetful, requests_in}

-- two lists, one behind the other
leads_on : (old mid new : Filed) (ds es : List Deed) → Leads old ds mid → Leads mid es new → Leads old (ds ++ es) new
leads_on old mid new [] es same rest = subst (λ f. Leads f es new) same rest
leads_on old mid new (d ∷ ds) es first rest = (first.0, first.1, leads_on first.0 mid new ds es first.2 rest)

-- nothing is asked, and the volume is as it is
pub stays : {Allows : Request → Type 0} (f : Filed) → IsLed Allows f f
stays {Allows = Allows} f = record { deeds = []; allowed = All-nil (Permits Allows); leads = refl }

-- one thing is asked
one : {Allows : Request → Type 0} {old new : Filed} (d : Deed) → Permits Allows d → IsDeed old d new → IsLed Allows old new
one {Allows = Allows} {new = new} d fits done = record { deeds = d ∷ []; allowed = All-cons (Permits Allows) d [] fits (All-nil (Permits Allows)); leads = (new, done, refl) }

-- one request
pub obeyed : {Allows : Request → Type 0} {old new : Filed} (r : Request) → Allows r → IsObeyed old r new → IsLed Allows old new
obeyed r fits done = one (Asks r) fits done

-- headers for files to come
pub grown : {Allows : Request → Type 0} {old new : Filed} (count : ℕ) → MakesFiles Allows → HasGrown old count new → IsLed Allows old new
grown count fits done = one (Grows count) fits done

-- one more list
pub then_led : {Allows : Request → Type 0} {old mid new : Filed} → IsLed Allows old mid → IsLed Allows mid new → IsLed Allows old new
then_led {Allows = Allows} {old = old} {mid = mid} {new = new} first rest = record {
  deeds = first.deeds ++ rest.deeds;
  allowed = All-append (Permits Allows) first.deeds rest.deeds first.allowed rest.allowed;
  leads = leads_on old mid new first.deeds rest.deeds first.leads rest.leads;
}

-- one more request
pub then_obeyed : {Allows : Request → Type 0} {old mid new : Filed} (r : Request) → Allows r → IsLed Allows old mid → IsObeyed mid r new → IsLed Allows old new
then_obeyed r fits first done = then_led first (obeyed r fits done)

-- the volume is that of another name
pub led_to : {Allows : Request → Type 0} {old new : Filed} (other : Filed) → other ≡ new → IsLed Allows old new → IsLed Allows old other
led_to {Allows = Allows} {old = old} other same led = subst (λ f. IsLed Allows old f) (sym same) led

-- a request that was made or not
pub asked : {Allows : Request → Type 0} {old new : Filed} (r : Request) → Allows r → IsAsked old r new → IsLed Allows old new
asked {Allows = Allows} {old = old} {new = new} r fits was = by was
  where
    by : IsAsked old r new → IsLed Allows old new
    by (inl same) = led_to new same (stays old)
    by (inr done) = obeyed r fits done

permits_more : {Few Many : Request → Type 0} → ((r : Request) → Few r → Many r) → (d : Deed) → Permits Few d → Permits Many d
permits_more more (Asks r) fits = more r fits
permits_more more (Grows count) fits = (λ name version blocks stamp. more _ (fits.0 name version blocks stamp), λ dir name version file. more _ (fits.1 dir name version file))

-- more kinds are allowed
pub allows_more : {Few Many : Request → Type 0} {old new : Filed} → ((r : Request) → Few r → Many r) → IsLed Few old new → IsLed Many old new
allows_more more led = record {
  deeds = led.deeds;
  allowed = λ k d small. permits_more more (get_or led.deeds k d) (led.allowed k d small);
  leads = led.leads;
}

deed_user : (old new : Filed) (d : Deed) → IsDeed old d new → new.user ≡ old.user
deed_user old new (Asks r) done = done.1.user
deed_user old new (Grows count) done = done.user

leads_user : (old new : Filed) (ds : List Deed) → Leads old ds new → new.user ≡ old.user
leads_user old new [] same = ap (λ (f : Filed). f.user) same
leads_user old new (d ∷ ds) first = leads_user first.0 new ds first.2 ∙ deed_user old first.0 d first.1

-- the user stays
pub same_user : {Allows : Request → Type 0} {old new : Filed} → IsLed Allows old new → new.user ≡ old.user
same_user {old = old} {new = new} led = leads_user old new led.deeds led.leads

-- blocks show a catalogue whatever its past
forgotten : (f : Filed) (C : Catalogue) → ShowsBy f.image f.layout C → ShowsBy f.image f.layout (forgetful C)
forgotten f C s = record { there = s.there; all = s.all; default = s.default }

pub lists_are_steps : ListsAreSteps
lists_are_steps old new ds leads C shown = by old ds leads C shown
  where
    by : (from : Filed) (es : List Deed) → Leads from es new → (C : Catalogue) → ShowsBy from.image from.layout C
        → (D : Catalogue) × AreSteps C from.user (requests_in es) D × ShowsBy new.image new.layout D
    by from [] same C shown = (C, refl, subst (λ (f : Filed). ShowsBy f.image f.layout C) (sym same) shown)
    by from (Asks r ∷ es) first C shown =
        let done = first.1.1 in
        let made = done.steps (forgetful C) (forgotten from C shown) (λ id makes e. set.contains-empty file_cmp id) in
        let rest = by first.0 es first.2 made.0 made.2 in
        (rest.0, (first.1.0, made.0, made.1, subst (λ who. AreSteps made.0 who (requests_in es) rest.0) done.user rest.1), rest.2)
    by from (Grows count ∷ es) first C shown =
        let rest = by first.0 es first.2 C ((first.1.headers.shown C).0 shown) in
        (rest.0, subst (λ who. AreSteps C who (requests_in es) rest.0) first.1.user rest.1, rest.2)
