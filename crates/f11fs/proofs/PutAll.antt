-- Files of the host that are put one after another.
use Rattle.std.proofs.Common.{◌≡◌, ◌⊎◌, ◌∙◌, ◌+◌, ◌<◌, ℕ, suc, Bool, true, false, refl, sym, ap, subst, inl, inr, arith, min, nat_lt, is_some, not, List, [], ◌∷◌, ◌++◌, length, take, get_or, Option, Result, Ok, Err}
use Rattle.std.specs.Prelude.{OnOk}
use Rattle.std.proofs.Math.Seq.{take-length, take-suc}
use Rattle.std.specs.Borrow.{Bor}
use Rattle.fs_words.specs.declared.actions.PutWords.{PutWords}
use Rattle.ods_filing.specs.Filed.{Filed, HasGrown, lacking}
use Rattle.ods_upkeep.specs.declared.asked.Placing.{Placing}
use Rattle.ods_upkeep.specs.declared.asked.PutForm.{PutForm}
use Rattle.ods_upkeep.specs.Begun.{AreNames, IsBegun}
use Rattle.ods_upkeep.specs.HostPut.{IsHostPut}
use Rattle.ods_upkeep.specs.Left.{InPut, at_time}
use Rattle.ods_upkeep.specs.Ready.{MayHaveGrown}
use Rattle.f11fs.specs.Changed.{ArePut, ArePutNext, IsOnePut, hosts_among, path_among}
use Rattle.f11fs.specs.Dated.{IsHostTime, takes_times}
use Rattle.f11fs.specs.Forms.{form_said, placing_said}
use Rattle.f11fs.specs.Given.{Bytes, HostGives}
use Rattle.f11fs.specs.Readings.{IsLastPart}

-- one file more
put_more : (G : HostGives) (dated : Bool) (run : List ℕ) (p q r : InPut) (hosts : List (Bor (List ℕ))) (host : Bor (List ℕ)) (bytes : List ℕ) (old mid new : Filed)
    → ArePutNext G dated run p hosts old q mid → IsOnePut G dated run q host.now bytes mid r new → ArePutNext G dated run p (hosts ++ host ∷ []) old r new
put_more G dated run p q r [] host bytes old mid new before put =
    (bytes, (r, (new, subst (λ (k : InPut). IsOnePut G dated run k host.now bytes old r new) before.0 (subst (λ (f : Filed). IsOnePut G dated run q host.now bytes f r new) before.1 put), (refl, refl))))
put_more G dated run p q r (x ∷ hosts) host bytes old mid new before put =
    let t = before.1 in
    (before.0, (t.0, (t.1.0, t.1.1, put_more G dated run t.0 q r hosts host bytes t.1.0 mid new t.1.2 put)))

-- the next of some files
pub put_next : (G : HostGives) (dated : Bool) (run : List ℕ) (p q s r : InPut) (stamp : List ℕ) (hosts : List (Bor (List ℕ))) (i : ℕ) (host : Bor (List ℕ)) (bytes items : List ℕ) (old mid new : Filed)
    → G (get_or hosts i host).now (Bytes items) → bytes ≡ items → s ≡ at_time q stamp → IsHostTime (not dated) run stamp → (name : List ℕ) × IsLastPart (get_or hosts i host).now name × IsHostPut s name bytes mid r new
    → i < length hosts → ArePutNext G dated run p (take i hosts) old q mid → ArePutNext G dated run p (take (i + 1) hosts) old r new
put_next G dated run p q s r stamp hosts i host bytes items old mid new gives same set time one low before =
    subst (λ (hs : List (Bor (List ℕ))). ArePutNext G dated run p hs old r new) (sym (ap (λ (n : ℕ). take n hosts) (next i) ∙ take-suc hosts i host low))
    (put_more G dated run p q r (take i hosts) (get_or hosts i host) bytes old mid new before
    (one.0, (stamp, subst (λ (b : List ℕ). G (get_or hosts i host).now (Bytes b)) (sym same) gives, one.1, time, subst (λ (k : InPut). IsHostPut k one.0 bytes mid r new) set one.2)))
  where
    next : (n : ℕ) → n + 1 ≡ suc n
    next n = omega arith

-- none is left to be put
pub put_whole : (G : HostGives) (dated : Bool) (run : List ℕ) (p q : InPut) (hosts : List (Bor (List ℕ))) (i : ℕ) (old new : Filed) → i ≡ length hosts → ArePutNext G dated run p (take i hosts) old q new → ArePutNext G dated run p hosts old q new
put_whole G dated run p q hosts i old new end put =
    subst (λ (hs : List (Bor (List ℕ))). ArePutNext G dated run p hs old q new) (ap (λ (n : ℕ). take n hosts) end ∙ take-length hosts) put

-- all files
pub put_all : {A E : Type 0} (G : HostGives) (said dated : Bool) (how : PutWords) (words hosts : List (Bor (List ℕ))) (to : Option (Bor (List ℕ))) (form : PutForm) (placing : Option Placing) (stamp : List ℕ) (p q : InPut) (old ready new : Filed) (r : Result A E)
    → IsBegun old.image old.layout stamp to (nat_lt 1 (length hosts)) form how.like placing how.replace how.owner p
    → dated ≡ takes_times how said → to ≡ path_among words → hosts ≡ hosts_among words → form ≡ form_said how → placing ≡ placing_said how
    → MayHaveGrown (length hosts) old ready
    → OnOk r (ArePutNext G dated stamp p hosts ready q new) → OnOk r (ArePut G said how words stamp old new)
put_all G said dated how words hosts to form placing stamp p q old ready new (Err e) begun times goes are formed places grown all = tt
put_all G said dated how words hosts to form placing stamp p q old ready new (Ok a) begun times goes are formed places grown all = record {
  begun = p;
  begins =
      subst (λ (g : Option Placing). IsBegun old.image old.layout stamp (path_among words) (nat_lt 1 (length (hosts_among words))) (form_said how) how.like g how.replace how.owner p) places
      (subst (λ (o : Option (Bor (List ℕ))). IsBegun old.image old.layout stamp o (nat_lt 1 (length (hosts_among words))) (form_said how) how.like placing how.replace how.owner p) goes
      (subst (λ (hs : List (Bor (List ℕ))). IsBegun old.image old.layout stamp to (nat_lt 1 (length hs)) (form_said how) how.like placing how.replace how.owner p) are
      (subst (λ (f : PutForm). IsBegun old.image old.layout stamp to (nat_lt 1 (length hosts)) f how.like placing how.replace how.owner p) formed begun)));
  ready = ready;
  made_ready = subst (λ (hs : List (Bor (List ℕ))). MayHaveGrown (length hs) old ready) are grown;
  known = q;
  put = subst (λ (b : Bool). ArePutNext G b stamp p (hosts_among words) ready q new) times
      (subst (λ (hs : List (Bor (List ℕ))). ArePutNext G dated stamp p hs ready q new) are all);
}
