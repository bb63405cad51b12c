-- Runs of a file that move one behind another.
use Rattle.std.proofs.Common.{ℕ, ◌≤◌, refl, ◌∙◌, List, arith, inl, inr}
use Rattle.ods_space.specs.Layout.{VolumeLayout, header_at}
use Rattle.ods_space.specs.Files.{IsLayoutOf}
use Rattle.ods_repair.specs.Repointed.{KeepsFile}
use Rattle.ods_repair.specs.Unshared.{Moves}

-- a header is kept by two changes that keep it
kept_twice : (b c d : List ℕ) → KeepsFile b c → KeepsFile c d → KeepsFile b d
kept_twice b c d one two = record {
  size = two.size ∙ one.size;
  valid = λ n v. two.valid n (one.valid n v);
  bytes = λ i low. let same = one.bytes 1 (omega arith) in two.bytes i (omega (arith, low, same)) ∙ one.bytes i low;
}

pub kept_itself : (b : List ℕ) → KeepsFile b b
kept_itself b = record { size = refl; valid = λ n v. v; bytes = λ i low. refl }

-- none has moved yet
pub none_moved : (I : List (List ℕ)) (L : VolumeLayout) (n : ℕ) → IsLayoutOf I L → Moves I L n 0 0 I
none_moved I L n layout = record {
  long = refl;
  layout = layout;
  homes = λ lbn. ((λ h. h), (λ h. h));
  in_use = λ q. refl;
  headers = λ q other. refl;
  header = kept_itself (header_at I L n);
  files = λ q. ((λ f. f), (λ f. f));
  chains = λ q ms bs other. ((λ c. c), (λ c. c));
  has = λ q bs other. ((λ h. h), (λ h. h));
  contents = λ q bs other one two h. refl;
  own = λ bs h. (bs, h, refl);
  held = λ v b h. inl h;
  stays = λ v b outside h. h;
  free = λ b f. f;
  unheld = λ b h. inl h;
  still_unheld = λ b h. h;
  elsewhere = λ b bitmap header used. refl;
  faults = λ fault f. f;
  still = λ fault of f. f;
  findings = λ finding of. ((λ f. f), (λ f. f));
}

-- no more are said to have moved, where a run stays
pub further : (I J : List (List ℕ)) (L : VolumeLayout) (n p e : ℕ) → p ≤ e → Moves I L n 0 p J → Moves I L n 0 e J
further I J L n p e more m = record {
  long = m.long;
  layout = m.layout;
  homes = m.homes;
  in_use = m.in_use;
  headers = m.headers;
  header = m.header;
  files = m.files;
  chains = m.chains;
  has = m.has;
  contents = m.contents;
  own = m.own;
  held = λ v b h. elim (m.held v b h) [
    | inl old ↦ inl old
    | inr (between, f) ↦ let low = between.0 in let high = between.1 in inr ((low, omega (arith, high, more)), f)
  ];
  stays = λ v b outside h. m.stays v b (λ between. let low = between.0 in let high = between.1 in outside (low, omega (arith, high, more))) h;
  free = m.free;
  unheld = λ b h. elim (m.unheld b h) [
    | inl old ↦ inl old
    | inr (v, between, old) ↦ let low = between.0 in let high = between.1 in inr (v, (low, omega (arith, high, more)), old)
  ];
  still_unheld = m.still_unheld;
  elsewhere = m.elsewhere;
  faults = m.faults;
  still = m.still;
  findings = m.findings;
}

-- the first p and then those up to e
pub together : (I J K : List (List ℕ)) (L : VolumeLayout) (n p e : ℕ) → p ≤ e → Moves I L n 0 p J → Moves J L n p e K → Moves I L n 0 e K
together I J K L n p e more x y = record {
  long = y.long ∙ x.long;
  layout = y.layout;
  homes = λ lbn. ((λ h. (y.homes lbn).0 ((x.homes lbn).0 h)), (λ h. (x.homes lbn).1 ((y.homes lbn).1 h)));
  in_use = λ q. y.in_use q ∙ x.in_use q;
  headers = λ q other. y.headers q other ∙ x.headers q other;
  header = kept_twice (header_at I L n) (header_at J L n) (header_at K L n) x.header y.header;
  files = λ q. ((λ f. (y.files q).0 ((x.files q).0 f)), (λ f. (x.files q).1 ((y.files q).1 f)));
  chains = λ q ms bs other. ((λ c. (y.chains q ms bs other).0 ((x.chains q ms bs other).0 c)), (λ c. (x.chains q ms bs other).1 ((y.chains q ms bs other).1 c)));
  has = λ q bs other. ((λ h. (y.has q bs other).0 ((x.has q bs other).0 h)), (λ h. (x.has q bs other).1 ((y.has q bs other).1 h)));
  contents = λ q bs other one two h. y.contents q bs other one two ((x.has q bs other).0 h) ∙ x.contents q bs other one two h;
  own = λ bs h. let mid = x.own bs h in let last = y.own mid.0 mid.1 in (last.0, last.1, last.2 ∙ mid.2);
  held = λ v b h. elim (y.held v b h) [
    | inl mid ↦ elim (x.held v b mid) [
      | inl old ↦ inl old
      | inr (between, f) ↦ let low = between.0 in let high = between.1 in inr ((low, omega (arith, high, more)), f)
    ]
    | inr (between, f) ↦ let low = between.0 in let high = between.1 in inr ((omega (arith, low), high), x.free b f)
  ];
  stays = λ v b outside h. y.stays v b (λ between. let low = between.0 in let high = between.1 in outside (omega (arith, low), high))
      (x.stays v b (λ between. let low = between.0 in let high = between.1 in outside (low, omega (arith, high, more))) h);
  free = λ b f. x.free b (y.free b f);
  unheld = λ b h. elim (y.unheld b h) [
    | inl mid ↦ elim (x.unheld b mid) [
      | inl old ↦ inl old
      | inr (v, between, old) ↦ let low = between.0 in let high = between.1 in inr (v, (low, omega (arith, high, more)), old)
    ]
    | inr (v, between, mid) ↦ elim (x.held v b mid) [
      | inl old ↦ let low = between.0 in let high = between.1 in inr (v, (omega (arith, low), high), old)
      | inr (early, f) ↦ let low = between.0 in let high = early.1 in absurd (omega (arith, low, high))
    ]
  ];
  still_unheld = λ b h. y.still_unheld b (x.still_unheld b h);
  elsewhere = λ b bitmap header used. y.elsewhere b bitmap header (λ f. used (x.free b f)) ∙ x.elsewhere b bitmap header used;
  faults = λ fault f. x.faults fault (y.faults fault f);
  still = λ fault of f. y.still fault of (x.still fault of f);
  findings = λ finding of. ((λ f. (y.findings finding of).0 ((x.findings finding of).0 f)), (λ f. (x.findings finding of).1 ((y.findings finding of).1 f)));
}
