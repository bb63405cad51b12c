-- Volumes that are read in an order.
use Rattle.std.specs.Prelude.{◌≡◌, ◌⊎◌, ℕ, Bool, true, false, MatchBool, List, length, Option, None, Result, Ok, Err, IfOk, IfErr}
use Rattle.std.proofs.Common.{refl, sym, subst, arith, inl, inr}
use Rattle.ods_order.specs.Order.{container_size}
use Rattle.ods_order.specs.declared.order.Order.{Order}
use Rattle.ods_order.specs.declared.order.Order.TheVariants.{Rx01, Rx02, Rx50}
use Rattle.fs_host.specs.Layers.{IsOfImage, IsReadIn, IsTaken, IsVolumeIn, LacksHomeIn, MayNotBeRead, floppy_of}
use Rattle.fs_host.specs.declared.layers.Layered.{Layered}
use Rattle.fs_host.specs.declared.layers.Layers.{Layers}
use Rattle.fs_host.specs.declared.layers.Layers.TheVariants.{Found, Plain, Physical}
use Rattle.fs_host.specs.declared.layers.ReadFault.{ReadFault}
use Rattle.fs_host.specs.declared.layers.ReadFault.TheVariants.{Image as NoImage, OtherSize}

-- what is said by a size is said by some
pub ok_told : {A E : Type 0} (r : Result A E) (P : ℕ → A → Type 0) (told : ℕ) → IfOk r (P told) → IfOk r (λ x. (t : ℕ) × P t x)
ok_told (Ok x) P told h = (told, h)
ok_told (Err e) P told h = tt

pub err_told : {A E : Type 0} (r : Result A E) (P : ℕ → E → Type 0) (told : ℕ) → IfErr r (P told) → IfErr r (λ e. (t : ℕ) × P t e)
err_told (Ok x) P told h = tt
err_told (Err e) P told h = (told, h)

-- what is found by a test, from what the test says
pub test_means : (b : Bool) {A B C D : Type 0} → (A → C) → (B → D) → MatchBool b A B → MatchBool b C D
test_means true yes_means no_means h = yes_means h
test_means false yes_means no_means h = no_means h

-- floppies of two orders have two sizes
pub lacks_each : (bytes : List ℕ) (own order : Order) → length bytes ≡ container_size own → LacksHomeIn own bytes → LacksHomeIn order bytes
lacks_each bytes Rx01 Rx01 size lacks = lacks
lacks_each bytes Rx01 Rx02 size lacks = inl (λ e. omega (arith, size, e))
lacks_each bytes Rx01 Rx50 size lacks = inl (λ e. omega (arith, size, e))
lacks_each bytes Rx02 Rx01 size lacks = inl (λ e. omega (arith, size, e))
lacks_each bytes Rx02 Rx02 size lacks = lacks
lacks_each bytes Rx02 Rx50 size lacks = inl (λ e. omega (arith, size, e))
lacks_each bytes Rx50 Rx01 size lacks = inl (λ e. omega (arith, size, e))
lacks_each bytes Rx50 Rx02 size lacks = inl (λ e. omega (arith, size, e))
lacks_each bytes Rx50 Rx50 size lacks = lacks

-- the volume of bytes as they stand
pub plain_read : (layers : Layers) (told : ℕ) (given : Option ℕ) (r : Result Layered ReadFault) → ((bytes : List ℕ) → IsTaken layers told bytes None)
    → IfOk r (λ l. (bytes : List ℕ) × IsVolumeIn None bytes given l.contained.image l.contained.behind.items l.contained.length × (l.floppy ≡ None))
    → IfOk r (λ l. IsReadIn layers told given l.contained.image l.contained.behind.items l.contained.length l.floppy)
plain_read layers told given (Ok l) taken h = (h.0, None, taken h.0, (h.1, h.2))
plain_read layers told given (Err e) taken h = tt

-- the volume of bytes in the order that is taken
pub ordered_read : (layers : Layers) (told : ℕ) (given : Option ℕ) (order : Option Order) (bytes : List ℕ) (r : Result Layered ReadFault) → IsTaken layers told bytes order
    → IfOk r (λ l. IsVolumeIn order bytes given l.contained.image l.contained.behind.items l.contained.length × (l.floppy ≡ floppy_of order bytes))
    → IfOk r (λ l. IsReadIn layers told given l.contained.image l.contained.behind.items l.contained.length l.floppy)
ordered_read layers told given order bytes (Ok l) taken h = (bytes, order, taken, h)
ordered_read layers told given order bytes (Err e) taken h = tt

-- a fault of an image may come in each order
pub image_fault : (layers : Layers) (told : ℕ) (fault : ReadFault) → IsOfImage fault → MayNotBeRead layers told fault
image_fault Plain told (NoImage fault) h = tt
image_fault (Physical said) told (NoImage fault) h = tt
image_fault Found told (NoImage fault) h = tt
image_fault layers told (OtherSize order) h = absurd h

pub image_faults : {A : Type 0} (layers : Layers) (told : ℕ) (r : Result A ReadFault) → IfErr r IsOfImage → IfErr r (MayNotBeRead layers told)
image_faults layers told (Ok x) h = tt
image_faults layers told (Err fault) h = image_fault layers told fault h

-- another size comes for the order that is said, or for the one whose size the file says
pub said_fault : (order : Order) (told : ℕ) (fault : ReadFault) → IsOfImage fault ⊎ (fault ≡ OtherSize order) → MayNotBeRead (Physical order) told fault
said_fault order told fault (inl h) = image_fault (Physical order) told fault h
said_fault order told fault (inr e) = subst (MayNotBeRead (Physical order) told) (sym e) refl

pub size_fault : (order : Order) (told : ℕ) (fault : ReadFault) → told ≡ container_size order → IsOfImage fault ⊎ (fault ≡ OtherSize order) → MayNotBeRead Found told fault
size_fault order told fault size (inl h) = image_fault Found told fault h
size_fault order told fault size (inr e) = subst (MayNotBeRead Found told) (sym e) size
