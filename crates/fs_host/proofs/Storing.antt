-- What may end the saving of an image that may be a floppy.
use Rattle.std.specs.Prelude.{◌≡◌, ℕ, Bool, true, List, Option, Some, None, Result, Ok, Err, IfErr, is_some}
use Rattle.std.proofs.Common.{refl, subst}
use Rattle.ods_order.specs.declared.order.Order.{Order}
use Rattle.fs_host.specs.Faults.{may_end_saving, may_end_storing, may_end_writing, may_end_copying}
use Rattle.fs_host.specs.Layers.{IsUnfit}
use Rattle.fs_host.specs.declared.faults.SaveFault.{SaveFault}
use Rattle.fs_host.specs.declared.faults.SaveFault.TheVariants.{Unfit}
use Rattle.fs_host.proofs.MayEnd.{saving_ends_storing, writing_ends_copying}

-- only a volume on a floppy does not fit
pub unfit_ends_storing : (I : List (List ℕ)) (behind : List ℕ) (floppy : Option (Order × List ℕ)) (force backup break_links : Bool) → IsUnfit I behind floppy
    → may_end_storing (is_some floppy) force backup break_links Unfit ≡ true
unfit_ends_storing I behind None force backup break_links unfit = absurd unfit
unfit_ends_storing I behind (Some old) force backup break_links unfit = refl

pub unfit_ends_copying : (I : List (List ℕ)) (behind : List ℕ) (floppy : Option (Order × List ℕ)) → IsUnfit I behind floppy → may_end_copying (is_some floppy) Unfit ≡ true
unfit_ends_copying I behind None unfit = absurd unfit
unfit_ends_copying I behind (Some old) unfit = refl

-- what ends a saving ends one of an image that may be a floppy; `force` stays
pub errs_storing : {A : Type 0} (r : Result A SaveFault) (floppy now force backup break_links : Bool) → now ≡ force → IfErr r (λ f. may_end_saving now backup break_links f ≡ true)
    → IfErr r (λ f. may_end_storing floppy force backup break_links f ≡ true)
errs_storing (Ok x) floppy now force backup break_links same h = tt
errs_storing (Err f) floppy now force backup break_links same h =
    saving_ends_storing floppy force backup break_links f (subst (λ b. may_end_saving b backup break_links f ≡ true) same h)

pub errs_copying : {A : Type 0} (r : Result A SaveFault) (floppy : Bool) → IfErr r (λ f. may_end_writing f ≡ true) → IfErr r (λ f. may_end_copying floppy f ≡ true)
errs_copying (Ok x) floppy h = tt
errs_copying (Err f) floppy h = writing_ends_copying floppy f h
