-- Requests that are accepted one after another: lists of them put together.
use Rattle.std.proofs.Common.{◌≡◌, ◌∙◌, refl, ap, sym, subst, List, [], ◌∷◌, ◌++◌, append_assoc, append-nil}
use Rattle.ods_request.specs.declared.requests.Request.{Request}
use Rattle.ods_filing.specs.Filed.{Filed}
use Rattle.ods_filing.specs.Led.{IsObeyed}
use Rattle.ods_upkeep.specs.Removed.{Does}

-- nothing is asked for
pub does_nothing : (f : Filed) → Does f [] f
does_nothing f = refl

-- one request
pub does_one : (old new : Filed) (r : Request) → IsObeyed old r new → Does old (r ∷ []) new
does_one old new r done = (new, done, refl)

-- two lists, one behind the other
pub then_does : (old mid new : Filed) (rs qs : List Request) → Does old rs mid → Does mid qs new → Does old (rs ++ qs) new
then_does old mid new [] qs same rest = subst (λ f. Does f qs new) same rest
then_does old mid new (r ∷ rs) qs first rest = (first.0, first.1, then_does first.0 mid new rs qs first.2 rest)

-- the same list
pub does_same : (old new : Filed) (rs qs : List Request) → rs ≡ qs → Does old rs new → Does old qs new
does_same old new rs qs same done = subst (λ l. Does old l new) same done

-- some requests of a list are accepted, and these are left
pub record IsPartly (old now : Filed) (all left : List Request) : Type 0 where
  pub first : List Request
  pub does : Does old first now
  pub whole : all ≡ first ++ left

-- none is, at the start
pub at_first : (f : Filed) (all : List Request) → IsPartly f f all all
at_first f all = record { first = []; does = refl; whole = refl }

-- some more are
pub one_more : (old mid new : Filed) (all next left : List Request) → IsPartly old mid all (next ++ left) → Does mid next new → IsPartly old new all left
one_more old mid new all next left so_far done = record {
  first = so_far.first ++ next;
  does = then_does old mid new so_far.first next so_far.does done;
  whole = so_far.whole ∙ sym (append_assoc so_far.first next left);
}

-- none is left, at the end
pub at_last : (old new : Filed) (all left : List Request) → IsPartly old new all left → left ≡ [] → Does old all new
at_last old new all left so_far none =
    does_same old new so_far.first all (sym (so_far.whole ∙ ap (λ l. so_far.first ++ l) none ∙ append-nil so_far.first)) so_far.does
