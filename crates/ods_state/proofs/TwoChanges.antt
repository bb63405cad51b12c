-- Two changes, one after the other.
use Rattle.std.proofs.Common.{◌≡◌, refl, sym, ◌∙◌, ap, Bool, true, false, cond, Some}
use Rattle.std.specs.FinMap as map
use Rattle.std.specs.Ordering.{eq_by_cmp}
use Rattle.ods_base.specs.declared.file_id.FileId.{FileId}
use Rattle.ods_space.specs.Layout.{Disk}
use Rattle.ods_request.specs.Catalogue.{Catalogue, File, file_cmp}
use Rattle.ods_request.specs.Steps.{put}
use Rattle.ods_request.proofs.Orders.{file_cmp-total, file_cmp-antisymmetric}
use Rattle.ods_state.specs.Moves.{NothingMoves}

-- where nothing moves twice, nothing moves
pub nothing_moves_on : (D E F : Disk) → NothingMoves D E → NothingMoves E F → NothingMoves D F
nothing_moves_on D E F m n = record {
  layout = n.layout ∙ m.layout;
  chains = λ k others blocks c. n.chains k others blocks (m.chains k others blocks c);
  held = λ k v x. (λ h. (n.held k v x).0 ((m.held k v x).0 h), λ h. (m.held k v x).1 ((n.held k v x).1 h));
  free = λ x. n.free x ∙ m.free x;
  numbers = λ k. n.numbers k ∙ m.numbers k;
}

-- of two files that are put under one ID, the second stays
pub put_put : (C : Catalogue) (id : FileId) (f g : File) → put (put C id f) id g ≡ put C id g
put_put C id f g = λ i. record { files = same i; past = C.past; default = C.default }
  where
    behind : (q : FileId) (b : Bool) → eq_by_cmp file_cmp q id ≡ b → cond b (Some g) (map.get (map.insert C.files id f) q) ≡ cond b (Some g) (map.get C.files q)
    behind q true e = refl
    behind q false e = map.get-insert file_cmp-total C.files id f q ∙ ap (λ b. cond b (Some f) (map.get C.files q)) e

    same : map.insert (map.insert C.files id f) id g ≡ map.insert C.files id g
    same = map.same_map file_cmp-total file_cmp-antisymmetric (map.insert (map.insert C.files id f) id g) (map.insert C.files id g)
        (λ q. map.get-insert file_cmp-total (map.insert C.files id f) id g q ∙ behind q (eq_by_cmp file_cmp q id) refl ∙ sym (map.get-insert file_cmp-total C.files id g q))
