-- What stands in the blocks of a file that has grown, and that it is shown so.
use Rattle.std.proofs.Common.{◌≡◌, ℕ, refl, ap, sym, ◌∙◌, subst, List, [], ◌∷◌, ◌++◌, length, arith, inl, inr}
use Rattle.std.specs.Prelude.{map, replicate}
use Rattle.std.specs.List.{All}
use Rattle.std.proofs.lemmas.List.{length-take, map-append}
use Rattle.std.proofs.lemmas.List.Elements.{All-head, All-tail}
use Rattle.ods_base.specs.Block.{zeros}
use Rattle.ods_base.specs.Image.{block_at}
use Rattle.ods_base.specs.declared.file_id.FileId.{FileId}
use Rattle.ods_header.specs.Header.{sequence_of}
use Rattle.ods_space.specs.Free.{free_blocks}
use Rattle.ods_space.specs.Layout.{VolumeLayout, header_at}
use Rattle.ods_space.specs.Files.{HasBlocks}
use Rattle.ods_mount.specs.Faults.{contents_of}
use Rattle.ods_mount.specs.Sound.{IsSoundBy}
use Rattle.ods_request.specs.Catalogue.{File}
use Rattle.ods_request.specs.Steps.{zero_blocks}
use Rattle.ods_state.specs.Change.{disk}
use Rattle.ods_state.specs.Contents.{file_of, IsFileIn}
use Rattle.ods_state.specs.Made.{AreZeroed}
use Rattle.ods_state.specs.Wants.{allocated_blocks}
use Rattle.ods_state.proofs.Grown.{own_blocks, own_contents}
use Rattle.ods_state.specs.Growth.{HadHeaders, IsGrowth}
use Rattle.ods_state.proofs.GrowthAllocates.{is_enough}

-- a list that is mapped to one value
all_mapped : {X : Type 0} (f : ℕ → X) (x : X) (ns : List ℕ) → All (λ n. f n ≡ x) ns → map f ns ≡ replicate (length ns) x
all_mapped f x [] same = refl
all_mapped f x (n ∷ ns) same = λ i. All-head (λ m. f m ≡ x) n ns same i ∷ all_mapped f x ns (All-tail (λ m. f m ≡ x) n ns same) i

module _ {I J : List (List ℕ)} {L : VolumeLayout} {n : ℕ} {headers old : List ℕ} {count : ℕ} {numbers : List ℕ} (S : IsSoundBy I L) (g : IsGrowth I J L n headers old count numbers) where
  abbrev taken : List ℕ
  taken = allocated_blocks I L count

  -- as many blocks are taken as are wanted
  pub so_many_blocks : length taken ≡ count
  so_many_blocks = let fits = (is_enough I L headers count g.taking.enough).blocks in omega (arith, length-take count (free_blocks I L))

  -- what the old blocks hold stays, and the new ones follow
  pub contents_grow : contents_of J (old ++ taken) ≡ contents_of I old ++ contents_of J taken
  contents_grow = map-append (block_at J) old taken ∙ ap (λ cs. cs ++ contents_of J taken) (own_contents S g)

  -- the new ones are zeros
  pub zero_contents : AreZeroed (disk I L) (disk J L) count → contents_of J taken ≡ zero_blocks count
  zero_contents zeroed = all_mapped (block_at J) zeros taken zeroed ∙ ap (λ k. zero_blocks k) so_many_blocks

  pub grown_contents : AreZeroed (disk I L) (disk J L) count → contents_of J (old ++ taken) ≡ contents_of I old ++ zero_blocks count
  grown_contents zeroed = contents_grow ∙ ap (λ cs. contents_of I old ++ cs) (zero_contents zeroed)

  -- of a new file these are all
  pub new_has_none : headers ≡ [] → old ≡ []
  new_has_none new = by g.taking.before
    where
      by : HadHeaders I L n headers old → old ≡ []
      by (inl p) = let wrong : [] ≡ n ∷ p.1.0 = sym new ∙ p.1.1 in absurd (cc)
      by (inr p) = p.1

  pub new_contents : headers ≡ [] → AreZeroed (disk I L) (disk J L) count → contents_of J (old ++ taken) ≡ zero_blocks count
  new_contents new zeroed = ap (λ l. contents_of J (l ++ taken)) (new_has_none new) ∙ zero_contents zeroed

  -- the blocks show the file with its new contents
  pub grown_file : (id : FileId) (f : File) → id.number ≡ n → sequence_of (header_at J L n) ≡ id.sequence → file_of n (header_at J L n) (contents_of J (old ++ taken)) ≡ f → IsFileIn J L id f
  grown_file id f number sequence shown = record {
    blocks = old ++ taken;
    held = subst (λ m. HasBlocks J L m (old ++ taken)) (sym number) (own_blocks S g);
    sequence = ap (λ m. sequence_of (header_at J L m)) number ∙ sequence;
    shown = ap (λ m. file_of m (header_at J L m) (contents_of J (old ++ taken))) number ∙ shown;
  }
