-- A head, and the numbers that it tells, are read off the first words.
use Rattle.std.proofs.Common.{◌≡◌, ℕ, zero, suc, ◌+◌, ◌<◌, ◌≤◌, List, [], ◌∷◌, length, take, get_or, max, Bool, true, false, ◌&&◌, ◌==◌, cond, nat_le, Option, Some, None, Result, Ok, Err, find, refl, sym, ap, ◌∙◌, arith}
use Rattle.std.specs.Prelude.{slice_get}
use Rattle.std.specs.List.{fold, list_all, position_or_len}
use Rattle.std.proofs.Math.Seq.{take-nil}
use Rattle.std.proofs.lemmas.Bool.{and_parts, leb-true}
use Rattle.std.proofs.lemmas.List.Folds.{find_at}
use Rattle.std.proofs.lemmas.List.Sums.{AllPass-from_list_all}
use Rattle.std.proofs.lemmas.Option.{slice_get_within, get_or_from_slice_get}
use Rattle.lbm_space.specs.Torus.{Torus, cells}
use Rattle.lbm_model.specs.Case.{FlowCase}
use Rattle.lbm_model.specs.Refusals.{◌>>=◌}
use Rattle.lbm_case.specs.Drawing.{is_space}
use Rattle.lbm_voxel.specs.declared.fault.VoxelFault.{VoxelFault}
use Rattle.lbm_voxel.specs.declared.fault.VoxelFault.TheVariants.{Word, Sides, Count}
use Rattle.lbm_voxel.specs.declared.fault.VoxelEnd.{VoxelEnd}
use Rattle.lbm_voxel.specs.declared.fault.VoxelEnd.TheVariants.{Fault, Memory}
use Rattle.lbm_voxel.specs.Refusals.{Refuses}
use Rattle.lbm_voxel.specs.declared.head.WordKind.{WordKind}
use Rattle.lbm_voxel.specs.Head.{is_dimensions, is_point_data, fits, heads, fitting, is_headed, head_in, strange_word, number_at, side, count_in, values_in}
use Rattle.lbm_voxel.specs.Voxels.{box_in, space_in, densities_in, with_voxels, case_in}

-- ---- words at the front

slice_get-take : (words : List (List ℕ)) (k n : ℕ) → n < k → slice_get (take k words) n ≡ slice_get words n
slice_get-take words zero n within = absurd (omega arith)
slice_get-take [] (suc k) n within = refl
slice_get-take (word ∷ words) (suc k) zero within = refl
slice_get-take (word ∷ words) (suc k) (suc n) within = slice_get-take words k n (omega arith)

number_at-take : (words : List (List ℕ)) (k n : ℕ) → n < k → number_at (take k words) n ≡ number_at words n
unfolding number_at
number_at-take words k n within = rw (slice_get-take words k n within) refl

fitting-take : (head : List WordKind) (words : List (List ℕ)) (k : ℕ) → length head ≤ k → fitting head (take k words) ≡ fitting head words
unfolding fitting
fitting-take [] words k few = refl
fitting-take (kind ∷ head) [] k few = ap (fitting (kind ∷ head)) (take-nil k)
fitting-take (kind ∷ head) (word ∷ words) zero few = absurd (omega arith)
fitting-take (kind ∷ head) (word ∷ words) (suc k) few = ap (λ (n : ℕ). cond (fits kind word) (1 + n) 0) (fitting-take head words k (omega arith))

-- ---- heads that k words hold

-- whether a head, the sides and the number of values that it tells are among k words
abbrev is_held : ℕ → List WordKind → Bool
is_held k head = nat_le (length head) k && nat_le (position_or_len is_dimensions head + 4) k && nat_le (position_or_len is_point_data head + 2) k

abbrev most : ℕ
most = 22

held_heads : list_all (is_held most) heads ≡ true
unfolding heads
held_heads = refl

record Held (k : ℕ) (head : List WordKind) : Type 0 where
  whole : length head ≤ k
  sides : position_or_len is_dimensions head + 4 ≤ k
  count : position_or_len is_point_data head + 2 ≤ k

held : (k : ℕ) (head : List WordKind) → is_held k head ≡ true → Held k head
held k head passed =
    let all = and_parts _ _ passed in
    let two = and_parts _ _ all.0 in
    record { whole = leb-true _ _ two.0; sides = leb-true _ _ two.1; count = leb-true _ _ all.1 }

-- what a search finds passes each test that all pass
found_passes : {X : Type 0} (q p : X → Bool) (xs : List X) (x : X) → list_all q xs ≡ true → find p xs ≡ Some x → q x ≡ true
found_passes q p xs x all found =
    let at : slice_get xs (position_or_len p xs) ≡ Some x = sym (find_at p xs) ∙ found in
    let here : get_or xs (position_or_len p xs) x ≡ x = get_or_from_slice_get xs (position_or_len p xs) x x at in
    ap q (sym here) ∙ AllPass-from_list_all q xs all (position_or_len p xs) x (slice_get_within xs (position_or_len p xs) x at)

same_head : (hs : List (List WordKind)) (words : List (List ℕ)) (k : ℕ) → list_all (is_held k) hs ≡ true → find (is_headed (take k words)) hs ≡ find (is_headed words) hs
same_head [] words k all = refl
same_head (h ∷ hs) words k all =
    let parts = and_parts _ _ all in
    rw (fitting-take h words k (held k h parts.0).whole, same_head hs words k parts.1) refl

same_most : (hs : List (List WordKind)) (words : List (List ℕ)) (k n : ℕ) → list_all (is_held k) hs ≡ true
    → fold (λ most head. max most (fitting head (take k words))) n hs ≡ fold (λ most head. max most (fitting head words)) n hs
same_most [] words k n all = refl
same_most (h ∷ hs) words k n all =
    let parts = and_parts _ _ all in
    rw (fitting-take h words k (held k h parts.0).whole) (same_most hs words k (max n (fitting h words)) parts.1)

-- ---- what the first words tell

head_in-take : (words : List (List ℕ)) → head_in (take most words) ≡ head_in words
unfolding head_in
head_in-take words = same_head heads words most held_heads

strange_word-take : (words : List (List ℕ)) → strange_word (take most words) ≡ strange_word words
unfolding strange_word
strange_word-take words = same_most heads words most 0 held_heads

held_head : (words : List (List ℕ)) (head : List WordKind) → head_in words ≡ Some head → Held most head
unfolding head_in
held_head words head found = held most head (found_passes (is_held most) (is_headed words) heads head held_heads found)

box_in-take : (dimension k : ℕ) (head : List WordKind) (words : List (List ℕ)) → Held k head → box_in dimension head (take k words) ≡ box_in dimension head words
box_in-take dimension k head words h =
    let at = position_or_len is_dimensions head in
    let x : side head (take k words) 1 ≡ side head words 1 = number_at-take words k (at + 1) (omega (arith, h.sides)) in
    let y : side head (take k words) 2 ≡ side head words 2 = number_at-take words k (at + 2) (omega (arith, h.sides)) in
    let z : side head (take k words) 3 ≡ side head words 3 = number_at-take words k (at + 3) (omega (arith, h.sides)) in
    rw (x, y, z) refl

abbrev allowed : Torus → Option Torus
allowed t = cond (is_space t) (Some t) None

space_in-take : (dimension k : ℕ) (head : List WordKind) (words : List (List ℕ)) → Held k head → space_in dimension head (take k words) ≡ space_in dimension head words
space_in-take dimension k head words h = ap allowed (box_in-take dimension k head words h)

count_in-take : (k : ℕ) (head : List WordKind) (words : List (List ℕ)) → Held k head → count_in head (take k words) ≡ count_in head words
count_in-take k head words h = number_at-take words k (position_or_len is_point_data head + 1) (omega (arith, h.count))

-- ---- the case of words whose first ones are told

module _ (words first : List (List ℕ)) (told : first ≡ take most words) (case : FlowCase) where
  pub case_in-word : head_in first ≡ None → case_in words case ≡ Err (Word (strange_word first))
  unfolding case_in
  case_in-word none =
      let same : head_in words ≡ None = sym (head_in-take words) ∙ (ap head_in (sym told) ∙ none) in
      let strange : strange_word words ≡ strange_word first = sym (strange_word-take words) ∙ ap strange_word (sym told) in
      rw (same, strange) refl

  module _ (head : List WordKind) (found : head_in first ≡ Some head) where
    begun : head_in words ≡ Some head
    begun = sym (head_in-take words) ∙ (ap head_in (sym told) ∙ found)

    same_space : space_in case.stencil.dimension head words ≡ space_in case.stencil.dimension head first
    same_space = sym (space_in-take case.stencil.dimension most head words (held_head words head begun)) ∙ ap (space_in case.stencil.dimension head) (sym told)

    same_count : count_in head words ≡ count_in head first
    same_count = sym (count_in-take most head words (held_head words head begun)) ∙ ap (count_in head) (sym told)

    pub case_in-sides : space_in case.stencil.dimension head first ≡ None → case_in words case ≡ Err Sides
    unfolding case_in
    case_in-sides none = rw (begun, same_space ∙ none) refl

    pub case_in-count : (space : Torus) → space_in case.stencil.dimension head first ≡ Some space → (count_in head first == cells space) ≡ false
        → case_in words case ≡ Err Count
    unfolding case_in
    case_in-count space given other = rw (begun, same_space ∙ given, same_count, other) refl

    pub case_in-then : (space : Torus) → space_in case.stencil.dimension head first ≡ Some space → (count_in head first == cells space) ≡ true
        → case_in words case ≡ (densities_in (values_in head words) (cells space) >>= (λ densities. Ok (with_voxels case space densities)))
    unfolding case_in
    case_in-then space given counted = rw (begun, same_space ∙ given, same_count, counted) refl

-- what ends a reading early ends all of it
pub refuses-then : (end : VoxelEnd) (reading : Result (List ℕ) VoxelFault) (f : List ℕ → Result FlowCase VoxelFault) → Refuses end reading → Refuses end (reading >>= f)
refuses-then Memory reading f is = tt
refuses-then (Fault fault) reading f is = rw is refl
