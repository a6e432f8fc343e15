-- What a loop puts, one item or a block at a time.
use Rattle.std.proofs.Common.{◌≡◌, ℕ, ℤ, pos, ◌+◌, ◌<◌, ◌≤◌, List, [], ◌∷◌, ◌++◌, length, take, drop, get_or, sym, ◌∙◌, ap, append_assoc}
use Rattle.std.specs.List.{flat_map}
use Rattle.std.proofs.lemmas.Grind.{flat_map-append}
use Rattle.std.proofs.lemmas.List.{append-nil, take_more, take-append-drop}
use Rattle.std.proofs.lemmas.Slice.{take-put_mid}
use borrow.Rule.Slice.PartMut.{put_mid}
use Rattle.std.specs.Int.{w64, to_be_bytes}
use Rattle.sha2.specs.Sha256.{sha256}
use Rattle.lbm_space.specs.Torus.{Torus}
use Rattle.lbm_model.specs.State.{FlowState}
use Rattle.lbm_ckpt.specs.declared.version.Version.TheVariants.{Two}
use Rattle.lbm_ckpt.specs.Ckpt.{magic, box, head, checkpoint, ckpt, population_bytes}

-- the texts of one item more
pub one_more : {X : Type 0} (f : X → List ℕ) (xs : List X) (i : ℕ) (d : X) → i < length xs → flat_map f (take i xs) ++ f (get_or xs i d) ≡ flat_map f (take (i + 1) xs)
one_more f xs i d known =
    sym (ap (flat_map f) (take_more xs i d known) ∙ flat_map-append f (take i xs) (get_or xs i d ∷ []) ∙ ap (λ t. flat_map f (take i xs) ++ t) (append-nil (f (get_or xs i d))))

-- a population more at the front
pub put_more : (front piece : List ℕ) (pops : List ℤ) (at i k : ℕ) → at ≤ length front → i < length pops → take at front ≡ flat_map population_bytes (take i pops)
    → piece ≡ population_bytes (get_or pops i (pos 0)) → take (at + 4) (put_mid at k front piece) ≡ flat_map population_bytes (take (i + 1) pops)
put_more front piece pops at i k within known so_far is =
    take-put_mid at k front piece (at + 4) (ap (λ n. at + n) (sym (ap length is))) within
    ∙ ap (λ t. t ++ piece) so_far ∙ ap (λ t. flat_map population_bytes (take i pops) ++ t) is ∙ one_more population_bytes pops i (pos 0) known

-- a block more was cut off what is left
pub in_blocks : (pops front rest block after : List ℤ) (n : ℕ) → pops ≡ front ++ rest → block ≡ take n rest → after ≡ drop n rest → pops ≡ (front ++ block) ++ after
in_blocks pops front rest block after n is first last =
    is ∙ ap (λ t. front ++ t) (sym (take-append-drop n rest) ∙ ap (λ t. t ++ drop n rest) (sym first) ∙ ap (λ t. block ++ t) (sym last))
    ∙ sym (append_assoc front block after)

-- what stands before the populations, put part by part
pub head_parts : (digest : List ℕ) (step : ℕ) (space : Torus) (q : ℕ) (first second third fourth : List ℕ) → first ≡ magic Two → second ≡ digest → third ≡ to_be_bytes w64 step → fourth ≡ box Two space q
    → first ++ (second ++ (third ++ (fourth ++ []))) ≡ head Two digest step space q
unfolding head
head_parts digest step space q first second third fourth e1 e2 e3 e4 =
    rw (e1, e2, e3, e4, append-nil) (sym (append_assoc (magic Two ++ digest) (to_be_bytes w64 step) (box Two space q) ∙ append_assoc (magic Two) digest (to_be_bytes w64 step ++ box Two space q)))

-- a file that is put part by part
pub file_is : (digest : List ℕ) (step : ℕ) (space : Torus) (s : FlowState) (front pops seal : List ℕ)
    → front ≡ head Two digest step space s.directions → pops ≡ flat_map population_bytes s.numbers → seal ≡ sha256 (front ++ pops)
    → (front ++ pops) ++ seal ≡ ckpt digest step space s
unfolding checkpoint
file_is digest step space s front pops seal e1 e2 e3 =
    ap (λ t. (front ++ pops) ++ t) e3 ∙ ap (λ t. t ++ sha256 t) (ap (λ t. t ++ pops) e1 ∙ ap (λ t. head Two digest step space s.directions ++ t) e2)
