-- The length of a generated case.
use Rattle.std.proofs.Common.{◌≡◌, ℕ, ◌*◌, ◌≤◌, List, [], ◌∷◌, ◌++◌, length, refl, arith, codes, length-append}
use Rattle.std.specs.List.{flat_map}
use Rattle.std.proofs.lemmas.List.FromFn.{length-map-range_with_len}
use Rattle.lbm_space.specs.Sum.{list_below}
use Rattle.lbm_answer.specs.Gen.{gen, gen_cell, gen_height, gen_row, gen_width}

-- a row of the map has 128 cells, a quote before them, and a quote, a comma and a line feed behind them
length-gen_row : (n y : ℕ) → length (gen_row n y) ≡ 132
length-gen_row n y =
    let cells : length (list_below gen_width (λ x. gen_cell n x y)) ≡ 128 = length-map-range_with_len (λ x. gen_cell n x y) 0 128 in
    let back : length (codes "\",\n") ≡ 3 = refl in
    let whole = length-append (codes "\"") (list_below gen_width (λ x. gen_cell n x y) ++ codes "\",\n") in
    let tail = length-append (list_below gen_width (λ x. gen_cell n x y)) (codes "\",\n") in
    omega (arith, whole, tail, cells, back)

length-rows : (n : ℕ) (ys : List ℕ) → length (flat_map (gen_row n) ys) ≡ 132 * length ys
length-rows n [] = refl
length-rows n (y ∷ ys) =
    let whole = length-append (gen_row n y) (flat_map (gen_row n) ys) in
    omega (arith, whole, length-gen_row n y, length-rows n ys)

-- it is a case file that is not too long
pub length-gen : (n : ℕ) → n ≤ 128 → length (gen n) ≤ 33554432
unfolding gen
length-gen n few =
    let height : length (list_below (gen_height n) (λ y. y)) ≡ 32 * n = length-map-range_with_len (λ (y : ℕ). y) 0 (gen_height n) in
    let rows = length-rows n (list_below (gen_height n) (λ y. y)) in
    let head : length (codes "set = \"D2Q9\"\nomega = [1, 1]\nforce = [1, 0, 0]\nmap = [\n") ≡ 54 = refl in
    let foot : length (codes "]\n") ≡ 2 = refl in
    let whole = length-append (codes "set = \"D2Q9\"\nomega = [1, 1]\nforce = [1, 0, 0]\nmap = [\n" ++ flat_map (gen_row n) (list_below (gen_height n) (λ y. y))) (codes "]\n") in
    let front = length-append (codes "set = \"D2Q9\"\nomega = [1, 1]\nforce = [1, 0, 0]\nmap = [\n") (flat_map (gen_row n) (list_below (gen_height n) (λ y. y))) in
    omega (arith, few, height, rows, head, foot, whole, front)
