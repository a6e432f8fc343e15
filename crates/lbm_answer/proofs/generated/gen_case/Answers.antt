use Rattle.std.proofs.Common.{◌≡◌, ◌∙◌, ℕ, ◌+◌, ◌*◌, List, [], ◌∷◌, ◌++◌, ap, sym, arith}
use Rattle.std.specs.Prelude.{codes}
use Rattle.std.specs.List.{flat_map}
use Rattle.std.proofs.lemmas.List.{flat_map_more}
use Rattle.std.proofs.lemmas.List.FromFn.{map-range_with_len_more}
use Rattle.lbm_space.specs.Sum.{list_below}
use Rattle.lbm_answer.specs.Gen.{gen, gen_row}
use Rattle.lbm_answer.proofs.generated.gen_case.Goals as goal

pub loop-y-preserved : goal.loop-y-preserved
loop-y-preserved c =
    let y = c.loop-y.y in
    let each = λ (k : ℕ). k in
    let row = gen_row c.args.n in
    let head = codes "set = \"D2Q9\"\nomega = [1, 1]\nforce = [1, 0, 0]\nmap = [\n" in
    let more : list_below (y + 1) each ≡ list_below y each ++ y ∷ [] = map-range_with_len_more each 0 y y (omega arith) in
    c.in_ok-put_row.ensures
    ∙ ap (λ (xs : List ℕ). xs ++ row y) c.loop-y.invariant
    ∙ flat_map_more row head (list_below y each) y
    ∙ ap (λ (ys : List ℕ). head ++ flat_map row ys) (sym more)

pub returns : goal.returns
unfolding gen
returns c =
    let row = gen_row c.args.n in
    let head = codes "set = \"D2Q9\"\nomega = [1, 1]\nforce = [1, 0, 0]\nmap = [\n" in
    let last : c.loop-y.y ≡ 32 * c.args.n = omega arith in
    let whole : c.loop-y.text.items ≡ head ++ flat_map row (list_below (32 * c.args.n) (λ (k : ℕ). k)) =
    c.loop-y.invariant ∙ ap (λ (k : ℕ). head ++ flat_map row (list_below k (λ (y : ℕ). y))) last in
    c.in_ok-extend_from_slice-2.ensures.items ∙ ap (λ (xs : List ℕ). xs ++ codes "]\n") whole
