use Rattle.std.proofs.Common.{rules, ◌≡◌, ℕ, ◌*◌, ◌<◌, ◌≤◌, ◌^◌, get_or, inl, inr, refl, ap, ◌∙◌, subst, arith}
use Rattle.std.specs.Prelude.{Some}
use Rattle.std.proofs.Math.Nat.{mul-le-mul_right}
use Rattle.lbm_space.specs.Torus.{Torus}
use Rattle.lbm_walk.specs.First.{IsFirst}
use Rattle.lbm_walk.proofs.Places.{width}
use Rattle.lbm_model.specs.Flow.{is_sound}
use Rattle.lbm_sweep.proofs.Places.{cells_between}
use Rattle.lbm_rows.specs.Lending.{taken}
use Rattle.lbm_rows.proofs.TileCells.{few_of_tile}
use Rattle.lbm_rows.proofs.worker.serve_tile.Goals as goal

pub overflow_mul-first : goal.overflow_mul-first
overflow_mul-first g c =
    let case = c.args.case.now in let tile = c.args.tile.now in
    let few = few_of_tile case c.space.ensures.valid c.args.t tile c.requires.ready in
    let less = mul-le-mul_right case.torus.nx (let h : tile.first ≤ tile.end = omega (arith, c.requires.ready.whole.some) in h) in
    let whole : get_or c.sides.result 0 0 ≡ case.torus.nx = width c.space.result.now c.sides.result c.sides.ensures.value ∙ ap (λ (t : Torus). t.nx) c.space.ensures.value in
    let first : c.rows-first.result.0 ≡ tile.first = ap (λ (r : ℕ × ℕ). r.0) c.rows-first.ensures.value in
    let same : c.rows-first.result.0 * get_or c.sides.result 0 0 ≡ tile.first * case.torus.nx = λ j. first j * whole j in
    let small : c.rows-first.result.0 * get_or c.sides.result 0 0 < 2 ^ 32 = omega (arith, few, less, same) in
    search (rules, small)

pub returns-in-Some : goal.returns-in-Some
returns-in-Some g c =
    let case = c.args.case.now in let tile = c.args.tile.now in
    let first = subst (IsFirst (λ x. is_sound case x (taken case c.args.t tile x)) (tile.first * case.torus.nx) (tile.end * case.torus.nx)) c.in-Some.is c.collide.ensures.first in
    let report : c.in-Some.cell ≡ c.from-in-Some.result = search rules in record {
      shape = c.collide.ensures.shape;
      way = inr (inl (subst (λ (n : ℕ). IsFirst (λ x. is_sound case x (taken case c.args.t tile x)) (tile.first * case.torus.nx) (tile.end * case.torus.nx) (Some n)) report first));
    }

pub returns-in-None : goal.returns-in-None
returns-in-None g c =
    let case = c.args.case.now in let tile = c.args.tile.now in
    let first = subst (IsFirst (λ x. is_sound case x (taken case c.args.t tile x)) (tile.first * case.torus.nx) (tile.end * case.torus.nx)) c.in-None.is c.collide.ensures.first in record {
      shape = c.collide.ensures.shape;
      way = inl (record {
        quiet = refl;
        sound = λ x here. (let between = cells_between case.torus c.space.ensures.valid.space (tile.first, tile.end) x here in first.passed x between.0 between.1);
        sent = c.collide.ensures.sent c.in-None.is;
      });
    }
