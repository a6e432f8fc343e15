use Rattle.std.proofs.Common.{ap, sym, ◌∙◌, arith}
use Rattle.lbm_space.specs.Stencil.{Stencil}
use Rattle.lbm_arrays.specs.Arrays.{Arrays}
use Rattle.lbm_two.proofs.two.TwoLatticesPropagation.new.Goals as goal

pub returns : goal.returns
returns g c = let made = c.in_ok-next.ensures in record {
  space = ap (λ (a : Arrays). a.space) made ∙ c.space.ensures.value;
  count = ap (λ (a : Arrays). a.count) made ∙ c.Q.ensures ∙ g.met.V.VelocitySet.constants.0 ∙ ap (λ (v : Stencil). v.directions) (sym c.requires.set);
  margin = ap (λ (a : Arrays). a.margin) made;
  base = omega arith;
}
