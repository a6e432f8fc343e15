use Rattle.std.proofs.Common.{◌≡◌, ◌≤◌, ap, sym, subst, ◌∙◌}
use Rattle.lbm_space.specs.Stencil.{Stencil}
use Rattle.lbm_model.specs.declared.layout.Layout.{Layout}
use Rattle.lbm_model.specs.Layout.{state_in}
use Rattle.lbm_arrays.specs.Arrays.{Arrays}
use Rattle.lbm_sweep.specs.Lattices.{IsLaidOut}
use Rattle.lbm_sweep.proofs.Lattices.{laid_again, small_placed}
use Rattle.lbm_lattice.proofs.array_lattice.ArrayLattice.start.Goals as goal

pub invariant_of-result : goal.invariant_of-result
invariant_of-result g c =
    let case = c.args.case in let made = c.in_ok-region.ensures in let layout = g.P.Propagation.layout case c.args.t in let placed = c.place_state.new.region in
    let is : c.layout_at-layout.result ≡ layout = c.layout_at-layout.ensures.value in
    let stands : state_in case layout placed.slots ≡ c.args.state.now = ap (λ (l : Layout). state_in case l placed.slots) (sym is) ∙ c.place_state.ensures.placed in
    let laid : IsLaidOut case layout c.in_ok-region.region = record {
      space = ap (λ (r : Arrays). r.space) made ∙ c.space.ensures.value;
      count = ap (λ (r : Arrays). r.count) made ∙ (c.Q.ensures ∙ g.met.V.VelocitySet.constants.0 ∙ ap (λ (v : Stencil). v.directions) (sym c.requires.set));
      margin = ap (λ (r : Arrays). r.margin) made ∙ ap (λ (l : Layout). l.margin) is;
      base = subst (λ (l : Layout). l.base ≤ l.margin) is c.layout_at-layout.ensures.base;
    } in (
      record {
        set = c.requires.set;
        valid = c.space.ensures.valid;
        laid = laid_again case layout c.in_ok-region.region placed c.place_state.ensures.same laid;
        cutting = c.requires.cutting;
        small = λ none. small_placed case layout c.args.state.now placed.slots c.space.ensures.valid c.requires.state c.requires.narrow stands;
      },
      c.in_ok-propagation.ensures,
    )
