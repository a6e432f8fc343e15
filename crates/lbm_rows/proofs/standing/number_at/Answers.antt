use Rattle.std.proofs.Common.{rules, ◌≡◌, ℕ, ◌+◌, ◌*◌, ◌<◌, List, ℤ, pos, FitsSigned, w32, w64, slice_index_or, sym, ap, subst, ◌∙◌, arith}
use Rattle.std.proofs.lemmas.Int.{to_z-of_z}
use Rattle.std.proofs.lemmas.Nat.{mul-add-lt}
use Rattle.lbm_space.specs.Stencil.{Stencil}
use Rattle.lbm_space.specs.Torus.{cells}
use Rattle.lbm_model.specs.State.{population}
use Rattle.lbm_rows.proofs.standing.number_at.Goals as goal

pub bounds-pops-first : goal.bounds-pops-first
bounds-pops-first g c =
    let s = c.args.state.now in let i = c.place_of-i.result.0 in
    let width : c.Q.result ≡ s.directions = c.Q.ensures ∙ g.met.V.VelocitySet.constants.0 ∙ ap (λ (v : Stencil). v.directions) (sym c.requires.set) ∙ sym c.requires.state.directions in
    let of_set : g.V.VelocitySet.stencil.directions ≡ s.directions = ap (λ (v : Stencil). v.directions) (sym c.requires.set) ∙ sym c.requires.state.directions in
    let known : i < s.directions = subst (λ (m : ℕ). i < m) of_set c.place_of-i.ensures.known.0 in
    let inside = mul-add-lt c.place_of-i.result.1 s.directions i (cells c.args.case.now.torus) c.place_of-i.ensures.known.1 known in
    rw (c.pops.ensures.value, c.requires.state.numbers, width) (omega (arith, inside))

pub returns : goal.returns
returns g c =
    let s = c.args.state.now in let i = c.place_of-i.result.0 in let x = c.place_of-i.result.1 in let placed = c.place_of-i.ensures in
    let width : s.directions ≡ c.Q.result = c.requires.state.directions ∙ ap (λ (v : Stencil). v.directions) c.requires.set ∙ sym g.met.V.VelocitySet.constants.0 ∙ sym c.Q.ensures in
    let small : FitsSigned w32 (slice_index_or c.pops.result.now (x * c.Q.result + i) (pos 0)) = search rules in
    let fits : FitsSigned w64 c.from.result = search rules in
    to_z-of_z w64 c.from.result fits ∙ c.from.ensures ∙ to_z-of_z w32 (slice_index_or c.pops.result.now (x * c.Q.result + i) (pos 0)) small
    ∙ ap (λ (zs : List ℤ). slice_index_or zs (x * c.Q.result + i) (pos 0)) c.pops.ensures.value ∙ ap (λ (w : ℕ). slice_index_or s.numbers (x * w + i) (pos 0)) (sym width)
    ∙ (λ z. population s (placed.place z) (placed.array z))
