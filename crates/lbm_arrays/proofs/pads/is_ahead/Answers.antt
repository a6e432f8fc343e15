use Rattle.std.proofs.Common.{◌≡◌, FitsSigned, get_or, w64, sym, ap, subst, rules}
use mir.Val.{to_z, of_z}
use Rattle.std.proofs.lemmas.Int.{to_z-of_z}
use Rattle.lbm_space.specs.Stencil.{part}
use Rattle.lbm_space.specs.Padded.{pads_below}
use Rattle.lbm_arrays.specs.Pads.{IsLed}
use Rattle.lbm_arrays.proofs.pads.is_ahead.Goals as goal

pub returns-then-is_led-clause-ahead : goal.returns-then-is_led-clause-ahead
returns-then-is_led-clause-ahead c =
    let t = c.args.space.now in let u = c.args.c.now in let sides = c.sides-sides.result in
    let fits_y : FitsSigned w64 (part u 1) = search rules in
    let fits_z : FitsSigned w64 (part u 2) = search rules in
    let high : get_or sides 1 0 ≡ t.ny = ap (λ l. get_or l 1 0) c.sides-sides.ensures.value in
    let deep : get_or sides 2 0 ≡ t.nz = ap (λ l. get_or l 2 0) c.sides-sides.ensures.value in
    let y_is : IsLed 1 (get_or sides 1 0) (to_z w64 (of_z w64 (part u 1))) c.args.y ≡ IsLed 1 t.ny (part u 1) c.args.y = λ i. IsLed 1 (high i) (to_z-of_z w64 (part u 1) fits_y i) c.args.y in
    let z_is : IsLed c.layers_below.result (get_or sides 2 0) (to_z w64 (of_z w64 (part u 2))) c.args.z ≡ IsLed (pads_below t) t.nz (part u 2) c.args.z =
    λ i. IsLed (c.layers_below.ensures.count i) (deep i) (to_z-of_z w64 (part u 2) fits_z i) c.args.z in (
      λ yes. (subst (λ (A : Type 0). A) y_is (c.is_led.ensures.0 c.if-is_led.true), subst (λ (A : Type 0). A) z_is (c.is_led-then-is_led.ensures.0 yes)),
      λ led. c.is_led-then-is_led.ensures.1 (subst (λ (A : Type 0). A) (sym z_is) led.1),
    )
