use Rattle.std.proofs.Common.{◌≡◌, ℕ, zero, suc, ◌+◌, ◌-◌, ◌%◌, ◌<◌, ◌≤◌, pos, ◌-ℤ◌, ltb, false, ◌∙◌, arith}
use Rattle.std.proofs.lemmas.Bool.{le-ltb}
use Rattle.std.proofs.Math.Nat.{add-mod_right, mod-eq_of_lt, zero-mod}
use Rattle.lbm_space.specs.Torus.{modulo}
use Rattle.lbm_space.proofs.padded.wrapped.Goals as goal

wrapped_is : (place pads side : ℕ) → 0 < side → pads ≤ 1 → (place + side - pads) % side ≡ modulo (pos place -ℤ pos pads) side
wrapped_is place zero side some few = let e : place + side - 0 ≡ place + side = omega arith in let e' : place + 0 ≡ place = omega arith in rw (e, e') (add-mod_right place side)
wrapped_is zero (suc zero) side some few = let e : 0 + side - 1 ≡ side - 1 = omega arith in let none : 0 % side ≡ 0 = zero-mod side in rw (e, none) (mod-eq_of_lt (omega arith) ∙ omega arith)
wrapped_is (suc place) (suc zero) side some few =
    let e : suc place + side - 1 ≡ place + side = omega arith in let off : ltb (suc place) 1 ≡ false = le-ltb (suc place) 1 (omega arith) in let e' : suc place - 1 ≡ place = omega arith in
    rw (e, off, e') (add-mod_right place side)
wrapped_is place (suc (suc pads)) side some few = absurd (omega arith)

pub returns : goal.returns
returns c = wrapped_is c.args.place c.args.pads c.args.side c.requires.side.0 c.requires.pads
