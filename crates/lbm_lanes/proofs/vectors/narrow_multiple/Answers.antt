use Rattle.std.proofs.Common.{◌*◌, ◌<◌, ◌^◌, ℕ, ap, sym, subst, ◌∙◌, arith}
use Rattle.std.specs.Prelude.{slice_index}
use Rattle.lbm_lanes.proofs.vectors.narrow_multiple.Goals as goal

pub product-requires-clause-first : goal.product-requires-clause-first
product-requires-clause-first c l known = omega (arith, c.all.ensures l known, c.requires.factor)

pub product-requires-clause-room : goal.product-requires-clause-room
product-requires-clause-room c l known = subst (λ (k : ℕ). k * slice_index c.args.a l < 2 ^ 62) (sym (c.all.ensures l known)) (c.requires.room l known)

pub returns : goal.returns
returns c l known = c.product.ensures l known ∙ ap (λ (k : ℕ). k * slice_index c.args.a l) (c.all.ensures l known)
