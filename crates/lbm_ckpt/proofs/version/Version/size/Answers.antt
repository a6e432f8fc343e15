use Rattle.std.proofs.Common.{◌*◌, ◌≤◌, arith}
use Rattle.std.proofs.lemmas.Nat.{mul-le}
use Rattle.lbm_model.proofs.Sizes.{few_cells}
use Rattle.lbm_ckpt.specs.declared.version.Version.{Version}
use Rattle.lbm_ckpt.specs.declared.version.Version.TheVariants.{One, Two}
use Rattle.lbm_ckpt.specs.Ckpt.{box_len}
use Rattle.lbm_ckpt.proofs.version.Version.size.Goals as goal

short_box : (version : Version) → box_len version ≤ 16
short_box One = omega arith
short_box Two = omega arith

pub overflow_add-result-2 : goal.overflow_add-result-2
overflow_add-result-2 c =
    let few : c.from-2.result ≤ 4194304 = omega (arith, few_cells c.args.space.now c.cells.ensures.valid, c.cells.ensures.count, c.from-2.ensures) in
    let some : 4 * c.from.result ≤ 17179869184 = omega (arith, c.ranges.q.fits, c.from.ensures) in
    let product : 4 * c.from.result * c.from-2.result ≤ 72057594037927936 = mul-le (4 * c.from.result) c.from-2.result 17179869184 4194304 some few in
    omega (arith, product, short_box c.args.self, c.box_len.ensures)
