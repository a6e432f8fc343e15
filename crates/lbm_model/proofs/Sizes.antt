-- How many cells a case may have.
use Rattle.std.proofs.Common.{◌≡◌, ◌+◌, ◌*◌, ◌≤◌, true, false, eqb, arith, inl, inr}
use Rattle.std.specs.Prelude.{if◌then◌else◌}
use Rattle.std.proofs.lemmas.Bool.{cases_eq, eq-eqb, ne_eqb}
use Rattle.std.proofs.lemmas.Nat.{mul-le}
use Rattle.lbm_space.specs.Torus.{Torus, IsSpace, cells, padded}

-- the padding is no thinner than the box
layers : (t : Torus) → IsSpace t → t.nz ≤ (if eqb t.dimension 2 then 1 else t.nz + 2)
layers t space = elim (cases_eq t.dimension 2) [
  | inl flat ↦ (let on : eqb t.dimension 2 ≡ true = eq-eqb t.dimension 2 flat in let one : t.nz ≡ 1 = space.flat flat in rw on (omega arith))
  | inr deep ↦ (let off : eqb t.dimension 2 ≡ false = ne_eqb t.dimension 2 deep in rw off (omega arith))
]

pub few_cells : (t : Torus) → IsSpace t → cells t ≤ 4194304
few_cells t space =
    let plane : t.nx * t.ny ≤ (t.nx + 2) * (t.ny + 2) = mul-le t.nx t.ny (t.nx + 2) (t.ny + 2) (omega arith) (omega arith) in
    let whole : cells t ≤ padded t = mul-le (t.nx * t.ny) t.nz ((t.nx + 2) * (t.ny + 2)) (if eqb t.dimension 2 then 1 else t.nz + 2) plane (layers t space) in
    omega (arith, whole, space.fits)
