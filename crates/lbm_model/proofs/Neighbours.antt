-- A direction leads from one cell to one cell.
use Rattle.std.proofs.Common.{◌≡◌, ℕ, ◌<◌, ap, sym, ◌∙◌}
use Rattle.lbm_space.specs.Stencil.{velocity, opposite, part}
use Rattle.lbm_space.specs.Torus.{cells}
use Rattle.lbm_space.proofs.Back.{HasCells-from_space, IsUnit, IsReverse, back_within, back-twice}
use Rattle.lbm_model.specs.Case.{FlowCase, IsCase, source, target}

pub source_known : (case : FlowCase) (x i : ℕ) → IsCase case → x < cells case.torus → i < case.stencil.directions → source case x i < cells case.torus
unfolding IsUnit
source_known case x i allowed known_x known =
    back_within case.torus (velocity case.stencil i) x (HasCells-from_space case.torus allowed.space) (λ a axis. allowed.set.unit_parts i a known axis) known_x

pub target_known : (case : FlowCase) (x i : ℕ) → IsCase case → x < cells case.torus → i < case.stencil.directions → target case x i < cells case.torus
target_known case x i allowed known_x known = source_known case x (opposite case.stencil i) allowed known_x (allowed.set.opposite_exists i known)

-- it leads from the cell behind x to x
pub target-source : (case : FlowCase) (x i : ℕ) → IsCase case → x < cells case.torus → i < case.stencil.directions → target case (source case x i) i ≡ x
unfolding IsUnit IsReverse
target-source case x i allowed known_x known =
    back-twice case.torus (velocity case.stencil i) (velocity case.stencil (opposite case.stencil i)) x (HasCells-from_space case.torus allowed.space)
    (λ a axis. allowed.set.unit_parts i a known axis) (λ a axis. allowed.set.opposite_velocity i a known axis) known_x

-- and x is behind the cell to which it leads from x
pub source-target : (case : FlowCase) (x i : ℕ) → IsCase case → x < cells case.torus → i < case.stencil.directions → source case (target case x i) i ≡ x
unfolding IsUnit IsReverse
source-target case x i allowed known_x known =
    let o = opposite case.stencil i in
    let known_o : o < case.stencil.directions = allowed.set.opposite_exists i known in
    back-twice case.torus (velocity case.stencil o) (velocity case.stencil i) x (HasCells-from_space case.torus allowed.space)
    (λ a axis. allowed.set.unit_parts o a known_o axis) (λ a axis. ap (λ (k : ℕ). part (velocity case.stencil k) a) (sym (allowed.set.opposite_twice i known)) ∙ allowed.set.opposite_velocity o a known_o axis) known_x
