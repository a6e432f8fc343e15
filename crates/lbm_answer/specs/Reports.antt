-- What a run gives a user: the moments that are printed, and the report.
use Rattle.std.specs.Prelude.{ℕ, zero, suc, ◌+◌, ◌-◌, ◌^◌, ◌≤◌, unsigned_abs, List, [], ◌∷◌, ℤ, pos, ◌+ℤ◌, fold, if◌then◌else◌}
use Rattle.lbm_space.specs.Sum.{list_below}
use Rattle.lbm_space.specs.Stencil.{Stencil, part}
use Rattle.lbm_space.specs.Torus.{cells}
use Rattle.lbm_cell.specs.declared.populations.Moment.{Moment}
use Rattle.lbm_cell.specs.Moments.{density, momentum_part}
use Rattle.lbm_model.specs.State.{FlowState, population, mass}
use Rattle.lbm_model.specs.Case.{FlowCase, is_solid}
use Rattle.lbm_model.specs.Flow.{first}
use Rattle.lbm_tracer.specs.Tracing.{set_in}
use Rattle.lbm_answer.specs.declared.report.Report.{Report}
use Rattle.lbm_answer.specs.declared.report.Report.TheVariants.{Run, Check, Tracer}

-- the density and the momentum of a cell
abbrev pub moment_of : Stencil → (ℕ → ℤ) → Moment
moment_of v f = record { rho = density v f; jx = momentum_part v f 0; jy = momentum_part v f 1; jz = momentum_part v f 2 }

abbrev pub no_moment : Moment
no_moment = record { rho = pos 0; jx = pos 0; jy = pos 0; jz = pos 0 }

-- what is printed of a cell: zeros where it is solid
abbrev pub printed_moment : FlowCase → FlowState → ℕ → Moment
printed_moment case s x = if is_solid case x then no_moment else moment_of case.stencil (population s x)

abbrev pub printed_moments : FlowCase → FlowState → List Moment
printed_moments case s = list_below (cells case.torus) (printed_moment case s)

-- what is printed of a cell of a tracer: its amount, or 0 where it is solid
abbrev pub printed_amount : FlowCase → FlowState → ℕ → ℤ
printed_amount case g x = if is_solid case x then pos 0 else density (set_in case.torus) (population g x)

abbrev pub printed_amounts : FlowCase → FlowState → List ℤ
printed_amounts case g = list_below (cells case.torus) (printed_amount case g)

-- a part of a momentum: 0 is x, 1 is y and 2 is z
abbrev pub moment_part : Moment → ℕ → ℤ
moment_part m zero = m.jx
moment_part m (suc zero) = m.jy
moment_part m (suc (suc axis)) = m.jz

-- what the momenta of cells of 32-bit populations keep to
abbrev pub IsSmallMoment : Moment → Type 0
IsSmallMoment m = (axis : ℕ) → unsigned_abs (moment_part m axis) ≤ 2 ^ 36

-- the sum of a part of the moments
abbrev pub total : (Moment → ℤ) → List Moment → ℤ
total part_of moments = fold (λ sum m. sum +ℤ part_of m) (pos 0) moments

-- the step, the mass and the momentum of a state
abbrev pub run_report : FlowCase → ℕ → FlowState → Report
run_report case step s =
    let moments = printed_moments case s in
    Run (record { step = step; mass = mass s; momentum = total (λ m. m.jx) moments ∷ total (λ m. m.jy) moments ∷ total (λ m. m.jz) moments ∷ [] })

-- the step, the mass of the flow's state, and the sum of all amounts of the tracer's
abbrev pub tracer_report : ℕ → (flow tracer : FlowState) → Report
tracer_report step s g = Tracer (record { step = step; mass = mass s; tracer = mass g })

-- how many of the first n cells are solid
abbrev pub solid_below : FlowCase → ℕ → ℕ
solid_below case zero = 0
solid_below case (suc n) = solid_below case n + (if is_solid case n then 1 else 0)

-- the set by its dimension and its number of directions, the sides, how many cells are fluid and how many solid, and the mass of the first state
abbrev pub check_report : FlowCase → Report
check_report case =
    let solid = solid_below case (cells case.torus) in
    Check (record { dimension = case.stencil.dimension; directions = case.stencil.directions; sides = case.torus.nx ∷ case.torus.ny ∷ case.torus.nz ∷ []; fluid = cells case.torus - solid; solid = solid; mass = mass (first case) })

-- the mass that a report tells
abbrev pub mass_of : Report → ℤ
mass_of (Run r) = r.mass
mass_of (Check r) = r.mass
mass_of (Tracer r) = r.mass

-- a part of the momentum that it tells; a check and a run with a tracer tell none
abbrev pub momentum_of : Report → ℕ → ℤ
momentum_of (Run r) a = part r.momentum a
momentum_of (Check r) a = pos 0
momentum_of (Tracer r) a = pos 0

-- how much of a tracer it tells; there is none without one
abbrev pub tracer_of : Report → ℤ
tracer_of (Run r) = pos 0
tracer_of (Check r) = pos 0
tracer_of (Tracer r) = r.tracer
