use Rattle.lbm_space.specs.Stencil.{IsVelocitySet}
use Rattle.lbm_space.specs.Laws.{d2q9_laws, d3q19_laws}
use Rattle.lbm_sets.specs.Laws.{d3q15_laws, d3q27_laws}
use Rattle.lbm_model.specs.Sets.{stencil_of}
use Rattle.lbm_model.specs.declared.sets.SetKind.{SetKind}
use Rattle.lbm_model.specs.declared.sets.SetKind.TheVariants.{D2Q9, D3Q19, D3Q15, D3Q27}

-- each name stands for a velocity set
pub IsVelocitySet-stencil_of : (kind : SetKind) → IsVelocitySet (stencil_of kind)
IsVelocitySet-stencil_of D2Q9 = d2q9_laws
IsVelocitySet-stencil_of D3Q19 = d3q19_laws
IsVelocitySet-stencil_of D3Q15 = d3q15_laws
IsVelocitySet-stencil_of D3Q27 = d3q27_laws
