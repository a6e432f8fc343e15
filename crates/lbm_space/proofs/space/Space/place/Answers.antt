use Rattle.lbm_space.specs.Padded.{padded_box}
use Rattle.lbm_space.proofs.Back.{cell_number_below}
use Rattle.lbm_space.proofs.space.Space.place.Goals as goal

pub returns-clause-known : goal.returns-clause-known
returns-clause-known c =
    rw c.sides-sides.ensures.value (cell_number_below (padded_box c.args.self.now) c.args.x c.args.y c.args.z (record { x_within = c.requires.x_known; y_within = c.requires.y_known; z_within = c.requires.z_known }))
