use Rattle.std.proofs.Common.{◌+◌, get_or, ap, ◌∙◌}
use Rattle.lbm_space.specs.Torus.{cell_number}
use Rattle.lbm_space.specs.Padded.{padded_box, padded_index, wrap}
use Rattle.lbm_space.proofs.Places.{index_within, wrap-padded_index}
use Rattle.lbm_space.proofs.space.Space.padded_index.Goals as goal

pub place-requires-clause-z_known : goal.place-requires-clause-z_known
place-requires-clause-z_known c =
    let t = c.args.self.now in let at = c.coords-at.ensures.coordinates in
    rw (c.pads_below-below.ensures.count, at) (index_within t c.pads_below-below.ensures.valid c.args.cell c.requires).z_within

pub returns-clause-index : goal.returns-clause-index
unfolding padded_index
returns-clause-index c =
    let t = c.args.self.now in let at = c.coords-at.ensures.coordinates in
    c.place.ensures.number ∙ (λ i. cell_number (padded_box t) (get_or (at i) 0 0 + 1) (get_or (at i) 1 0 + 1) (get_or (at i) 2 0 + c.pads_below-below.ensures.count i))

pub returns-clause-wraps : goal.returns-clause-wraps
unfolding padded_index
returns-clause-wraps c =
    let t = c.args.self.now in let at = c.coords-at.ensures.coordinates in
    ap (wrap t) (c.place.ensures.number ∙ (λ i. cell_number (padded_box t) (get_or (at i) 0 0 + 1) (get_or (at i) 1 0 + 1) (get_or (at i) 2 0 + c.pads_below-below.ensures.count i)))
    ∙ wrap-padded_index t c.pads_below-below.ensures.valid c.args.cell c.requires
