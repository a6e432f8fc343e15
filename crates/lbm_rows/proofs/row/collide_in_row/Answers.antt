use Rattle.std.proofs.Common.{◌+◌, sym, ◌∙◌, subst}
use Rattle.lbm_rows.proofs.RowPads.{has_alike, taken_side, sent_side}
use Rattle.lbm_rows.proofs.row.collide_in_row.Goals as goal

pub walk_row-answer-requires-clause-small : goal.walk_row-answer-requires-clause-small
walk_row-answer-requires-clause-small g c = λ i x known below.
    let v = g.V.VelocitySet.stencil in let ways = c.args.ways.now in let row = c.args.row in
    subst (g.K.Kernel.small c.args.kernel.now (c.args.cell + x)) (sym (taken_side v ways row c.args.width c.args.kept.now c.load_pads.new.kept c.requires.some c.requires.row c.requires.exchange c.load_pads.ensures.loaded i x known below)) (c.requires.small i x known below)

pub walk_row-answer-requires-clause-row : goal.walk_row-answer-requires-clause-row
walk_row-answer-requires-clause-row g c = has_alike g.V.VelocitySet.stencil c.args.ways.now c.args.row c.args.row c.args.width c.args.kept.now c.load_pads.new.kept c.load_pads.ensures.alike c.requires.row

pub returns-then-is_none-clause-first : goal.returns-then-is_none-clause-first
returns-then-is_none-clause-first g c = λ f same.
    c.walk_row-answer.ensures.first f (λ i x known below. taken_side g.V.VelocitySet.stencil c.args.ways.now c.args.row c.args.width c.args.kept.now c.load_pads.new.kept c.requires.some c.requires.row c.requires.exchange c.load_pads.ensures.loaded i x known below ∙ same i x known below)

pub returns-else-is_none-clause-first : goal.returns-else-is_none-clause-first
returns-else-is_none-clause-first g c = λ f same.
    c.walk_row-answer.ensures.first f (λ i x known below. taken_side g.V.VelocitySet.stencil c.args.ways.now c.args.row c.args.width c.args.kept.now c.load_pads.new.kept c.requires.some c.requires.row c.requires.exchange c.load_pads.ensures.loaded i x known below ∙ same i x known below)

pub returns-then-is_none-clause-sent : goal.returns-then-is_none-clause-sent
returns-then-is_none-clause-sent g c = λ f same none i x known below.
    let v = g.V.VelocitySet.stencil in let ways = c.args.ways.now in let row = c.args.row in let width = c.args.width in
    let loaded = has_alike v ways row row width c.args.kept.now c.load_pads.new.kept c.load_pads.ensures.alike c.requires.row in
    let walked = has_alike v ways row row width c.load_pads.new.kept c.walk_row-answer.new.kept c.walk_row-answer.ensures.alike loaded in
    sent_side v ways row width c.walk_row-answer.new.kept c.store_pads.new.kept c.requires.some walked c.requires.exchange c.store_pads.ensures.stored i x known below
    ∙ c.walk_row-answer.ensures.sent f (λ i' x' known' below'. taken_side v ways row width c.args.kept.now c.load_pads.new.kept c.requires.some c.requires.row c.requires.exchange c.load_pads.ensures.loaded i' x' known' below' ∙ same i' x' known' below') none i x known below
