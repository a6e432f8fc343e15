use Rattle.std.proofs.Common.{rules, ◌≡◌, suc, ◌+◌, ◌-◌, slice_index, sym, ap, ◌∙◌, arith}
use Rattle.lbm_cell.specs.Rows.{entry}
use Rattle.lbm_rows.specs.TileRows.{takes, puts, stands}
use Rattle.lbm_rows.proofs.RowPads.{stands_next}
use Rattle.lbm_rows.proofs.row.walk_row.Goals as goal

pub returns-clause-first : goal.returns-clause-first
returns-clause-first g c = λ f same.
    let ways = c.args.ways.now in let kept = c.args.kept.now in let row = c.args.row in let cell = c.args.cell in
    (c.collide_row.ensures.done f (λ i x known below. stands_next kept (takes ways row i) (slice_index ways.from i) x ∙ same i x known below) (λ y. 1 + (y - cell)) (λ x below. omega arith)).first

pub returns-clause-sent : goal.returns-clause-sent
returns-clause-sent g c = λ f same none i x known below.
    let ways = c.args.ways.now in let kept = c.args.kept.now in let row = c.args.row in let cell = c.args.cell in
    let w = c.collide_row.new.walk in let told = c.collide_row.ensures.same in
    let done = c.collide_row.ensures.done f (λ i' x' known' below'. stands_next kept (takes ways row i') (slice_index ways.from i') x' ∙ same i' x' known' below') (λ y. 1 + (y - cell)) (λ x' below'. omega arith) in
    let e : 1 + (cell + x - cell) ≡ suc x = omega arith in
    let there = done.sent none i (cell + x) known (omega arith) (omega arith) in
    let found : entry w.kept.now (puts ways row i) (slice_index ways.to i + x) ≡ g.K.Kernel.post c.args.kernel.now (cell + x) (f (cell + x)) i =
    (λ j. entry w.kept.now (puts (sym told.1 j) (sym told.2 j) i) (slice_index (sym told.1 j).to i + x)) ∙ ap (stands w.kept.now (puts w.ways.now w.row i) (slice_index w.ways.now.to i)) (sym e) ∙ there in
    search rules
