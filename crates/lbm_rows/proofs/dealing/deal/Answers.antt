use Rattle.std.proofs.Common.{rules, ◌≡◌, List, slice_get, Some, sym, ◌∙◌, subst}
use Rattle.lbm_rows.specs.Lending.{TileModel}
use Rattle.lbm_rows.specs.Tiles.{AreLent, AreTiles}
use Rattle.lbm_rows.proofs.StepMade.{few_tiles, tiles_are, tiles_back, fresh_serves}
use Rattle.lbm_rows.proofs.dealing.deal.Goals as goal

pub start-requires-clause-pieces : goal.start-requires-clause-pieces
start-requires-clause-pieces g c =
    let many = few_tiles c.args.case.now c.requires.valid c.args.t c.args.kept.now c.requires.kept c.args.division.per_tile c.in_ok-tiles.tiles.items c.in_ok-tiles.ensures.lent c.requires.division.few in
    search (rules, many)

pub return_tiles-requires-clause-tiles : goal.return_tiles-requires-clause-tiles
return_tiles-requires-clause-tiles g c =
    let is = c.as_mut_slice-all.ensures.value ∙ c.in-Err.ensures.memory in
    subst (AreTiles c.args.case.now) (sym is) (tiles_are c.args.case.now c.requires.valid c.args.t c.args.kept.now c.requires.kept c.args.division.per_tile c.in_ok-tiles.tiles.items c.in_ok-tiles.ensures.lent)

pub returns-in-Ok-clause-able : goal.returns-in-Ok-clause-able
returns-in-Ok-clause-able g c =
    let begun = c.in-Ok.begun in let started = c.in-Ok.ensures in
    let lent = subst (AreLent c.args.case.now c.args.t c.args.division.per_tile c.args.kept.now) (sym started.board.0) c.in_ok-tiles.ensures.lent in
    fresh_serves c.args.case.now c.requires.valid c.args.t c.args.kept.now c.requires.kept c.args.division.per_tile begun.0 lent c.requires.small begun.1.items started.turns.1
    (λ k below. started.fresh k (search (rules, below)))

pub returns-in-Err-clause-memory : goal.returns-in-Err-clause-memory
returns-in-Err-clause-memory g c =
    let is = c.as_mut_slice-all.ensures.value ∙ c.in-Err.ensures.memory in
    tiles_back c.args.case.now c.requires.valid c.args.t c.args.kept.now c.requires.kept c.args.division.per_tile c.in_ok-tiles.tiles.items c.in_ok-tiles.ensures.lent c.return_tiles.new.kept c.return_tiles.ensures.rows.count
    (λ k tile at. c.return_tiles.ensures.back k tile (subst (λ (l : List TileModel). slice_get l k ≡ Some tile) (sym is) at))
