use Rattle.std.proofs.Common.{ℕ, ◌<◌, List, ◌∷◌, ap, sym, subst, ◌∙◌, vec_capacity}
use Rattle.lbm_board.specs.Models.{TurnModel}
use Rattle.lbm_board.specs.Fields.{times}
use Rattle.lbm_board.specs.Closing.{AreClaims}
use Rattle.lbm_board.proofs.ClaimsAdded.{claims_added}
use Rattle.lbm_board.proofs.claims.Claims.add.Goals as goal

pub returns : goal.returns
returns g c records before =
    let t = c.turn.inside in
    let drawn = c.as_slice.ensures.value in
    let held = c.as_slice-2.ensures.value in
    let is = c.turn.view_is in
    subst (λ (h : TurnModel g.row.T.Denot). AreClaims h.table.slots (h.log ∷ records) c.write_at.new.list.items c.write_at-2.new.list.items) is
    (claims_added t.seat.table_id t.seat.me t.number t.drawn.items (vec_capacity t.drawn) t.held.items (vec_capacity t.held) t.ended c.turn.invariant records
    c.args.self.now.drawn.items c.write_at.new.list.items c.args.self.now.unfinished.items c.write_at-2.new.list.items
    (subst (λ (h : TurnModel g.row.T.Denot). AreClaims h.table.slots records c.args.self.now.drawn.items c.args.self.now.unfinished.items) (sym is) before)
    c.write_at.ensures.long
    (λ k some. c.write_at.ensures.written k (subst (λ (ns : List ℕ). 0 < times k ns) (sym drawn) some))
    (λ k none. c.write_at.ensures.kept k (ap (times k) drawn ∙ none))
    c.write_at-2.ensures.long
    (λ k some. c.write_at-2.ensures.written k (subst (λ (ns : List ℕ). 0 < times k ns) (sym held) some))
    (λ k none. c.write_at-2.ensures.kept k (ap (times k) held ∙ none)))
