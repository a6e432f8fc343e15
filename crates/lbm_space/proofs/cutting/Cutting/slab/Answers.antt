use Rattle.std.proofs.Common.{◌≡◌, ◌+◌, length, slice_index, List, ℕ, ap, subst, ◌∙◌, arith}
use Rattle.std.proofs.lemmas.List.{get_or_read}
use Rattle.lbm_space.specs.Cuttings.{end_row, IsCutting}
use Rattle.lbm_space.proofs.Slabs.{end_known}
use Rattle.lbm_space.proofs.cutting.Cutting.slab.Goals as goal

pub returns-clause-known : goal.returns-clause-known
returns-clause-known c =
    let cutting : IsCutting c.args.self.now = subst IsCutting c.self.view_is c.self.invariant.0 in
    let bounds = c.self.inside.bounds.items in let k = c.args.k in
    let long = ap length c.self.view_is in let known = c.requires in
    let end : c.index-2.result.now ≡ end_row c.args.self.now k =
    get_or_read bounds (k + 1) c.index-2.result.now (omega (arith, long, known)) c.index-2.ensures 0 ∙ ap (λ (l : List ℕ). slice_index l (k + 1)) c.self.view_is in
    rw end (end_known c.args.self.now cutting k known)
