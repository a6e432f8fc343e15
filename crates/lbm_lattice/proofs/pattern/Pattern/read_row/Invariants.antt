use Rattle.std.proofs.Common.{◌≡◌, ℕ, ◌+◌, ◌*◌, ◌<◌, length, slice_index_or, pos, FitsSigned, w32}
use Rattle.lbm_model.specs.State.{population}
use Rattle.lbm_lattice.proofs.pattern.Pattern.read_row.Given as goal

abbrev pub invariant-loop-x : goal.invariant-loop-x
invariant-loop-x g l =
    let now = g.Self.Lattice.standing l.self in
    record {
      room : length l.pops ≡ now.case.torus.nx;
      value : (x : ℕ) → x < l.x → slice_index_or l.pops x (pos 0) ≡ population now.state (l.row * now.case.torus.nx + x) l.dir;
      fits : (x : ℕ) → x < l.x → FitsSigned w32 (slice_index_or l.pops x (pos 0));
    }
