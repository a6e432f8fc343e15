-- What a walk over a slab puts leaves what cells take that are still to come: a rising cell reads no lower than it puts,
-- and a falling one no higher.
use Rattle.std.proofs.Common.{◌≡◌, ℕ, ◌+◌, ◌-◌, nat_lt, List, ℤ, pos, Bool, ap, inl, inr, arith}
use Rattle.std.specs.Prelude.{true, false, slice_index_or, if◌then◌else◌}
use Rattle.lbm_arrays.specs.Lent.{Lent}
use Rattle.lbm_cell.specs.Rows.{entry}
use Rattle.lbm_walk.specs.Walked.{IsPending}
use Rattle.lbm_sweep.specs.Held.{IsSameBut}
use Rattle.lbm_grid.specs.declared.reading.Reading.{Reading}
use Rattle.lbm_grid.specs.Near.{read_place, seen}

-- what is seen hangs on one place of the range
pub seen_still : (rises : Bool) (saved : List ℤ) (old new : List (List ℤ)) (k : ℕ) (r : Reading) (p : ℕ) → entry new k (read_place rises r.far p) ≡ entry old k (read_place rises r.far p) → seen rises saved new k r p ≡ seen rises saved old k r p
seen_still rises saved old new k r p same = ap (λ z. if nat_lt p r.first then z else if nat_lt p r.past then slice_index_or saved (r.at + (p - r.first)) (pos 0) else z) same

pub seen_pending : (rises : Bool) (saved : List ℤ) (old new : Lent) (k : ℕ) (r : Reading) (at n p : ℕ) → IsSameBut at (at + n) old new → IsPending rises at n p → seen rises saved new.ranges k r p ≡ seen rises saved old.ranges k r p
seen_pending true saved old new k r at n p but past = seen_still true saved old.ranges new.ranges k r p (but.others k (p + r.far) (inr (omega (arith, past))))
seen_pending false saved old new k r at n p but past = seen_still false saved old.ranges new.ranges k r p (but.others k (p - r.far) (inl (omega (arith, past))))
