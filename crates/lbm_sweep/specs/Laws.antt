-- Laws of rows that stand in the ranges of a loan.
use Rattle.std.proofs.Common.{◌≡◌, ◌≢◌, ℕ, ◌+◌, ◌<◌, ◌≤◌, List, slice_index, inl, inr, refl, ◌∙◌, arith}
use Rattle.lbm_space.specs.Stencil.{Stencil, IsVelocitySet, opposite}
use Rattle.lbm_arrays.specs.Lent.{Lent}
use Rattle.lbm_sweep.specs.Held.{IsAlike, IsExchange, IsSameBut}

pub same_but : (from to : ℕ) (a : Lent) → IsSameBut from to a a
same_but from to a = record { rows = refl; place = refl; wide = refl; sized = λ q len s. s; others = λ k p off. refl }

same_but_more : (from to from' to' : ℕ) (a b : Lent) → from' ≤ from → to ≤ to' → IsSameBut from to a b → IsSameBut from' to' a b
same_but_more from to from' to' a b low high is = record {
  rows = is.rows;
  place = is.place;
  wide = is.wide;
  sized = is.sized;
  others = λ k p off. is.others k p (elim off [ inl x ↦ inl (omega arith) | inr x ↦ inr (omega arith) ]);
}

same_but_on : (from to : ℕ) (a b c : Lent) → IsSameBut from to a b → IsSameBut from to b c → IsSameBut from to a c
same_but_on from to a b c first second = record {
  rows = second.rows ∙ first.rows;
  place = second.place ∙ first.place;
  wide = second.wide ∙ first.wide;
  sized = λ q len s. second.sized q len (first.sized q len s);
  others = λ k p off. second.others k p off ∙ first.others k p off;
}

-- the same, where the places are told by two numbers that stay
pub same_run_on : (at n at' n' : ℕ) (a b c : Lent) → at' ≡ at → n' ≡ n → IsSameBut at (at + n) a b → IsSameBut at' (at' + n') b c → IsSameBut at (at + n) a c
same_run_on at n at' n' a b c here many first second = same_but_on at (at + n) a b c first (same_but_more at' (at' + n') at (at + n) b c (omega arith) (omega arith) second)

pub alike_self : (a : Lent) → IsAlike a a
alike_self a = record { rows = refl; place = refl }

pub alike_on : (a b c : Lent) → IsAlike a b → IsAlike b c → IsAlike a c
alike_on a b c first second = record { rows = second.rows ∙ first.rows; place = second.place ∙ first.place }

pub alike_but : (from to : ℕ) (a b : Lent) → IsSameBut from to a b → IsAlike a b
alike_but from to a b is = record { rows = is.rows; place = is.place }

-- what is taken from another pair of directions does not stand where a direction is put
pub put_apart : (v : Stencil) (reads writes : List ℕ) → IsVelocitySet v → IsExchange v reads writes → (i dir : ℕ) → i < v.directions → dir < v.directions → i ≢ opposite v dir → slice_index reads i ≢ slice_index writes dir
put_apart v reads writes laws exchange i dir known known' ne = λ same. ne (exchange.taken.distinct i (opposite v dir) known (laws.opposite_exists dir known') (same ∙ exchange.back dir known'))
