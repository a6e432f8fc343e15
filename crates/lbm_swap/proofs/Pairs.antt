-- Arrays and their partners exchange what n places from `at` on hold, one pair after another.
use Rattle.std.proofs.Common.{◌≡◌, ◌≢◌, ◌⊎◌, ℕ, ◌+◌, ◌<◌, ◌≤◌, inl, inr, List, length, slice_index, refl, sym, ap, ◌∙◌, arith}
use Rattle.std.proofs.lemmas.Bool.{cases_lt, cases_eq}
use Rattle.lbm_arrays.specs.Lent.{Lent}
use Rattle.lbm_cell.specs.Rows.{entry}
use Rattle.lbm_sweep.specs.Blocks.{IsSized}
use Rattle.lbm_sweep.specs.Slabs.{Ranges}
use Rattle.lbm_swap.specs.Exchange.{IsPaired}

-- the first i of q arrays have exchanged with their partners, and no others
pub record AreFirst (q at n i : ℕ) (partners : List ℕ) (old new : Ranges) : Type 0 where
  pub done : (k j : ℕ) → k < q → j < n → (k < i) ⊎ (slice_index partners k < i) → entry new k (at + j) ≡ entry old (slice_index partners k) (at + j)
  pub left : (k j : ℕ) → k < q → j < n → i ≤ k → i ≤ slice_index partners k → entry new k (at + j) ≡ entry old k (at + j)

module _ (q at n : ℕ) (partners : List ℕ) (paired : IsPaired q partners) where
  pub first_none : (m : Ranges) → AreFirst q at n 0 partners m m
  first_none m = record {
    done = λ k j known lane some. elim some [ inl below ↦ absurd (omega arith) | inr below ↦ absurd (omega arith) ];
    left = λ k j known lane low low'. refl;
  }

  module _ (i : ℕ) (here : i < q) (old now : Ranges) (first : AreFirst q at n i partners old now) where
    -- the partner has had its turn, or array i is its own partner
    pub first_passed : slice_index partners i ≤ i → AreFirst q at n (i + 1) partners old now
    first_passed low = record {
      done = λ k j known lane some. elim (cases_lt k i) [
        | inl less ↦ first.done k j known lane (inl less)
        | inr high ↦ elim (cases_lt (slice_index partners k) i) [
          | inl less ↦ first.done k j known lane (inr less)
          | inr high' ↦ (
              let twice = paired.twice k known in
              let same : slice_index partners k ≡ k = elim (cases_eq k i) [
                | inl is ↦ (let e = ap (slice_index partners) is in omega (arith, e))
                | inr other ↦ (let e : slice_index partners k ≡ i = elim some [ inl l ↦ absurd (omega arith) | inr l ↦ omega arith ] in let back : slice_index partners i ≡ k = ap (slice_index partners) (sym e) ∙ twice in omega (arith, back))
              ] in
              first.left k j known lane high high' ∙ ap (λ (d : ℕ). entry old d (at + j)) (sym same))
        ]
      ];
      left = λ k j known lane low' low''. first.left k j known lane (omega arith) (omega arith);
    }

    -- array i exchanges with its partner
    pub first_more : (new : Ranges) → i < slice_index partners i
        → ((j : ℕ) → j < n → entry new i (at + j) ≡ entry now (slice_index partners i) (at + j))
        → ((j : ℕ) → j < n → entry new (slice_index partners i) (at + j) ≡ entry now i (at + j))
        → ((k j : ℕ) → j < n → k ≢ i → k ≢ slice_index partners i → entry new k (at + j) ≡ entry now k (at + j))
        → AreFirst q at n (i + 1) partners old new
    first_more new high one other others =
        let p : ℕ = slice_index partners i in let known_p : p < q = paired.known i here in let back : slice_index partners p ≡ i = paired.twice i here in record {
          done = λ k j known lane some. elim (cases_eq k i) [
            | inl is ↦ ap (λ (d : ℕ). entry new d (at + j)) is ∙ one j lane ∙ first.left p j known_p lane (omega arith) (omega (arith, back)) ∙ ap (λ (d : ℕ). entry old (slice_index partners d) (at + j)) (sym is)
            | inr off ↦ elim (cases_eq k p) [
              | inl is ↦ ap (λ (d : ℕ). entry new d (at + j)) is ∙ other j lane ∙ first.left i j here lane (omega arith) (omega arith) ∙ ap (λ (d : ℕ). entry old d (at + j)) (sym back) ∙ ap (λ (d : ℕ). entry old (slice_index partners d) (at + j)) (sym is)
              | inr off' ↦ (
                  let twice = paired.twice k known in
                  let away : slice_index partners k ≢ i = λ e. off' (sym twice ∙ ap (slice_index partners) e) in
                  others k j lane off off' ∙ first.done k j known lane (elim some [ inl l ↦ inl (omega (arith, off)) | inr l ↦ inr (omega (arith, away)) ]))
            ]
          ];
          left = λ k j known lane low' low''.
              let off : k ≢ i = λ e. omega (arith, e) in
              let off' : k ≢ p = λ e. let f : slice_index partners k ≡ i = ap (slice_index partners) e ∙ back in omega (arith, f) in
              others k j lane off off' ∙ first.left k j known lane (omega arith) (omega arith);
        }

-- a loan whose first i arrays have exchanged at these places, and of which nothing else has changed
pub record HasRun (partners : List ℕ) (at n i : ℕ) (old new : Lent) : Type 0 where
  pub rows : new.rows ≡ old.rows
  pub place : new.place ≡ old.place
  pub sized : (len : ℕ) → IsSized (length partners) len old.ranges → IsSized (length partners) len new.ranges
  pub first : AreFirst (length partners) at n i partners old.ranges new.ranges
  pub others : (k p : ℕ) → (p < at) ⊎ (at + n ≤ p) → entry new.ranges k p ≡ entry old.ranges k p
