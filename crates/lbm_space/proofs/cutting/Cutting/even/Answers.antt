use Rattle.std.proofs.Common.{◌≡◌, ℕ, ◌*◌, ◌/◌, ◌++◌, ◌∷◌, [], length, min, ap, ◌∙◌, arith, length-append, below_more}
use Rattle.std.proofs.lemmas.Nat.{mul-le}
use Rattle.std.proofs.lemmas.List.{get_or_append_left, get_or_push}
use Rattle.lbm_space.specs.Torus.{rows}
use Rattle.lbm_space.specs.Cuttings.{IsEven}
use Rattle.lbm_space.proofs.RowStarts.{some_row}
use Rattle.lbm_space.proofs.Slabs.{rows_below_padded, cutting_from_even, rows_from_even}
use Rattle.lbm_space.proofs.cutting.Cutting.even.Goals as goal

pub overflow_mul-k : goal.overflow_mul-k
overflow_mul-k c =
    let few = rows_below_padded c.args.space.now c.rows-rows.ensures.valid in let fits = c.rows-rows.ensures.valid.fits in
    let count = c.rows-rows.ensures.count in let slabs = c.min-slabs.ensures in let within = c.loop-k-test.true in let workers = c.requires.few in
    let top = mul-le c.loop-k.k c.rows-rows.result 64 4194304 (omega arith) (omega arith) in
    record { fits = omega arith }

pub loop-k-preserved : goal.loop-k-preserved
loop-k-preserved c =
    let old = c.loop-k.bounds.items in let x : ℕ = c.loop-k.k * c.rows-rows.result / c.min-slabs.result in
    let pushed : c.push.new.self.items ≡ old ++ x ∷ [] = c.in_ok-push.ensures.items in let count = c.loop-k.invariant.count in
    record {
      count = ap length pushed ∙ length-append old (x ∷ []) ∙ omega arith;
      firsts = below_more _ _
          (λ j below. rw pushed (get_or_append_left old (x ∷ []) 0 j (omega arith) ∙ c.loop-k.invariant.firsts j below))
          (rw pushed (get_or_push old x 0 c.loop-k.k count));
    }

pub invariant_of-result : goal.invariant_of-result
invariant_of-result c =
    let t = c.args.space.now in let valid = c.rows-rows.ensures.valid in let bounds = c.loop-k.bounds.items in
    let total = c.rows-rows.ensures.count in let slabs = c.min-slabs.ensures in let past = c.loop-k-test.false in let end = c.loop-k.auto.k-end in let count = c.loop-k.invariant.count in
    let some = some_row t valid in let work = c.requires.some in let few = c.requires.few in let fits = rows_below_padded t valid in
    let least : c.min-slabs.result ≡ min c.args.workers (rows t) = slabs ∙ ap (min c.args.workers) total in
    let even : IsEven (rows t) c.args.workers bounds = record {
      count = omega arith;
      firsts = λ k within. c.loop-k.invariant.firsts k (omega arith) ∙ (λ i. k * total i / least i);
    } in
    let whole = rows_from_even (rows t) c.args.workers bounds some work even in
    (cutting_from_even (rows t) c.args.workers bounds some work even, omega arith, omega (arith, whole, valid.fits))

pub returns-clause-whole : goal.returns-clause-whole
returns-clause-whole c =
    let t = c.args.space.now in let valid = c.rows-rows.ensures.valid in
    let total = c.rows-rows.ensures.count in let past = c.loop-k-test.false in let end = c.loop-k.auto.k-end in let count = c.loop-k.invariant.count in
    let some = some_row t valid in let work = c.requires.some in
    let least : c.min-slabs.result ≡ min c.args.workers (rows t) = c.min-slabs.ensures ∙ ap (min c.args.workers) total in
    rows_from_even (rows t) c.args.workers c.loop-k.bounds.items some work (record {
      count = omega arith;
      firsts = λ k within. c.loop-k.invariant.firsts k (omega arith) ∙ (λ i. k * total i / least i);
    })
