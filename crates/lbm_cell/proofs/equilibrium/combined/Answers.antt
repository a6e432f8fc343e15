use Rattle.std.proofs.Common.{◌<◌, ◌^◌, ℤ, pos, ◌+ℤ◌, ◌-ℤ◌, ◌*ℤ◌, unsigned_abs, FitsSigned, w64, arith, rules}
use Rattle.std.proofs.lemmas.Int.{ints}
use Rattle.lbm_cell.proofs.Sizes.{clean, clean_sum, clean_difference, product_of}
use Rattle.lbm_cell.proofs.equilibrium.combined.Goals as goal

-- the size of the partial sums
two_small : (a b : ℤ) → unsigned_abs a < 2 ^ 48 → unsigned_abs b < 2 ^ 48 → unsigned_abs (pos 2 *ℤ a +ℤ pos 6 *ℤ b) < 2 ^ 52
two_small a b small_a small_b = omega (arith, ints)

three_small : (a b c : ℤ) → unsigned_abs a < 2 ^ 48 → unsigned_abs b < 2 ^ 48 → unsigned_abs c < 2 ^ 48 → unsigned_abs (pos 2 *ℤ a +ℤ pos 6 *ℤ b +ℤ pos 9 *ℤ c) < 2 ^ 61
three_small a b c small_a small_b small_c = omega (arith, ints)

all_small : (a b c d : ℤ) → unsigned_abs a < 2 ^ 48 → unsigned_abs b < 2 ^ 48 → unsigned_abs c < 2 ^ 48 → unsigned_abs d < 2 ^ 48 → unsigned_abs (pos 2 *ℤ a +ℤ pos 6 *ℤ b +ℤ pos 9 *ℤ c -ℤ pos 3 *ℤ d) < 2 ^ 53
all_small a b c d small_a small_b small_c small_d = omega (arith, ints)

fits_number : (n : ℤ) → unsigned_abs n < 16 → FitsSigned w64 n
fits_number n small = omega (arith, ints)

pub sum-requires-2 : goal.sum-requires-2
sum-requires-2 c =
    let squares = product_of c.product-squares.result (pos 2) c.args.square (fits_number (pos 2) (omega arith)) c.ranges.square c.product-squares.ensures.value in
    let crosses = product_of c.product-crosses.result (pos 6) c.args.cross (fits_number (pos 6) (omega arith)) c.ranges.cross c.product-crosses.ensures.value in
    let turns = product_of c.product-turns.result (pos 9) c.args.turn (fits_number (pos 9) (omega arith)) c.ranges.turn c.product-turns.ensures.value in
    let fits_s : FitsSigned w64 c.product-squares.result = search rules in
    let fits_c : FitsSigned w64 c.product-crosses.result = search rules in
    let fits_t : FitsSigned w64 c.product-turns.result = search rules in
    let fits : FitsSigned w64 c.sum.result = search rules in
    let two = clean_sum c.sum.result c.product-squares.result c.product-crosses.result (pos 2 *ℤ c.args.square) (pos 6 *ℤ c.args.cross) fits_s fits_c squares crosses c.sum.ensures.value in
    rw (clean c.sum.result _ fits two, clean c.product-turns.result _ fits_t turns)
    (omega (arith, three_small c.args.square c.args.cross c.args.turn c.requires.square_small c.requires.cross_small c.requires.turn_small))

pub difference-requires : goal.difference-requires
difference-requires c =
    let squares = product_of c.product-squares.result (pos 2) c.args.square (fits_number (pos 2) (omega arith)) c.ranges.square c.product-squares.ensures.value in
    let crosses = product_of c.product-crosses.result (pos 6) c.args.cross (fits_number (pos 6) (omega arith)) c.ranges.cross c.product-crosses.ensures.value in
    let turns = product_of c.product-turns.result (pos 9) c.args.turn (fits_number (pos 9) (omega arith)) c.ranges.turn c.product-turns.ensures.value in
    let owns = product_of c.product-owns.result (pos 3) c.args.own (fits_number (pos 3) (omega arith)) c.ranges.own c.product-owns.ensures.value in
    let fits_s : FitsSigned w64 c.product-squares.result = search rules in
    let fits_c : FitsSigned w64 c.product-crosses.result = search rules in
    let fits_t : FitsSigned w64 c.product-turns.result = search rules in
    let fits_o : FitsSigned w64 c.product-owns.result = search rules in
    let fits_2 : FitsSigned w64 c.sum.result = search rules in
    let fits_3 : FitsSigned w64 c.sum-2.result = search rules in
    let two = clean_sum c.sum.result c.product-squares.result c.product-crosses.result (pos 2 *ℤ c.args.square) (pos 6 *ℤ c.args.cross) fits_s fits_c squares crosses c.sum.ensures.value in
    let three = clean_sum c.sum-2.result c.sum.result c.product-turns.result (pos 2 *ℤ c.args.square +ℤ pos 6 *ℤ c.args.cross) (pos 9 *ℤ c.args.turn) fits_2 fits_t two turns c.sum-2.ensures.value in
    rw (clean c.sum-2.result _ fits_3 three, clean c.product-owns.result _ fits_o owns)
    (omega (arith, all_small c.args.square c.args.cross c.args.turn c.args.own c.requires.square_small c.requires.cross_small c.requires.turn_small c.requires.own_small))

pub returns-clause-value : goal.returns-clause-value
returns-clause-value c =
    let squares = product_of c.product-squares.result (pos 2) c.args.square (fits_number (pos 2) (omega arith)) c.ranges.square c.product-squares.ensures.value in
    let crosses = product_of c.product-crosses.result (pos 6) c.args.cross (fits_number (pos 6) (omega arith)) c.ranges.cross c.product-crosses.ensures.value in
    let turns = product_of c.product-turns.result (pos 9) c.args.turn (fits_number (pos 9) (omega arith)) c.ranges.turn c.product-turns.ensures.value in
    let owns = product_of c.product-owns.result (pos 3) c.args.own (fits_number (pos 3) (omega arith)) c.ranges.own c.product-owns.ensures.value in
    let fits_s : FitsSigned w64 c.product-squares.result = search rules in
    let fits_c : FitsSigned w64 c.product-crosses.result = search rules in
    let fits_t : FitsSigned w64 c.product-turns.result = search rules in
    let fits_o : FitsSigned w64 c.product-owns.result = search rules in
    let fits_2 : FitsSigned w64 c.sum.result = search rules in
    let fits_3 : FitsSigned w64 c.sum-2.result = search rules in
    let fits : FitsSigned w64 c.difference.result = search rules in
    let two = clean_sum c.sum.result c.product-squares.result c.product-crosses.result (pos 2 *ℤ c.args.square) (pos 6 *ℤ c.args.cross) fits_s fits_c squares crosses c.sum.ensures.value in
    let three = clean_sum c.sum-2.result c.sum.result c.product-turns.result (pos 2 *ℤ c.args.square +ℤ pos 6 *ℤ c.args.cross) (pos 9 *ℤ c.args.turn) fits_2 fits_t two turns c.sum-2.ensures.value in
    let whole = clean_difference c.difference.result c.sum-2.result c.product-owns.result (pos 2 *ℤ c.args.square +ℤ pos 6 *ℤ c.args.cross +ℤ pos 9 *ℤ c.args.turn) (pos 3 *ℤ c.args.own) fits_3 fits_o three owns c.difference.ensures.value in
    clean c.difference.result _ fits whole

pub returns-clause-size : goal.returns-clause-size
returns-clause-size c =
    rw (returns-clause-value c) (all_small c.args.square c.args.cross c.args.turn c.args.own c.requires.square_small c.requires.cross_small c.requires.turn_small c.requires.own_small)
