use Rattle.std.proofs.Common.{◌≡◌, ℕ, ◌+◌, ◌-◌, pos, FitsSigned, w64, get_or, sym, ap, subst, ◌∙◌, arith, rules, lit<, true≢false}
use mir.Val.{to_z}
use Rattle.std.proofs.lemmas.Int.{to_z-of_z}
use Rattle.lbm_space.specs.Stencil.{part}
use Rattle.lbm_arrays.specs.Pads.{IsCopied}
use Rattle.lbm_arrays.proofs.Lines.{runs_apart}
use Rattle.lbm_arrays.proofs.CopiedLines.{stored_no_line, stored_straight, stored_rightward, stored_leftward, leftward}
use Rattle.lbm_arrays.proofs.pads.store_line.Goals as goal

pub returns-then-not-is_ahead-clause-stored : goal.returns-then-not-is_ahead-clause-stored
returns-then-not-is_ahead-clause-stored c =
    stored_no_line c.args.space.now c.is_ahead.ensures.valid c.args.y c.args.z c.requires.y c.requires.z c.args.c.now c.requires.velocity c.args.places.now
    (λ led. true≢false (sym (c.is_ahead.ensures.ahead.1 led) ∙ c.if-not-is_ahead.true))

pub copy_run-requires-clause-apart : goal.copy_run-requires-clause-apart
copy_run-requires-clause-apart c =
    let t = c.args.space.now in
    let wide : get_or c.sides.result 0 0 ≡ t.nx = ap (λ l. get_or l 0 0) c.sides.ensures.value in
    runs_apart t c.sides.ensures.valid c.args.y c.args.z c.requires.y c.requires.z c.line_of-first.result c.stand_of-cells.result 1 (get_or c.sides.result 0 0) c.line_of-first.ensures.start c.stand_of-cells.ensures.start (omega (arith, wide))

pub copy_run-requires-then-c-eq1-clause-apart : goal.copy_run-requires-then-c-eq1-clause-apart
copy_run-requires-then-c-eq1-clause-apart c =
    let t = c.args.space.now in
    let wide : get_or c.sides.result 0 0 ≡ t.nx = ap (λ l. get_or l 0 0) c.sides.ensures.value in
    runs_apart t c.sides.ensures.valid c.args.y c.args.z c.requires.y c.requires.z c.line_of-first.result c.stand_of-cells.result 2 (get_or c.sides.result 0 0 - 1) c.line_of-first.ensures.start c.stand_of-cells.ensures.start (let some = c.sides.ensures.valid.some_x in omega (arith, wide, some))

pub copy_run-requires-else-c-eq1-clause-apart : goal.copy_run-requires-else-c-eq1-clause-apart
copy_run-requires-else-c-eq1-clause-apart c =
    let t = c.args.space.now in
    let wide : get_or c.sides.result 0 0 ≡ t.nx = ap (λ l. get_or l 0 0) c.sides.ensures.value in
    runs_apart t c.sides.ensures.valid c.args.y c.args.z c.requires.y c.requires.z c.line_of-first.result c.stand_of-cells.result 1 (get_or c.sides.result 0 0 - 1) c.line_of-first.ensures.start c.stand_of-cells.ensures.start (omega (arith, wide))

pub returns-then-c-eq0-clause-stored : goal.returns-then-c-eq0-clause-stored
returns-then-c-eq0-clause-stored c =
    let t = c.args.space.now in let first = c.line_of-first.result in let cells = c.stand_of-cells.result in
    let wide : get_or c.sides.result 0 0 ≡ t.nx = ap (λ l. get_or l 0 0) c.sides.ensures.value in
    let fits : FitsSigned w64 (part c.args.c.now 0) = search rules in
    let straight : part c.args.c.now 0 ≡ pos 0 = sym (to_z-of_z w64 (part c.args.c.now 0) fits) ∙ ap (to_z w64) c.if-c-eq0.true in
    let led = c.is_ahead.ensures.ahead.0 c.if-not-is_ahead.false in
    stored_straight t c.sides.ensures.valid c.args.y c.args.z c.requires.y c.requires.z c.args.c.now c.requires.velocity c.requires.once led.0 led.1 first cells c.line_of-first.ensures.start c.stand_of-cells.ensures.start
    c.args.places.now c.copy_run.new.places straight
    (subst (λ (n : ℕ). IsCopied (first + 1) (cells + 1) n c.args.places.now c.copy_run.new.places) wide c.copy_run.ensures.copied)

pub returns-then-c-eq1-clause-stored : goal.returns-then-c-eq1-clause-stored
returns-then-c-eq1-clause-stored c =
    let t = c.args.space.now in let first = c.line_of-first.result in let cells = c.stand_of-cells.result in
    let wide : get_or c.sides.result 0 0 ≡ t.nx = ap (λ l. get_or l 0 0) c.sides.ensures.value in
    let fits : FitsSigned w64 (part c.args.c.now 0) = search rules in
    let right : part c.args.c.now 0 ≡ pos 1 = sym (to_z-of_z w64 (part c.args.c.now 0) fits) ∙ ap (to_z w64) c.if-c-eq1.true in
    let led = c.is_ahead.ensures.ahead.0 c.if-not-is_ahead.false in
    stored_rightward t c.sides.ensures.valid c.args.y c.args.z c.requires.y c.requires.z c.args.c.now c.requires.velocity c.requires.once led.0 led.1 first cells c.line_of-first.ensures.start c.stand_of-cells.ensures.start
    c.args.places.now c.copy_run-then-c-eq1.new.places c.copy_place.new.places right
    (subst (λ (n : ℕ). IsCopied (first + 2) (cells + 2) (n - 1) c.args.places.now c.copy_run-then-c-eq1.new.places) wide c.copy_run-then-c-eq1.ensures.copied)
    (subst (λ (n : ℕ). IsCopied (first + n + 1) (cells + 1) 1 c.copy_run-then-c-eq1.new.places c.copy_place.new.places) wide c.copy_place.ensures.copied)

pub returns-else-c-eq1-clause-stored : goal.returns-else-c-eq1-clause-stored
returns-else-c-eq1-clause-stored c =
    let t = c.args.space.now in let first = c.line_of-first.result in let cells = c.stand_of-cells.result in
    let wide : get_or c.sides.result 0 0 ≡ t.nx = ap (λ l. get_or l 0 0) c.sides.ensures.value in
    let led = c.is_ahead.ensures.ahead.0 c.if-not-is_ahead.false in
    stored_leftward t c.sides.ensures.valid c.args.y c.args.z c.requires.y c.requires.z c.args.c.now c.requires.velocity c.requires.once led.0 led.1 first cells c.line_of-first.ensures.start c.stand_of-cells.ensures.start
    c.args.places.now c.copy_place-else-c-eq1.new.places c.copy_run-else-c-eq1.new.places (leftward (part c.args.c.now 0) (c.requires.velocity.unit 0 (lit< tt)) c.if-c-eq0.false c.if-c-eq1.false)
    (subst (λ (n : ℕ). IsCopied first (cells + n) 1 c.args.places.now c.copy_place-else-c-eq1.new.places) wide c.copy_place-else-c-eq1.ensures.copied)
    (subst (λ (n : ℕ). IsCopied (first + 1) (cells + 1) (n - 1) c.copy_place-else-c-eq1.new.places c.copy_run-else-c-eq1.new.places) wide c.copy_run-else-c-eq1.ensures.copied)
