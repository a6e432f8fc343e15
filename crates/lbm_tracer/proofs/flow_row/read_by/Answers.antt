use Rattle.std.proofs.Common.{◌≡◌, ℕ, ◌+◌, ◌*◌, ◌<◌, List, ℤ, pos, ◌+ℤ◌, ◌*ℤ◌, to_z, of_z, w64, length, slice_index_or, lit<, sym, ap, subst, ◌∙◌, arith}
use Rattle.std.specs.Vec.{with_items}
use Rattle.std.proofs.lemmas.List.{with_items_is}
use Rattle.lbm_space.specs.Stencil.{Stencil, part, velocity}
use Rattle.lbm_cell.specs.declared.populations.Moment.{Moment}
use Rattle.lbm_model.specs.State.{population}
use Rattle.lbm_tracer.specs.Collision.{IsMomentOf}
use Rattle.lbm_tracer.specs.FlowRows.{moment_at}
use Rattle.lbm_tracer.proofs.FlowRows.{IsSummed, summed-more, all-summed, word_small, held_part}
use Rattle.lbm_tracer.proofs.flow_row.read_by.Goals as goal

pub loop-i-preserved : goal.loop-i-preserved
loop-i-preserved g c =
    let now = g.P.Lattice.standing c.args.flow.now in let v = g.V.VelocitySet.stencil in let i = c.loop-i.i in let s = c.loop-i.sums in let old = c.loop-i.invariant in
    let known : i < v.directions = omega (arith, g.met.V.VelocitySet.constants.0, c.Q-i-end.ensures, c.loop-i-test.true) in
    let pops = c.read_row.new.pops in
    let scaled : (a : ℕ) → a < 3 → to_z w64 (of_z w64 (slice_index_or c.c-c.result a (pos 0))) ≡ part (velocity v i) a =
    λ a axis. held_part c.c-c.result (velocity v i) a c.c-c.ensures (g.met.V.VelocitySet.laws.unit_parts i a known axis) in
    let pops_is : (with_items s.pops pops).items ≡ pops = with_items_is s.pops pops (c.read_row.ensures.count ∙ sym old.room.pops ∙ sym s.pops.ok.0) in
    let rho_is : (with_items s.rho c.plus.new.sums).items ≡ c.plus.new.sums = with_items_is s.rho c.plus.new.sums (c.plus.ensures.room ∙ c.deref_mut-in-loop-i-2.ensures.len) in
    let x_is : (with_items s.x c.add.new.sums).items ≡ c.add.new.sums = with_items_is s.x c.add.new.sums (c.add.ensures.room ∙ c.deref_mut-in-loop-i-3.ensures.len) in
    let y_is : (with_items s.y c.add-in-loop-i.new.sums).items ≡ c.add-in-loop-i.new.sums = with_items_is s.y c.add-in-loop-i.new.sums (c.add-in-loop-i.ensures.room ∙ c.deref_mut-in-loop-i-4.ensures.len) in
    let z_is : (with_items s.z c.add-in-loop-i-2.new.sums).items ≡ c.add-in-loop-i-2.new.sums = with_items_is s.z c.add-in-loop-i-2.new.sums (c.add-in-loop-i-2.ensures.room ∙ c.deref_mut-in-loop-i-5.ensures.len) in
    record {
      room = record {
        pops = ap length pops_is ∙ c.read_row.ensures.count;
        rho = ap length rho_is ∙ c.plus.ensures.room ∙ ap length c.deref_mut-in-loop-i-2.ensures.value ∙ old.room.rho;
        x = ap length x_is ∙ c.add.ensures.room ∙ ap length c.deref_mut-in-loop-i-3.ensures.value ∙ old.room.x;
        y = ap length y_is ∙ c.add-in-loop-i.ensures.room ∙ ap length c.deref_mut-in-loop-i-4.ensures.value ∙ old.room.y;
        z = ap length z_is ∙ c.add-in-loop-i-2.ensures.room ∙ ap length c.deref_mut-in-loop-i-5.ensures.value ∙ old.room.z;
      };
      done = λ x below.
          let p : ℤ = slice_index_or pops x (pos 0) in let f = population now.state (c.args.row * now.case.torus.nx + x) in
          let made : Moment = record {
            rho = slice_index_or c.plus.new.sums x (pos 0);
            jx = slice_index_or c.add.new.sums x (pos 0);
            jy = slice_index_or c.add-in-loop-i.new.sums x (pos 0);
            jz = slice_index_or c.add-in-loop-i-2.new.sums x (pos 0);
          } in
          let read : (ws : List ℤ) → ws ≡ (with_items s.pops pops).items → slice_index_or ws x (pos 0) ≡ p = λ ws is. ap (λ (xs : List ℤ). slice_index_or xs x (pos 0)) (is ∙ pops_is) in
          let within_rho : x < length c.deref_mut-in-loop-i-2.result.now = rw (c.deref_mut-in-loop-i-2.ensures.value, old.room.rho) below in
          let within_x : x < length c.deref_mut-in-loop-i-3.result.now = rw (c.deref_mut-in-loop-i-3.ensures.value, old.room.x) below in
          let within_y : x < length c.deref_mut-in-loop-i-4.result.now = rw (c.deref_mut-in-loop-i-4.ensures.value, old.room.y) below in
          let within_z : x < length c.deref_mut-in-loop-i-5.result.now = rw (c.deref_mut-in-loop-i-5.ensures.value, old.room.z) below in
          let sum_rho = c.plus.ensures.value x within_rho in
          let sum_x = c.add.ensures.value x within_x in
          let sum_y = c.add-in-loop-i.ensures.value x within_y in
          let sum_z = c.add-in-loop-i-2.ensures.value x within_z in
          subst (IsSummed v (i + 1) f)
          (λ j. record { rho = slice_index_or (sym rho_is j) x (pos 0); jx = slice_index_or (sym x_is j) x (pos 0); jy = slice_index_or (sym y_is j) x (pos 0); jz = slice_index_or (sym z_is j) x (pos 0) })
          (summed-more v g.met.V.VelocitySet.laws i known f (moment_at s x) made p (c.read_row.ensures.value x below) (word_small p (c.read_row.ensures.fits x below)) (old.done x below)
          (sum_rho ∙ (λ j. slice_index_or (c.deref_mut-in-loop-i-2.ensures.value j) x (pos 0) +ℤ read c.deref.result.now c.deref.ensures.value j))
          (sum_x ∙ (λ j. slice_index_or (c.deref_mut-in-loop-i-3.ensures.value j) x (pos 0) +ℤ scaled 0 (lit< tt) j *ℤ read c.deref-in-loop-i.result.now c.deref-in-loop-i.ensures.value j))
          (sum_y ∙ (λ j. slice_index_or (c.deref_mut-in-loop-i-4.ensures.value j) x (pos 0) +ℤ scaled 1 (lit< tt) j *ℤ read c.deref-in-loop-i-2.result.now c.deref-in-loop-i-2.ensures.value j))
          (sum_z ∙ (λ j. slice_index_or (c.deref_mut-in-loop-i-5.ensures.value j) x (pos 0) +ℤ scaled 2 (lit< tt) j *ℤ read c.deref-in-loop-i-3.result.now c.deref-in-loop-i-3.ensures.value j)));
    }

pub returns-clause-moments : goal.returns-clause-moments
returns-clause-moments g c =
    let now = g.P.Lattice.standing c.args.flow.now in let v = g.V.VelocitySet.stencil in
    λ x below.
    let f = population now.state (c.args.row * now.case.torus.nx + x) in
    let whole : c.loop-i.i ≡ v.directions = omega (arith, g.met.V.VelocitySet.constants.0, c.Q-i-end.ensures, c.loop-i-test.false, c.loop-i.auto.i-end) in
    subst (λ (u : Stencil). IsMomentOf u f (moment_at c.loop-i.sums x)) (sym c.requires.set)
    (all-summed v f (moment_at c.loop-i.sums x) (subst (λ (n : ℕ). IsSummed v n f (moment_at c.loop-i.sums x)) whole (c.loop-i.invariant.done x below)))
