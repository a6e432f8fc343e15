use Rattle.std.proofs.Common.{◌≡◌, ◌≢◌, ℕ, ◌<◌, inl, inr, refl, ◌∙◌, subst, arith}
use Rattle.std.proofs.lemmas.Bool.{cases_lt}
use Rattle.lbm_space.specs.Cuttings.{slabs_of}
use Rattle.lbm_grid.specs.Strips.{IsSaved}
use Rattle.lbm_grid.proofs.strips.save_all.Goals as goal

pub loop-j-init : goal.loop-j-init
loop-j-init g c = record { long = refl; saved = record { saved = λ j k p none. absurd (omega (arith, none)) } }

pub loop-j-preserved : goal.loop-j-preserved
loop-j-preserved g c =
    let inv = c.loop-j.invariant in let j = c.loop-j.j in let done = c.save_slab.ensures in
    let slab : j < slabs_of c.args.cut.now = omega (arith, c.slabs-j-end.ensures.count, c.loop-j-test.true) in
    record {
      long = done.size ∙ inv.long;
      saved = record {
        saved = λ i k p below known. elim (cases_lt i j) [
          | inl front ↦ (let other : i ≢ j = λ e. omega (arith, e, front) in done.others i k p (omega (arith, front, slab)) other known (inv.saved.saved i k p front known))
          | inr last ↦ (
              let one : j ≡ i = omega (arith, below, last) in
              subst (λ (n : ℕ). IsSaved c.args.space.now g.V.VelocitySet.stencil c.args.rises c.args.cut.now c.args.rooms.now.begins.now c.args.rooms.now.width c.args.from.now.margin c.args.from.now.base c.args.from.now.slots.now c.save_slab.new.kept n k p) one (done.saved k p known))
        ];
      };
    }
