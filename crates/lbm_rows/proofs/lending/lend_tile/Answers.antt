use Rattle.std.proofs.Common.{rules, ◌≡◌, ℕ, ◌+◌, ◌-◌, ◌*◌, ◌%◌, ◌<◌, [], length, get_or, vec_len, ap, sym, ◌∙◌, subst, arith}
use Rattle.std.proofs.lemmas.List.{length-set, get_or_default}
use Rattle.std.proofs.lemmas.Nat.{mod-mul-add, div-mul-add, mul-add-lt}
use Rattle.lbm_space.specs.Stencil.{Stencil}
use Rattle.lbm_rows.specs.Lending.{lent_number, entry_number, IsLent}
use Rattle.lbm_rows.proofs.LentTiles.{lent_more, left_more}
use Rattle.lbm_rows.proofs.lending.lend_tile.Goals as goal

pub loop-j-preserved : goal.loop-j-preserved
loop-j-preserved g c =
    let case = c.args.case.now in let bounds = c.args.rows in let inv = c.loop-j.invariant in let j = c.loop-j.j in let number = c.lent_number-number.result in let items = c.loop-j.room.items in
    let q : c.Q.result ≡ case.stencil.directions = c.Q.ensures ∙ g.met.V.VelocitySet.constants.0 ∙ ap (λ (v : Stencil). v.directions) (sym c.requires.set) in
    let below : j < case.stencil.directions * (bounds.1 - bounds.0) = subst (λ (n : ℕ). j < n * (bounds.1 - bounds.0)) q c.loop-j-test.true in
    let is : number ≡ entry_number case c.args.t bounds j = search rules in
    let known = c.lent_number-number.ensures.known in let count = inv.count in let whole = c.requires.count in
    let was : c.replace-lent.result ≡ get_or c.loop-j.kept number [] = c.replace-lent.ensures.value ∙ get_or_default c.loop-j.kept number c.index-kept-number.result [] (omega (arith, known, count, whole)) in
    let long : length items ≡ j = omega (arith, c.loop-j.room.ok.0, inv.long) in
    let pushed = c.push_reserved.ensures.items in record {
      count = length-set c.loop-j.kept number c.replace-lent.new.dest ∙ inv.count;
      long = search rules;
      room = search rules;
      lent = λ i more. (λ z. get_or (pushed z) i []) ∙ lent_more case c.requires.valid c.args.t bounds c.requires.some c.requires.inside c.args.kept.now c.loop-j.kept j number below is items long inv.left c.replace-lent.result was inv.lent i more;
      left = left_more case c.requires.valid c.args.t bounds c.requires.some c.requires.inside c.args.kept.now c.loop-j.kept j number below is inv.left c.replace-lent.new.dest;
    }

pub new-requires-2-clause-whole : goal.new-requires-2-clause-whole
new-requires-2-clause-whole g c =
    let h : ℕ = c.args.rows.1 - c.args.rows.0 in let q = g.V.VelocitySet.stencil.directions in
    let past = c.loop-j-test.false in let end = c.loop-j.auto.j-end in let m = ap (λ (n : ℕ). n * (c.args.rows.1 - c.args.rows.0)) (c.Q.ensures ∙ g.met.V.VelocitySet.constants.0) in
    let all : c.loop-j.j ≡ q * h = omega (arith, past, end, m) in
    let e : vec_len c.loop-j.room ≡ q * h + 0 = omega (arith, all, c.loop-j.invariant.long) in
    ap (λ (n : ℕ). n % h) e ∙ mod-mul-add q h 0 (omega (arith, c.requires.some))

pub returns-clause-lent : goal.returns-clause-lent
returns-clause-lent g c =
    let case = c.args.case.now in let bounds = c.args.rows in let h : ℕ = bounds.1 - bounds.0 in let q = g.V.VelocitySet.stencil.directions in let inv = c.loop-j.invariant in
    let past = c.loop-j-test.false in let end = c.loop-j.auto.j-end in let m = ap (λ (n : ℕ). n * (c.args.rows.1 - c.args.rows.0)) (c.Q.ensures ∙ g.met.V.VelocitySet.constants.0) in
    let all : c.loop-j.j ≡ q * h = omega (arith, past, end, m) in
    let same : case.stencil.directions ≡ q = ap (λ (v : Stencil). v.directions) c.requires.set in
    let many : case.stencil.directions * h ≡ q * h = ap (λ (n : ℕ). n * h) same in
    subst (IsLent case c.args.t c.args.kept.now) (sym c.new-2.ensures) (record {
      some = c.requires.some;
      inside = c.requires.inside;
      count = omega (arith, all, inv.long, c.loop-j.room.ok.0, many);
      lent = λ k n known below.
          let less = mul-add-lt k h n case.stencil.directions known below in
          inv.lent (k * h + n) (omega (arith, less, all, many)) ∙ (λ z. get_or c.args.kept.now (lent_number case c.args.t (div-mul-add k h n below z) (bounds.0 + mod-mul-add k h n below z)) []);
    })

pub returns-clause-others : goal.returns-clause-others
returns-clause-others g c = λ m off.
    let past = c.loop-j-test.false in let end = c.loop-j.auto.j-end in let e = ap (λ (n : ℕ). n * (c.args.rows.1 - c.args.rows.0)) (c.Q.ensures ∙ g.met.V.VelocitySet.constants.0) in
    let all : c.loop-j.j ≡ g.V.VelocitySet.stencil.directions * (c.args.rows.1 - c.args.rows.0) = omega (arith, past, end, e) in
    c.loop-j.invariant.left m (λ i less. off i (omega (arith, all, less)))
