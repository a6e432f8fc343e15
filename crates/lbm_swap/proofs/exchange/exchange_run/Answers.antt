use Rattle.std.proofs.Common.{◌≡◌, ℕ, ◌+◌, inl, inr, length, refl, sym, subst, ◌∙◌, arith}
use Rattle.lbm_swap.proofs.Pairs.{HasRun, first_none, first_passed, first_more}
use Rattle.lbm_swap.proofs.exchange.exchange_run.Goals as goal
use Rattle.lbm_swap.proofs.exchange.exchange_run.Goals.{then-k-partner, else-k-partner}

pub exchange_pair-requires-clause-sized : goal.exchange_pair-requires-clause-sized
exchange_pair-requires-clause-sized c =
    let k = c.loop-k.k in let s = c.requires.sized in let here = c.loop-k-test.true in
    (length c.args.partners.now, s.0, c.loop-k.invariant.sized s.0 s.1, here, c.requires.paired.known k here, s.2)

pub loop-k-init : goal.loop-k-init
loop-k-init c = record {
  rows = refl;
  place = refl;
  sized = λ len is. is;
  first = first_none (length c.args.partners.now) c.args.at c.args.n c.args.partners.now c.requires.paired c.args.loan.now.ranges;
  others = λ k p off. refl;
}

pub loop-k-preserved : goal.loop-k-preserved
loop-k-preserved c =
    let ps = c.args.partners.now in let q : ℕ = length ps in let at = c.args.at in let n = c.args.n in let paired = c.requires.paired in
    let i = c.loop-k.k in let here = c.loop-k-test.true in let inv = c.loop-k.invariant in let old = c.args.loan.now in let now = c.loop-k.loan in
    elim c.if-k-partner.branch [
      | else-k-partner w ↦ subst (HasRun ps at n (i + 1) old) (sym w.loan-is) (record {
        rows = inv.rows;
        place = inv.place;
        sized = inv.sized;
        first = first_passed q at n ps paired i here old.ranges now.ranges inv.first w.if-k-partner.false;
        others = inv.others;
      })
      | then-k-partner w ↦ (let did = w.exchange_pair.ensures in let new = w.exchange_pair.new.loan in subst (HasRun ps at n (i + 1) old) (sym w.loan-is) (record {
        rows = did.rows ∙ inv.rows;
        place = did.place ∙ inv.place;
        sized = λ len is. did.sized q len (inv.sized len is);
        first = first_more q at n ps paired i here old.ranges now.ranges inv.first new.ranges w.if-k-partner.true did.one did.other (λ k j lane off off'. did.others k (at + j) (inl (off, off')));
        others = λ k p off. did.others k p (inr off) ∙ inv.others k p off;
      }))
    ]

pub returns-clause-exchanged : goal.returns-clause-exchanged
returns-clause-exchanged c k j known lane =
    let ps = c.args.partners.now in let q : ℕ = length ps in
    let e : c.loop-k.k ≡ q = let a = c.loop-k-test.false in let b = c.loop-k.auto.k-end in omega (arith, a, b) in
    c.loop-k.invariant.first.done k j known lane (inl (omega (arith, e, known)))
