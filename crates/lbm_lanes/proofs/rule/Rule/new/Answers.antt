use Rattle.lbm_lanes.proofs.rule.Rule.new.Goals as goal

pub invariant_of-result : goal.invariant_of-result
invariant_of-result g c =
    let e = c.is_one-one.ensures in
    record {
      prepared = record {
        force = rw c.parts-force.ensures.value c.parts-force.ensures.valid;
        prepared = c.divisor-divisor.ensures.prepared;
        divisor = c.divisor-divisor.ensures.value;
        ones = λ yes. record { p_is = e.p yes; m_is = e.m yes; q_is = e.q yes };
      };
    }
