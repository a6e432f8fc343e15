use Rattle.std.proofs.Common.{◌≡◌, ◌≤◌, length, ap, sym, ◌∙◌, rules, subst}
use Rattle.lbm_model.specs.State.{flow_state}
use Rattle.lbm_model.specs.Small.{IsNarrow}
use Rattle.lbm_ckpt.specs.Ckpt.{populations_of}
use Rattle.lbm_ckpt.proofs.Round.{can_be_kept, near_read, whole_read, narrow_read}
use Rattle.lbm_ckpt.proofs.read.read_checkpoint.Goals as goal

pub new-requires : goal.new-requires
new-requires c =
    let all : c.in_ok-pops.pops.items ≡ populations_of c.in_ok-version.version c.args.bytes.now = search rules in
    can_be_kept c.args.space.now c.args.q c.in_ok-pops.pops.items (search rules) c.requires.some c.requires.few
    (ap length all ∙ whole_read _ _ _ _ _ c.in_ok-version.ensures.read)

pub returns-clause-step : goal.returns-clause-step
returns-clause-step c = subst (λ n. n ≤ 1000000) (sym c.step_of.ensures) (near_read _ _ _ _ _ c.in_ok-version.ensures.read)

pub returns-clause-cells : goal.returns-clause-cells
returns-clause-cells c =
    let all : c.in_ok-pops.pops.items ≡ populations_of c.in_ok-version.version c.args.bytes.now = search rules in
    ap (λ s. length s.numbers) c.new.ensures ∙ ap length all ∙ whole_read _ _ _ _ _ c.in_ok-version.ensures.read

pub returns-clause-narrow : goal.returns-clause-narrow
returns-clause-narrow c =
    let all : c.in_ok-pops.pops.items ≡ populations_of c.in_ok-version.version c.args.bytes.now = search rules in
    subst IsNarrow (sym (c.new.ensures ∙ ap (flow_state c.args.q) all)) (narrow_read _ _ _ _ _ c.in_ok-version.ensures.read)
