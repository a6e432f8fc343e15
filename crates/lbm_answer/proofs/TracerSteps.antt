-- What may be decided at each step of a run with a tracer.
use Rattle.std.proofs.Common.{◌≡◌, ◌∙◌, ℕ, ◌-◌, ◌++◌, [], ◌∷◌, true, not, Ok, Err, pos, refl, sym, ap, subst, arith}
use Rattle.std.specs.Prelude.{IsNone, IsOkAnd, MatchResult, ◌+ℤ◌, ◌*ℤ◌, ◌==◌, if◌then◌else◌, nat_lt}
use Rattle.std.proofs.lemmas.Bool.{and_parts, ltb-true}
use Rattle.lbm_space.specs.Torus.{cells}
use Rattle.lbm_store.specs.Outside.{StoreState}
use Rattle.lbm_model.specs.State.{mass}
use Rattle.lbm_model.specs.Case.{FlowCase, IsCase, all_gain, is_solid}
use Rattle.lbm_model.specs.Flow.{IsStateOf, first}
use Rattle.lbm_model.specs.Laws.{IsFlow}
use Rattle.lbm_model.proofs.Mass.{mass-run, length-state_of}
use Rattle.lbm_tracer.specs.Collision.{first_amount}
use Rattle.lbm_tracer.specs.Tracing.{set_in, tracer_first}
use Rattle.lbm_tracer.specs.Carried.{places_of}
use Rattle.lbm_tracer.specs.Trace.{trace}
use Rattle.lbm_tracer.proofs.Total.{total-first, total-run}
use Rattle.lbm_words.specs.Request.{Tracer}
use Rattle.lbm_answer.specs.declared.tracer.Traced.{Traced}
use Rattle.lbm_answer.specs.declared.answer.File.TheVariants.{CaseFile, Voxel, Checkpoint, Out, Save, Trace}
use Rattle.lbm_answer.specs.declared.answer.End.{End}
use Rattle.lbm_answer.specs.declared.answer.End.TheVariants.{Done, Usage, Case, TooLong, Voxel as BadVoxel, Cut, Spot, Checkpoint as BadCheckpoint, Past, Range, TracerRange, StoreFault, SinkFault, Memory}
use Rattle.lbm_answer.specs.declared.report.Report.TheVariants as reports
use Rattle.lbm_answer.specs.Reports.{mass_of, printed_amounts, tracer_report}
use Rattle.lbm_answer.specs.Outcome.{Finished, OfFiles, CutAt, CutShort, bad_cut, is_spot, run_job, traced, traced_files, traced_run, tracer_outcome, uncut, written}
use Rattle.lbm_answer.specs.Jobs.{Cuts, left_files}
use Rattle.lbm_answer.specs.Tracers.{Places, FinishesTraced, LeavesTraced, SavesTraced, first_beginning, traced_report, traced_files_left}
use Rattle.lbm_answer.specs.Answer.{DecidesFor, KeepsTracer, asked_of_tracer}
use Rattle.lbm_answer.specs.Laws.{flow_of}
use Rattle.lbm_answer.proofs.Asked.{tracer_outcome-refused, tracer_outcome-unplaced, tracer_outcome-begun}
use Rattle.lbm_answer.proofs.Deciding.{for-memory, no_bad_cut}
use Rattle.lbm_answer.proofs.LeftFiles.{finished-left, left-step}
use Rattle.lbm_answer.proofs.Stepped.{first_is_state}

-- the first state of a tracer has the sizes of a state
pub tracer_first_is_state : (case : FlowCase) (amount cell : ℕ) → IsStateOf (places_of case.torus) (tracer_first case.torus amount cell)
tracer_first_is_state case amount cell = record {
  directions = refl;
  numbers = length-state_of (set_in case.torus).directions (cells case.torus)
      (λ x k. if x == cell then first_amount (set_in case.torus) (pos amount) k else pos 0);
}

-- ---- what its states leave

module _ (r : Tracer) (case : FlowCase) (left : Traced) (leaves : LeavesTraced r case left) where
  told_step : left.flow.report.step ≡ r.steps
  told_step = left-step (run_job (flow_of r) case []) (first_beginning case) left.flow leaves.flow

  told_mass : left.flow.report.mass ≡ mass left.flow.state
  told_mass = ap mass_of leaves.flow.report

  -- the file of the flow is that of a run, and behind it is that of the tracer
  same_trace : trace case.torus r.steps (printed_amounts case leaves.tracer) ≡ trace left.flow.space left.flow.report.step left.amounts.items
  same_trace =
      ap (λ t. trace t r.steps (printed_amounts case leaves.tracer)) (sym leaves.flow.space)
      ∙ ap (λ n. trace left.flow.space n (printed_amounts case leaves.tracer)) (sym told_step)
      ∙ ap (λ amounts. trace left.flow.space left.flow.report.step amounts) (sym leaves.amounts)

  same_files : traced_files r case left.flow.state leaves.tracer ≡ traced_files_left r left
  same_files =
      let flow = finished-left (run_job (flow_of r) case []) (first_beginning case) left.flow leaves.flow in
      ap (λ (f : Finished). f.files ++ record { name = r.trace; bytes = trace case.torus r.steps (printed_amounts case leaves.tracer) } ∷ []) flow
      ∙ ap (λ bytes. left_files (run_job (flow_of r) case []) left.flow ++ record { name = r.trace; bytes = bytes } ∷ []) same_trace

  same_report : tracer_report r.steps left.flow.state leaves.tracer ≡ traced_report left
  same_report = λ i. reports.Tracer (record { step = sym told_step i; mass = sym told_mass i; tracer = sym leaves.total i })

  pub traced-left : traced r case (traced_run r case) ≡ Ok (record { files = traced_files_left r left; report = traced_report left })
  traced-left = ap (traced r case) leaves.ends ∙ (λ i. Ok (record { files = same_files i; report = same_report i }))

  -- the laws that its report keeps
  pub keeps-traced : IsCase case → is_spot case r.cell ≡ true → KeepsTracer r case (traced_report left)
  keeps-traced valid placed =
      let flow : IsFlow case (first case) = record { set = valid.set; space = valid.space; state = first_is_state case } in
      let all : r.steps - 0 ≡ r.steps = omega arith in
      let law : mass left.flow.state ≡ mass (first case) +ℤ (pos (r.steps - 0) *ℤ all_gain case) = mass-run case (first case) left.flow.state 0 (r.steps - 0) flow leaves.flow.ends in
      let here = ltb-true r.cell (cells case.torus) (and_parts (nat_lt r.cell (cells case.torus)) (not (is_solid case r.cell)) placed).0 in
      let first_state = tracer_first case.torus r.amount r.cell in
      let total : mass leaves.tracer ≡ mass first_state = total-run case r.rates (first case) first_state left.flow.state leaves.tracer 0 r.steps valid (tracer_first_is_state case r.amount r.cell) leaves.ends in (
        told_mass ∙ law ∙ ap (λ n. mass (first case) +ℤ (pos n *ℤ all_gain case)) all,
        leaves.total ∙ total ∙ total-first case r.amount r.cell valid here,
      )

-- ---- its steps

module _ (r : Tracer) (case : FlowCase) (before : StoreState) where
  -- a cutting that was not made
  pub for-uncut_tracer : (end : End) → Cuts case.torus r.choice.cut (Err end) → DecidesFor (asked_of_tracer r case) before before (Err end)
  for-uncut_tracer (Cut k) cuts = (refl, λ files told. tracer_outcome-refused r case (Cut k) (ap uncut cuts))
  for-uncut_tracer Memory cuts = for-memory (asked_of_tracer r case) before before refl
  for-uncut_tracer Done cuts = absurd cuts
  for-uncut_tracer Usage cuts = absurd cuts
  for-uncut_tracer (Case fault) cuts = absurd cuts
  for-uncut_tracer (TooLong file) cuts = absurd cuts
  for-uncut_tracer (BadVoxel fault) cuts = absurd cuts
  for-uncut_tracer (Spot cell) cuts = absurd cuts
  for-uncut_tracer (BadCheckpoint fault) cuts = absurd cuts
  for-uncut_tracer (Past at to) cuts = absurd cuts
  for-uncut_tracer (Range step cell) cuts = absurd cuts
  for-uncut_tracer (TracerRange step cell) cuts = absurd cuts
  for-uncut_tracer (StoreFault file) cuts = absurd cuts
  for-uncut_tracer SinkFault cuts = absurd cuts

  module _ (good : IsNone (bad_cut case.torus r.choice.cut)) where
    whole : uncut (bad_cut case.torus r.choice.cut) ≡ Ok tt
    whole = ap uncut (no_bad_cut _ good)

    -- a cell in which no tracer may begin
    pub for-unplaced : (end : End) → Places case r.cell (Err end) → DecidesFor (asked_of_tracer r case) before before (Err end)
    for-unplaced (Spot cell) places = (refl, λ files told. tracer_outcome-unplaced r case whole places.1 ∙ ap (λ n. Err (Spot n)) (sym places.0))
    for-unplaced (Cut k) places = absurd places
    for-unplaced Memory places = absurd places
    for-unplaced Done places = absurd places
    for-unplaced Usage places = absurd places
    for-unplaced (Case fault) places = absurd places
    for-unplaced (TooLong file) places = absurd places
    for-unplaced (BadVoxel fault) places = absurd places
    for-unplaced (BadCheckpoint fault) places = absurd places
    for-unplaced (Past at to) places = absurd places
    for-unplaced (Range step cell) places = absurd places
    for-unplaced (TracerRange step cell) places = absurd places
    for-unplaced (StoreFault file) places = absurd places
    for-unplaced SinkFault places = absurd places

    module _ (placed : is_spot case r.cell ≡ true) where
      begun : tracer_outcome r case ≡ traced r case (traced_run r case)
      begun = tracer_outcome-begun r case whole placed

      -- a run that was not finished
      pub for-untraced : (end : End) → FinishesTraced r case (Err end) → DecidesFor (asked_of_tracer r case) before before (Err end)
      for-untraced (Range step cell) finishes = (refl, λ files told. begun ∙ ap (traced r case) finishes)
      for-untraced (TracerRange step cell) finishes = (refl, λ files told. begun ∙ ap (traced r case) finishes)
      for-untraced Memory finishes = for-memory (asked_of_tracer r case) before before refl
      for-untraced Done finishes = absurd finishes
      for-untraced Usage finishes = absurd finishes
      for-untraced (Case fault) finishes = absurd finishes
      for-untraced (TooLong file) finishes = absurd finishes
      for-untraced (BadVoxel fault) finishes = absurd finishes
      for-untraced (Cut k) finishes = absurd finishes
      for-untraced (Spot cell) finishes = absurd finishes
      for-untraced (BadCheckpoint fault) finishes = absurd finishes
      for-untraced (Past at to) finishes = absurd finishes
      for-untraced (StoreFault file) finishes = absurd finishes
      for-untraced SinkFault finishes = absurd finishes

      module _ (left : Traced) (leaves : LeavesTraced r case left) where
        outcome-traced : tracer_outcome r case ≡ Ok (record { files = traced_files_left r left; report = traced_report left })
        outcome-traced = begun ∙ traced-left r case left leaves

        -- files that were written
        pub for-traced : (after : StoreState) → IsCase case → after.read_faults ≡ before.read_faults
            → SavesTraced (traced_files_left r left) before after (Ok tt) → DecidesFor (asked_of_tracer r case) before after (Ok (traced_report left))
        for-traced after valid reads saves = (
          record { reads = reads; writes = saves.0 },
          λ files told.
              let t = saves.1 files told in (
                t.0,
                t.1,
                (
                  subst (λ o. IsOkAnd o (λ run. (run.report ≡ traced_report left) × (t.0 ≡ written run.files files))) (sym outcome-traced) (refl, t.2),
                  keeps-traced r case left leaves valid placed,
                ),
              ),
        )

        -- the files of the store, where the writing stopped at one of them
        stops : (k : ℕ) (after : StoreState) → OfFiles before after (λ old now. CutAt k (traced_files_left r left) old now)
            → OfFiles before after (λ files now. IsOkAnd (tracer_outcome r case) (λ run. CutAt k run.files files now))
        stops k after cut = λ files told.
            let t = cut files told in
            (t.0, t.1, subst (λ o. IsOkAnd o (λ run. CutAt k run.files files t.0)) (sym outcome-traced) t.2)

        -- files that were not
        pub for-unsaved_traced : (after : StoreState) → after.read_faults ≡ before.read_faults → (end : End) → SavesTraced (traced_files_left r left) before after (Err end)
            → DecidesFor (asked_of_tracer r case) before after (Err end)
        for-unsaved_traced after reads (StoreFault Out) saves = ((saves.0, reads), stops 0 after saves.1)
        for-unsaved_traced after reads (StoreFault Trace) saves = ((saves.0, reads), stops 1 after saves.1)
        for-unsaved_traced after reads Memory saves = λ files told.
            let t = saves files told in
            (t.0, t.1, subst (λ o. MatchResult o (λ run. CutShort run.files files t.0) (λ refused. t.0 ≡ files)) (sym outcome-traced) t.2)
        for-unsaved_traced after reads (StoreFault CaseFile) saves = absurd saves
        for-unsaved_traced after reads (StoreFault Voxel) saves = absurd saves
        for-unsaved_traced after reads (StoreFault Checkpoint) saves = absurd saves
        for-unsaved_traced after reads (StoreFault Save) saves = absurd saves
        for-unsaved_traced after reads Done saves = absurd saves
        for-unsaved_traced after reads Usage saves = absurd saves
        for-unsaved_traced after reads (Case fault) saves = absurd saves
        for-unsaved_traced after reads (TooLong file) saves = absurd saves
        for-unsaved_traced after reads (BadVoxel fault) saves = absurd saves
        for-unsaved_traced after reads (Cut k) saves = absurd saves
        for-unsaved_traced after reads (Spot cell) saves = absurd saves
        for-unsaved_traced after reads (BadCheckpoint fault) saves = absurd saves
        for-unsaved_traced after reads (Past at to) saves = absurd saves
        for-unsaved_traced after reads (Range step cell) saves = absurd saves
        for-unsaved_traced after reads (TracerRange step cell) saves = absurd saves
        for-unsaved_traced after reads SinkFault saves = absurd saves
