-- What a run leaves is what its outcome says.
use Rattle.std.proofs.Common.{◌≡◌, ◌∙◌, ℕ, List, [], ◌∷◌, Option, Some, None, ap, sym, refl}
use Rattle.sha2.specs.Sha256.{sha256}
use Rattle.lbm_ckpt.specs.Ckpt.{ckpt}
use Rattle.lbm_vtk.specs.Vtk.{vtk}
use Rattle.lbm_answer.specs.declared.left.Left.{Left}
use Rattle.lbm_answer.specs.declared.report.Report.{Report}
use Rattle.lbm_answer.specs.declared.report.Report.TheVariants.{Run, Check, Tracer}
use Rattle.lbm_answer.specs.Reports.{printed_moments}
use Rattle.lbm_answer.specs.Outcome.{Job, Beginning, finished, saved_files, vtk_of}
use Rattle.lbm_answer.specs.Jobs.{Leaves, left_files, checkpoint_file}

-- the step that the report of a run tells
step_told : Report → ℕ
step_told (Run r) = r.step
step_told (Check r) = 0
step_told (Tracer r) = r.step

module _ (job : Job) (begin : Beginning) (left : Left) (leaves : Leaves job.case job.steps begin left) where
  pub left-step : left.report.step ≡ job.steps
  unfolding step_told
  left-step = ap step_told leaves.report

  same_vtk : vtk_of job.case job.steps left.state job.format ≡ vtk left.space left.report.step left.moments.items job.format
  same_vtk =
      ap (λ t. vtk t job.steps (printed_moments job.case left.state) job.format) (sym leaves.space)
      ∙ ap (λ n. vtk left.space n (printed_moments job.case left.state) job.format) (sym left-step)
      ∙ ap (λ ms. vtk left.space left.report.step ms job.format) (sym leaves.moments)

  same_saved : (save : Option (List ℕ)) → saved_files job left.state save ≡ checkpoint_file job.bytes left save
  same_saved None = refl
  same_saved (Some name) =
      ap (λ bytes. record { name = name; bytes = bytes } ∷ [])
      (ap (λ t. ckpt (sha256 job.bytes) job.steps t left.state) (sym leaves.space) ∙ ap (λ n. ckpt (sha256 job.bytes) n left.space left.state) (sym left-step))

  pub finished-left : finished job left.state ≡ record { files = left_files job left; report = Run left.report }
  finished-left = λ i. record { files = record { name = job.out; bytes = same_vtk i } ∷ same_saved job.save i; report = sym leaves.report i }
