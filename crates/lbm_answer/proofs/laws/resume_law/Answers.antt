use Rattle.lbm_answer.proofs.Resumed.{resume-law, resumed-request, resumed-mass, requested-mass, save-law}
use Rattle.lbm_answer.proofs.laws.resume_law.Goals as goal

pub returns : goal.returns
returns c = record { resume = resume-law; request = resumed-request; mass = resumed-mass; request_mass = requested-mass; saved = save-law }
