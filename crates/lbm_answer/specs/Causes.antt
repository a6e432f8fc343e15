-- What a call answers where a part of it has ended early.
use Rattle.lbm_case.specs.declared.fault.CaseEnd.{CaseEnd}
use Rattle.lbm_case.specs.declared.fault.CaseEnd.TheVariants as case_ends
use Rattle.lbm_ckpt.specs.declared.fault.CkptEnd.{CkptEnd}
use Rattle.lbm_ckpt.specs.declared.fault.CkptEnd.TheVariants as checkpoint_ends
use Rattle.lbm_space.specs.declared.cutting.CutEnd.{CutEnd}
use Rattle.lbm_space.specs.declared.cutting.CutEnd.TheVariants as cut_ends
use Rattle.lbm_voxel.specs.declared.fault.VoxelEnd.{VoxelEnd}
use Rattle.lbm_voxel.specs.declared.fault.VoxelEnd.TheVariants as voxel_ends
use Rattle.lbm_words.specs.declared.end.WordsEnd.{WordsEnd}
use Rattle.lbm_words.specs.declared.end.WordsEnd.TheVariants as words_ends
use Rattle.lbm_answer.specs.declared.answer.End.{End}
use Rattle.lbm_answer.specs.declared.answer.End.TheVariants.{Usage, Case, Voxel, Cut, Checkpoint, Memory}

-- where no case was read
abbrev pub case_end : CaseEnd → End
case_end (case_ends.Fault fault) = Case fault
case_end case_ends.Memory = Memory

-- where a voxel file made no case
abbrev pub voxel_end : VoxelEnd → End
voxel_end (voxel_ends.Fault fault) = Voxel fault
voxel_end voxel_ends.Memory = Memory

-- where the rows of the words give no cutting
abbrev pub cut_end : CutEnd → End
cut_end (cut_ends.BadCut k) = Cut k
cut_end cut_ends.Memory = Memory

-- where no checkpoint was read
abbrev pub checkpoint_end : CkptEnd → End
checkpoint_end (checkpoint_ends.Fault fault) = Checkpoint fault
checkpoint_end checkpoint_ends.Memory = Memory

-- where the words ask for nothing
abbrev pub words_end : WordsEnd → End
words_end words_ends.Usage = Usage
words_end words_ends.Memory = Memory
