-- The line and the status of each answer.
use Rattle.std.specs.Prelude.{ℕ, List, [], ◌++◌, slice_index, map, take, ◌&&◌, nat_le, if◌then◌else◌, codes, decimal}
use Rattle.std.specs.Fmt.{signed_decimal}
use Rattle.lbm_space.specs.Stencil.{part}
use Rattle.lbm_case.specs.declared.fault.CaseFault.{CaseFault}
use Rattle.lbm_case.specs.declared.fault.CaseFault.TheVariants.{NotToml, UnknownKey, MissingKey, WrongKind, BadNumber, BadSet, EmptyMap, Ragged, BadChar, TooLarge}
use Rattle.lbm_case.specs.Keys.{name_of}
use Rattle.lbm_ckpt.specs.declared.fault.CkptFault.{CkptFault}
use Rattle.lbm_ckpt.specs.declared.fault.CkptFault.TheVariants.{Short, Magic, OtherCase, Size, Step, Digest, Wide}
use Rattle.lbm_voxel.specs.declared.fault.VoxelFault.{VoxelFault}
use Rattle.lbm_voxel.specs.declared.fault.VoxelFault.TheVariants.{Head, Word, Sides, Count, Value}
use Rattle.lbm_answer.specs.declared.answer.File.{File}
use Rattle.lbm_answer.specs.declared.answer.File.TheVariants.{CaseFile, Voxel, Checkpoint, Out, Save, Trace}
use Rattle.lbm_answer.specs.declared.answer.End.{End}
use Rattle.lbm_answer.specs.declared.answer.End.TheVariants.{Done, Usage, Case, TooLong, Voxel as BadVoxel, Cut, Spot, Checkpoint as BadCheckpoint, Past, Range, TracerRange, StoreFault, SinkFault, Memory}
use Rattle.lbm_answer.specs.declared.report.Report.{Report}
use Rattle.lbm_answer.specs.declared.report.Report.TheVariants.{Run, Check, Tracer}

-- the status with which the program ends
abbrev pub status_of : End → ℕ
status_of Done = 0
status_of Usage = 2
status_of (Case fault) = 3
status_of (TooLong file) = 3
status_of (BadVoxel fault) = 3
status_of (Cut k) = 3
status_of (Spot cell) = 3
status_of (BadCheckpoint fault) = 4
status_of (Past at to) = 4
status_of (Range step cell) = 5
status_of (TracerRange step cell) = 5
status_of (StoreFault file) = 6
status_of SinkFault = 6
status_of Memory = 7

-- how a name that is no key is printed: its first 40 bytes, each one that is no printable character as a question mark
abbrev pub printed_byte : ℕ → ℕ
printed_byte b = if nat_le 32 b && nat_le b 126 then b else 63

abbrev pub printed : List ℕ → List ℕ
printed name = map printed_byte (take 40 name)

-- what the line of a refused case file says
abbrev pub fault_of : CaseFault → List ℕ
fault_of NotToml = codes "case is not TOML"
fault_of (UnknownKey name) = codes "unknown key " ++ printed name
fault_of (MissingKey key) = codes "missing key " ++ name_of key
fault_of (WrongKind key) = codes "wrong kind " ++ name_of key
fault_of (BadNumber key) = codes "bad number " ++ name_of key
fault_of BadSet = codes "bad set"
fault_of EmptyMap = codes "empty map"
fault_of (Ragged row) = codes "ragged row " ++ decimal row
fault_of (BadChar row column) = codes "bad character " ++ decimal row ++ codes " " ++ decimal column
fault_of TooLarge = codes "too large"

-- what the line of a refused voxel file says
abbrev pub voxel_fault_of : VoxelFault → List ℕ
voxel_fault_of (Head k) = codes "head " ++ decimal k
voxel_fault_of (Word n) = codes "word " ++ decimal n
voxel_fault_of Sides = codes "sides"
voxel_fault_of Count = codes "count"
voxel_fault_of (Value k) = codes "value " ++ decimal k

-- what the line of a refused checkpoint says
abbrev pub checkpoint_fault_of : CkptFault → List ℕ
checkpoint_fault_of Short = codes "short"
checkpoint_fault_of Magic = codes "magic"
checkpoint_fault_of OtherCase = codes "other case"
checkpoint_fault_of Size = codes "size"
checkpoint_fault_of Step = codes "step"
checkpoint_fault_of Digest = codes "digest"
checkpoint_fault_of Wide = codes "wide"

-- what a line calls a file
abbrev pub file_word : File → List ℕ
file_word CaseFile = codes "case"
file_word Voxel = codes "voxel"
file_word Checkpoint = codes "checkpoint"
file_word Out = codes "out"
file_word Save = codes "save"
file_word Trace = codes "trace"

-- the line of an answer that is no report
abbrev pub line_of : End → List ℕ
line_of Done = []
line_of Usage = codes "refused: usage\n"
line_of (Case fault) = codes "refused: " ++ fault_of fault ++ codes "\n"
line_of (TooLong file) = codes "refused: " ++ file_word file ++ codes " too long\n"
line_of (BadVoxel fault) = codes "refused: voxel " ++ voxel_fault_of fault ++ codes "\n"
line_of (Cut k) = codes "refused: cut " ++ decimal k ++ codes "\n"
line_of (Spot cell) = codes "refused: spot " ++ decimal cell ++ codes "\n"
line_of (BadCheckpoint fault) = codes "refused: checkpoint " ++ checkpoint_fault_of fault ++ codes "\n"
line_of (Past at to) = codes "refused: checkpoint step " ++ decimal at ++ codes " is past " ++ decimal to ++ codes "\n"
line_of (Range step cell) = codes "range: step " ++ decimal step ++ codes " cell " ++ decimal cell ++ codes "\n"
line_of (TracerRange step cell) = codes "range: tracer step " ++ decimal step ++ codes " cell " ++ decimal cell ++ codes "\n"
line_of (StoreFault file) = codes "fault: " ++ file_word file ++ codes "\n"
line_of SinkFault = []
line_of Memory = codes "out of memory\n"

-- the line of a report
abbrev pub report_line : Report → List ℕ
report_line (Run r) =
    codes "step " ++ decimal r.step ++ codes " mass " ++ signed_decimal r.mass
    ++ codes " momentum " ++ signed_decimal (part r.momentum 0) ++ codes " " ++ signed_decimal (part r.momentum 1) ++ codes " " ++ signed_decimal (part r.momentum 2)
    ++ codes "\n"
report_line (Check r) =
    codes "D" ++ decimal r.dimension ++ codes "Q" ++ decimal r.directions
    ++ codes " " ++ decimal (slice_index r.sides 0) ++ codes " " ++ decimal (slice_index r.sides 1) ++ codes " " ++ decimal (slice_index r.sides 2)
    ++ codes " fluid " ++ decimal r.fluid ++ codes " solid " ++ decimal r.solid ++ codes " mass " ++ signed_decimal r.mass
    ++ codes "\n"
report_line (Tracer r) =
    codes "step " ++ decimal r.step ++ codes " mass " ++ signed_decimal r.mass ++ codes " tracer " ++ signed_decimal r.tracer ++ codes "\n"
