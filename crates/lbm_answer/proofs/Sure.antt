-- That no count of files that never fail rises.
use Rattle.std.proofs.Common.{ℕ, List, Option, Some, None, arith}
use Rattle.lbm_store.specs.Memory.{sure_store}
use Rattle.lbm_store.specs.Outside.{no_faults}
use Rattle.lbm_store.specs.declared.sure_store.SureStore.{SureStore}
use Rattle.lbm_words.specs.Request.{Request}
use Rattle.lbm_answer.specs.declared.answer.File.TheVariants.{CaseFile, Voxel, Checkpoint, Out, Save, Trace}
use Rattle.lbm_answer.specs.Faults.{NamedRose}
use Rattle.lbm_answer.specs.Answer.{name_of}
use Rattle.lbm_answer.specs.Complete.{StoreRose}

named-never-rose : (name : Option (List ℕ)) → ¬ (NamedRose no_faults no_faults name)
named-never-rose (Some name) rose = omega arith
named-never-rose None rose = rose

pub sure-never-rose : (request : Option Request) (before after : SureStore) → ¬ (StoreRose request (sure_store before) (sure_store after))
sure-never-rose None before after rose = rose
sure-never-rose (Some request) before after (CaseFile, rose) = named-never-rose (name_of request CaseFile) rose
sure-never-rose (Some request) before after (Voxel, rose) = named-never-rose (name_of request Voxel) rose
sure-never-rose (Some request) before after (Checkpoint, rose) = named-never-rose (name_of request Checkpoint) rose
sure-never-rose (Some request) before after (Out, rose) = named-never-rose (name_of request Out) rose
sure-never-rose (Some request) before after (Save, rose) = named-never-rose (name_of request Save) rose
sure-never-rose (Some request) before after (Trace, rose) = named-never-rose (name_of request Trace) rose
