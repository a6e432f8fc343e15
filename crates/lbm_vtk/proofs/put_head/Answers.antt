use Rattle.std.proofs.Common.{rules}
use Rattle.lbm_store.proofs.PutLemmas.{Puts-is}
use Rattle.lbm_vtk.proofs.Lines.{head-parts}
use Rattle.lbm_vtk.proofs.put_head.Goals as goal

pub returns : goal.returns
returns g c =
    Puts-is g.K.Sink.state c.args.pieces.now c.put_parts.new.pieces c.put_parts.result _ _
    (head-parts c.args.space.now c.args.heading.now.title.now c.args.heading.now.step c.args.heading.now.field.now c.args.format c.as_slice.result.now c.as_bytes.result.now c.as_slice-2.result.now c.name.result.now c.as_slice-3.result.now c.as_bytes-2.result.now c.as_slice-4.result.now c.as_bytes-3.result.now c.as_slice-5.result.now c.as_bytes-4.result.now c.as_slice-6.result.now c.as_bytes-5.result.now c.as_slice-7.result.now c.as_slice-8.result.now
    (search rules) (search rules) (search rules) (search rules) (search rules) (search rules) (search rules) (search rules) (search rules) (search rules) (search rules) (search rules) (search rules) (search rules))
    c.put_parts.ensures
