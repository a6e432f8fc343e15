use Rattle.std.proofs.Common.{rules}
use Rattle.lbm_store.proofs.PutLemmas.{Puts-is}
use Rattle.lbm_vtk.proofs.Lines.{momentum-bytes, momentum-parts}
use Rattle.lbm_vtk.proofs.put_momentum.Goals as goal

pub returns-in-Ascii : goal.returns-in-Ascii
returns-in-Ascii g c =
    Puts-is g.K.Sink.state c.args.pieces.now c.put_parts.new.pieces c.put_parts.result _ _
    (momentum-parts c.args.cell.now c.args.format c.as_bytes.result.now c.as_slice.result.now c.as_bytes-in-Ascii.result.now c.as_slice-in-Ascii.result.now c.as_bytes-in-Ascii-2.result.now c.as_slice-in-Ascii-2.result.now
    (search rules) (search rules) (search rules) (search rules) (search rules) (search rules) (search rules))
    c.put_parts.ensures

pub returns-in-Binary : goal.returns-in-Binary
returns-in-Binary g c =
    Puts-is g.K.Sink.state c.args.pieces.now c.put_parts-in-Binary.new.pieces c.put_parts-in-Binary.result _ _
    (momentum-bytes c.args.cell.now c.args.format c.as_slice-in-Binary.result.now c.as_slice-in-Binary-2.result.now c.as_slice-in-Binary-3.result.now (search rules) (search rules) (search rules) (search rules))
    c.put_parts-in-Binary.ensures
