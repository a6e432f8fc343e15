use Rattle.std.proofs.Common.{◌≡◌, ◌+◌, ◌++◌, map, take, codes}
use Rattle.arrayvec.specs.ArrayString.{array_string_len}
use Rattle.lbm_answer.specs.Lines.{printed_byte}
use Rattle.lbm_answer.proofs.refusals.put_name.Given as goal

abbrev pub invariant-loop-byte : goal.invariant-loop-byte
invariant-loop-byte l = record {
  text : l.line.bytes ≡ (l.fn.line.bytes ++ codes "unknown key ") ++ map printed_byte (take l.byte-index l.byte-items);
  sized : array_string_len l.line ≡ array_string_len l.fn.line + 12 + l.byte-index;
}
