use Rattle.std.proofs.Common.{eqb, w32, arith}
use Rattle.std.proofs.lemmas.Simd.{bitmask_splat}
use Rattle.std.proofs.lemmas.Nat.Bits.{bit_at_above}
use Rattle.lbm_model.proofs.ZeroMask.{few_bits, bit_is}
use Rattle.lbm_model.proofs.case.zeros.Goals as goal

pub overflow_cast-result : goal.overflow_cast-result
overflow_cast-result c = rw (bitmask_splat w32 eqb c.args.numbers 8 0 c.requires (omega arith)) (few_bits c.args.numbers c.requires)

pub returns-clause-zero : goal.returns-clause-zero
returns-clause-zero c j known = rw (bitmask_splat w32 eqb c.args.numbers 8 0 c.requires (omega arith)) (bit_is c.args.numbers j c.requires known)

pub returns-clause-past : goal.returns-clause-past
returns-clause-past c j past = rw (bitmask_splat w32 eqb c.args.numbers 8 0 c.requires (omega arith)) (bit_at_above _ 8 j (few_bits c.args.numbers c.requires).fits past)
