use Rattle.std.proofs.Common.{rules}
use Rattle.lbm_words.proofs.RateLemmas.{rate-made}
use Rattle.lbm_words.proofs.rate.rate.Goals as goal

pub returns : goal.returns
returns c = rate-made c.args.p c.args.q c.new.result (search rules)
