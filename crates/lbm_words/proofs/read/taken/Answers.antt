use Rattle.std.proofs.Common.{refl}
use Rattle.clap.specs.Words.{app_of}
use Rattle.lbm_words.proofs.CommandLemmas.{is_simple-free}
use Rattle.lbm_words.proofs.read.taken.Goals as goal

pub returns : goal.returns
returns c =
    let accepted = c.in_ok-matches.ensures.kinds c.requires in
    let rows = (c.in_ok-matches.ensures.matches (is_simple-free (app_of c.args.command) c.requires)).0 in
    rw (accepted, rows) refl
