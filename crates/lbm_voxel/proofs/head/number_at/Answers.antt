use Rattle.std.proofs.Common.{◌≡◌, refl, sym, ap, ◌∙◌, List, ℕ}
use Rattle.std.specs.Prelude.{slice_get, None, unwrap_or}
use Rattle.std.specs.Borrow.{Bor}
use Rattle.std.proofs.lemmas.Option.{slice_get-map, slice_get_past}
use Rattle.lbm_voxel.specs.Head.{number_at}
use Rattle.lbm_voxel.proofs.Heads.{number_at-text}
use Rattle.lbm_voxel.proofs.head.number_at.Goals as goal

pub returns-then-n-words : goal.returns-then-n-words
returns-then-n-words c =
    c.unwrap_or.ensures ∙ (ap (λ found. unwrap_or found 0) c.number_of.ensures ∙ sym (number_at-text c.args.words.now c.args.n _ c.if-n-words.true))

pub returns-else-n-words : goal.returns-else-n-words
unfolding number_at
returns-else-n-words c =
    let past : slice_get c.args.words.now c.args.n ≡ None = slice_get_past c.args.words.now c.args.n c.if-n-words.false in
    rw (slice_get-map (λ (word : Bor (List ℕ)). word.now) c.args.words.now c.args.n, past) refl
