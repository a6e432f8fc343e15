use Rattle.std.proofs.Common.{◌≡◌, [], ap, sym, ◌∙◌, rules}
use Rattle.std.proofs.lemmas.List.{nil_from_length}
use Rattle.lbm_store.specs.Outside.{followed}
use Rattle.lbm_store.proofs.Written.{followed-[]}
use Rattle.lbm_store.proofs.pieces.hand_on.Goals as goal

pub returns-then-is_empty : goal.returns-then-is_empty
returns-then-is_empty g c =
    let none : c.args.piece.now ≡ [] = nil_from_length _ (search rules) in
    record {
      ok = sym (ap (followed _) none ∙ followed-[] _);
      err = tt;
      cause = search rules;
      rest = search rules;
    }
