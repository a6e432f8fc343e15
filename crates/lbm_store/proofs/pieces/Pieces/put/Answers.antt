use Rattle.std.proofs.Common.{◌≡◌, ℕ, List, [], ◌++◌, take, drop, Err, refl, sym, ◌∙◌, ap, append_assoc}
use Rattle.std.proofs.lemmas.Result.{err_from_is_err_and}
use Rattle.std.proofs.lemmas.List.{take-append-drop}
use Rattle.lbm_store.proofs.PutLemmas.{done, Puts-none, Puts-then, Puts-cut, Puts-is, Puts-filled, Puts-held}
use Rattle.lbm_store.proofs.pieces.Pieces.put.Goals as goal

-- one more piece was cut off what is left
in_parts : (bytes front rest piece back : List ℕ) (n : ℕ) → bytes ≡ front ++ rest → piece ≡ take n rest → back ≡ drop n rest → bytes ≡ (front ++ piece) ++ back
in_parts bytes front rest piece back n is first last =
    is ∙ ap (λ t. front ++ t) (sym (take-append-drop n rest) ∙ ap (λ t. t ++ drop n rest) (sym first) ∙ ap (λ t. piece ++ t) (sym last))
    ∙ sym (append_assoc front piece back)

pub loop-self-init : goal.loop-self-init
loop-self-init g c = ([], refl, Puts-none _ _)

pub returns-in_err-fill : goal.returns-in_err-fill
returns-in_err-fill g c =
    let p = err_from_is_err_and c.from_residual.result c.from_residual.ensures.1 in
    rw (p.1, p.2)
    (Puts-is g.K.Sink.state c.args.self.now c.fill.new.self (Err c.in_err-fill.field-0.0) ((c.loop-self.invariant.0 ++ c.split_at.result.0.now) ++ c.split_at.result.1.now) c.args.bytes.now
    (sym (in_parts _ _ _ _ _ _ c.loop-self.invariant.1 c.split_at.ensures.front c.split_at.ensures.back))
    (Puts-cut g.K.Sink.state c.args.self.now c.fill.new.self c.in_err-fill.field-0.0 (c.loop-self.invariant.0 ++ c.split_at.result.0.now) c.split_at.result.1.now
    (Puts-then g.K.Sink.state c.args.self.now c.loop-self.self c.fill.new.self (Err c.in_err-fill.field-0.0) c.loop-self.invariant.0 c.split_at.result.0.now c.loop-self.invariant.2
    (Puts-filled g.K.Sink.state c.loop-self.self c.fill.new.self (Err c.in_err-fill.field-0.0) c.split_at.result.0.now
    c.in_err-fill.ensures.piece c.in_err-fill.ensures.writes c.in_err-fill.ensures.held c.in_err-fill.ensures.loan))))

pub loop-self-preserved : goal.loop-self-preserved
loop-self-preserved g c = (
  c.loop-self.invariant.0 ++ c.split_at.result.0.now,
  in_parts _ _ _ _ _ _ c.loop-self.invariant.1 c.split_at.ensures.front c.split_at.ensures.back,
  Puts-then g.K.Sink.state c.args.self.now c.loop-self.self c.fill.new.self done c.loop-self.invariant.0 c.split_at.result.0.now c.loop-self.invariant.2
      (Puts-filled g.K.Sink.state c.loop-self.self c.fill.new.self done c.split_at.result.0.now
      c.in_ok-fill.ensures.piece c.in_ok-fill.ensures.writes c.in_ok-fill.ensures.held c.in_ok-fill.ensures.loan),
)

pub returns : goal.returns
returns g c =
    Puts-is g.K.Sink.state c.args.self.now c.hold.new.self done (c.loop-self.invariant.0 ++ c.loop-self.rest.now) c.args.bytes.now (sym c.loop-self.invariant.1)
    (Puts-then g.K.Sink.state c.args.self.now c.loop-self.self c.hold.new.self done c.loop-self.invariant.0 c.loop-self.rest.now c.loop-self.invariant.2
    (Puts-held g.K.Sink.state c.loop-self.self c.hold.new.self c.loop-self.rest.now c.hold.ensures.sink c.hold.ensures.held c.hold.ensures.loan))
