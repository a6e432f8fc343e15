use Rattle.std.proofs.Common.{◌≡◌, ℕ, suc, ◌-◌, List, ◌++◌, map, length, take, drop, Option, Some, slice_get, sym, ap, ◌∙◌, arith, length-append}
use Rattle.std.specs.List.{remove}
use Rattle.std.proofs.lemmas.Option.{slice_get_within}
use Rattle.atomic_table.specs.Table.{Me}
use Rattle.lbm_board.specs.declared.record.View.{View}
use Rattle.lbm_board.specs.Steps.{view_after_finish}
use Rattle.lbm_board.specs.Fields.{rotated, empty_slot}
use Rattle.lbm_board.proofs.Rotated.{front_at, length_after, length-mapped, turned_back}
use Rattle.lbm_board.proofs.holding.give_back_held.Goals as goal

pub give_back-answer-requires-clause-slot : goal.give_back-answer-requires-clause-slot
give_back-answer-requires-clause-slot g c =
    let held : List ℕ = c.args.held.now.items in
    let place = c.place_of-place.result in
    let at : slice_get held place ≡ Some c.args.number = ap (λ (xs : List ℕ). slice_get xs place) (sym c.as_slice.ensures.value) ∙ c.place_of-place.ensures in (
      map empty_slot (drop (suc place) held) ++ map empty_slot (take place held),
      ap (λ (m : Me (Option g.row.T.Denot) (View g.row.T.Denot)). m.1) c.rotate_slots.ensures.slots ∙ ap (rotated place) c.requires.slots ∙ front_at empty_slot held place c.args.number at,
    )

pub remove-requires : goal.remove-requires
remove-requires g c =
    let held : List ℕ = c.args.held.now.items in
    let place = c.place_of-place.result in
    let inside = slice_get_within held place c.args.number (ap (λ (xs : List ℕ). slice_get xs place) (sym c.as_slice.ensures.value) ∙ c.place_of-place.ensures) in
    let count = c.args.held.now.ok.0 in
    omega arith

pub rotate_slots-requires-2 : goal.rotate_slots-requires-2
rotate_slots-requires-2 g c =
    let held : List ℕ = c.args.held.now.items in
    let place = c.place_of-place.result in
    let at : slice_get held place ≡ Some c.args.number = ap (λ (xs : List ℕ). slice_get xs place) (sym c.as_slice.ensures.value) ∙ c.place_of-place.ensures in
    let after : List (ℕ × Option g.row.T.Denot) = map empty_slot (drop (suc place) held) in
    let before : List (ℕ × Option g.row.T.Denot) = map empty_slot (take place held) in
    let slot = ap (λ (m : Me (Option g.row.T.Denot) (View g.row.T.Denot)). m.1) c.rotate_slots.ensures.slots ∙ ap (rotated place) c.requires.slots ∙ front_at empty_slot held place c.args.number at in
    let given = ap (λ (m : Me (Option g.row.T.Denot) (View g.row.T.Denot)). length m.1) (c.give_back-answer.ensures.given (after ++ before) slot) in
    let both = length-append after before in
    let many = length-mapped (empty_slot {T = g.row.T.Denot}) (drop (suc place) held) in
    let left = length_after held place c.args.number at in
    let count = c.remove.new.self.ok.0 in
    let items : length c.remove.new.self.items ≡ length (remove held place) = ap length c.remove.ensures.items in
    let len = c.len.ensures in
    omega arith

pub returns-clause-held : goal.returns-clause-held
returns-clause-held g c =
    let place = c.place_of-place.result in
    (c.remove.ensures.capacity, (place, ap (λ (xs : List ℕ). slice_get xs place) (sym c.as_slice.ensures.value) ∙ c.place_of-place.ensures, c.remove.ensures.items))

pub returns-clause-given : goal.returns-clause-given
returns-clause-given g c =
    let held : List ℕ = c.args.held.now.items in
    let place = c.place_of-place.result in
    let at : slice_get held place ≡ Some c.args.number = ap (λ (xs : List ℕ). slice_get xs place) (sym c.as_slice.ensures.value) ∙ c.place_of-place.ensures in
    let after : List (ℕ × Option g.row.T.Denot) = map empty_slot (drop (suc place) held) in
    let before : List (ℕ × Option g.row.T.Denot) = map empty_slot (take place held) in
    let turned = c.rotate_slots.ensures.slots in
    let slot = ap (λ (m : Me (Option g.row.T.Denot) (View g.row.T.Denot)). m.1) turned ∙ ap (rotated place) c.requires.slots ∙ front_at empty_slot held place c.args.number at in
    let given = c.give_back-answer.ensures.given (after ++ before) slot in
    let count : c.len.result ≡ length (remove held place) = c.len.ensures ∙ c.remove.new.self.ok.0 ∙ ap length c.remove.ensures.items in
    let back = ap (λ (n : ℕ). rotated (n - place) (after ++ before)) count ∙ turned_back empty_slot held place c.args.number at ∙ ap (map empty_slot) (sym c.remove.ensures.items) in
    c.rotate_slots-2.ensures.slots
    ∙ ap (λ (m : Me (Option g.row.T.Denot) (View g.row.T.Denot)). (m.0, rotated (c.len.result - place) m.1)) given
    ∙ (λ i. (view_after_finish c.args.table.now.table_id.slots (turned i).0 c.args.number c.args.piece c.args.least c.give_back-answer.result, back i))
