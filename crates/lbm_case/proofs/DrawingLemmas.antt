-- The rows of a drawing beside the values that hold them.
use Rattle.std.proofs.Common.{◌≡◌, ℕ, ◌<◌, Bool, List, [], length, get_or, ap, ◌∙◌, sym}
use Rattle.std.specs.Str.{chars}
use Rattle.std.specs.List.{position}
use Rattle.std.proofs.lemmas.List.{get_or-map, length-map}
use Rattle.toml.specs.declared.value.Value.{Value}
use Rattle.toml.specs.View.{view}
use Rattle.lbm_case.specs.Views.{text_of, texts_view, drawing_view}
use Rattle.lbm_case.proofs.Places.{position-map}

pub drawing_view-at : (rows : List Value) (i : ℕ) (v : Value) → i < length rows → v ≡ get_or rows i v → get_or (drawing_view rows) i [] ≡ chars (text_of (view v))
drawing_view-at rows i v within at =
    let texts : i < length (texts_view rows) = rw (length-map rows (λ value. text_of (view value))) within in
    get_or-map chars (texts_view rows) i [] [] texts ∙ ap chars (get_or-map (λ value. text_of (view value)) rows i v [] within ∙ ap (λ value. text_of (view value)) (sym at))

pub length-drawing_view : (rows : List Value) → length (drawing_view rows) ≡ length rows
length-drawing_view rows = length-map (texts_view rows) chars ∙ length-map rows (λ value. text_of (view value))

pub position-drawing_view : (p : List ℕ → Bool) (rows : List Value) → position p (drawing_view rows) ≡ position (λ value. p (chars (text_of (view value)))) rows
position-drawing_view p rows = position-map p chars (texts_view rows) ∙ position-map (λ text. p (chars text)) (λ value. text_of (view value)) rows
