-- Every case that the bytes of a file spell is one that is accepted.
use Rattle.std.proofs.Common.{◌≡◌, ℕ, ◌≤◌, ◌==◌, cond, List, length, nat_lt, ℤ, pos, unsigned_abs, Option, Some, None, option_and_then, Result, Ok, ok_or, refl, subst, arith}
use Rattle.std.proofs.lemmas.Bool.{eqb-true}
use Rattle.std.proofs.lemmas.Int.{ints}
use Rattle.std.proofs.lemmas.Option.{none-some, same_Some, cond_some}
use Rattle.toml.specs.Data.{Data, Members, as_integer, as_array}
use Rattle.lbm_space.specs.Stencil.{part}
use Rattle.lbm_space.specs.Torus.{Torus}
use Rattle.lbm_cell.specs.Collision.{IsForce}
use Rattle.lbm_model.specs.Case.{IsCase}
use Rattle.lbm_model.specs.declared.sets.SetKind.{SetKind}
use Rattle.lbm_model.proofs.SetLaws.{IsVelocitySet-stencil_of}
use Rattle.lbm_case.specs.declared.key.Key.{Key}
use Rattle.lbm_case.specs.declared.key.Key.TheVariants.{Set, Omega, Map, Layers, Density, Digit, Momentum, Force, OmegaMinus, Wall}
use Rattle.lbm_case.specs.declared.fault.CaseFault.{CaseFault}
use Rattle.lbm_case.specs.declared.fault.CaseFault.TheVariants.{NotToml, UnknownKey, MissingKey, BadNumber, BadSet, EmptyMap, Ragged, BadChar, TooLarge}
use Rattle.lbm_model.specs.Refusals.{demand}
use Rattle.lbm_case.specs.Refusals.{refuse}
use Rattle.lbm_case.specs.Settings.{Settings, unknown_key, missing_key, each_in, set_in, texts_in, integers_in, value_at, required, optional, zero_vector, settings_of}
use Rattle.lbm_case.specs.Numbers.{bad_number}
use Rattle.lbm_case.specs.Drawing.{width, ragged, strange_place}
use Rattle.lbm_case.specs.CaseOf.{table_of, drawing_of, box_drawn, space_drawn, case_drawn, settings_in, case_in, case_of}
use Rattle.lbm_case.specs.Laws.{SpellsCases}
use Rattle.lbm_case.proofs.TextSizes.{stepped, chosen}
use Rattle.lbm_case.proofs.Readings.{Reads, found, nothing_found, after, at_last}
use Rattle.lbm_case.proofs.Ranges.{density_within, digit_within, rates_allowed, force_is_small, wall_is_small, wall_is_flat, momentum_is_allowed, layers_positive}
use Rattle.lbm_case.proofs.Boxes.{IsSpace-from_is_space, two_or_three}
use Rattle.lbm_case.proofs.Even.{are_densities, are_moving}

-- ---- the vectors have three parts

length-integers_in : (n : ℕ) (value : Data) (u : List ℤ) → integers_in n value ≡ Some u → length u ≡ n
length-integers_in n value u given =
    stepped (λ xs. cond (length xs == n) (Some xs) None) (option_and_then (each_in as_integer) (as_array value)) u
    (λ xs _ kept. chosen (length xs == n) (Some xs) None (Some u)
    (λ long same. rw (← same_Some _ _ same) (eqb-true _ _ long))
    (λ _ none. absurd (none-some _ none))
    kept)
    given

given_or_zero : (o : Option Data) (fault : CaseFault) (u : List ℤ) → ◌≡◌ {A = Result (List ℤ) CaseFault} (elim o [ None ↦ Ok zero_vector | Some value ↦ ok_or (integers_in 3 value) fault ]) (Ok u) → length u ≡ 3
given_or_zero None fault u given = let same : zero_vector ≡ u = cc in rw (← same) refl
given_or_zero (Some value) fault u given = length-integers_in 3 value u (found (integers_in 3 value) u fault given)

three_parts : (key : Key) (table : Members) (u : List ℤ) → optional (integers_in 3) zero_vector key table ≡ Ok u → length u ≡ 3
three_parts key table u given = given_or_zero (value_at key table) _ u given

record AreThreeParts (s : Settings) : Type 0 where
  force : length s.force ≡ 3
  wall : length s.wall ≡ 3

settings_three : (table : Members) → Reads AreThreeParts (settings_of table)
unfolding settings_of
settings_three table =
    after _ (required set_in Set table) _ (λ set _.
    after _ (required (integers_in 2) Omega table) _ (λ rate _.
    after _ (required texts_in Map table) _ (λ rows _.
    after _ (optional as_integer (pos 1) Layers table) _ (λ layers _.
    after _ (optional as_integer (pos 884736) Density table) _ (λ density _.
    after _ (optional as_integer (pos 0) Digit table) _ (λ digit _.
    after _ (optional (integers_in 3) zero_vector Momentum table) _ (λ momentum _.
    after _ (optional (integers_in 3) zero_vector Force table) _ (λ force is_force.
    after _ (optional as_integer (part rate 0) OmegaMinus table) _ (λ rate_minus _.
    after _ (optional (integers_in 3) zero_vector Wall table) _ (λ wall is_wall.
    at_last _ _ (record { force = three_parts Force table force is_force; wall = three_parts Wall table wall is_wall })))))))))))

-- ---- the case in its box

small_force : (u : List ℤ) → length u ≡ 3 → ((a : ℕ) → unsigned_abs (part u a) ≤ 1024) → IsForce u
small_force u three small = record { three_parts = three; x_small = small 0; y_small = small 1; z_small = small 2 }

-- what a reading has found out before it comes to the case
record IsReady (set : SetKind) (box : Torus) (s : Settings) : Type 0 where
  vectors : AreThreeParts s
  ranged : bad_number s ≡ None
  named : s.set ≡ Some set
  even : ragged (unsigned_abs s.layers) (drawing_of s) ≡ None
  space : space_drawn set s ≡ Some box

IsCase-in_box : (set : SetKind) (box : Torus) (s : Settings) → IsReady set box s → IsCase (case_drawn set box s)
IsCase-in_box set box s ready =
    let density = density_within s ready.ranged in
    let digit = digit_within s ready.ranged in
    let drawn = cond_some _ _ _ ready.space in
    let whole : IsCase (case_drawn set (box_drawn set s) s) = record {
      set = IsVelocitySet-stencil_of set;
      space = IsSpace-from_is_space (box_drawn set s) (two_or_three set) drawn.0;
      dimension = refl;
      densities = are_densities _ _ _ _ _ (layers_positive s ready.ranged) ready.even (omega (arith, ints)) (omega (arith, ints));
      moving = are_moving _ _ _;
      wall = small_force s.wall ready.vectors.wall (wall_is_small s ready.ranged);
      wall_flat = wall_is_flat s set ready.ranged ready.named;
      rates = rates_allowed s ready.ranged;
      force = small_force s.force ready.vectors.force (force_is_small s ready.ranged);
      momentum = momentum_is_allowed s set ready.ranged ready.named;
    } in
    subst (λ t. IsCase (case_drawn set t s)) drawn.1 whole

-- ---- the whole reading

-- what has been found out of the keys, before the drawing is read
record IsSettled (s : Settings) : Type 0 where
  vectors : AreThreeParts s
  ranged : bad_number s ≡ None

IsSettled-settings_in : (table : Members) → Reads IsSettled (settings_in table)
unfolding settings_in
IsSettled-settings_in table =
    after _ (refuse UnknownKey (unknown_key table)) _ (λ known _.
    after _ (refuse MissingKey (missing_key table)) _ (λ complete _.
    after _ (settings_of table) _ (λ s is_settings.
    after _ (refuse BadNumber (bad_number s)) _ (λ ranged is_ranged.
    at_last _ _ (record { vectors = (settings_three table).at s is_settings; ranged = nothing_found _ _ _ is_ranged })))))

IsCase-case_in : (s : Settings) → IsSettled s → Reads IsCase (case_in s)
unfolding case_in
IsCase-case_in s settled =
    after _ (ok_or s.set BadSet) _ (λ set is_set.
    after _ (demand (nat_lt 0 (width (drawing_of s))) EmptyMap) _ (λ drawn _.
    after _ (refuse Ragged (ragged (unsigned_abs s.layers) (drawing_of s))) _ (λ even is_even.
    after _ (refuse (λ at. BadChar at.0 at.1) (strange_place (drawing_of s))) _ (λ clear _.
    after _ (ok_or (space_drawn set s) TooLarge) _ (λ box is_box.
    at_last _ _ (IsCase-in_box set box s (record {
      vectors = settled.vectors;
      ranged = settled.ranged;
      named = found _ _ _ is_set;
      even = nothing_found _ _ _ is_even;
      space = found _ _ _ is_box;
    })))))))

IsCase-case_of : (bytes : List ℕ) → Reads IsCase (case_of bytes)
unfolding case_of
IsCase-case_of bytes =
    after _ (ok_or (table_of bytes) NotToml) _ (λ table _.
    after _ (settings_in table) _ (λ s is. IsCase-case_in s ((IsSettled-settings_in table).at s is)))

pub spells-cases : SpellsCases
spells-cases bytes case spelled = (IsCase-case_of bytes).at case spelled
