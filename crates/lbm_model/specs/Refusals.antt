-- How a reading goes on until it is refused.
use Rattle.std.specs.Prelude.{Bool, true, false, Result, Ok, Err}

-- what is read goes on to f, and a refusal ends the reading
infixl 10 ◌>>=◌
abbrev pub ◌>>=◌ : {A B E : Type 0} → Result A E → (A → Result B E) → Result B E
(Ok x) >>= f = f x
(Err refusal) >>= f = Err refusal

-- a refusal where a test fails
abbrev pub demand : {E : Type 0} → Bool → E → Result (Unit {0}) E
demand true refusal = Ok tt
demand false refusal = Err refusal
