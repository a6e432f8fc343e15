-- How far a walk has come over `count` things in a row, of which `done` are done.
--     rises    whether it goes from the first one up, and else from the last one down
use Rattle.std.specs.Prelude.{ℕ, ◌-◌, Bool, true, false}

-- what is done begins here
abbrev pub done_from : (rises : Bool) (count done : ℕ) → ℕ
done_from true count done = 0
done_from false count done = count - done

-- and ends before here
abbrev pub done_to : (rises : Bool) (count done : ℕ) → ℕ
done_to true count done = done
done_to false count done = count

-- the next n of them begin here
abbrev pub next_from : (rises : Bool) (count done n : ℕ) → ℕ
next_from true count done n = done
next_from false count done n = count - done - n
