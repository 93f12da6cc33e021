-- The draws of a seed: a linear congruential generator of 64 bits, of which each draw takes the upper 31.
use Rattle.std.specs.Prelude.{ℕ, zero, suc, ◌+◌, ◌*◌, ◌/◌, ◌%◌, ◌^◌}

-- the state after one more draw
abbrev pub next_state : ℕ → ℕ
next_state state = (state * 6364136223846793005 + 1442695040888963407) % 2 ^ 64

-- the state after so many draws: it starts with the seed
unfoldable pub state_after : ℕ → ℕ → ℕ
state_after seed zero = seed
state_after seed (suc draws) = next_state (state_after seed draws)

-- a draw by its number, from 1: the state after it without its lower 33 bits
abbrev pub draw : ℕ → ℕ → ℕ
draw seed number = state_after seed number / 2 ^ 33
