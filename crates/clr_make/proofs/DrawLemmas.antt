-- One draw more.
use Rattle.std.proofs.Common.{◌≡◌, ◌≤◌, ℕ, ◌+◌, ◌-◌, suc, arith, refl}
use Rattle.clr_make.specs.Draws.{next_state, state_after}
use Rattle.clr_make.specs.Made.{draw_number, draws_before}

pub state-next : (seed number : ℕ) → state_after seed (number + 1) ≡ next_state (state_after seed number)
unfolding state_after
state-next seed number = let e : number + 1 ≡ suc number = omega arith in rw e refl

-- the draw of a rung is the one after that of the rung before
pub rung-next : (store week rung : ℕ) → 1 ≤ rung → draw_number store week (rung - 1) + 1 ≡ draw_number store week rung
unfolding draw_number
rung-next store week rung low = omega arith

-- the draws of a week's rungs follow those of the week before
pub week-next : (store week : ℕ) → 1 ≤ week → draw_number store week 6 ≡ draw_number store (week + 1) 0
unfolding draw_number
week-next store week low = omega arith

-- the draws of a store's weeks follow that of its units
pub week-first : (store : ℕ) → draw_number store 1 0 ≡ draws_before store + 1
unfolding draw_number
week-first store = omega arith

-- the draws of a store follow those of the store before
pub store-next : (store : ℕ) → 1 ≤ store → draw_number store 13 0 ≡ draws_before (store + 1)
unfolding draw_number draws_before
store-next store low = omega arith

pub first-store : draws_before 1 ≡ 0
unfolding draws_before
first-store = refl
