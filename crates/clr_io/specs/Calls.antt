-- The numbers of the calls on an object in memory, and its faults.
use Rattle.std.specs.Prelude.{◌≡◌, ℕ, Bool, ◌+◌, ◌-◌, ◌^◌, ◌==◌, min, List, Result, is_err, if◌then◌else◌}
use Rattle.std.specs.List.{list_any}
use Rattle.clr_io.specs.declared.memory.calls.Calls.{Calls}
use Rattle.clr_io.specs.declared.fault.Failed.{Failed}

-- the number of the next call, from 1 to 2^64 - 1
abbrev pub next_number : Calls → ℕ
next_number calls = min (calls.made + 1) (2 ^ 64 - 1)

-- the next call is listed among those that fail
abbrev pub fails_next : Calls → Bool
fails_next calls = list_any (λ number. number == next_number calls) calls.fail.items

-- no call yet, and these are to fail
pub record IsFresh (calls : Calls) (listed : List ℕ) : Type 0 where
  pub made : calls.made ≡ 0
  pub fail : calls.fail.items ≡ listed
  pub faults : calls.faults.count ≡ 0

-- one more call has its number, and its fault is counted
pub record IsCounted {T : Type 0} (old new : Calls) (result : Result T Failed) : Type 0 where
  pub made : new.made ≡ next_number old
  pub fail : new.fail.items ≡ old.fail.items
  pub faults : new.faults.count ≡ (if is_err result then min (old.faults.count + 1) (2 ^ 64 - 1) else old.faults.count)
