-- Sums over the first items of lists.
use Rattle.std.proofs.Common.{◌≡◌, ℕ, suc, ◌+◌, ◌-◌, ℤ, pos, ◌+ℤ◌, ◌*ℤ◌, List, get_or, arith, sym, ap, ap₂, ◌∙◌, subst, add-one}
use Rattle.clr_average.proofs.Ring.{linear}
use Rattle.clr_average.specs.Average.{IsWithin, near}

pub plus_assoc : (a b c : ℤ) → (a +ℤ b) +ℤ c ≡ a +ℤ (b +ℤ c)
plus_assoc a b c = omega (arith, linear)

-- one weight more
pub near_more : (start total raw : ℤ) (weights : List ℕ) (after : List ℤ) (stock k : ℕ) → total ≡ start +ℤ near weights after stock k → raw ≡ get_or after (stock - k) (pos 0) →
    total +ℤ pos (get_or weights k 0) *ℤ raw ≡ start +ℤ near weights after stock (suc k)
near_more start total raw weights after stock k so_far is =
    ap₂ (λ t r. t +ℤ pos (get_or weights k 0) *ℤ r) so_far is ∙ plus_assoc start (near weights after stock k) (pos (get_or weights k 0) *ℤ get_or after (stock - k) (pos 0))

pub near_step : (start total result raw : ℤ) (weights : List ℕ) (after : List ℤ) (stock k : ℕ) → total ≡ start +ℤ near weights after stock k → raw ≡ get_or after (stock - k) (pos 0) →
    result ≡ total +ℤ pos (get_or weights k 0) *ℤ raw → result ≡ start +ℤ near weights after stock (k + 1)
near_step start total result raw weights after stock k so_far is step =
    step ∙ (near_more start total raw weights after stock k so_far is ∙ ap (λ n. start +ℤ near weights after stock n) (sym (add-one k)))

pub near_within : (limit : ℕ) (start total raw : ℤ) (weights : List ℕ) (after : List ℤ) (stock k : ℕ) → total ≡ start +ℤ near weights after stock k → raw ≡ get_or after (stock - k) (pos 0) →
    IsWithin limit (start +ℤ near weights after stock (suc k)) → IsWithin limit (total +ℤ pos (get_or weights k 0) *ℤ raw)
near_within limit start total raw weights after stock k so_far is h = subst (IsWithin limit) (sym (near_more start total raw weights after stock k so_far is)) h
