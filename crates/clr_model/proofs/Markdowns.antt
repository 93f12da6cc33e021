-- The markdown weeks of a path, counted from its front.
use Rattle.std.proofs.Common.{◌≡◌, ℕ, zero, suc, ◌+◌, ◌==◌, Bool, true, false, not, cond, List, [], ◌∷◌, get_or, length, refl, sym, ap, ap₂, ◌∙◌}
use Rattle.std.specs.List.{sum_by}
use Rattle.std.proofs.lemmas.List.Sums.{sum_by-cons}
use mathlib.Core.Path.{fun_ext}
use Rattle.clr_num.specs.Lists.{numbers}
use Rattle.clr_rules.specs.Rules.{is_markdown, rung_at}
use Rattle.clr_model.specs.Revenue.{markdowns_after}
use Rattle.clr_model.specs.Laws.{MarkdownsCounted}

shifted : (f : ℕ → ℕ) (from count : ℕ) → sum_by f (numbers (suc from) count) ≡ sum_by (λ k. f (suc k)) (numbers from count)
shifted f from zero = refl
shifted f from (suc count) = sum_by-cons f (suc from) (numbers (suc (suc from)) count) ∙ (ap (λ t. f (suc from) + t) (shifted f (suc from) count) ∙ sym (sum_by-cons (λ k. f (suc k)) from (numbers (suc from) count)))

-- whether the rung at a place differs from the one before it
abbrev turned : ℕ → List ℕ → ℕ → ℕ
turned before path k = cond (not (get_or path k 1 == get_or (before ∷ path) k 1)) 1 0

count_after : (before : ℕ) (path : List ℕ) → sum_by (turned before path) (numbers 0 (length path)) ≡ markdowns_after before path
count_after before [] = refl
count_after before (rung ∷ path) =
    sum_by-cons (turned before (rung ∷ path)) 0 (numbers 1 (length path)) ∙ ap₂ ◌+◌ (one_if (rung == before)) (shifted (turned before (rung ∷ path)) 0 (length path) ∙ count_after rung path)
  where
    one_if : (same : Bool) → ◌≡◌ {A = ℕ} (cond (not same) 1 0) (cond same 0 1)
    one_if true = refl
    one_if false = refl

pub markdowns_counted_lem : MarkdownsCounted
markdowns_counted_lem path =
    sym (shifted (λ week. cond (is_markdown path week) 1 0) 0 (length path)
    ∙ (ap (λ f. sum_by f (numbers 0 (length path))) (fun_ext (λ k. ap (λ r. cond (not (get_or path k 1 == r)) 1 0) (before_is k))) ∙ count_after 1 path))
  where
    before_is : (k : ℕ) → rung_at path k ≡ get_or (1 ∷ path) k 1
    before_is zero = refl
    before_is (suc k) = refl
