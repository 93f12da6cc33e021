-- One rung of a summary's row.
use Rattle.std.proofs.Common.{◌≡◌, ℕ, ◌-◌, ◌*◌, ◌+◌, ◌<◌, ◌≤◌, ℤ, pos, ◌+ℤ◌, ◌<ℤ◌, cond, int_lt, true, List, length, get_or, slice_get, Some, ap, ap₂, sym, ◌∙◌, subst}
use Rattle.clr_rules.specs.declared.season_rules.Summary.{Summary}
use Rattle.clr_rules.specs.Rules.{Rulebook, next_summary}
use Rattle.clr_rules.specs.LiveSummaries.{leads_at}
use Rattle.clr_average.specs.Average.{IsWithin}
use Rattle.clr_rows.specs.Leads.{choice_so_far, lead_value, lowest, value_so_far}
use Rattle.clr_rows.specs.Rows.{AreRows, AreWithin, row_at}
use Rattle.clr_rows.proofs.Bests.{above_lowest}
use Rattle.clr_rows.proofs.Leads.{best_led, first_led}
use Rattle.clr_rows.proofs.Lists.{get_or-row_at, got_inside, in_rows}

module _ (rules : Rulebook) (done : ℕ) (f : Summary → ℕ → ℤ) (added : ℕ → ℕ → ℤ) (s : Summary) (rung width place x : ℕ) (list : List Summary) (averages row : List ℤ) (more : ℤ) (low : 1 ≤ rung)
    (leads : leads_at rules done s rung ≡ true) (at : slice_get list place ≡ Some (next_summary rules s rung)) (are : AreRows (pos 0) width list (length list) f averages)
    (within : AreWithin 2000000000000000000 averages) (row_is : row ≡ row_at width averages place) (more_is : more ≡ added s.last rung) (small : IsWithin 1000000000000000000 more) (lt : x < width) where
  inside : place < length list
  inside = got_inside list place (next_summary rules s rung) at

  read : get_or row x (pos 0) ≡ get_or averages (place * width + x) (pos 0)
  read = ap (λ r. get_or r x (pos 0)) row_is ∙ get_or-row_at width place x averages (pos 0) lt

  other_is : get_or row x (pos 0) +ℤ more ≡ lead_value rules f added s x rung
  other_is = ap₂ ◌+ℤ◌ (read ∙ are.each place x (next_summary rules s rung) inside at lt) more_is

  above : lowest <ℤ lead_value rules f added s x rung
  above =
      subst (λ t. lowest <ℤ t) other_is
      (above_lowest (get_or row x (pos 0)) more (subst (IsWithin 2000000000000000000) (sym read) (within (place * width + x) (subst (λ n. place * width + x < n) (sym are.size) (in_rows width (length list) place x inside lt)))) small)

  pub led_value : (old new : ℤ) → old ≡ value_so_far rules done f added s (rung - 1) x → new ≡ cond (int_lt old (get_or row x (pos 0) +ℤ more)) (get_or row x (pos 0) +ℤ more) old → new ≡ value_so_far rules done f added s rung x
  led_value old new before is = is ∙ (ap₂ (λ v o. cond (int_lt v o) o v) before other_is ∙ sym (best_led rules done s (lead_value rules f added s x) rung low leads above))

  pub led_choice : (old : ℤ) (choice new : ℕ) → old ≡ value_so_far rules done f added s (rung - 1) x → choice ≡ choice_so_far rules done f added s (rung - 1) x → new ≡ cond (int_lt old (get_or row x (pos 0) +ℤ more)) rung choice →
      new ≡ choice_so_far rules done f added s rung x
  led_choice old choice new before chosen is =
      is ∙ (ap₂ (λ v o. cond (int_lt v o) rung choice) before other_is
      ∙ (ap (λ k. cond (int_lt (value_so_far rules done f added s (rung - 1) x) (lead_value rules f added s x rung)) rung k) chosen
      ∙ sym (first_led rules done s (lead_value rules f added s x) rung low leads above)))
