-- Where the masses of one choice come in, and the masses before the first week.
use Rattle.std.proofs.Common.{◌≡◌, ◌≢◌, ℕ, suc, ◌+◌, ◌-◌, ◌*◌, ◌/◌, ◌<◌, ◌≤◌, ◌==◌, ◌&&◌, Bool, true, false, cond, refl, sym, ap, ap₂, ◌∙◌, subst, arith, List, [], length, get_or, slice_get, Option, Some, unwrap_or, replicate, length-set}
use Rattle.std.proofs.Math.ListN.{set}
use Rattle.std.proofs.lemmas.Bool.{and_parts, eqb-true, eqb-false, eq-eqb}
use Rattle.std.proofs.lemmas.List.{get_or-set_other, get_or-set_same, length-replicate}
use Rattle.std.proofs.lemmas.Nat.{div-mul-add}
use Rattle.std.specs.List.{sum_by}
use mathlib.Core.Path.{fun_ext}
use Rattle.clr_rules.specs.declared.season_rules.Summary.{Summary}
use Rattle.clr_rules.specs.LiveSummaries.{same_summary}
use Rattle.clr_rules.specs.Rules.{next_summary, summary}
use Rattle.clr_rules.proofs.LiveLists.{bool_ext, same_is, same_self}
use Rattle.clr_season.specs.Season.{Season, demands, store_at, weights_of}
use Rattle.clr_model.specs.Revenue.{left}
use Rattle.clr_model.specs.StoreValue.{Multipliers}
use Rattle.clr_model.specs.Usage.{mass, whole_mass}
use Rattle.clr_mult.proofs.Places.{get_or-repeated}
use Rattle.clr_rows.specs.Rows.{AreRows}
use Rattle.clr_rows.proofs.Lists.{got_inside, in_rows}
use Rattle.clr_subgrad.specs.Masses.{CameIn, arriving, spread}

-- ---- places

both_true : (a b : Bool) → a ≡ true → b ≡ true → (a && b) ≡ true
both_true a b h g = ap₂ (λ p q. p && q) h g

-- two stocks of rows of one width share a place where the rows and the stocks are the same
pub same_spot : (width row stock other rest : ℕ) → stock < width → rest < width → (row * width + stock == other * width + rest) ≡ ((row == other) && (stock == rest))
same_spot width row stock other rest low held = bool_ext _ _ there back
  where
    there : (row * width + stock == other * width + rest) ≡ true → ((row == other) && (stock == rest)) ≡ true
    there h =
        let one : row * width + stock ≡ other * width + rest = eqb-true (row * width + stock) (other * width + rest) h in
        let rows : row ≡ other = sym (div-mul-add row width stock low) ∙ (ap (λ k. k / width) one ∙ div-mul-add other width rest held) in
        let stocks : stock ≡ rest = omega (arith, one, ap (λ k. k * width) rows) in
        both_true (row == other) (stock == rest) (eq-eqb row other rows) (eq-eqb stock rest stocks)

    back : ((row == other) && (stock == rest)) ≡ true → (row * width + stock == other * width + rest) ≡ true
    back h =
        let parts = and_parts (row == other) (stock == rest) h in
        eq-eqb (row * width + stock) (other * width + rest) (ap₂ (λ r x. r * width + x) (eqb-true row other parts.0) (eqb-true stock rest parts.1))

some_same : (s t : Summary) → Some s ≡ Some t → same_summary s t ≡ true
some_same s t e = subst (λ z. same_summary s z ≡ true) (ap (λ (o : Option Summary). unwrap_or o s) e) (same_self s)

-- where a summary stands at one place alone, a place is that one where its summary is that summary
pub same_target : (list : List Summary) (place k : ℕ) (s t : Summary) → slice_get list place ≡ Some s → ((j : ℕ) → slice_get list j ≡ Some s → j ≡ place) → slice_get list k ≡ Some t → (k == place) ≡ same_summary t s
same_target list place k s t at one there = bool_ext _ _
    (λ h. some_same t s (sym there ∙ (ap (slice_get list) (eqb-true k place h) ∙ at)))
    (λ h. eq-eqb k place (one k (there ∙ ap Some (same_is t s h))))

pub sum_same : {X : Type 0} (f g : X → ℕ) (xs : List X) → ((x : X) → f x ≡ g x) → sum_by f xs ≡ sum_by g xs
sum_same f g xs h = ap (λ k. sum_by k xs) (fun_ext h)

-- ---- one mass

left_held : (stock demand width : ℕ) → stock < width → left stock demand < width
left_held stock demand width lt = omega arith

-- what the demands take of a mass comes to the summary after the choice
pub came_spread : (season : Season) (store done : ℕ) (s next : Summary) (stock rung mass width place week start : ℕ) (list : List Summary) (weights before after : List ℕ) →
    next ≡ next_summary season.rules s rung → slice_get list place ≡ Some next → ((j : ℕ) → slice_get list j ≡ Some next → j ≡ place) → stock < width → start ≡ place * width → week ≡ suc done →
    weights ≡ weights_of season store week rung → length weights ≡ suc season.top →
    ((spot : ℕ) → get_or after spot 0 ≡ get_or before spot 0 + spread mass weights season.base stock start (length weights) spot) →
    CameIn width list (λ t rest. arriving season store done s stock rung mass t rest) before after
came_spread season store done s next stock rung mass width place week start list weights before after next_is at one held start_is week_is weights_are count spread_is = λ k rest t there low.
    spread_is (k * width + rest) ∙ ap (λ n. get_or before (k * width + rest) 0 + n) (arrives k rest t there low)
  where
    taken : (k rest demand : ℕ) (t : Summary) → slice_get list k ≡ Some t → suc rest ≤ width → (k * width + rest == start + left stock demand) ≡ (same_summary t (next_summary season.rules s rung) && (rest == left stock demand))
    taken k rest demand t there low =
        ap (λ n. k * width + rest == n + left stock demand) start_is
        ∙ (same_spot width k rest place (left stock demand) (omega arith) (left_held stock demand width held)
        ∙ ap (λ b. b && (rest == left stock demand)) (same_target list place k next t at one there ∙ ap (same_summary t) next_is))

    weights_here : weights ≡ weights_of season store (suc done) rung
    weights_here = weights_are ∙ ap (λ n. weights_of season store n rung) week_is

    arrives : (k rest : ℕ) (t : Summary) → slice_get list k ≡ Some t → suc rest ≤ width → spread mass weights season.base stock start (length weights) (k * width + rest) ≡ arriving season store done s stock rung mass t rest
    arrives k rest t there low =
        ap (λ n. spread mass weights season.base stock start n (k * width + rest)) count
        ∙ sum_same (λ demand. cond (k * width + rest == start + left stock demand) (mass * get_or weights demand 0 / season.base) 0)
        (λ demand. cond (same_summary t (next_summary season.rules s rung) && (rest == left stock demand)) (mass * get_or (weights_of season store (suc done) rung) demand 0 / season.base) 0) (demands season)
        (λ demand. ap₂ (λ (b : Bool) (w : List ℕ). cond b (mass * get_or w demand 0 / season.base) 0) (taken k rest demand t there low) weights_here)

-- ---- the masses before the first week

pub first_rows : (m : Multipliers) (season : Season) (store width place size : ℕ) (start : Summary) (list : List Summary) (none : List ℕ) →
    width ≡ suc (store_at season store).units → start ≡ summary season.rules [] → slice_get list place ≡ Some start → ((j : ℕ) → slice_get list j ≡ Some start → j ≡ place) → size ≡ length list * width → none ≡ replicate size 0 →
    AreRows 0 (suc (store_at season store).units) list (length list) (mass m season store 0) (set none (place * width + (width - 1)) whole_mass)
first_rows m season store width place size start list none width_is start_is at one size_is none_is = record {
  size =
      length-set none (place * width + (width - 1)) whole_mass
      ∙ (ap length none_is ∙ (length-replicate size 0 ∙ (size_is ∙ ap (λ w. length list * w) width_is)));
  each = λ k stock s lt there low. subst (λ w. get_or (set none (place * width + (width - 1)) whole_mass) (k * w + stock) 0 ≡ mass m season store 0 s stock) width_is (written k stock s there (subst (λ w. stock < w) (sym width_is) low));
}
  where
    inside : place * width + (width - 1) < length none
    inside =
        subst (λ n. place * width + (width - 1) < n) (sym (ap length none_is ∙ (length-replicate size 0 ∙ size_is)))
        (in_rows width (length list) place (width - 1) (got_inside list place start at) (omega arith))

    zeros : (k : ℕ) → get_or none k 0 ≡ 0
    zeros k = ap (λ xs. get_or xs k 0) none_is ∙ get_or-repeated size k 0

    one_write : (k : ℕ) → get_or (set none (place * width + (width - 1)) whole_mass) k 0 ≡ cond (k == place * width + (width - 1)) whole_mass 0
    one_write k = by_test (k == place * width + (width - 1)) refl
      where
        by_test : (b : Bool) → (k == place * width + (width - 1)) ≡ b → get_or (set none (place * width + (width - 1)) whole_mass) k 0 ≡ cond b whole_mass 0
        by_test true e = ap (λ n. get_or (set none (place * width + (width - 1)) whole_mass) n 0) (eqb-true k (place * width + (width - 1)) e) ∙ get_or-set_same none (place * width + (width - 1)) whole_mass 0 inside
        by_test false e = let differ : k ≢ place * width + (width - 1) = eqb-false k (place * width + (width - 1)) e in rw get_or-set_other (zeros k)

    written : (k stock : ℕ) (s : Summary) → slice_get list k ≡ Some s → stock < width → get_or (set none (place * width + (width - 1)) whole_mass) (k * width + stock) 0 ≡ mass m season store 0 s stock
    written k stock s there low =
        let full : width - 1 ≡ (store_at season store).units = omega (arith, width_is) in
        one_write (k * width + stock)
        ∙ ap (λ b. cond b whole_mass 0)
        (same_spot width k stock place (width - 1) low (omega arith)
        ∙ ap₂ (λ p q. p && q) (same_target list place k start s at one there ∙ ap (same_summary s) start_is) (ap (λ n. stock == n) full))
