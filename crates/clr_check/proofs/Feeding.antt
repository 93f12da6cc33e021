-- A checker after one line more, and at the end.
use Rattle.std.proofs.Common.{◌≡◌, ℕ, ◌+◌, ◌-◌, ◌<◌, ◌≤◌, true, false, cond, nat_le, refl, sym, ap, ◌∙◌, subst, arith, suc, List, [], ◌∷◌, ◌++◌, length, get_or, slice_get, Some, None, Option, ℤ, pos}
use Rattle.std.specs.Prelude.{option_map}
use Rattle.std.specs.List.{AllByRecursion}
use Rattle.std.proofs.lemmas.Option.{get_or_from_slice_get, slice_get-get_or}
use Rattle.clr_season.specs.Season.{Season, IsSeason}
use Rattle.clr_cert.specs.declared.place.Place.{Place}
use Rattle.clr_cert.specs.declared.place.Place.TheVariants.{Head, Lengths, Path, Mult, Low, High, Value, Joint, Revenue, Bound, Exact, End}
use Rattle.clr_cert.specs.declared.no.No.{No}
use Rattle.clr_cert.specs.declared.no.NoKind.TheVariants.{Extra, Form}
use Rattle.clr_cert.specs.Accepts.{line_no, lines_no, numbers_no}
use Rattle.clr_cert.specs.Lines.{key_text}
use Rattle.clr_cert.specs.Places.{IsPlaceOf, places, walk}
use Rattle.clr_cert.specs.Reading.{count_at, fields_after, line_numbers, most_line, numbers_in, row_of}
use Rattle.clr_cert.proofs.Walking.{IsNext, walk_next}
use Rattle.clr_check.specs.declared.faults.Fault.{Fault}
use Rattle.clr_check.specs.declared.tables.Tables.{Tables}
use Rattle.clr_check.specs.Standing.{AreKept, IsHeld, IsKept, IsLine, IsLineOf, Kept, Keeps, Stands, is_end, no_at, plain_fault, refused, weeks_now}
use Rattle.clr_check.proofs.Adding.{line_more, none_more, refused_more}
use Rattle.clr_check.proofs.Coming.{length-more, told_before}
use Rattle.clr_check.proofs.Refused.{line_past}
use Rattle.clr_check.proofs.Rows.{length_walk, next_rises, row_at, stage}
use Rattle.clr_check.proofs.Walked.{IsWalked, of_line, at_end, walked}

-- ---- what is found of a line

-- what was found of a place's line, wherever it stands
abbrev pub IsFound : Season → Place → List ℕ → Tables → Option Fault → Type 0
IsFound season place line tables found =
    (lines : List (List ℕ)) (row : ℕ) → IsLineOf season lines row place line → Keeps season lines row place tables → numbers_no season lines row place (line_numbers season place line) ≡ option_map (no_at row) found

-- the tables after it keep its numbers too
abbrev pub IsTaken : Season → Place → List ℕ → Tables → Tables → Type 0
IsTaken season place line tables after = (lines : List (List ℕ)) (row : ℕ) → IsLineOf season lines row place line → Keeps season lines row place tables → Keeps season lines (suc row) place after

-- ---- lines without line feeds

lines_with : (lines : List (List ℕ)) (line : List ℕ) → AllByRecursion IsLine lines → IsLine line → AllByRecursion IsLine (lines ++ line ∷ [])
lines_with [] line all h = (h, tt)
lines_with (l ∷ lines) line all h = (all.0, lines_with lines line all.1 h)

module _ (season : Season) (lines : List (List ℕ)) (line : List ℕ) (ok : IsSeason season) (plain : IsLine line) where
  -- ---- after a refusal

  pub stands_again : (kept : Kept) (n : No) → kept.no ≡ Some n → Stands season lines kept → Stands season (lines ++ line ∷ []) kept
  stands_again kept n is h =
      let now : lines_no season (lines ++ line ∷ []) ≡ Some n = refused_more season lines line ok n (sym h.no ∙ is) in
      record {
        same = h.same;
        each = lines_with lines line h.each plain;
        no = is ∙ sym now;
        keeps = λ e. let clash : Some n ≡ None = sym now ∙ e in cc;
      }

  pub answer_again : (kept : Kept) (n : No) → kept.no ≡ Some n → Stands season lines kept → lines_no season (lines ++ line ∷ []) ≡ Some n
  answer_again kept n is h = refused_more season lines line ok n (sym h.no ∙ is)

  -- ---- at a refusal

  pub answer_refused : (kept : Kept) (fault : Fault) → kept.no ≡ None → Stands season lines kept → line_no season (lines ++ line ∷ []) (length lines) ≡ Some (no_at (length lines) fault) → lines_no season (lines ++ line ∷ []) ≡ Some (no_at kept.row fault)
  answer_refused kept fault is h fails =
      let none : lines_no season lines ≡ None = sym h.no ∙ is in
      none_more season lines line ok none ∙ (fails ∙ ap (λ n. Some (no_at n fault)) (sym (h.keeps none).row))

  -- a refused line may have been put into the tables
  pub stands_refused_with : (kept : Kept) (tables : Tables) (fault : Fault) → kept.no ≡ None → Stands season lines kept → line_no season (lines ++ line ∷ []) (length lines) ≡ Some (no_at (length lines) fault) →
      Stands season (lines ++ line ∷ []) (refused (record { season = kept.season; row = kept.row; place = kept.place; tables = tables; no = kept.no }) fault)
  stands_refused_with kept tables fault is h fails =
      let now : lines_no season (lines ++ line ∷ []) ≡ Some (no_at kept.row fault) = answer_refused kept fault is h fails in
      record {
        same = h.same;
        each = lines_with lines line h.each plain;
        no = sym now;
        keeps = λ e. let clash : Some (no_at kept.row fault) ≡ None = sym now ∙ e in cc;
      }

  pub stands_refused : (kept : Kept) (fault : Fault) → kept.no ≡ None → Stands season lines kept → line_no season (lines ++ line ∷ []) (length lines) ≡ Some (no_at (length lines) fault) → Stands season (lines ++ line ∷ []) (refused kept fault)
  stands_refused kept fault is h fails = stands_refused_with kept kept.tables fault is h fails

  -- ---- a line too many

  pub extra_line : (place : Place) → slice_get (walk season) (length lines) ≡ Some place → is_end place ≡ true → line_no season (lines ++ line ∷ []) (length lines) ≡ Some (no_at (length lines) (plain_fault Extra))
  extra_line place next ends = go (walked season (length lines) place next)
    where
      go : IsWalked season (length lines) place → line_no season (lines ++ line ∷ []) (length lines) ≡ Some (no_at (length lines) (plain_fault Extra))
      go (of_line here goes less) = let clash : true ≡ false = sym ends ∙ goes in cc
      go (at_end is row) = line_past season (lines ++ line ∷ []) (length lines) (omega (arith, row))

  -- ---- a line that is too long

  pub long_line : (place : Place) → slice_get (walk season) (length lines) ≡ Some place → is_end place ≡ false → most_line < length line → line_no season (lines ++ line ∷ []) (length lines) ≡ Some (no_at (length lines) (plain_fault Form))
  long_line place next goes long = go (walked season (length lines) place next)
    where
      off : nat_le (length line) most_line ≡ false
      off = grind (arith, long)

      go : IsWalked season (length lines) place → line_no season (lines ++ line ∷ []) (length lines) ≡ Some (no_at (length lines) (plain_fault Form))
      go (at_end is row) = let clash : true ≡ false = sym (ap is_end is) ∙ goes in cc
      go (of_line here _ less) =
          line_more season lines line ok place here
          ∙ ap (λ b. numbers_no season (lines ++ line ∷ []) (length lines) place (cond b (numbers_in (count_at season place) (fields_after (key_text season place) line)) None)) off

  -- ---- a line at its place

  pub line_of : (place : Place) → slice_get (places season) (length lines) ≡ Some place → IsLineOf season (lines ++ line ∷ []) (length lines) place line
  line_of place here = record { here = here; stands = at lines }
    where
      at : (ls : List (List ℕ)) → slice_get (ls ++ line ∷ []) (length ls) ≡ Some line
      at [] = refl
      at (l ∷ ls) = at ls

  pub keeps_on : (next : Place) (tables : Tables) → Keeps season lines (length lines) next tables → Keeps season (lines ++ line ∷ []) (length lines) next tables
  keeps_on next tables h = λ row place here less held.
      subst (λ (ns : List ℤ). AreKept season tables place (λ k. get_or ns k (pos 0)))
      (sym (told_before season lines line place (let e : row_of season place ≡ row = row_at season row place ok here in omega (arith, e, less))))
      (h row place here less held)

  -- what was found of the line at its place is its fault
  pub line_found : (place : Place) (tables : Tables) (found : Option Fault) → slice_get (walk season) (length lines) ≡ Some place → is_end place ≡ false → Keeps season lines (length lines) place tables →
      IsFound season place line tables found →
      line_no season (lines ++ line ∷ []) (length lines) ≡ option_map (no_at (length lines)) found
  line_found place tables found next goes keeps all = go (walked season (length lines) place next)
    where
      go : IsWalked season (length lines) place → line_no season (lines ++ line ∷ []) (length lines) ≡ option_map (no_at (length lines)) found
      go (at_end is row) = let clash : true ≡ false = sym (ap is_end is) ∙ goes in cc
      go (of_line here _ less) = line_more season lines line ok place here ∙ all (lines ++ line ∷ []) (length lines) (line_of place here) (keeps_on place tables keeps)

-- ---- the next place

weeks_by_stage : (season : Season) (place : Place) → IsPlaceOf season place → weeks_now season place ≡ season.rules.weeks - (stage season place - 4)
weeks_by_stage season Head h = omega arith
weeks_by_stage season Lengths h = omega arith
weeks_by_stage season Path h = omega arith
weeks_by_stage season (Mult week rung) h = omega arith
weeks_by_stage season (Low done store) h = omega (arith, h.early)
weeks_by_stage season (High done store) h = omega (arith, h.early)
weeks_by_stage season (Value done store s) h = omega (arith, h.0.early)
weeks_by_stage season (Joint done s index) h = omega (arith, h.early)
weeks_by_stage season Revenue h = omega arith
weeks_by_stage season Bound h = omega arith
weeks_by_stage season Exact h = omega arith
weeks_by_stage season End h = omega arith

held_on : (season : Season) (place next other : Place) → weeks_now season next ≤ weeks_now season place → IsHeld season next other → IsHeld season place other
held_on season place next (Low done store) le h = omega (arith, le, h)
held_on season place next (High done store) le h = omega (arith, le, h)
held_on season place next (Value done store s) le h = omega (arith, le, h)
held_on season place next (Joint done s index) le h = omega (arith, le, h)
held_on season place next _ le h = tt

pub next_is : (season : Season) (row : ℕ) (place next : Place) → slice_get (walk season) row ≡ Some place → row < length (places season) → next ≡ get_or (walk season) (row + 1) End → length (walk season) ≡ suc (length (places season)) → slice_get (walk season) (suc row) ≡ Some next
next_is season row place next here less is size =
    let e : row + 1 ≡ suc row = omega arith in
    slice_get-get_or (walk season) (suc row) End (omega (arith, less, size)) ∙ ap Some (sym (is ∙ ap (λ n. get_or (walk season) n End) e))

pub keeps_next : (season : Season) (lines : List (List ℕ)) (row count : ℕ) (place next : Place) (tables : Tables) → IsSeason season → slice_get (walk season) row ≡ Some place → slice_get (walk season) (suc row) ≡ Some next → Keeps season lines count place tables → Keeps season lines count next tables
keeps_next season lines row count place next tables ok here there h =
    let e : row + 1 ≡ suc row = omega arith in
    let follows : IsNext season place next = subst (IsNext season place) (ap (λ n. get_or (walk season) n End) e ∙ get_or_from_slice_get (walk season) (suc row) next End there) (walk_next season place row ok here) in
    let up : stage season place ≤ stage season next = next_rises season place next follows in
    let a : weeks_now season place ≡ season.rules.weeks - (stage season place - 4) = weeks_by_stage season place (walk_next season place row ok here).within in
    let b : weeks_now season next ≡ season.rules.weeks - (stage season next - 4) = weeks_by_stage season next (walk_next season next (suc row) ok there).within in
    let down : weeks_now season next ≤ weeks_now season place = omega (arith, a, b, up) in
    λ at other stands less held. h at other stands less (held_on season place next other down held)

-- the checker after a line that passes
pub kept_more : (season : Season) (lines : List (List ℕ)) (line : List ℕ) (row : ℕ) (place next : Place) (tables after : Tables) → IsSeason season → row ≡ length lines → slice_get (walk season) (length lines) ≡ Some place → is_end place ≡ false → next ≡ get_or (walk season) (row + 1) End →
    Keeps season lines (length lines) place tables → IsTaken season place line tables after → IsLine line →
    IsKept season (lines ++ line ∷ []) (record { season = season; row = row + 1; place = next; tables = after; no = None })
kept_more season lines line row place next tables after ok row_is here goes next_at keeps all plain = go (walked season (length lines) place here)
  where
    more : row + 1 ≡ length (lines ++ line ∷ [])
    more = let e : length (lines ++ line ∷ []) ≡ suc (length lines) = length-more lines line in omega (arith, e, row_is)

    go : IsWalked season (length lines) place → IsKept season (lines ++ line ∷ []) (record { season = season; row = row + 1; place = next; tables = after; no = None })
    go (at_end is at) = let clash : true ≡ false = sym (ap is_end is) ∙ goes in cc
    go (of_line there _ less) =
        let follows : slice_get (walk season) (suc (length lines)) ≡ Some next = next_is season (length lines) place next here less (next_at ∙ ap (λ n. get_or (walk season) (n + 1) End) row_is) (length_walk season) in
        let one : suc (length lines) ≡ length (lines ++ line ∷ []) = sym (length-more lines line) in
        record {
          row = more;
          next = subst (λ n. slice_get (walk season) n ≡ Some next) one follows;
          tables = subst (λ n. Keeps season (lines ++ line ∷ []) n next after) one
              (keeps_next season (lines ++ line ∷ []) (length lines) (suc (length lines)) place next after ok here follows (all (lines ++ line ∷ []) (length lines) (line_of season lines line ok plain place there) (keeps_on season lines line ok plain place tables keeps)));
        }

-- ---- a line that was taken

module _ (season : Season) (lines : List (List ℕ)) (line : List ℕ) (plain : IsLine line) (kept : Kept) (ok : IsSeason kept.season) (none : kept.no ≡ None) (goes : is_end kept.place ≡ false) (h : Stands season lines kept) where
  facts : IsSeason season
  facts = subst IsSeason h.same ok

  accepted : lines_no season lines ≡ None
  accepted = sym h.no ∙ none

  found_is : (found : Option Fault) → IsFound kept.season kept.place line kept.tables found → line_no season (lines ++ line ∷ []) (length lines) ≡ option_map (no_at (length lines)) found
  found_is found all = line_found season lines line facts plain kept.place kept.tables found (h.keeps accepted).next goes (h.keeps accepted).tables (subst (λ s. IsFound s kept.place line kept.tables found) h.same all)

  -- with a fault; the tables may have kept its numbers
  pub taken_refused : (after : Tables) (fault : Fault) → IsFound kept.season kept.place line kept.tables (Some fault) →
      Stands season (lines ++ line ∷ []) (refused (record { season = kept.season; row = kept.row; place = kept.place; tables = after; no = kept.no }) fault)
  taken_refused after fault all = stands_refused_with season lines line facts plain kept after fault none h (found_is (Some fault) all)

  pub taken_answer : (fault : Fault) → IsFound kept.season kept.place line kept.tables (Some fault) → lines_no season (lines ++ line ∷ []) ≡ Some (no_at kept.row fault)
  taken_answer fault all = answer_refused season lines line facts plain kept fault none h (found_is (Some fault) all)

  -- without a fault
  pub taken_passes : IsFound kept.season kept.place line kept.tables None → lines_no season (lines ++ line ∷ []) ≡ None
  taken_passes all = none_more season lines line facts accepted ∙ found_is None all

  pub taken_stands : (next : Place) (after : Tables) → IsFound kept.season kept.place line kept.tables None → IsTaken kept.season kept.place line kept.tables after → next ≡ get_or (walk kept.season) (kept.row + 1) End →
      Stands season (lines ++ line ∷ []) (record { season = kept.season; row = kept.row + 1; place = next; tables = after; no = kept.no })
  taken_stands next after all takes next_at = record {
    same = h.same;
    each = lines_with lines line h.each plain;
    no = none ∙ sym (taken_passes all);
    keeps = λ _. record { row = more.row; next = more.next; tables = more.tables };
  }
    where
      keeps : IsKept season lines kept
      keeps = h.keeps accepted

      more : IsKept season (lines ++ line ∷ []) (record { season = season; row = kept.row + 1; place = next; tables = after; no = None })
      more = kept_more season lines line kept.row kept.place next kept.tables after facts keeps.row keeps.next goes (next_at ∙ ap (λ s. get_or (walk s) (kept.row + 1) End) h.same) keeps.tables (subst (λ s. IsTaken s kept.place line kept.tables after) h.same takes) plain

-- the place after one that isn't the end
pub next_stands : (season : Season) (row : ℕ) (place next : Place) → slice_get (walk season) row ≡ Some place → is_end place ≡ false → next ≡ get_or (walk season) (row + 1) End → slice_get (walk season) (row + 1) ≡ Some next
next_stands season row place next here goes is = go (walked season row place here)
  where
    one : suc row ≡ row + 1
    one = omega arith

    go : IsWalked season row place → slice_get (walk season) (row + 1) ≡ Some next
    go (at_end last at) = let clash : true ≡ false = sym (ap is_end last) ∙ goes in cc
    go (of_line there _ less) = subst (λ n. slice_get (walk season) n ≡ Some next) one (next_is season row place next here less is (length_walk season))
