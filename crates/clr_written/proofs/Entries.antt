-- The entries that the lines of a certificate's text tell are those that it was written from.
use Rattle.std.proofs.Common.{◌≡◌, ℕ, ◌+◌, ◌-◌, ◌<◌, ◌≤◌, refl, sym, ap, ap₂, ◌∙◌, subst, arith, suc, zero, List, [], length, map, get_or, Some, IsTrue, ℤ, pos, Contains}
use Rattle.std.specs.Prelude.{unsigned_abs}
use Rattle.std.specs.Str.{bytes_eq}
use Rattle.std.proofs.lemmas.Option.{get_or_from_slice_get, slice_get-get_or, slice_get_within}
use Rattle.std.proofs.lemmas.Slice.Eq.{bytes_eq-Decides}
use Rattle.clr_num.specs.Lists.{numbers}
use Rattle.clr_rules.specs.declared.season_rules.Summary.{Summary}
use Rattle.clr_rules.specs.LiveSummaries.{live_summaries, IsIn}
use Rattle.clr_rules.specs.Rules.{is_live, summary}
use Rattle.clr_rules.proofs.LiveLemmas.{live-length}
use Rattle.clr_rules.proofs.LiveLists.{live-by}
use Rattle.clr_rules.proofs.Sweeps.{live_in}
use Rattle.clr_season.specs.Season.{IsPlace, Season, IsSeason, store_at}
use Rattle.clr_model.specs.Fits.{fits, stock_lists}
use Rattle.clr_model.specs.StoreValue.{Multipliers}
use Rattle.clr_cert.specs.declared.place.Place.TheVariants.{High, Joint, Low, Mult, Path, Value}
use Rattle.clr_cert.specs.Entries.{AreInRange, CertEntries, IsCell}
use Rattle.clr_cert.specs.Lines.{cert_text, numbers_at, stocks_at, stocks_of}
use Rattle.clr_cert.specs.Places.{all_stocks, places, store_numbers, week_numbers}
use Rattle.clr_cert.specs.Planned.{AreEntriesOf}
use Rattle.clr_cert.specs.Reading.{ended_lines, entries_in, index_of}
use Rattle.clr_cert.proofs.StockLists.{length-all_stocks}
use Rattle.clr_cert.proofs.Among.{Among, FirstPassing, first_passing, high_place, joint_place, low_place, mult_place, path_place, value_place}
use Rattle.clr_written.proofs.Rows.{told_is}

-- ---- numbers of a row

get-numbers : (f : ℕ → ℤ) (from count k : ℕ) → k < count → get_or (map f (numbers from count)) k (pos 0) ≡ f (from + k)
get-numbers f from zero k less = absurd (omega arith)
get-numbers f from (suc count) zero less = let e : from ≡ from + 0 = omega arith in ap f e
get-numbers f from (suc count) (suc k) less = let e : suc from + k ≡ from + suc k = omega arith in get-numbers f (suc from) count k (omega arith) ∙ ap f e

-- ---- lists of stocks

pub among_held : {X : Type 0} (xs : List X) (x : X) → Contains xs x → Among xs x
among_held xs x (k, less, same) = record { at = k; here = slice_get-get_or xs k x less ∙ ap Some same }

-- the number of a list of stocks is that of this list
pub record Indexed (season : Season) (stocks : List ℕ) : Type 0 where
  pub less : index_of season stocks < stock_lists season.stores
  pub same : stocks_at season (index_of season stocks) ≡ stocks

pub indexed : (season : Season) (stocks : List ℕ) → Contains (all_stocks season.stores) stocks → Indexed season stocks
indexed season stocks h =
    let first : FirstPassing (bytes_eq stocks) (all_stocks season.stores) = first_passing (bytes_eq stocks) (all_stocks season.stores) stocks (among_held (all_stocks season.stores) stocks h) ((bytes_eq-Decides stocks stocks).1 refl) in
    let same : stocks ≡ first.item = (bytes_eq-Decides stocks first.item).0 first.passing in
    record {
      less = subst (λ n. index_of season stocks < n) (length-all_stocks season.stores) (slice_get_within (all_stocks season.stores) (index_of season stocks) first.item first.here);
      same = get_or_from_slice_get (all_stocks season.stores) (index_of season stocks) first.item [] first.here ∙ sym same;
    }

-- a live prefix's summary is among the live ones
pub summary_among : (season : Season) (prefix : List ℕ) → IsSeason season → IsTrue (is_live season.rules prefix) → Among (live_summaries season.rules (length prefix)) (summary season.rules prefix)
summary_among season prefix ok live =
    let there : IsIn (live_summaries season.rules (length prefix)) (summary season.rules prefix)
    = live_in season.rules (length prefix) (summary season.rules prefix) ok.rules (live-length season.rules prefix live) (live-by season.rules (length prefix) (summary season.rules prefix) (prefix, refl, live, refl)) in
    record { at = there.0; here = there.1 }

-- ---- the entries

module _ (season : Season) (entries : CertEntries) (ok : IsSeason season) (any : IsTrue (is_live season.rules [])) (range : AreInRange season entries) where
  abbrev back : CertEntries
  back = entries_in season (ended_lines (cert_text season entries))

  rung_back : (week : ℕ) → 1 ≤ week → week ≤ season.rules.weeks → (entries_in season (ended_lines (cert_text season entries))).rung week ≡ entries.rung week
  unfolding entries_in numbers_at
  rung_back zero low high = absurd (omega arith)
  rung_back (suc i) low high =
      let less : suc i - 1 ≡ i = omega arith in
      let one : 1 + i ≡ suc i = omega arith in
      ap unsigned_abs (told_is season entries ok any range Path (suc i - 1) (path_place season) ∙ (ap (λ n. get_or (map (λ week. pos (entries.rung week)) (week_numbers season)) n (pos 0)) less ∙ (get-numbers (λ week. pos (entries.rung week)) 1 season.rules.weeks i (omega arith) ∙ ap (λ n. pos (entries.rung n)) one)))

  mult_back : (store week rung : ℕ) → IsPlace season store week rung → (entries_in season (ended_lines (cert_text season entries))).mult store week rung ≡ entries.mult store week rung
  unfolding entries_in numbers_at
  mult_back zero week rung of = absurd (none of.first_store)
    where
      none : 1 ≤ zero → ⊥
      none h = omega arith
  mult_back (suc i) week rung of =
      let less : suc i - 1 ≡ i = omega arith in
      let one : 1 + i ≡ suc i = omega arith in
      told_is season entries ok any range (Mult week rung) (suc i - 1) (mult_place season week rung of.first_week of.last_week of.first_rung of.last_rung)
      ∙ (ap (λ n. get_or (map (λ store. entries.mult store week rung) (store_numbers season)) n (pos 0)) less ∙ (get-numbers (λ store. entries.mult store week rung) 1 (length season.stores) i of.last_store ∙ ap (λ n. entries.mult n week rung) one))

  stock_back : (f : ℕ → ℤ) (store stock : ℕ) → stock ≤ (store_at season store).units → get_or (map f (stocks_of season store)) stock (pos 0) ≡ f stock
  stock_back f store stock held = let e : 0 + stock ≡ stock = omega arith in get-numbers f 0 (suc (store_at season store).units) stock (omega arith) ∙ ap f e

  low_back : (done store stock : ℕ) → IsCell season done store stock → (entries_in season (ended_lines (cert_text season entries))).low done store stock ≡ entries.low done store stock
  unfolding entries_in numbers_at
  low_back done store stock of = told_is season entries ok any range (Low done store) stock (low_place season done store of.early of.first of.last) ∙ stock_back (entries.low done store) store stock of.held

  high_back : (done store stock : ℕ) → IsCell season done store stock → (entries_in season (ended_lines (cert_text season entries))).high done store stock ≡ entries.high done store stock
  unfolding entries_in numbers_at
  high_back done store stock of = told_is season entries ok any range (High done store) stock (high_place season done store of.early of.first of.last) ∙ stock_back (entries.high done store) store stock of.held

  value_back : (done store : ℕ) (s : Summary) (stock : ℕ) → IsCell season done store stock → Among (live_summaries season.rules done) s → (entries_in season (ended_lines (cert_text season entries))).value done store s stock ≡ entries.value done store s stock
  unfolding entries_in numbers_at
  value_back done store s stock of live = told_is season entries ok any range (Value done store s) stock (value_place season done store s of.early of.first of.last live) ∙ stock_back (entries.value done store s) store stock of.held

  joint_back : (done : ℕ) (s : Summary) (stocks : List ℕ) → IsTrue (fits season) → done ≤ season.rules.weeks → Among (live_summaries season.rules done) s → Contains (all_stocks season.stores) stocks →
      (entries_in season (ended_lines (cert_text season entries))).joint done s stocks ≡ entries.joint done s stocks
  unfolding entries_in numbers_at
  joint_back done s stocks fit early live held =
      let at : Indexed season stocks = indexed season stocks held in
      let index : ℕ = index_of season stocks in
      let here : Among (places season) (Joint done s index) = joint_place season done s index fit early live at.less in
      ap₂ (λ (a : ℕ) (b : ℤ × ℤ). (a, b.0, b.1))
      (ap unsigned_abs (told_is season entries ok any range (Joint done s index) 0 here))
      (ap₂ (λ (b c : ℤ). (b, c)) (told_is season entries ok any range (Joint done s index) 1 here) (told_is season entries ok any range (Joint done s index) 2 here))
      ∙ ap (entries.joint done s) at.same

  -- so they are a plan's where those are
  pub entries_back : (path : List ℕ) (m : Multipliers) → AreEntriesOf season path m entries → AreEntriesOf season path m (entries_in season (ended_lines (cert_text season entries)))
  entries_back path m of = record {
    rungs = λ week low high. rung_back week low high ∙ of.rungs week low high;
    mults = λ store week rung place. mult_back store week rung place ∙ of.mults store week rung place;
    lows = λ done store stock cell. low_back done store stock cell ∙ of.lows done store stock cell;
    highs = λ done store stock cell. high_back done store stock cell ∙ of.highs done store stock cell;
    values = λ prefix store stock live cell. value_back (length prefix) store (summary season.rules prefix) stock cell (summary_among season prefix ok live) ∙ of.values prefix store stock live cell;
    joints = λ prefix stocks fit live held.
        joint_back (length prefix) (summary season.rules prefix) stocks fit (live-length season.rules prefix live) (summary_among season prefix ok live) held ∙ of.joints prefix stocks fit live held;
  }
