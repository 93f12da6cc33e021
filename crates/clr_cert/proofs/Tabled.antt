-- The entries of a certificate's tables: which calls tell them, and their range.
use Rattle.std.proofs.Common.{◌≡◌, ℕ, ◌++◌, ◌∷◌, ◌∙◌, List, ℤ, ap, sym, append-nil}
use Rattle.std.specs.Fmt.{signed_decimal}
use Rattle.clr_average.specs.Average.{IsWithin}
use Rattle.clr_rules.specs.declared.season_rules.Summary.{Summary}
use Rattle.clr_rules.specs.Rules.{IsLiveSummary}
use Rattle.clr_season.specs.Season.{Season}
use Rattle.clr_cert.specs.declared.place.Place.{Place}
use Rattle.clr_cert.specs.declared.place.Place.TheVariants.{Bound}
use Rattle.clr_cert.specs.declared.table.Table.{Table}
use Rattle.clr_cert.specs.declared.table.Table.TheVariants.{Low, High, Value}
use Rattle.clr_cert.specs.Entries.{AreInRange, CertEntries, IsAsked, most_entry}
use Rattle.clr_cert.specs.Lines.{number_fields, numbers_at, opening, opening_sum}
use Rattle.clr_cert.specs.Places.{IsWeekStore}
use Rattle.clr_cert.specs.Tables.{IsRowAsked, ask_of, entry_of}

pub entry_within : (season : Season) (entries : CertEntries) (table : Table) (done store stock : ℕ) → AreInRange season entries → IsAsked season (ask_of table done store stock) → IsWithin most_entry (entry_of table entries done store stock)
entry_within season entries Low done store stock ranges asked = ranges (ask_of Low done store stock) asked
entry_within season entries High done store stock ranges asked = ranges (ask_of High done store stock) asked
entry_within season entries (Value s) done store stock ranges asked = ranges (ask_of (Value s) done store stock) asked

pub value_row : (season : Season) (done store : ℕ) (s : Summary) → IsWeekStore season done store → IsLiveSummary season.rules done s → IsRowAsked season (Value s) done store
value_row season done store s is live stock held = record { cell = record { early = is.early; first = is.first; last = is.last; held = held }; live = live }

-- ---- the line of the bound

pub bound_text : (season : Season) (entries : CertEntries) (s : Summary) (old new : List ℕ) (told : ℤ) (place : Place) → place ≡ Bound → s ≡ opening season → new ≡ old ++ 44 ∷ signed_decimal told →
    told ≡ opening_sum season (entry_of (Value s) entries 0) → new ≡ old ++ number_fields (numbers_at season entries place)
unfolding numbers_at
bound_text season entries s old new told place here start text is =
    let total : told ≡ opening_sum season (λ store stock. entries.value 0 store (opening season) stock) = is ∙ ap (λ t. opening_sum season (λ store stock. entries.value 0 store t stock)) start in
    rw here (text ∙ ap (λ t. old ++ 44 ∷ t) (ap signed_decimal total ∙ sym (append-nil (signed_decimal (opening_sum season (λ store stock. entries.value 0 store (opening season) stock))))))
