-- The names of the documents, and of the columns that a note names.
use Rattle.std.specs.Prelude.{ℕ, List, [], ◌∷◌, codes, slice_index_or}
use Rattle.clr_report.specs.declared.note.Doc.{Doc}
use Rattle.clr_report.specs.declared.note.Doc.TheVariants.{Rules, Calendar, Ladder, Stock, Demand, Certificate, Policy, Report}

-- the name of a document in a note
abbrev pub doc_text : Doc → List ℕ
doc_text Rules = codes "rules.json"
doc_text Calendar = codes "calendar.csv"
doc_text Ladder = codes "ladder.csv"
doc_text Stock = codes "stock.csv"
doc_text Demand = codes "demand.csv"
doc_text Certificate = codes "certificate"
doc_text Policy = codes "policy.json"
doc_text Report = codes "report"

-- the names of a document's columns in their order; of rules.json those of its fields
abbrev pub columns_of : Doc → List (List ℕ)
columns_of Rules = codes "version" ∷ codes "weeks" ∷ codes "base" ∷ codes "markdowns" ∷ codes "spacing" ∷ codes "first_cut" ∷ codes "calendar" ∷ []
columns_of Calendar = codes "week" ∷ codes "from" ∷ codes "to" ∷ codes "frozen" ∷ []
columns_of Ladder = codes "rung" ∷ codes "price" ∷ []
columns_of Stock = codes "store" ∷ codes "units" ∷ codes "salvage" ∷ codes "relabel" ∷ []
columns_of Demand = codes "store" ∷ codes "week" ∷ codes "rung" ∷ codes "units" ∷ codes "weight" ∷ []
columns_of Certificate = []
columns_of Policy = []
columns_of Report = []

-- the name of a column by its number, from 1; where there is no such column, nothing
unfoldable pub column_text : Doc → ℕ → List ℕ
column_text doc column = slice_index_or ([] ∷ columns_of doc) column []
