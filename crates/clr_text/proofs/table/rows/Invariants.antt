use Rattle.std.proofs.Common.{◌≡◌, ◌<◌, ◌∷◌, [], List, ℕ, length, map, true}
use Rattle.csv.specs.Records.{fields_of, partial_of}
use Rattle.clr_text.specs.Fields.{cut_of}
use Rattle.clr_text.specs.Tables.{Rows, same_texts}
use Rattle.clr_text.proofs.FlatRows.{OfWidth, joined}
use Rattle.clr_text.proofs.Given.{HasGiven}
use Rattle.clr_text.proofs.table.rows.Given as goal

abbrev pub invariant-loop-record : goal.invariant-loop-record
invariant-loop-record l =
    (0 < l.record-iterator.left) × (header : List (List ℕ)) × (same_texts (map cut_of header) (map (λ n. n.now) l.names) ≡ true)
    × (found : Rows) × HasGiven l.fn.bytes (header ∷ found) l.record-iterator.rdr × (l.rows ≡ length found)
    × OfWidth (length l.names) found × (fields_of l.fields ≡ joined found) × (partial_of l.fields ≡ [])
