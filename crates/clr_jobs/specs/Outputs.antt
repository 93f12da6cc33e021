-- What a run writes, and what stands after a fault of an output.
use Rattle.std.specs.Prelude.{◌≡◌, ◌⊎◌, ◌++◌, ◌∷◌, [], ℕ, ◌≤◌, Contains, List, length, take, Option, option_map}
use Rattle.std.specs.Io.KnownBytes.{Appends}
use Rattle.clr_io.specs.Files.{Files}
use Rattle.clr_cert.specs.Writing.{with_file}
use Rattle.clr_cert.specs.Writing.{AddsFront as AddsFileFront}
use Rattle.clr_report.specs.declared.note.Doc.{Doc}
use Rattle.clr_report.specs.declared.note.Doc.TheVariants as d

-- the files that a run makes, in their order, and its report
pub record Outputs : Type 0 where
  pub made : Files
  pub report : List ℕ

-- the files that were made, and these behind them
abbrev pub with_files : Option Files → Files → Option Files
with_files made more = option_map (λ files. files ++ more) made

-- all outputs stand whole
abbrev pub Wrote : Outputs → Option Files → Option Files → Option (List ℕ) → Option (List ℕ) → Type 0
Wrote outputs made_old made_new written_old written_new = (made_new ≡ with_files made_old outputs.made) × Appends written_old written_new outputs.report

-- ---- after a fault

-- a front of the bytes was added
abbrev pub AddsFront : Option (List ℕ) → Option (List ℕ) → List ℕ → Type 0
AddsFront old new bytes = (n : ℕ) × (n ≤ length bytes) × Appends old new (take n bytes)

-- After a fault of one of these files, which the doc names: those before it stand whole, of it a front or no file, and nothing of those
-- behind it.
abbrev pub LeavesFiles : List Doc → Files → Option Files → Option Files → Doc → Type 0
LeavesFiles [] files before now doc = ⊥
LeavesFiles (named ∷ docs) [] before now doc = ⊥
LeavesFiles (named ∷ docs) (file ∷ files) before now doc = ((doc ≡ named) × AddsFileFront before now file.0 file.1) ⊎ LeavesFiles docs files (with_file before file.0 file.1) now doc

-- After a fault of an output, which the doc names: the outputs before it stand whole, of it a front or no file, and nothing of those behind
-- it. The files come in their order, and then the report.
abbrev pub Leaves : List Doc → Outputs → Option Files → Option Files → Option (List ℕ) → Option (List ℕ) → Doc → Type 0
Leaves docs outputs made_old made_new written_old written_new doc =
    (LeavesFiles docs outputs.made made_old made_new doc × (written_new ≡ written_old))
    ⊎ ((doc ≡ d.Report) × (made_new ≡ with_files made_old outputs.made) × AddsFront written_old written_new outputs.report)

-- Why an output failed: the faults of the desk rose, for one of these files, or those of the report's sink, for the report.
abbrev pub Fails : List Doc → Type 0 → Type 0 → Doc → Type 0
Fails docs DeskRose OutRose doc = (Contains docs doc × DeskRose) ⊎ ((doc ≡ d.Report) × OutRose)
