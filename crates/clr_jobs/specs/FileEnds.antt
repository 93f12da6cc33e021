-- Why a job ends by the further file that it reads after the season.
use Rattle.std.specs.Prelude.{◌≡◌, ℕ, ◌<◌, IfSome, Option, Some}
use Rattle.clr_io.specs.Causes.{Rose}
use Rattle.clr_io.specs.Files.{Files}
use Rattle.clr_report.specs.declared.note.Doc.{Doc}
use Rattle.clr_report.specs.declared.note.Doc.TheVariants as d
use Rattle.clr_report.specs.declared.note.Cause.{Cause}
use Rattle.clr_season.specs.Reads.{most_bytes}
use Rattle.clr_jobs.specs.Checking.{most_cert}
use Rattle.clr_report.specs.declared.note.Cause.TheVariants.{Words, Refused, NoPath, ReadFault, Absent, WriteFault, TooLong, Cells, Size, Base, CertificateNo, PolicyJson, PolicyShape, PolicyUnknown, PolicyRule, Memory}

-- The most bytes of a document that is read. The report isn't read, so its number is of no use.
abbrev pub limit_of : Doc → ℕ
limit_of d.Rules = most_bytes
limit_of d.Calendar = most_bytes
limit_of d.Ladder = most_bytes
limit_of d.Stock = most_bytes
limit_of d.Demand = most_bytes
limit_of d.Certificate = most_cert
limit_of d.Policy = most_bytes
limit_of d.Report = most_bytes

-- The files say that it ends so, where they are told.
abbrev pub FilesSay : Option Files → (Files → Option Cause) → Cause → Type 0
FilesSay files ends cause = IfSome files (λ held. ends held ≡ Some cause)

-- A fault of the shelf while it was read; the file is too long, and more than its limit was taken; what the files say of it; or want of
-- memory. Other causes aren't of such a file.
abbrev pub EndsBy : Option Files → (Files → Option Cause) → Doc → ℕ → ℕ → ℕ → Cause → Type 0
EndsBy files ends doc taken faults_old faults_new Words = ⊥
EndsBy files ends doc taken faults_old faults_new (Refused named row column why) = ⊥
EndsBy files ends doc taken faults_old faults_new NoPath = ⊥
EndsBy files ends doc taken faults_old faults_new (ReadFault named) = (named ≡ doc) × Rose faults_old faults_new
EndsBy files ends doc taken faults_old faults_new (Absent named) = (named ≡ doc) × FilesSay files ends (Absent named)
EndsBy files ends doc taken faults_old faults_new (WriteFault named) = ⊥
EndsBy files ends doc taken faults_old faults_new (TooLong named max) = (named ≡ doc) × (max ≡ limit_of doc) × (max < taken) × FilesSay files ends (TooLong named max)
EndsBy files ends doc taken faults_old faults_new (Cells found) = ⊥
EndsBy files ends doc taken faults_old faults_new (Size found) = FilesSay files ends (Size found)
EndsBy files ends doc taken faults_old faults_new Base = FilesSay files ends Base
EndsBy files ends doc taken faults_old faults_new (CertificateNo reason) = FilesSay files ends (CertificateNo reason)
EndsBy files ends doc taken faults_old faults_new PolicyJson = FilesSay files ends PolicyJson
EndsBy files ends doc taken faults_old faults_new (PolicyShape branch) = FilesSay files ends (PolicyShape branch)
EndsBy files ends doc taken faults_old faults_new (PolicyUnknown branch) = FilesSay files ends (PolicyUnknown branch)
EndsBy files ends doc taken faults_old faults_new (PolicyRule branch rule) = FilesSay files ends (PolicyRule branch rule)
EndsBy files ends doc taken faults_old faults_new Memory = Unit {0}
