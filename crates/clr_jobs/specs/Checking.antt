-- The job `check`: how it ends by the certificate, and what it reports.
use Rattle.std.specs.Prelude.{◌≡◌, ◌++◌, ◌∷◌, ℕ, List, codes, length, nat_le, if◌then◌else◌, IfSome, Option, Some, None}
use Rattle.std.specs.Str.{bytes_eq}
use Rattle.clr_io.specs.Files.{Files, held}
use Rattle.clr_words.specs.Asked.{Ask}
use Rattle.clr_season.specs.Season.{Season}
use Rattle.clr_cert.specs.Accepts.{Accepts, cert_claims, first_no}
use Rattle.clr_cert.specs.declared.no.No.{No}
use Rattle.clr_check.specs.Laws.{ClaimsHold}
use Rattle.clr_check.specs.declared.file.CheckError.{CheckError}
use Rattle.clr_check.specs.declared.file.CheckError.TheVariants as c
use Rattle.clr_report.specs.CheckText.{check_text}
use Rattle.clr_report.specs.declared.note.Doc.TheVariants.{Certificate}
use Rattle.clr_report.specs.declared.note.Cause.TheVariants.{ReadFault, Absent, TooLong, CertificateNo, Memory}
use Rattle.clr_report.specs.declared.note.Cause.{Cause}

-- ---- how it ends

-- the most bytes of a certificate
abbrev pub most_cert : ℕ
most_cert = 268435456

-- The name of the certificate: the one that is asked, and where that is `-` the folder's word, a slash, and the name in the folder.
abbrev pub cert_path : Ask → List ℕ
cert_path ask = if bytes_eq ask.cert (codes "-") then ask.folder ++ 47 ∷ codes "certificate.csv" else ask.cert

-- by the first fault of its bytes
abbrev pub ends_of_fault : Option No → Option Cause
ends_of_fault None = None
ends_of_fault (Some refusal) = Some (CertificateNo refusal)

-- by a file: that it isn't held, that it is too long, and then its first fault
abbrev pub ends_of_cert : Season → Option (List ℕ) → Option Cause
ends_of_cert season None = Some (Absent Certificate)
ends_of_cert season (Some bytes) = if nat_le (length bytes) most_cert then ends_of_fault (first_no season bytes) else Some (TooLong Certificate most_cert)

-- How the job ends by the certificate that is asked, where the folder read to this season. Nothing where it reports.
unfoldable pub check_ends : Season → Ask → Files → Option Cause
check_ends season ask files = ends_of_cert season (held (cert_path ask) files)

-- by an error of the checking
abbrev pub ending_unaccepted : CheckError → Cause
ending_unaccepted c.Failed = ReadFault Certificate
ending_unaccepted c.Absent = Absent Certificate
ending_unaccepted (c.TooLong max) = TooLong Certificate max
ending_unaccepted (c.No refusal) = CertificateNo refusal
ending_unaccepted c.Memory = Memory

-- ---- what it reports

-- The bytes are those of the certificate that is asked, where the files are told. They are accepted, so their claims hold; and the text is
-- the report on these claims.
pub record IsChecked (files : Option Files) (season : Season) (ask : Ask) (bytes text : List ℕ) : Type 0 where
  pub read : IfSome files (λ all. held (cert_path ask) all ≡ Some bytes)
  pub accepted : Accepts season bytes
  pub holds : ClaimsHold season bytes (cert_claims season bytes)
  pub told : text ≡ check_text season (cert_claims season bytes)

abbrev pub CheckReports : Option Files → Season → Ask → List ℕ → Type 0
CheckReports files season ask text = (bytes : List ℕ) × IsChecked files season ask bytes text
