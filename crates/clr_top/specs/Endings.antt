-- How a run ends: its status, the number of it, and the note.
use Rattle.std.specs.Prelude.{◌≡◌, ◌⊎◌, ℕ, List, Option, Some, None}
use Rattle.std.specs.Io.KnownBytes.{Appends}
use Rattle.clr_io.specs.Causes.{Rose}
use Rattle.clr_report.specs.NoteText.{note_text_of}
use Rattle.clr_report.specs.declared.note.Cause.{Cause}
use Rattle.clr_report.specs.declared.note.Cause.TheVariants.{Words, Refused, NoPath, ReadFault, Absent, WriteFault, TooLong, Cells, Size, Base, CertificateNo, PolicyJson, PolicyShape, PolicyUnknown, PolicyRule, Memory}
use Rattle.clr_jobs.specs.Outputs.{AddsFront}
use Rattle.clr_top.specs.declared.ending.Status.{Status}
use Rattle.clr_top.specs.declared.ending.Status.TheVariants as s

-- ---- the status

-- the number of a status, with which the program exits
abbrev pub number_of : Status → ℕ
number_of s.Ok = 0
number_of s.Refused = 1
number_of s.Words = 2
number_of s.NoPath = 3
number_of s.ReadFault = 4
number_of s.WriteFault = 5
number_of s.Limit = 6
number_of s.CertificateNo = 7
number_of s.Memory = 8
number_of s.PolicyNo = 9
number_of s.Absent = 10

-- the status by which a run ends that a cause keeps from its outputs
abbrev pub status_of : Cause → Status
status_of Words = s.Words
status_of (Refused doc row column why) = s.Refused
status_of NoPath = s.NoPath
status_of (ReadFault doc) = s.ReadFault
status_of (Absent doc) = s.Absent
status_of (WriteFault doc) = s.WriteFault
status_of (TooLong doc max) = s.Limit
status_of (Cells found) = s.Limit
status_of (Size found) = s.Limit
status_of Base = s.Limit
status_of (CertificateNo reason) = s.CertificateNo
status_of PolicyJson = s.PolicyNo
status_of (PolicyShape branch) = s.PolicyNo
status_of (PolicyUnknown branch) = s.PolicyNo
status_of (PolicyRule branch rule) = s.PolicyNo
status_of Memory = s.Memory

-- The status is exactly what the words and the files say: where they come to outputs, all else is a fault or want of memory; and where the
-- run ends by them, its status is that, or a fault of the shelf or want of memory.
abbrev pub Exactly : Status → Option Cause → Type 0
Exactly status None = (status ≡ s.Ok) ⊎ ((status ≡ s.WriteFault) ⊎ ((status ≡ s.ReadFault) ⊎ (status ≡ s.Memory)))
Exactly status (Some ending) = (status ≡ status_of ending) ⊎ ((status ≡ s.ReadFault) ⊎ (status ≡ s.Memory))

-- ---- the note

-- The note of how the run ends was added, or a front of it where the note's faults rose.
abbrev pub Notes : Option (List ℕ) → Option (List ℕ) → ℕ → ℕ → Cause → Type 0
Notes old new faults_old faults_new ending = Appends old new (note_text_of ending) ⊎ (Rose faults_old faults_new × AddsFront old new (note_text_of ending))
