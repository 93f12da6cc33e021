use Rattle.clr_make.proofs.Folders.{files-held}
use Rattle.clr_make.proofs.files.folder_holds_made.Goals as goal

pub returns : goal.returns
returns c = files-held
