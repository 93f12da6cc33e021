use Rattle.std.proofs.Common.{sym, subst₂}
use Rattle.clr_num.specs.Rounding.{floor, ceil}
use Rattle.clr_model.specs.Laws.{IsInterval}
use Rattle.clr_model.proofs.PathBounds.{path_enclosed_lem}
use Rattle.clr_path.proofs.TableLemmas.{total_is}
use Rattle.clr_path.proofs.table.path_encloses.Goals as goal

pub returns : goal.returns
returns c season path ok is = subst₂ (IsInterval season path) (sym (total_is floor season path)) (sym (total_is ceil season path)) (path_enclosed_lem season path ok is)
