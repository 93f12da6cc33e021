-- Files in one folder are told apart by their own names.
use Rattle.std.proofs.Common.{◌≡◌, ℕ, List, [], ◌∷◌, ◌++◌, refl}
use Rattle.std.specs.Str.{bytes_eq}
use Rattle.std.proofs.lemmas.Bool.{eq-eqb}
use Rattle.clr_season.specs.declared.reads.File.TheVariants.{Rules, Ladder, Stock, Demand}
use Rattle.clr_season.specs.Reads.{name_of}
use Rattle.clr_make.specs.Reads.{FilesAreHeld}

behind-folder : (folder a b : List ℕ) → bytes_eq (folder ++ a) (folder ++ b) ≡ bytes_eq a b
behind-folder [] a b = refl
behind-folder (c ∷ folder) a b = rw (eq-eqb c c refl) (behind-folder folder a b)

pub files-held : FilesAreHeld
files-held folder made = record {
  rules = rw (behind-folder folder (47 ∷ name_of Rules) (47 ∷ name_of Rules)) refl;
  ladder = rw (behind-folder folder (47 ∷ name_of Rules) (47 ∷ name_of Ladder), behind-folder folder (47 ∷ name_of Ladder) (47 ∷ name_of Ladder)) refl;
  stock = rw (behind-folder folder (47 ∷ name_of Rules) (47 ∷ name_of Stock), behind-folder folder (47 ∷ name_of Ladder) (47 ∷ name_of Stock), behind-folder folder (47 ∷ name_of Stock) (47 ∷ name_of Stock)) refl;
  demand = rw (behind-folder folder (47 ∷ name_of Rules) (47 ∷ name_of Demand), behind-folder folder (47 ∷ name_of Ladder) (47 ∷ name_of Demand), behind-folder folder (47 ∷ name_of Stock) (47 ∷ name_of Demand), behind-folder folder (47 ∷ name_of Demand) (47 ∷ name_of Demand)) refl;
}
