use Rattle.std.proofs.Common.{◌≡◌, ◌∙◌, sym, subst}
use Rattle.clr_rules.specs.Rules.{IsPath}
use Rattle.clr_check.proofs.Shapes.{first_path_is, ok_more}
use Rattle.clr_check.proofs.tables.first_path.Goals as goal

pub new-requires : goal.new-requires
new-requires c = first_path_is c.args.season.now.rules _ c.weeks.result (c.deref.ensures.value ∙ c.in_ok-rungs.ensures.items_if_clones_equal (λ y e. cc)) c.weeks.ensures.value c.weeks.ensures.facts.rules.ladder.some

pub returns : goal.returns
returns c = ok_more (λ path. path ≡ c.deref.result.now) (IsPath c.args.season.now.rules) c.new.result (λ path h. subst (IsPath c.args.season.now.rules) (sym h) (first_path_is c.args.season.now.rules _ c.weeks.result (c.deref.ensures.value ∙ c.in_ok-rungs.ensures.items_if_clones_equal (λ y e. cc)) c.weeks.ensures.value c.weeks.ensures.facts.rules.ladder.some)) c.new.ensures
