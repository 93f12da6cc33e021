use Rattle.std.proofs.Common.{◌≡◌, [], take, ap, ◌∙◌, rules, subst, SFits, to_z, of_z}
use Rattle.std.proofs.lemmas.Int.{to_z-of_z}
use mir.Syntax.{w128}
use Rattle.clr_rules.specs.Rules.{summary}
use Rattle.clr_cert.specs.Lines.{stocks_at}
use Rattle.clr_cert.specs.Places.{IsPlaceOf}
use Rattle.clr_cert.proofs.StockLists.{list_held}
use Rattle.clr_cert.proofs.Tabled.{bound_text, value_row}
use Rattle.clr_cert.proofs.Walking.{is_live_in}
use Rattle.clr_cert.proofs.line_buffer.LineBuffer.put_numbers.Goals as goal

pub put_entries-requires-in-Value-clause-row : goal.put_entries-requires-in-Value-clause-row
put_entries-requires-in-Value-clause-row g c =
    let place = subst (IsPlaceOf c.args.season.now) c.in-Value.is c.requires.place in
    value_row c.args.season.now c.in-Value.done c.in-Value.store c.in-Value.s place.0 (is_live_in c.args.season.now c.in-Value.done c.in-Value.s c.requires.facts place.0.early place.1)

pub put_joint-requires-clause-cell : goal.put_joint-requires-clause-cell
put_joint-requires-clause-cell g c =
    let place = subst (IsPlaceOf c.args.season.now) c.in-Joint.is c.requires.place in
    let held : take c.stores.result c.list_of_stocks-stocks.result ≡ stocks_at c.args.season.now c.in-Joint.index = ap (λ n. take n c.list_of_stocks-stocks.result) c.stores.ensures.value ∙ c.list_of_stocks-stocks.ensures in
    record {
      fit = place.fit;
      early = place.early;
      live = is_live_in c.args.season.now c.in-Joint.done c.in-Joint.s c.requires.facts place.early place.live;
      held = list_held c.args.season.now.stores c.in-Joint.index (take c.stores.result c.list_of_stocks-stocks.result) place.within held;
    }

pub returns-in-Bound-clause-text : goal.returns-in-Bound-clause-text
returns-in-Bound-clause-text g c =
    let total = c.opening_total-in-Bound.result in
    let fits : SFits w128 c.opening_total-in-Bound.result = search rules in
    bound_text c.args.season.now (g.E.Entries.entries c.args.entries.now) c.start.result c.args.self.now c.put_field-in-Bound.new.self (to_z w128 (of_z w128 total)) c.args.place c.in-Bound.is (c.start.ensures ∙ ap (λ rules. summary rules []) c.rules.ensures.value) c.put_field-in-Bound.ensures.text
    (to_z-of_z w128 total fits ∙ c.opening_total-in-Bound.ensures)
