use Rattle.std.proofs.Common.{◌≡◌, ◌-◌, ◌<◌, [], take, ap, ap₂, ◌∙◌, arith, rules, SFits, to_z, of_z}
use Rattle.std.proofs.lemmas.Int.{to_z-of_z}
use mir.Syntax.{w64}
use Rattle.clr_rules.specs.Rules.{summary}
use Rattle.clr_model.specs.Fits.{stock_lists}
use Rattle.clr_model.specs.Revenue.{full_stocks}
use Rattle.clr_cert.specs.Entries.{ask_joint}
use Rattle.clr_cert.specs.Lines.{opening, stocks_at}
use Rattle.clr_cert.proofs.OpeningSums.{opening_live}
use Rattle.clr_cert.proofs.StockLists.{last_list, list_held}
use Rattle.clr_cert.proofs.Texts.{values_text}
use Rattle.clr_cert.proofs.Walking.{some_stocks}
use Rattle.clr_cert.proofs.line_buffer.LineBuffer.put_exact.Goals as goal

pub overflow_sub-lists_of_stocks : goal.overflow_sub-lists_of_stocks
overflow_sub-lists_of_stocks g c = let some = some_stocks c.args.season.now.stores in omega (arith, c.lists_of_stocks.ensures.value)

pub list_of_stocks-stocks-requires-clause-index : goal.list_of_stocks-stocks-requires-clause-index
list_of_stocks-stocks-requires-clause-index g c = let some = some_stocks c.args.season.now.stores in omega (arith, c.lists_of_stocks.ensures.value)

pub joint-low-requires : goal.joint-low-requires
joint-low-requires g c =
    let some = some_stocks c.args.season.now.stores in
    let last : c.lists_of_stocks.result - 1 < stock_lists c.args.season.now.stores = omega (arith, c.lists_of_stocks.ensures.value) in
    let held : take c.stores.result c.list_of_stocks-stocks.result ≡ stocks_at c.args.season.now (c.lists_of_stocks.result - 1) = ap (λ n. take n c.list_of_stocks-stocks.result) c.stores.ensures.value ∙ c.list_of_stocks-stocks.ensures in
    let start = c.start.ensures ∙ ap (λ rules. summary rules []) c.rules.ensures.value in
    c.requires.asked (ask_joint 0 c.start.result (take c.stores.result c.list_of_stocks-stocks.result))
    (record { fit = c.requires.fits; early = omega arith; live = opening_live c.args.season.now c.start.result c.requires.any start; held = list_held c.args.season.now.stores (c.lists_of_stocks.result - 1) (take c.stores.result c.list_of_stocks-stocks.result) last held })

pub returns-clause-text : goal.returns-clause-text
returns-clause-text g c =
    let start : c.start.result ≡ opening c.args.season.now = c.start.ensures ∙ ap (λ rules. summary rules []) c.rules.ensures.value in
    let held : take c.stores.result c.list_of_stocks-stocks.result ≡ full_stocks c.args.season.now =
    ap (λ n. take n c.list_of_stocks-stocks.result) c.stores.ensures.value
    ∙ (c.list_of_stocks-stocks.ensures ∙ (ap (λ n. stocks_at c.args.season.now (n - 1)) c.lists_of_stocks.ensures.value ∙ last_list c.args.season.now.stores)) in
    let entries = g.E.Entries.entries c.args.entries.now in
    let answer = entries.joint 0 (opening c.args.season.now) (full_stocks c.args.season.now) in
    let is : c.joint-low.result ≡ answer = c.joint-low.ensures ∙ ap₂ (λ s stocks. entries.joint 0 s stocks) start held in
    let low : SFits w64 c.joint-low.result.1 = search rules in
    let top : SFits w64 c.joint-low.result.2 = search rules in
    values_text c.args.self.now c.put_field.new.self c.put_field-2.new.self (to_z w64 (of_z w64 c.joint-low.result.1)) (to_z w64 (of_z w64 c.joint-low.result.2)) answer c.put_field.ensures.text c.put_field-2.ensures.text
    (to_z-of_z w64 c.joint-low.result.1 low ∙ (λ i. (is i).1)) (to_z-of_z w64 c.joint-low.result.2 top ∙ (λ i. (is i).2))
