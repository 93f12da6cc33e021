use Rattle.std.proofs.Common.{◌≡◌, ◌<◌, ◌+◌, ◌∙◌, ◌++◌, ◌∷◌, [], Bor, length, take, refl, ap, sym, arith, Some, None}
use Rattle.std.proofs.lemmas.List.{take_all}
use Rattle.csv.specs.Records.{Row, field_at, fields_of}
use Rattle.clr_text.specs.Fields.{cut_of}
use Rattle.clr_text.proofs.FlatRows.{field-less, field-past, fields-more}
use Rattle.clr_text.proofs.table.add_fields.Goals as goal

pub loop-field-preserved : goal.loop-field-preserved
loop-field-preserved c =
    let inv = c.loop-field.invariant in
    let steps = c.in-Some.ensures.steps in
    let at = c.loop-field.field-iterator.at in
    let fields = fields_of c.args.row.now in
    let field : field_at fields at ≡ Some c.in-Some.field.now = rw inv.row at (sym steps.1) in
    let less : at < length fields = field-less fields at c.in-Some.field.now field in
    let next : c.next.new.self.at ≡ at + 1 = steps.2 in
    let pushed : fields_of c.push_field.new.self ≡ fields_of c.loop-field.fields ++ cut_of c.in-Some.field.now ∷ [] = rw (inv.partial, c.cut.ensures) at c.in_ok-push_field.ensures.fields in
    record {
      row = ap (λ (r : Bor Row). r.now) steps.0 ∙ inv.row;
      within = rw next (omega (arith, less));
      fields = rw next (pushed ∙ fields-more (fields_of c.args.fields.now) fields (fields_of c.loop-field.fields) at c.in-Some.field.now field inv.fields);
      partial = c.in_ok-push_field.ensures.partial;
    }

pub returns-clause-fields : goal.returns-clause-fields
returns-clause-fields c =
    let inv = c.loop-field.invariant in
    let at = c.loop-field.field-iterator.at in
    let fields = fields_of c.args.row.now in
    let none : field_at fields at ≡ None = rw inv.row at (sym c.in-None.ensures.steps.1) in
    let whole : take at fields ≡ fields = take_all at fields (field-past fields at none) in
    inv.fields ∙ rw whole refl
