use Rattle.std.proofs.Common.{sym, ap, ◌∙◌}
use Rattle.std.specs.Prelude.{slice_set}
use Rattle.assess_records.specs.declared.record.ElementRecord.{ElementRecord}
use Rattle.what_is_found.specs.Identity.{with_more}
use Rattle.tree_assess.specs.declared.entry.ElementEntry.{ElementEntry}
use Rattle.forest_keys.proofs.Stepping.{coded_there}
use Rattle.forest_keys.proofs.joining.join_at.Goals as goal

pub returns : goal.returns
returns c =
    let set = c.args.set.now in
    let es = c.args.entries.now in
    let e = c.index-entries-place.result in
    let codes = c.args.codes.now in
    let below = c.has_invalid_below-below.result in
    ap (λ (x : ElementEntry). slice_set es c.args.place (record x { element = c.add_codes.new.own })) (sym c.index-entries-place.is)
    ∙ ap (λ (r : ElementRecord). slice_set es c.args.place (record e { element = r })) (c.in_ok-add_codes.ensures ∙ ap (λ (x : ElementEntry). with_more codes below x.element) (sym c.index-entries-place.is))
    ∙ coded_there set.names.now set.parts.now set.identities.now c.args.place es e codes below c.requires.place c.index-entries-place.is c.requires.codes c.has_invalid_below-below.ensures
