use Rattle.identity_tables.specs.Table.{IsTableOf}
use Rattle.std.proofs.Common.{◌++◌, ◌∙◌, subst, ap, take}
use Rattle.identity_tables.specs.Ids.{borne_in, borne_in_all}
use Rattle.forest_keys.proofs.Together.{atoms_in, atoms_next}
use Rattle.forest_keys.proofs.ids.id_codes.Goals as goal

pub loop-entry-preserved : goal.loop-entry-preserved
loop-entry-preserved c =
    let es = c.args.entries.now in
    let i = c.loop-entry.entry-index in
    let e = c.entry-item.result in
    let before = atoms_in (take i es) in
    let own = c.in_ok-add_value.ensures before c.loop-entry.invariant in
    let both = c.in_ok-add_values.ensures (before ++ borne_in e.bearer e.value) own in
    subst (IsTableOf c.add_values.new.self) (ap (λ vs. (before ++ borne_in e.bearer e.value) ++ borne_in_all e.number vs) c.as_slice.ensures ∙ atoms_next es i e c.loop-entry-test.true c.entry-item.is) both
