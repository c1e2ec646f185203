use Rattle.std.proofs.Common.{◌≡◌, sym, ap, ◌∙◌}
use Rattle.std.proofs.lemmas.Slice.Eq.{slice_eq-Decides}
use Rattle.kept_above.specs.from_kept_records.KeptElement.{KeptElement}
use Rattle.kept_above.specs.from_kept_records.Slots.{kept_at}
use Rattle.kept_above.proofs.from_kept_state.Beside.{kept-there}
use Rattle.kept_keys.proofs.Deciding.{found-decides}
use Rattle.kept_keys.proofs.scopes.has_codes.Goals as goal

pub returns : goal.returns
returns c =
    let ks = c.args.kept.now.records.slots in
    let own : (kept_at ks c.args.node).identity ≡ c.at.result.now.identity = ap (λ (k : KeptElement). k.identity) (kept-there ks c.args.node c.at.result.now c.at.ensures) in
    let decides = slice_eq-Decides found-decides c.at.result.now.identity c.args.codes.now c.eq.result c.eq.ensures in
    ((λ t. own ∙ decides.0 t), (λ e. decides.1 (sym own ∙ e)))
