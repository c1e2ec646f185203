use Rattle.std.proofs.Common.{◌≡◌, sym, subst}
use Rattle.attr_uses.specs.Tables.{HasTwoOfOneName, HasTwoIds}
use Rattle.derive_faults.specs.TypeFaults.{IsFirstCode}
use Rattle.derive_faults.proofs.FaultLaws.{when-first, both-first}
use Rattle.derive_faults.proofs.faults.props_code.Goals as goal

pub returns : goal.returns
returns c = record {
  first = λ t ids value s.
      both-first (λ code. HasTwoOfOneName t value.uses × (code ≡ c.args.of_one_name)) (λ code. HasTwoIds t ids value.uses × (code ≡ c.args.of_ids)) c.when.result c.when-2.result c.earlier.result c.earlier.ensures
      (subst (IsFirstCode (λ code. HasTwoOfOneName t value.uses × (code ≡ c.args.of_one_name))) (sym c.when.ensures)
      (when-first (HasTwoOfOneName t value.uses) c.has_two_of_one_name.result c.args.of_one_name (c.has_two_of_one_name.ensures.two t ids value s)))
      (subst (IsFirstCode (λ code. HasTwoIds t ids value.uses × (code ≡ c.args.of_ids))) (sym c.when-2.ensures)
      (when-first (HasTwoIds t ids value.uses) c.has_two_ids.result c.args.of_ids (c.has_two_ids.ensures.two t ids value s)));
}
