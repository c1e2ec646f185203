use Rattle.std.proofs.Common.{refl}
use Rattle.edit_history.proofs.Remembering.{edit_remembered}
use Rattle.edit_history.proofs.history_laws.edits_are_remembered.Goals as goal

pub returns : goal.returns
returns c = record {
  opened = λ t d depth. record {
    logged = record { leads = record { past = tt; future = tt }; answered = refl };
    history_is = refl;
    log_is = refl;
  };
  edited = edit_remembered;
}
