use Rattle.edit_history.proofs.Histories.{edited_on, undone_on, redone_on}
use Rattle.edit_history.proofs.laws.logs_lead_through_histories.Goals as goal

pub returns : goal.returns
returns g c =
    record {
      opened = λ depth d. record { past = tt; future = tt };
      edited = edited_on g.S.Step.leads;
      undone = undone_on g.S.Step.leads;
      redone = redone_on g.S.Step.leads;
    }
