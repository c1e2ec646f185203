-- The document that a workspace has open is the one that is spoken of.
use Rattle.std.proofs.Common.{◌≡◌, ℕ, List, Option, Result, sym, ◌∙◌, subst}
use Rattle.item_listing.specs.declared.item.Item.{Item}
use Rattle.told.specs.Going.{Trace, Answers}
use Rattle.told.specs.Told.{Told}
use Rattle.told.specs.declared.break_off.BreakOff.{BreakOff}
use Rattle.open_document.specs.Answers.{command_told}
use Rattle.open_document.specs.State.{OpenState, WorkState, working}

pub same_document : (s q : OpenState) (w : WorkState) → working q ≡ w → w ≡ working s → q ≡ s
same_document s q w own at =
    let both : working q ≡ working s = own ∙ at in
    let same : q ≡ s = cc in
    same

module _ (line : List ℕ) (block : Option (List Item)) (next : WorkState → Told) (r : Result (Unit {0}) BreakOff) (a b : Trace) where
  -- what is told of a command by what is kept is told by the open document
  pub answered_by : (s q p : OpenState) (w v : WorkState) → working q ≡ w → w ≡ working s → v ≡ working p
      → Answers (command_told q line block (λ o. next (working o))) r a b (λ done. next (working p))
      → Answers (command_told s line block (λ o. next (working o))) r a b (λ done. next v)
  answered_by s q p w v own at new h =
      subst (λ (u : WorkState). Answers (command_told s line block (λ o. next (working o))) r a b (λ done. next u)) (sym new)
      (subst (λ (x : OpenState). Answers (command_told x line block (λ o. next (working o))) r a b (λ done. next (working p))) (same_document s q w own at) h)
