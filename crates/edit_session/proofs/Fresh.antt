-- A document of which nothing is kept yet.
use Rattle.std.proofs.Common.{◌≡◌, ℕ, [], None, sym, ap, ◌∙◌}
use Rattle.std.proofs.lemmas.Option.{none-some}
use Rattle.compiled_schema.specs.Usable.{IsUsable}
use Rattle.compiled_schema.specs.declared.compiled.Compiled.{Compiled}
use Rattle.doc_nodes.specs.Nodes.{Nodes}
use Rattle.kept_slots.specs.Slots.{at}
use Rattle.kept_inverses.specs.from_kept_records.Books.{IsBooked}
use Rattle.kept_inverses.specs.from_kept_records.Slots.{KeptSlots, IsMade, kept_at}
use Rattle.kept_inverses.specs.from_kept_state.Kept.{IsBeside}
use Rattle.kept_inverses.specs.from_kept_state.KeptState.{KeptState}
use Rattle.edit_session.specs.Held.{Stands}

module _ (k : KeptState) (none : k.records.slots ≡ []) where
  pub none-at : (n : ℕ) → at k.records.slots n ≡ None
  none-at n = ap (λ (ks : KeptSlots). at ks n) none

  none-made : (n : ℕ) → IsMade k.records.slots n → ⊥
  none-made n made = none-some made.0 (sym (none-at n) ∙ made.1)

  none-listed : (n : ℕ) → (kept_at k.records.slots n).list ≡ None
  none-listed n = ap (λ (ks : KeptSlots). (kept_at ks n).list) none

  pub fresh-beside : (c : Compiled) (ns : Nodes) → IsUsable c → Stands c ns → IsBooked k.records → IsBeside c ns k
  fresh-beside c ns usable stands booked = record {
    over = (stands.0, record { usable = usable; stands = stands.1; only = λ n made. absurd (none-made n made) });
    governed = λ n made. absurd (none-made n made);
    plain = λ no n. ap (λ (ks : KeptSlots). (kept_at ks n).identity) none;
    booked = booked;
    own = record {
      apart = λ m n h e f. absurd (none-some h (sym (none-listed m) ∙ e));
      live = λ n h e. absurd (none-some h (sym (none-listed n) ∙ e));
    };
  }
