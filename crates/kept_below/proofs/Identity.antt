-- The codes of identity constraints stay as elements are kept anew.
use Rattle.std.proofs.Common.{◌≡◌, ℕ, Option, Some, inl, inr, sym, ap, ◌∙◌}
use Rattle.std.specs.Prelude.{unwrap_or}
use Rattle.std.proofs.lemmas.Bool.{cases_eq}
use Rattle.compiled_schema.specs.declared.compiled.Compiled.{Compiled}
use Rattle.doc_nodes.specs.Nodes.{Nodes}
use Rattle.elem_governing.specs.declared.pairs.Governing.{Governing}
use Rattle.kept_slots.specs.Slots.{Writes}
use Rattle.child_listing.specs.from_kept_records.Books.{KeptView}
use Rattle.child_listing.specs.from_kept_records.KeptElement.{KeptElement}
use Rattle.child_listing.specs.from_kept_records.Slots.{IsKept, blank, kept_at}
use Rattle.child_listing.specs.from_kept_state.Kept.{Rewrites}
use Rattle.child_listing.specs.from_kept_state.KeptChildren.{KeptChildren}
use Rattle.child_listing.specs.from_kept_state.Governed.{Governed}
use Rattle.child_listing.specs.from_kept_state.KeptState.{KeptState}
use Rattle.child_listing.specs.from_kept_judging.Judged.{IsJudgedAnew}
use Rattle.kept_below.specs.Below.{IsMadeAnew, KeepsIdentity}

pub identity-then : (old mid new : KeptState) → KeepsIdentity old mid → KeepsIdentity mid new → KeepsIdentity old new
identity-then old mid new a b n = b n ∙ a n

-- nothing but lists is another
pub identity-lists : (old new : KeptState) → new ≡ record old { lists = new.lists } → KeepsIdentity old new
identity-lists old new e n = ap (λ (k : KeptState). (kept_at k.records.slots n).identity) e

-- one element is written anew, with the codes that it had
pub identity-written : (old new : KeptState) (n : ℕ) (kept : KeptElement) → Writes old.records.slots new.records.slots n (Some kept) → kept.identity ≡ (kept_at old.records.slots n).identity
    → KeepsIdentity old new
identity-written old new n kept writes same m =
    elim (cases_eq m n) [
      | inl e ↦
          ap (λ k. (kept_at new.records.slots k).identity) e ∙ ap (λ (o : Option KeptElement). (unwrap_or o blank).identity) writes.here ∙ same
          ∙ ap (λ k. (kept_at old.records.slots k).identity) (sym e)
      | inr other ↦ ap (λ (o : Option KeptElement). (unwrap_or o blank).identity) (writes.others m other)
    ]

-- the same, by what is kept of it
pub identity-put : (old new : KeptState) (n : ℕ) (k : KeptElement) → IsKept old.records.slots n k → (kept : KeptElement) → kept.identity ≡ k.identity → Writes old.records.slots new.records.slots n (Some kept)
    → KeepsIdentity old new
identity-put old new n k is kept same writes = identity-written old new n kept writes (same ∙ sym (ap (λ (o : Option KeptElement). (unwrap_or o blank).identity) is))

pub identity-rewritten : (old new : KeptState) (n : ℕ) (k : KeptElement) → IsKept old.records.slots n k → (kept : KeptElement) → kept.identity ≡ k.identity → Rewrites old new n (Some kept) → KeepsIdentity old new
identity-rewritten old new n k is kept same writes = identity-put old new n k is kept same writes.slots

pub identity-records : (old new : KeptState) → new.records ≡ old.records → KeepsIdentity old new
identity-records old new e n = ap (λ (r : KeptView). (kept_at r.slots n).identity) e

pub identity-judged : (c : Compiled) (ns : Nodes) (old new : KeptState) (n : ℕ) (pair : Governing) (children : KeptChildren) → IsJudgedAnew c ns old new n pair children → KeepsIdentity old new
identity-judged c ns old new n pair children anew = identity-written old new n anew.kept anew.rewrites.slots anew.identity_is

pub identity-made : (c : Compiled) (ns : Nodes) (old new : KeptState) (element : Governed) (children : KeptChildren) → IsMadeAnew c ns old new element children → KeepsIdentity old new
identity-made c ns old new element children made =
    identity-then old made.mid new (identity-judged c ns old made.mid element.node element.pair children made.anew) (identity-lists made.mid new made.rest)
