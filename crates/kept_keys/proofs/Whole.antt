-- What fits from the root on, and what identity constraints and IDs see of it.
use Rattle.std.proofs.Common.{◌≡◌, ℕ, ◌≤◌, [], ◌∷◌, refl, sym, ap, ◌∙◌, arith}
use Rattle.xs_names.specs.Names.{IsSound}
use Rattle.tree_rows.specs.Forest.{Document, count}
use Rattle.simple_types.proofs.Valid.{one-outcome}
use Rattle.attr_assess.specs.Added.{AreNamed}
use Rattle.assessment.specs.Bearings.{borne_values}
use Rattle.assessment.specs.Local.{HasElement}
use Rattle.identity_constraints.specs.Seen.{KeyForest}
use Rattle.what_is_found.specs.Identity.{seen}
use Rattle.compiled_schema.specs.Usable.{set_of}
use Rattle.compiled_schema.specs.declared.compiled.Compiled.{Compiled}
use Rattle.doc_nodes.specs.Nodes.{Nodes}
use Rattle.kept_above.specs.from_kept_records.Slots.{IsMade, entry_at}
use Rattle.kept_above.specs.from_kept_records.Fit.{models_of, IsTop}
use Rattle.kept_above.specs.from_kept_records.Found.{IsOver, AreSettled, found_in}
use Rattle.kept_above.proofs.from_kept_records.Made.{fit-at, read, made-elements, elements-made}
use Rattle.kept_above.proofs.from_kept_records.Nodes.{root-numbers}
use Rattle.kept_above.specs.from_kept_state.KeptState.{KeptState}
use Rattle.kept_keys.specs.Keys.{IsWhole, KeepsElements}
use Rattle.kept_targets.specs.Seen.{seen_to}
use Rattle.scope_targets.specs.Targetings.{uses}
use Rattle.kept_keys.proofs.Found.{all-seen, all-borne}
use Rattle.kept_keys.proofs.Numbered.{AreNumbered, seen-few}
use Rattle.kept_targets.proofs.Seeing.{seen-is}
use Rattle.kept_targets.proofs.Staying.{IsSeenAlike, stays-seen}

-- ---- over a document

module _ (c : Compiled) (ns : Nodes) (k : KeptState) (whole : IsWhole c ns k) (d : Document) (over : IsOver c ns k.records.slots d) where
  pub settled : AreSettled c ns k.records.slots k.lists k.root_ids d
  settled = record { over = over; top = whole.top; fit = whole.fit }

  pub there-made : (n : ℕ) → HasElement n d.forest → IsMade k.records.slots n
  there-made = made-elements c ns k.records.slots k.lists k.root_ids d settled

  pub made-there : (n : ℕ) → IsMade k.records.slots n → HasElement n d.forest
  made-there = elements-made c ns k.records.slots k.lists k.root_ids d settled

  pub numbered : AreNumbered ns k.records.slots d.forest
  numbered n h = (fit-at c ns k.records.slots k.lists k.root_ids d settled n (there-made n h)).gathered.number_is

  -- no number is seen twice
  pub seen-once : (n : ℕ) → uses n (seen (found_in ns k.records.slots d.forest)) ≤ 1
  seen-once n = let few = seen-few ns k.records.slots d.forest numbered n in let one = over.stands.tree.differ n in omega (arith, few, one)

  -- from the root on, with as many levels as there are nodes
  pub siblings-seen : (f : KeyForest) → f ≡ seen_to k.records.slots ns (count d.forest) (1 ∷ []) → f ≡ seen (found_in ns k.records.slots d.forest)
  siblings-seen f e =
      e ∙ ap (seen_to k.records.slots ns (count d.forest)) (sym (root-numbers d.forest over.stands.tree.root))
      ∙ seen-is c.names ns k.records.slots d.forest (read c ns k.records.slots k.lists k.root_ids d settled) there-made (count d.forest) (omega arith)

-- ---- the same elements, governed as before

module _ (c : Compiled) (ns : Nodes) (old new : KeptState) (before : IsWhole c ns old) (after : IsWhole c ns new) (elements : KeepsElements old new) where
  pub over-before : (d : Document) → IsOver c ns new.records.slots d → IsOver c ns old.records.slots d
  over-before d over = record { usable = over.usable; stands = over.stands; only = λ n made. over.only n ((elements.made n).0 made) }

  sound : IsSound c.names
  sound = before.beside.over.1.stands.table

  named : AreNamed c.names c.parts
  named = before.beside.over.1.usable.named.attributes

  alike : (n : ℕ) → IsMade old.records.slots n → IsSeenAlike (entry_at old.records.slots n) (entry_at new.records.slots n)
  alike n made =
      stays-seen (set_of c) (one-outcome c.parts) sound named (models_of c) ns old.records.slots new.records.slots old.lists new.lists old.root_ids new.root_ids n (elements.pairs n)
      (before.fit n made tt) (after.fit n ((elements.made n).0 made) tt)

  module _ (d : Document) (over : IsOver c ns new.records.slots d) where
    pub seen-stays : seen (found_in ns new.records.slots d.forest) ≡ seen (found_in ns old.records.slots d.forest)
    seen-stays = all-seen ns old.records.slots new.records.slots d.forest (λ n h. alike n (there-made c ns old before d (over-before d over) n h))

    pub borne-stays : borne_values (found_in ns new.records.slots d.forest) ≡ borne_values (found_in ns old.records.slots d.forest)
    borne-stays = all-borne ns old.records.slots new.records.slots d.forest (λ n h. alike n (there-made c ns old before d (over-before d over) n h))

-- ---- from one to the next

pub elements-same : (k : KeptState) → KeepsElements k k
elements-same k = record { made = λ n. ((λ m. m), (λ m. m)); pairs = λ n. refl }

pub elements-again : (old mid new : KeptState) → KeepsElements old mid → KeepsElements mid new → KeepsElements old new
elements-again old mid new first second = record {
  made = λ n. ((λ m. (second.made n).0 ((first.made n).0 m)), (λ m. (first.made n).1 ((second.made n).1 m)));
  pairs = λ n. second.pairs n ∙ first.pairs n;
}

pub top-stays : (c : Compiled) (ns : Nodes) (old new : KeptState) → KeepsElements old new → IsTop (set_of c) ns old.records.slots → IsTop (set_of c) ns new.records.slots
top-stays c ns old new elements top = record { made = (elements.made 1).0 top.made; pair_is = elements.pairs 1 ∙ top.pair_is }
