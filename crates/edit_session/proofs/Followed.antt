-- What is counted of targets before a change, and what the change makes of the document.
use Rattle.std.proofs.Common.{◌≡◌, ◌≢◌, ℕ, List, [], ◌∷◌, true, None, sym, ap, ◌∙◌, subst, inr}
use Rattle.std.proofs.lemmas.Option.{same_Some}
use Rattle.xs_names.specs.Names.{NameTable}
use Rattle.tree_rows.specs.Forest.{Document}
use Rattle.tree_edits.specs.Inverses as law
use Rattle.compiled_schema.specs.declared.compiled.Compiled.{Compiled}
use Rattle.doc_nodes.specs.Nodes.{Nodes, is_element_at}
use Rattle.doc_changes.specs.Held.{parent_at}
use Rattle.doc_changes.specs.Stands.{StandsFor}
use Rattle.doc_changes.proofs.Levels.{document_is}
use Rattle.doc_edits.specs.Changes.{CanMake}
use Rattle.doc_edits.specs.declared.change.Change.{Change}
use Rattle.doc_tree.specs.Changes.{Means}
use Rattle.doc_tree.specs.declared.change.Change as numbered
use Rattle.doc_tree.specs.declared.change.Change.TheVariants as changes
use Rattle.doc_tree.specs.declared.part.PartRow.{PartRow}
use Rattle.kept_inverses.specs.Spots.{AreTurnedOver, IsReturn, IsSpotOf, IsTakenOut}
use Rattle.kept_inverses.specs.from_kept_changes.Spot.{Spot}
use Rattle.kept_inverses.specs.from_kept_changes.Spot.TheVariants.{Pruned, Retexted}
use Rattle.kept_inverses.specs.from_kept_changes.Spots.{IsSpot, IsTakenBy, KeepsIdentityBut}
use Rattle.kept_inverses.specs.from_kept_changes.Turned.{AreTurnedBy, Goes, TurnsAt}
use Rattle.kept_inverses.specs.from_kept_children.Edited.{IsRightFor}
use Rattle.kept_inverses.specs.from_kept_forgetting.Below.{IsWithin}
use Rattle.kept_inverses.specs.from_kept_records.Found.{SaysFound}
use Rattle.kept_inverses.specs.from_kept_records.Slots.{kept_at}
use Rattle.kept_inverses.specs.from_kept_state.KeptState.{KeptState}
use Rattle.kept_inverses.proofs.Following.{pruned-inverse, take-below, take-fits}
use Rattle.kept_inverses.proofs.from_kept_changes.Following.{pruned-change}
use Rattle.kept_inverses.proofs.from_kept_changes.Turned.{one-removal, one-spot}
use Rattle.kept_keys.specs.Keys.{AreTargets, AreTargetsBy, WereTargets}
use Rattle.kept_keys.specs.from_kept_targets.TargetKeys.{TargetKeys}
use Rattle.kept_keys.specs.from_kept_targets.Turn.{Turn}
use Rattle.kept_keys.specs.from_kept_targets.Turned.{Follows, Stays}
use Rattle.edit_session.specs.Held.{IsPresent}
use Rattle.edit_session.specs.Turning.{IsTurnOf}
use Rattle.edit_session.proofs.Turned.{left-out, turns-at}

-- ---- an element that is taken away is below another

pub pruned-below : (t : NameTable) (ns : Nodes) (d : Document) (change : Change) → CanMake t ns d change → (spot : Spot) → IsSpot ns change spot → (n : ℕ) → spot ≡ Pruned n → (is_element_at ns n ≡ true) × (parent_at ns n ≢ None)
pruned-below t ns d change can spot is n e =
    let at = pruned-change ns change n (subst (IsSpot ns change) e is) in
    (at.1, subst (CanMake t ns d) at.0 can)

pub taken-below : (t : NameTable) (ns : Nodes) (d : Document) → StandsFor t ns d → (own : law.Change) (change : numbered.Change) → Means t change own → law.Fits d own → (spot : Spot) → IsSpotOf ns change spot → (n : ℕ) → spot ≡ Pruned n
    → (is_element_at ns n ≡ true) × (parent_at ns n ≢ None)
taken-below t ns d z own change means fits spot is n e =
    let at = pruned-inverse ns change n (subst (IsSpotOf ns change) e is) in
    let mine = subst (λ (x : numbered.Change). Means t x own) at.0 means in
    (at.1, take-below t ns d z n (take-fits t ns d z own n mine fits))

-- ---- there is one spot

one-return : (part : List PartRow) (parent : ℕ) (a b : Spot) → IsReturn part parent a → IsReturn part parent b → a ≡ b
one-return [] parent a b p q = absurd p
one-return (row ∷ more) parent a b p q = p ∙ sym q

one-spot-of : (ns : Nodes) (change : numbered.Change) (a b : Spot) → IsSpotOf ns change a → IsSpotOf ns change b → a ≡ b
one-spot-of ns (changes.PutBack parent index part) a b p q = one-return part parent a b p q
one-spot-of ns (changes.Take key) a b p q = one-removal ns key a b p q
one-spot-of ns (changes.Name key name) a b p q = p ∙ sym q
one-spot-of ns (changes.Attr key name place value) a b p q = p ∙ sym q
one-spot-of ns (changes.Chars key chars) a b p q = p.2 ∙ ap Retexted (same_Some p.0 q.0 (sym p.1 ∙ q.1)) ∙ sym q.2

-- ---- what was kept, where a change is made

module _ (c : Compiled) (ns ms : Nodes) (k l : KeptState) (keys : TargetKeys) (present : IsPresent c ns k) (right : IsRightFor c ms l) where
  followed : (spot : Spot) → TurnsAt c.names ns ms spot → (turn : Turn) → IsTurnOf ns spot turn → AreTargets c ns k.records.slots keys
      → ((m : ℕ) → Stays ns ms m → (kept_at l.records.slots m).identity ≡ (kept_at k.records.slots m).identity) → Follows c ms l keys turn
  followed spot at turn is targets identity = record {
    old = ns;
    before = k;
    whole = present.whole;
    says = λ d over. subst (SaysFound c ns k.records.slots k.root_ids) (document_is c.names ns d over.stands) present.says;
    targets = targets;
    turns = turns-at c.names ns ms present.whole.beside.over.0 right.beside.over.0 present.whole.beside.over.1.stands right.beside.over.1.stands spot at turn is;
    identity = identity;
  }

  -- what stays was not within what is gone
  stays-out : (n : ℕ) → Goes c.names ns ms n → (m : ℕ) → Stays ns ms m → ¬ IsWithin ns n m
  stays-out n goes m stays within = left-out c.names ns ms present.whole.beside.over.0 present.whole.beside.over.1.stands right.beside.over.1.stands.links n goes m stays.after within

  pub were-by : (change : Change) → AreTurnedBy c.names ns ms change → KeepsIdentityBut (IsTakenBy ns change) k l → (spot : Spot) → IsSpot ns change spot → (turn : Turn) → IsTurnOf ns spot turn
      → AreTargetsBy c ns k.records.slots keys → c.identities.items ≢ [] → WereTargets c ms l keys turn
  were-by change turned keeps spot is turn of targets some =
      let at = subst (TurnsAt c.names ns ms) (one-spot ns change turned.0 spot turned.1 is) turned.2 in
      inr (followed spot at turn of (targets some) (λ m stays. keeps m (λ taken.
      stays-out taken.0 (subst (TurnsAt c.names ns ms) (one-spot ns change turned.0 (Pruned taken.0) turned.1 taken.1) turned.2) m stays taken.2)))

  pub were-over : (change : numbered.Change) → AreTurnedOver c.names ns ms change → KeepsIdentityBut (IsTakenOut ns change) k l → (spot : Spot) → IsSpotOf ns change spot → (turn : Turn) → IsTurnOf ns spot turn
      → AreTargetsBy c ns k.records.slots keys → c.identities.items ≢ [] → WereTargets c ms l keys turn
  were-over change turned keeps spot is turn of targets some =
      let at = subst (TurnsAt c.names ns ms) (one-spot-of ns change turned.0 spot turned.1 is) turned.2 in
      inr (followed spot at turn of (targets some) (λ m stays. keeps m (λ taken.
      stays-out taken.0 (subst (TurnsAt c.names ns ms) (one-spot-of ns change turned.0 (Pruned taken.0) turned.1 taken.1) turned.2) m stays taken.2)))
