-- What is another at an element once a change by numbers is made, and the steps of it.
use Rattle.std.proofs.Common.{◌≡◌, ◌≢◌, ℕ, ◌+◌, ◌<◌, List, [], ◌∷◌, length, true, Bool, Option, None, Some, refl, sym, ap, ◌∙◌, subst}
use Rattle.std.proofs.lemmas.Option.{none-some}
use Rattle.xs_names.specs.Names.{NameTable}
use Rattle.tree_rows.specs.Forest.{Document}
use Rattle.tree_rows.specs.declared.row.NodeKind.TheVariants as kinds
use Rattle.tree_edits.specs.Inverses as law
use Rattle.tree_edits.specs.Sites.{site_of}
use Rattle.compiled_schema.specs.declared.compiled.Compiled.{Compiled}
use Rattle.doc_nodes.specs.Nodes.{Nodes, IsSound, is_element, is_element_by, is_element_at}
use Rattle.doc_nodes.specs.declared.content.Content.{Content}
use Rattle.doc_nodes.specs.declared.content.Content.TheVariants as contents
use Rattle.doc_changes.specs.Held.{kind_at, parent_at}
use Rattle.doc_changes.specs.Stands.{StandsFor}
use Rattle.doc_changes.proofs.Holding.{HoldsElement, holds_element}
use Rattle.doc_edits.specs.declared.change.Change.TheVariants as edits
use Rattle.doc_tree.specs.Changes.{Means, IsMade, written_number}
use Rattle.doc_tree.specs.declared.change.Change.{Change}
use Rattle.doc_tree.specs.declared.change.Change.TheVariants as changes
use Rattle.doc_tree.specs.declared.part.PartRow.{PartRow}
use Rattle.doc_tree.proofs.Meaning.{puts_back, takes, names, writes, rewords}
use Rattle.doc_tree.proofs.Own.{element_kind, text_kind}
use Rattle.doc_tree.proofs.Seated.{is_at}
use Rattle.kept_changes.specs.Turned.{TurnsAt}
use Rattle.kept_changes.proofs.Turned.{turned-at}
use Rattle.kept_changes.specs.from_kept_state.KeptState.{KeptState}
use Rattle.kept_changes.specs.from_kept_children.Edited.{IsRightFor}
use Rattle.kept_changes.specs.from_kept_children.Steps.{width}
use Rattle.kept_changes.specs.Own.{IsReattributed}
use Rattle.kept_changes.specs.Spots.{HasChangedAt, TakesSpot}
use Rattle.kept_changes.specs.Steps.{TakesAway, TakesBelow}
use Rattle.kept_changes.specs.declared.change.Spot.{Spot}
use Rattle.kept_changes.specs.declared.change.Spot.TheVariants.{Pruned, Retexted, Attributed, Renamed}
use Rattle.kept_changes.proofs.Changed.{element-reattributed}
use Rattle.kept_changes.proofs.Following.{changed-at, takes-change}
use Rattle.kept_inverses.specs.Spots.{IsSpotOf, IsReturn, returns_at}
use Rattle.kept_inverses.specs.Steps.{TakesInverse}
use Rattle.kept_inverses.proofs.Returned.{put-at, put-takes, put-turned, some-row}

-- ---- what can be changed

-- a node that can be taken out has a parent
pub take-below : (t : NameTable) (ns : Nodes) (d : Document) → StandsFor t ns d → (key : ℕ) → law.Fits d (law.take_out key) → parent_at ns key ≢ None
take-below t ns d z key fits bare = let a = is_at t ns d key z fits in none-some (site_of key d.forest).parent (sym bare ∙ a.parent)

module _ (t : NameTable) (ns : Nodes) (d : Document) (z : StandsFor t ns d) (c : law.Change) where
  pub put-row : (p place : ℕ) (part : List PartRow) → Means t (changes.PutBack p place part) c → law.Fits d c → 0 < length part
  put-row p place part m fits = let q = puts_back t d c p place part m fits in some-row t part d p place q.f q.part_is q.can

  pub take-fits : (key : ℕ) → Means t (changes.Take key) c → law.Fits d c → law.Fits d (law.take_out key)
  take-fits key m fits = subst (law.Fits d) (takes t c key m) fits

  pub name-kind : (key n : ℕ) → Means t (changes.Name key n) c → law.Fits d c → kind_at ns key ≡ Some kinds.Element
  name-kind key n m fits = element_kind t ns d z key (subst (law.Fits d) (names t c key n m).1 fits).0

  pub write-kind : (key n place : ℕ) (value : Option (List ℕ)) → Means t (changes.Attr key n place value) c → law.Fits d c → kind_at ns key ≡ Some kinds.Element
  write-kind key n place value m fits = element_kind t ns d z key (subst (law.Fits d) (writes t c key n place value m).1 fits).0

  pub reword-kind : (key : ℕ) (chars : List ℕ) → Means t (changes.Chars key chars) c → law.Fits d c → kind_at ns key ≡ Some kinds.Chars
  reword-kind key chars m fits = text_kind t ns d z key (subst (law.Fits d) (rewords t c key chars m) fits)

-- ---- what is another

module _ (s : Compiled) (old new : Nodes) (k : KeptState) (r : IsRightFor s old k) (d : Document) (z : StandsFor s.names old d) (sound : IsSound new) (c : law.Change) where
  written : (key name place : ℕ) (value : Option (List ℕ)) (h : HoldsElement old key) → IsMade s.names old new (changes.Attr key name place value) c → IsReattributed s new k key
  written key name place value h made =
      let now = record h.e { attributes = written_number name place value h.e.attributes } in record {
        old = old;
        right = r;
        element = ap is_element_by h.is ∙ ap is_element h.holds;
        reattributes = element-reattributed s.names old new d z key h.it h.is (contents.Element now) (made h.it h.e h.is h.holds) h.e now refl h.holds refl refl;
      }

  pub inverse-at : (change : Change) (spot : Spot) → IsSpotOf old change spot → ((n : ℕ) → spot ≡ Pruned n → ⊥) → Means s.names change c → law.Fits d c → IsMade s.names old new change c → HasChangedAt s new k spot
  inverse-at (changes.PutBack p place part) spot is here m fits made =
      let q = puts_back s.names d c p place part m fits in
      put-at s old new k r d z sound p place part q.f q.part_is q.can (subst (IsMade s.names old new (changes.PutBack p place part)) q.is made) spot is
  inverse-at (changes.Take key) spot is here m fits made =
      changed-at s old new k r d z sound (edits.Remove key) spot is here (take-below s.names old d z key (take-fits s.names old d z c key m fits)) made
  inverse-at (changes.Name key n) spot is here m fits made =
      changed-at s old new k r d z sound (edits.Rename key n) spot is here (name-kind s.names old d z c key n m fits, (names s.names c key n m).0) made
  inverse-at (changes.Attr key n place value) spot is here m fits made =
      subst (HasChangedAt s new k) (sym is) (written key n place value (holds_element old key (write-kind s.names old d z c key n place value m fits)) made)
  inverse-at (changes.Chars key chars) spot is here m fits made =
      changed-at s old new k r d z sound (edits.SetText key chars) spot is here (reword-kind s.names old d z c key chars m fits) made

  pub inverse-turned : (change : Change) (spot : Spot) → IsSpotOf old change spot → ((n : ℕ) → spot ≡ Pruned n → ⊥) → Means s.names change c → law.Fits d c → IsMade s.names old new change c → TurnsAt s.names old new spot
  inverse-turned (changes.PutBack p place part) spot is here m fits made =
      let q = puts_back s.names d c p place part m fits in
      put-turned s old new k r d z sound p place part q.f q.part_is q.can (subst (IsMade s.names old new (changes.PutBack p place part)) q.is made) spot is
  inverse-turned (changes.Take key) spot is here m fits made =
      turned-at s.names old new d z sound (edits.Remove key) spot is here (take-below s.names old d z key (take-fits s.names old d z c key m fits)) made
  inverse-turned (changes.Name key n) spot is here m fits made =
      turned-at s.names old new d z sound (edits.Rename key n) spot is here (name-kind s.names old d z c key n m fits, (names s.names c key n m).0) made
  inverse-turned (changes.Attr key n place value) spot is here m fits made =
      let h = holds_element old key (write-kind s.names old d z c key n place value m fits) in
      let now = record h.e { attributes = written_number n place value h.e.attributes } in
      subst (TurnsAt s.names old new) (sym is) (ap is_element_by h.is ∙ ap is_element h.holds, element-reattributed s.names old new d z key h.it h.is (contents.Element now) (made h.it h.e h.is h.holds) h.e now refl h.holds refl refl)
  inverse-turned (changes.Chars key chars) spot is here m fits made =
      turned-at s.names old new d z sound (edits.SetText key chars) spot is here (reword-kind s.names old d z c key chars m fits) made

  -- ---- the steps

  pub inverse-takes : (first last : ℕ) (change : Change) (spot : Spot) → IsSpotOf old change spot → ((n : ℕ) → spot ≡ Pruned n → ⊥) → Means s.names change c → law.Fits d c → IsMade s.names old new change c →
      TakesSpot s new k spot first last → TakesInverse s old new k change first last
  inverse-takes first last (changes.PutBack p place part) spot is here m fits made taken =
      let q = puts_back s.names d c p place part m fits in
      put-takes s old new k r d z sound p place part q.f q.part_is q.can (subst (IsMade s.names old new (changes.PutBack p place part)) q.is made) spot is first last taken
  inverse-takes first last (changes.Take key) spot is here m fits made taken =
      takes-change s old new k r d z sound first last (edits.Remove key) spot is here (take-below s.names old d z key (take-fits s.names old d z c key m fits)) made taken
  inverse-takes first last (changes.Name key n) spot is here m fits made taken =
      takes-change s old new k r d z sound first last (edits.Rename key n) spot is here (name-kind s.names old d z c key n m fits, (names s.names c key n m).0) made taken
  inverse-takes first last (changes.Attr key n place value) spot is here m fits made taken = subst (λ (x : Spot). TakesSpot s new k x first last) is taken
  inverse-takes first last (changes.Chars key chars) spot is here m fits made taken =
      takes-change s old new k r d z sound first last (edits.SetText key chars) spot is here (reword-kind s.names old d z c key chars m fits) made taken

-- ---- an element that is taken out

pub pruned-inverse : (ns : Nodes) (change : Change) (n : ℕ) → IsSpotOf ns change (Pruned n) → (change ≡ changes.Take n) × (is_element_at ns n ≡ true)
pruned-inverse ns (changes.PutBack parent index part) n is = absurd (none-pruned part is)
  where
    none-pruned : (part : List PartRow) → IsReturn part parent (Pruned n) → ⊥
    none-pruned [] is = is
    none-pruned (row ∷ more) is = by row.content is
      where
        by : (held : Content) → Pruned n ≡ returns_at parent row.number held → ⊥
        by (contents.Element e) bad = absurd (cc)
        by (contents.Chars chars) bad = absurd (cc)
pruned-inverse ns (changes.Take key) n is = (ap changes.Take (sym is.0), subst (λ (m : ℕ). is_element_at ns m ≡ true) (sym is.0) is.1)
pruned-inverse ns (changes.Name key name) n is = let bad : Pruned n ≡ Renamed key = is in absurd (cc)
pruned-inverse ns (changes.Attr key name place value) n is = let bad : Pruned n ≡ Attributed key = is in absurd (cc)
pruned-inverse ns (changes.Chars key chars) n is = let bad : Pruned n ≡ Retexted is.0 = is.2 in absurd (cc)

pub takes-out : (s : Compiled) (old new : Nodes) (k : KeptState) (change : Change) (n : ℕ) → IsSpotOf old change (Pruned n) → parent_at old n ≢ None → (first last : ℕ) →
    ((parent : ℕ) → parent_at old n ≡ Some parent → TakesBelow s new k parent (width new parent + 1) first last) → TakesInverse s old new k change first last
takes-out s old new k change n is below first last taken =
    let e = pruned-inverse old change n is in
    subst (λ (x : Change). TakesInverse s old new k x first last) (sym e.0) (subst (λ (b : Bool). TakesAway s new k b (parent_at old n) first last) (sym e.1) (by (parent_at old n) refl))
  where
    by : (o : Option ℕ) → parent_at old n ≡ o → TakesAway s new k true o first last
    by None q = absurd (below q)
    by (Some p) q = taken p q
