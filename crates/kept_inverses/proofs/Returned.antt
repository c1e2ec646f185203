-- A part that came back among the nodes of a document.
use Rattle.std.proofs.Common.{◌≡◌, ◌≢◌, ℕ, ◌≤◌, ◌<◌, List, ◌||◌, length, Bool, true, false, Option, None, Some, refl, sym, ap, ◌∙◌, subst, arith}
use Rattle.std.proofs.lemmas.Bool.{ne_eqb}
use Rattle.std.proofs.lemmas.Option.{none-some}
use Rattle.xs_names.specs.Names.{NameTable}
use Rattle.tree_rows.specs.Forest.{Forest, none, text, element, Document}
use Rattle.tree_rows.specs.Whole.{times}
use Rattle.tree_edits.specs.Edits.{has}
use Rattle.compiled_schema.specs.declared.compiled.Compiled.{Compiled}
use Rattle.doc_nodes.specs.Nodes.{Node, Nodes, node, IsNode, IsSound, is_element, is_element_by, is_element_at}
use Rattle.doc_changes.specs.Stands.{StandsFor}
use Rattle.doc_changes.proofs.Standing.{has_times}
use Rattle.doc_changes.proofs.Placing.{IsParent, parent_of}
use Rattle.tree_edits.specs.Inverses.{CanPutBack}
use Rattle.tree_edits.specs.Sites.{first_number}
use Rattle.tree_edits.proofs.Twice.{absent, own_one}
use Rattle.doc_tree.specs.Parts.{IsPart, Grafts}
use Rattle.doc_tree.specs.declared.part.PartRow.{PartRow}
use Rattle.kept_changes.specs.Own.{Retexts}
use Rattle.kept_changes.specs.Turned.{TurnsAt}
use Rattle.kept_changes.proofs.Turned.{comes-there}
use Rattle.kept_changes.specs.from_kept_state.KeptState.{KeptState}
use Rattle.kept_changes.specs.from_kept_children.Edited.{IsRightFor, ComesAt}
use Rattle.kept_changes.specs.Spots.{HasChangedAt, TakesSpot}
use Rattle.kept_changes.specs.declared.change.Spot.{Spot}
use Rattle.kept_changes.specs.declared.change.Spot.TheVariants.{Retexted}
use Rattle.kept_changes.proofs.Came.{came, come-up}
use Rattle.kept_changes.proofs.Changed.{text-came}
use Rattle.kept_inverses.specs.Spots.{IsReturn}
use Rattle.kept_inverses.specs.Steps.{TakesPart}

module _ (t : NameTable) (old new : Nodes) (d : Document) (z : StandsFor t old d) (p place : ℕ) (f : Forest) (can : CanPutBack d p place f) (grafts : Grafts t old new p place f) where
  -- what was a node is none of the part
  apart : (m : ℕ) (it : Node) → IsNode old m it → times m f ≡ 0
  apart m it is =
      let there = has_times m d.forest (z.only m it is) in
      let most = can.differ m in
      omega (arith, there, most)

  pub grafts-come : ComesAt old new p place (first_number f)
  grafts-come = record { parent = grafts.parent; others = λ m it is other. grafts.others m (absent m f (apart m it is)) other }

  -- none of the part was a node
  pub was-free : (m : ℕ) → 1 ≤ times m f → node old m ≡ None
  was-free m among = by (node old m) refl
    where
      by : (o : Option Node) → node old m ≡ o → node old m ≡ None
      by None e = e
      by (Some it) e = let no = apart m it e in absurd (omega (arith, no, among))

  -- the element that gets it
  pub parent-is : is_element_at old p ≡ true
  parent-is = let own : IsParent t old d p = parent_of t old d p z can.element in ap is_element_by own.shown.is ∙ ap is_element own.shown.content

  pub parent-node : (it : Node) × IsNode old p it
  parent-node = let own : IsParent t old d p = parent_of t old d p z can.element in (own.shown.it, own.shown.is)

-- ---- the part is a text

module _ (c : Compiled) (old new : Nodes) (k : KeptState) (r : IsRightFor c old k) (d : Document) (z : StandsFor c.names old d) (sound : IsSound new) (p place : ℕ) where
  module _ (n : ℕ) (chars : List ℕ) (next : Forest) (can : CanPutBack d p place (text n chars next)) (grafts : Grafts c.names old new p place (text n chars next)) where
    own : 1 ≤ times n (text n chars next)
    own = let one = own_one n n refl in omega (arith, one)

    free : node old n ≡ None
    free = was-free c.names old new d z p place (text n chars next) can grafts n (own)

    not-among : (m : ℕ) → m ≢ n → has m (text n chars next) ≡ false
    not-among m other = ap (λ (b : Bool). b || has m next) (ne_eqb n m (λ e. other (sym e))) ∙ ap (has m) can.one

    texts-returned : Retexts old new p
    texts-returned =
        let above = parent-node c.names old new d z p place (text n chars next) can grafts in
        text-came c.names old new d z p place above.0 above.1 n (grafts-come c.names old new d z p place (text n chars next) can grafts) (ap is_element_by (free))
        (ap is_element_by grafts.stand.0.is ∙ ap is_element grafts.stand.0.content)
        (λ m other gone. ap is_element_by (grafts.others m (not-among m other) (λ e. none-some above.0 (sym gone ∙ ap (node old) e ∙ above.1)) ∙ gone))

    pub text-returned : HasChangedAt c new k (Retexted p)
    text-returned = record { old = old; right = r; element = parent-is c.names old new d z p place (text n chars next) can grafts; retexts = texts-returned }

  -- ---- it is an element

  pub put-at : (part : List PartRow) (f : Forest) → IsPart c.names part f → CanPutBack d p place f → Grafts c.names old new p place f → (spot : Spot) → IsReturn part p spot → HasChangedAt c new k spot
  put-at part none is can grafts spot here = absurd can.one
  put-at part (text n chars next) is can grafts spot here =
      subst (HasChangedAt c new k) (sym (subst (λ (rows : List PartRow). IsReturn rows p spot) is.1 here)) (text-returned n chars next can grafts)
  put-at part (element n name bindings attributes children next) is can grafts spot here =
      let f = element n name bindings attributes children next in
      subst (HasChangedAt c new k) (sym (subst (λ (rows : List PartRow). IsReturn rows p spot) is.3 here))
      (came c old new k r d z sound p place n can.element (ap is_element_by grafts.stand.0.is ∙ ap is_element grafts.stand.0.content) (grafts-come c.names old new d z p place f can grafts))

  pub put-turned : (part : List PartRow) (f : Forest) → IsPart c.names part f → CanPutBack d p place f → Grafts c.names old new p place f → (spot : Spot) → IsReturn part p spot → TurnsAt c.names old new spot
  put-turned part none is can grafts spot here = absurd can.one
  put-turned part (text n chars next) is can grafts spot here =
      subst (TurnsAt c.names old new) (sym (subst (λ (rows : List PartRow). IsReturn rows p spot) is.1 here)) (parent-is c.names old new d z p place (text n chars next) can grafts, texts-returned n chars next can grafts)
  put-turned part (element n name bindings attributes children next) is can grafts spot here =
      let f = element n name bindings attributes children next in
      subst (TurnsAt c.names old new) (sym (subst (λ (rows : List PartRow). IsReturn rows p spot) is.3 here))
      (comes-there c.names old new d z sound p place n can.element (ap is_element_by grafts.stand.0.is ∙ ap is_element grafts.stand.0.content) (grafts-come c.names old new d z p place f can grafts))

  -- ---- the steps

  pub put-takes : (part : List PartRow) (f : Forest) → IsPart c.names part f → CanPutBack d p place f → Grafts c.names old new p place f → (spot : Spot) → IsReturn part p spot → (first last : ℕ) →
      TakesSpot c new k spot first last → TakesPart c new k part p first last
  put-takes part none is can grafts spot here first last takes = absurd can.one
  put-takes part (text n chars next) is can grafts spot here first last takes =
      subst (λ (rows : List PartRow). TakesPart c new k rows p first last) (sym is.1)
      (subst (λ (x : Spot). TakesSpot c new k x first last) (subst (λ (rows : List PartRow). IsReturn rows p spot) is.1 here) takes)
  put-takes part (element n name bindings attributes children next) is can grafts spot here first last takes =
      let f = element n name bindings attributes children next in
      subst (λ (rows : List PartRow). TakesPart c new k rows p first last) (sym is.3)
      (subst (λ (x : Spot). TakesSpot c new k x first last) (subst (λ (rows : List PartRow). IsReturn rows p spot) is.3 here) takes p
      (come-up c.names old new d z sound p place n can.element (grafts-come c.names old new d z p place f can grafts)))

-- a part has a first row
pub some-row : (t : NameTable) (part : List PartRow) (d : Document) (p place : ℕ) (f : Forest) → IsPart t part f → CanPutBack d p place f → 0 < length part
some-row t part d p place none is can = absurd can.one
some-row t part d p place (text n chars next) is can = let many = ap length is.1 in omega (arith, many)
some-row t part d p place (element n name bindings attributes children next) is can = let many = ap length is.3 in omega (arith, many)
