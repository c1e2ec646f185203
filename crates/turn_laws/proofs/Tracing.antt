-- What is remembered of the steps of a history: what the edit of each touched, and a list of children.
use Rattle.std.proofs.Common.{◌≡◌, ℕ, zero, suc, ◌<◌, List, [], ◌∷◌, ◌++◌, map, drop, Some, refl, sym, ap, ◌∙◌, subst}
use Rattle.std.specs.Prelude.{All}
use Rattle.tree_rows.specs.Forest.{Forest}
use Rattle.tree_edits.specs.Inverses.{Change}
use Rattle.edit_history.specs.declared.touched.Touched.{Touched}
use Rattle.xsv_run.specs.from_open_document.Touches.{touches}
use Rattle.turn_laws.specs.Lists.{Child, list_at}
use Rattle.turn_laws.proofs.Changing.{inverse_at}
use Rattle.turn_laws.proofs.Lists.{IsListed}

-- a tree of the history, and the list that its element has, or had, or will have
pub record Side : Type 0 where
  pub tree : Forest
  pub list : List Child

-- a step of the history: what its edit touched, the change that it makes, and where it goes
pub record Entry : Type 0 where
  pub keys : Touched
  pub change : Change
  pub side : Side

abbrev pub tree_of : Entry → Forest
tree_of e = e.side.tree

abbrev pub keys_of : Entry → Touched
keys_of e = e.keys

abbrev pub change_of_entry : Entry → Change
change_of_entry e = e.change

-- the same step, seen from where it goes
abbrev pub turned : Entry → Side → Entry
turned e near = record { keys = e.keys; change = inverse_at near.tree e.change; side = near }

-- where a step goes from here
abbrev pub first_side : List Entry → Side → Side
first_side [] near = near
first_side (e ∷ es) near = e.side

module _ (parent : ℕ) where
  -- A step that leads from one side to the other: undone and made again it is the same; and where it does not touch the list, that stays.
  pub record IsBetween (e : Entry) (near : Side) : Type 0 where
    pub again : inverse_at e.side.tree (inverse_at near.tree e.change) ≡ e.change
    pub same : (e.keys.list ≡ Some parent → ⊥) → e.side.list ≡ near.list
    pub there : e.keys.list ≡ Some parent → IsListed parent e.side.tree × IsListed parent near.tree

  -- it undoes an edit, or makes one again
  abbrev pub IsBack : Entry → Side → Type 0
  IsBack e near = IsBetween e near × (touches (inverse_at near.tree e.change) e.side.tree ≡ e.keys)

  abbrev pub IsOn : Entry → Side → Type 0
  IsOn e near = IsBetween e near × (touches e.change near.tree ≡ e.keys)

  abbrev pub AreBack : List Entry → Side → Type 0
  AreBack [] near = Unit {0}
  AreBack (e ∷ es) near = IsBack e (first_side es near) × AreBack es near

  abbrev pub AreOn : List Entry → Side → Type 0
  AreOn [] near = Unit {0}
  AreOn (e ∷ es) near = IsOn e near × AreOn es e.side

  -- the list is that of the element, where the tree has it; and its number was given out
  abbrev pub Holds : ℕ → Side → Type 0
  Holds free side = (l : List Child) → list_at parent side.tree ≡ Some l → (l ≡ side.list) × (parent < free)

  abbrev pub AllHold : ℕ → List Entry → Type 0
  AllHold free es = All (λ (e : Entry). Holds free e.side) es

  -- ---- more steps, and fewer

  first_push : (es : List Entry) (e : Entry) (near : Side) → first_side es e.side ≡ first_side (es ++ e ∷ []) near
  first_push [] e near = refl
  first_push (x ∷ es) e near = refl

  pub back_push : (es : List Entry) (e : Entry) (near : Side) → AreBack es e.side → IsBack e near → AreBack (es ++ e ∷ []) near
  back_push [] e near h is = (is, tt)
  back_push (x ∷ es) e near h is = (subst (λ (s : Side). IsBack x s) (first_push es e near) h.0, back_push es e near h.1 is)

  pub back_drop : (n : ℕ) (es : List Entry) (near : Side) → AreBack es near → AreBack (drop n es) near
  back_drop zero es near h = h
  back_drop (suc n) [] near h = tt
  back_drop (suc n) (e ∷ es) near h = back_drop n es near h.1

  pub back_pop : (es : List Entry) (e : Entry) (near : Side) → AreBack (es ++ e ∷ []) near → IsBack e near × AreBack es e.side
  back_pop [] e near h = (h.0, tt)
  back_pop (x ∷ es) e near h = let rest = back_pop es e near h.1 in (rest.0, (subst (λ (s : Side). IsBack x s) (sym (first_push es e near)) h.0, rest.1))

  -- ---- a step that was made

  between_turned : (e : Entry) (near : Side) → IsBetween e near → IsBetween (turned e near) e.side
  between_turned e near is = record {
    again = ap (inverse_at near.tree) is.again;
    same = λ far. sym (is.same far);
    there = λ has. let both = is.there has in (both.1, both.0);
  }

  -- an undo can be redone
  pub undone_on : (e : Entry) (near : Side) → IsBack e near → IsOn (turned e near) e.side
  undone_on e near is = (between_turned e near is.0, is.1)

  -- a redo can be undone
  pub redone_back : (e : Entry) (near : Side) → IsOn e near → IsBack (turned e near) e.side
  redone_back e near is = (between_turned e near is.0, ap (λ (c : Change). touches c near.tree) is.0.again ∙ is.1)

  -- ---- all lists as one

  module _ (list : List Child) where
    abbrev pub side_with : Side → Side
    side_with side = record side { list = list }

    abbrev pub entry_with : Entry → Entry
    entry_with e = record e { side = side_with e.side }

    first_with : (es : List Entry) (near : Side) → first_side (map entry_with es) (side_with near) ≡ side_with (first_side es near)
    first_with [] near = refl
    first_with (e ∷ es) near = refl

    back_with : (e : Entry) (near : Side) → IsBack e near → IsBack (entry_with e) (side_with near)
    back_with e near is = (record { again = is.0.again; same = λ far. refl; there = is.0.there }, is.1)

    pub all_with : (es : List Entry) (near : Side) → AreBack es near → AreBack (map entry_with es) (side_with near)
    all_with [] near h = tt
    all_with (e ∷ es) near h = (
      subst (λ (s : Side). IsBack (entry_with e) s) (sym (first_with es near)) (back_with e (first_side es near) h.0),
      all_with es near h.1,
    )

    pub keys_with : (es : List Entry) → map keys_of (map entry_with es) ≡ map keys_of es
    keys_with [] = refl
    keys_with (e ∷ es) = ap (λ (l : List Touched). e.keys ∷ l) (keys_with es)

    pub changes_with : (es : List Entry) → map change_of_entry (map entry_with es) ≡ map change_of_entry es
    changes_with [] = refl
    changes_with (e ∷ es) = ap (λ (l : List Change). e.change ∷ l) (changes_with es)

    pub trees_with : (es : List Entry) → map tree_of (map entry_with es) ≡ map tree_of es
    trees_with [] = refl
    trees_with (e ∷ es) = ap (λ (l : List Forest). e.side.tree ∷ l) (trees_with es)
