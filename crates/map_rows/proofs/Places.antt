-- One cell is taken out of the others, put back, or seen, and room is cut into cells and joined again. Assumes `Logic`.
use Rattle.std.proofs.Common.{◌≡◌, ℕ, zero, suc, ◌+◌, ◌<◌, List, [], ◌∷◌, length, get_or, set, replicate, Option, Some, None, arith}
use seplogic.Ra.Ura.{Ura}
use mir.Syntax.{w16, ty_int}
use mir.Val.{vint}
use base.Fraction.{full_share}
use base.Logic.{ent, id⊢}
use base.Fml.{Lft, Fml, ftrue, fsep, fat, froom}
use types.Logic.{Logic, sem}
use types.Kit.{‵, ◌⊛◌, ◌$◌, ◌∵◌, !, qed, by, move, keep, drop, use1, split, fsplit, fjoin, done}
use denote.Index.{place as nth}
use denote.Plain.{uint_out}
use denote.Steps.{nothing}
use Rattle.map_rows.specs.Memory.{units_of, slot, slots, slot_lent, slots_lent}

-- the cells but for one
abbrev pub besides : ℕ → ℕ → List (Option ℕ) → ℕ → Fml
besides b o [] i = ftrue
besides b o (c ∷ cs) zero = slots b (o + 2) cs
besides b o (c ∷ cs) (suc i) = fsep (slot b o c) (besides b (o + 2) cs i)

module _ {M : Type 1} {𝓤 : Ura M} (𝓛 : Logic 𝓤) (b : ℕ) where
  open 𝓛 use {H}

  pub slot_out : (o : ℕ) (cs : List (Option ℕ)) (i : ℕ) → i < length cs → ent 𝓤 (sem 𝓛 (slots b o cs)) (sem 𝓛 (fsep (slot b (nth 2 o i) (get_or cs i None)) (besides b o cs i)))
  slot_out o [] i l = absurd (omega arith)
  slot_out o (c ∷ cs) zero l = id⊢ 𝓤 _
  slot_out o (c ∷ cs) (suc i) l = qed 𝓛 (‵ (slots b o (c ∷ cs)) ∷ []) ∵ fsplit ! $ move ! (1 ∷ []) $
      use1 𝓛 (‵ (fsep (slot b (nth 2 (o + 2) i) (get_or cs i None)) (besides b (o + 2) cs i))) (slot_out (o + 2) cs i (omega arith)) $ fsplit ! $ move ! (2 ∷ 1 ∷ []) $ fjoin ! $ move ! (1 ∷ 0 ∷ []) $ fjoin ! $ done !

  pub slot_in : (o : ℕ) (cs : List (Option ℕ)) (i : ℕ) (c : Option ℕ) → i < length cs → ent 𝓤 (sem 𝓛 (fsep (slot b (nth 2 o i) c) (besides b o cs i))) (sem 𝓛 (slots b o (set cs i c)))
  slot_in o [] i c l = absurd (omega arith)
  slot_in o (d ∷ cs) zero c l = id⊢ 𝓤 _
  slot_in o (d ∷ cs) (suc i) c l = qed 𝓛 (‵ (fsep (slot b (nth 2 (o + 2) i) c) (besides b o (d ∷ cs) (suc i))) ∷ []) ∵ fsplit ! $ move ! (1 ∷ []) $ fsplit ! $ move ! (2 ∷ 1 ∷ []) $ fjoin ! $
      use1 𝓛 (‵ (slots b (o + 2) (set cs i c))) (slot_in (o + 2) cs i c (omega arith)) $ move ! (1 ∷ 0 ∷ []) $ fjoin ! $ done !

  -- what a cell holds is forgotten
  pub slot_room : (o : ℕ) (c : Option ℕ) → ent 𝓤 (sem 𝓛 (slot b o c)) (sem 𝓛 (froom (ty_int w16) b o))
  slot_room o None = id⊢ 𝓤 _
  slot_room o (Some x) = qed 𝓛 (‵ (slot b o (Some x)) ∷ []) ∵ use1 𝓛 (‵ (fat full_share (ty_int w16) b o (vint w16 x))) (uint_out 𝓛 full_share w16 x b o) $ by ! (𝓛.laws.at_room (ty_int w16) b o (vint w16 x))

  pub of_room : (n o : ℕ) → ent 𝓤 (sem 𝓛 (froom (units_of n) b o)) (sem 𝓛 (slots b o (replicate n None)))
  of_room zero o = qed 𝓛 (‵ (froom (units_of 0) b o) ∷ []) ∵ keep ! [] $ nothing ! $ done !
  of_room (suc n) o = qed 𝓛 (‵ (froom (units_of (suc n)) b o) ∷ []) ∵
      use1 𝓛 (‵ (froom (ty_int w16) b o) ⊛ ‵ (froom (units_of n) b (o + 2))) (𝓛.laws.room_uncons (ty_int w16) n b o) $ split ! $
      move ! (1 ∷ []) $ use1 𝓛 (‵ (slots b (o + 2) (replicate n None))) (of_room n (o + 2)) $ move ! (1 ∷ 0 ∷ []) $ fjoin ! $ done !

  pub to_room : (cs : List (Option ℕ)) (o : ℕ) → ent 𝓤 (sem 𝓛 (slots b o cs)) (sem 𝓛 (froom (units_of (length cs)) b o))
  to_room [] o = 𝓛.laws.room_nil (ty_int w16) b o
  to_room (c ∷ cs) o = qed 𝓛 (‵ (slots b o (c ∷ cs)) ∷ []) ∵ fsplit ! $ use1 𝓛 (‵ (froom (ty_int w16) b o)) (slot_room o c) $ move ! (1 ∷ []) $
      use1 𝓛 (‵ (froom (units_of (length cs)) b (o + 2))) (to_room cs (o + 2)) $ move ! (1 ∷ []) $ by ! (𝓛.laws.room_cons (ty_int w16) (length cs) b o)

  pub slot_seen : (κ : Lft) (o : ℕ) (cs : List (Option ℕ)) (i : ℕ) → i < length cs → ent 𝓤 (sem 𝓛 (slots_lent b o cs κ)) (sem 𝓛 (slot_lent b (nth 2 o i) (get_or cs i None) κ))
  slot_seen κ o [] i l = absurd (omega arith)
  slot_seen κ o (c ∷ cs) zero l = qed 𝓛 (‵ (slots_lent b o (c ∷ cs) κ) ∷ []) ∵ fsplit ! $ keep ! (0 ∷ []) $ done !
  slot_seen κ o (c ∷ cs) (suc i) l = qed 𝓛 (‵ (slots_lent b o (c ∷ cs) κ) ∷ []) ∵ fsplit ! $ drop ! $ by ! (slot_seen κ (o + 2) cs i (omega arith))

-- a cell that holds a number is one of the cells
pub filled_within : (cs : List (Option ℕ)) (i x : ℕ) → get_or cs i None ≡ Some x → i < length cs
filled_within [] i x e = cc
filled_within (c ∷ cs) zero x e = omega arith
filled_within (c ∷ cs) (suc i) x e = omega (arith, filled_within cs i x e)
