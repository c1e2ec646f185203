-- By two right lists of marks of ID types the same attribute uses break the same constraints (Structures 3.4.6, 3.6.6).
use Rattle.std.proofs.Common.{◌≡◌, ◌↔◌, inl, inr, ℕ, Bool, true, false, List, Option, None, Some, refl, sym, ◌∙◌}
use Rattle.std.specs.Prelude.{slice_index_or}
use Rattle.std.proofs.lemmas.Bool.{false≢true}
use Rattle.xs_codes.specs.declared.code.Code.{Code}
use Rattle.xs_codes.specs.declared.fault.Fault.{Fault}
use Rattle.xs_components.specs.Tables.{Tables}
use Rattle.xs_components.specs.declared.attribute.AttrUse.{AttrUse}
use Rattle.attr_uses.specs.declared.entry.UseAt.{UseAt}
use Rattle.attr_uses.specs.Written.{use_at}
use Rattle.attr_uses.specs.Uses.{AttrUses, use_named}
use Rattle.attr_uses.specs.Tables.{is_id_use, is_id_named, HasTwoIds}
use Rattle.derive_faults.specs.AttrFaults.{AreIdMarks, BreaksProps, IsTypeAt, IsGroupAt, IsAttrFault}

truth-same : (x y : Bool) (P : Type 0) → (x ≡ true) ↔ P → (y ≡ true) ↔ P → x ≡ y
truth-same true true P p q = refl
truth-same true false P p q = absurd (false≢true (q.1 (p.0 refl)))
truth-same false true P p q = absurd (false≢true (p.1 (q.0 refl)))
truth-same false false P p q = refl

pub marks-same : (t : Tables) (f g : List Bool) → AreIdMarks t f → AreIdMarks t g → (n : ℕ) → slice_index_or f n false ≡ slice_index_or g n false
marks-same t f g one other n = truth-same (slice_index_or f n false) (slice_index_or g n false) _ (one n) (other n)

module _ (t : Tables) (f g : List Bool) (same : (n : ℕ) → slice_index_or f n false ≡ slice_index_or g n false) where
  use-same : (part : Option AttrUse) → is_id_use f part ≡ is_id_use g part
  use-same None = refl
  use-same (Some part) = same part.attribute

  named-same : (u : Option UseAt) → is_id_named t f u ≡ is_id_named t g u
  named-same None = refl
  named-same (Some u) = use-same (use_at t u)

  ids-too : (uses : List UseAt) → HasTwoIds t f uses → HasTwoIds t g uses
  ids-too uses h = (h.0, h.1, h.2, h.3, sym (named-same (use_named t uses h.0)) ∙ h.4, sym (named-same (use_named t uses h.1)) ∙ h.5)

  props-too : (of_one_name of_ids : Code) (own : AttrUses) (code : Code) → BreaksProps t f of_one_name of_ids own code → BreaksProps t g of_one_name of_ids own code
  props-too of_one_name of_ids own code (inl h) = inl h
  props-too of_one_name of_ids own code (inr h) = inr (ids-too own.uses h.0, h.1)

  type-too : (n : ℕ) (fault : Fault) → IsTypeAt t f n fault → IsTypeAt t g n fault
  type-too n fault (l, inl h) = (l, inl h)
  type-too n fault (l, inr h) = (l, inr (h.0, h.1, h.2, (h.3.0, h.3.1, props-too _ _ h.3.0 h.1 h.3.2), h.4))

  group-too : (n : ℕ) (fault : Fault) → IsGroupAt t f n fault → IsGroupAt t g n fault
  group-too n fault (l, inl h) = (l, inl h)
  group-too n fault (l, inr h) = (l, inr (h.0, h.1, h.2, (h.3.0, h.3.1, props-too _ _ h.3.0 h.1 h.3.2), h.4))

  pub attr-too : (fault : Fault) → IsAttrFault t f fault → IsAttrFault t g fault
  attr-too fault (inl h) = inl (h.0, type-too h.0 fault h.1)
  attr-too fault (inr h) = inr (h.0, group-too h.0 fault h.1)
