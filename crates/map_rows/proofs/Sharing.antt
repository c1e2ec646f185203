-- A `&` to cells is made of one to each number. Assumes `Logic`.
use Rattle.std.proofs.Common.{ℕ, ◌+◌, List, [], ◌∷◌, Option, Some, None}
use seplogic.Ra.Ura.{Ura}
use mir.Syntax.{w16, ty_int}
use base.Fml.{Lft, Incl, ftrue, ffalse, froom}
use types.Logic.{Logic}
use denote.Builtin.{u16}
use denote.RawPtr.{Ptr, block_ptr, null_ptr}
use denote.Param.Shared.{Sharable, copy_shared}
use denote.Struct.Field.{u16-field}
use denote.Struct.Laws.{u16-copy}
use denote.Sharing.{ShrLaws, said}
use denote.SharingLaws.{beside_shr_laws, nothing_shr_laws, said_shr_laws}
use denote.Shares.{Shares-less}
use denote.Struct.Lending.{Lends, Lends-both, Lends-nothing, Lends-said, Lends-false}
use Rattle.map_rows.specs.Memory.{fit, slot, slots, slot_lent, slots_lent, cells_own, cells_lent}

number : Sharable u16-field
number = copy_shared u16-field u16-copy

slot_lent_laws : (b o : ℕ) (c : Option ℕ) → ShrLaws (slot_lent b o c)
slot_lent_laws b o (Some x) = number.shr_laws x b o
slot_lent_laws b o None = nothing_shr_laws

slots_lent_laws : (b o : ℕ) (cs : List (Option ℕ)) → ShrLaws (slots_lent b o cs)
slots_lent_laws b o [] = nothing_shr_laws
slots_lent_laws b o (c ∷ cs) = beside_shr_laws _ _ (slot_lent_laws b o c) (slots_lent_laws b (o + 2) cs)

pub cells_lent_laws : (p : Ptr) (cs : List (Option ℕ)) → ShrLaws (cells_lent p cs)
cells_lent_laws (block_ptr b o) cs = beside_shr_laws _ _ (said_shr_laws (fit cs) tt) (slots_lent_laws b o cs)
cells_lent_laws null_ptr cs = said_shr_laws ffalse tt

module _ {M : Type 1} {𝓤 : Ura M} (𝓛 : Logic 𝓤) (l : Lft) (inc : Incl l u16.lives) where
  Lends-slot : (b o : ℕ) (c : Option ℕ) → Lends 𝓛 (slot b o c) (slot_lent b o c) l
  Lends-slot b o (Some x) = λ κ ts. Shares-less 𝓛 u16 u16.lives l inc (number.shares M 𝓤 𝓛) x κ ts b o
  Lends-slot b o None = Lends-nothing 𝓛 (froom (ty_int w16) b o) l

  Lends-slots : (b o : ℕ) (cs : List (Option ℕ)) → Lends 𝓛 (slots b o cs) (slots_lent b o cs) l
  Lends-slots b o [] = Lends-nothing 𝓛 ftrue l
  Lends-slots b o (c ∷ cs) = Lends-both 𝓛 (slot b o c) (slots b (o + 2) cs) (slot_lent b o c) (slots_lent b (o + 2) cs) l (Lends-slot b o c) (Lends-slots b (o + 2) cs)

  pub Lends-cells : (p : Ptr) (cs : List (Option ℕ)) → Lends 𝓛 (cells_own p cs) (cells_lent p cs) l
  Lends-cells (block_ptr b o) cs = Lends-both 𝓛 (fit cs) (slots b o cs) (said (fit cs)) (slots_lent b o cs) l (Lends-said 𝓛 (fit cs) tt l) (Lends-slots b o cs)
  Lends-cells null_ptr cs = Lends-false 𝓛 (said ffalse) l
