-- `set` writes one cell. Assumes `Logic`.
use Rattle.map_rows.proofs.Walks.{◌≡◌, ℕ, ◌+◌, ◌*◌, ◌^◌, ◌<◌, [], ◌∷◌, refl, sym, ◌∙◌, arith, proved, full_share, id⊢, ftrue, fat, flft, named, vunit, fact, tables, ‵, raw, ◌⊛◌, at_ret, ◌$◌, ◌∵◌, !, qed, done, move, keep, use1, split, join, fsplit, fsplit3, fjoin, feq_i, rewrite, suffices, frame, group, enter, of_opd, lit, unit_lit, bin, stop, fld, assigns_last, first, blocks, exec, returns, alloc_all, pass_all, free_all, look_at, get, through, sets, env, uint_in, uint_vals, uint_Tells, Ptr, in_a_block, MutRef, mut_vals, mut_Tells, plain, yes, nothing, heard, opens, closes, Stays, walk_of, says, stay_ref, Goes-ref, stay_dropped, Goes-dropped, ends_at, ty_int}
use Rattle.std.proofs.Common.{length, get_or, set, Some, None, w16, w64, length-set}
use types.Kit.{flt_l, flt_i}
use types.Part.{whole, sub}
use types.Run.{init}
use base.Fml.{froom, fsep}
use Rattle.map_rows.proofs.Values.{base_val, base_typed}
use denote.Param.{layout}
use types.ByLocal.{get_in, take_at, give_at}
use denote.RattleType.{owns}
use denote.Builtin.{u16, usize}
use denote.Memory.{part_at}
use denote.Index.{place_is, place as nth}
use Rattle.std.proofs.VecSteps.Shapes.{after}
use Rattle.map_rows.specs.Memory.{cells_own, slot, slots}
use Rattle.map_rows.proofs.Places.{besides, slot_out, slot_in, slot_room}
use Rattle.map_rows.specs.contracts.block.Cells.set as f
use Rattle.map_rows.proofs.block.Cells.set.Statement.{statement}
use Rattle.map_rows.proofs.block.Cells.set.Code as code
use Rattle.map_rows.specs.contracts.block.Cells.{the_row as R}
use Rattle.map_rows.specs.contracts.block.Base.{the_row as B}
use Rattle.map_rows.proofs.block.Base.TheLaws.{lowers}

abbrev stayed : Stays f.ended.signature.params f.ended.kept
stayed = (stay_ref (0 ∷ []) tt (plain (λ _. R)), (stay_dropped (plain (λ _. B)) yes, (stay_dropped (plain (λ _. usize)) yes, (stay_dropped (plain (λ _. u16)) yes, tt))))

pub set_spec : {M : Type 1} → statement M
set_spec 𝓤 𝓛 𝓜 𝓡 wired =
    let c = f.clauses 𝓛 𝓜.mem 𝓡.returns in let W = walk_of 𝓛 f.ended stayed c in let 𝓣 = tables 𝓤 𝓛.H 𝓜 𝓡 𝓡.env in
    proved 𝓛 f.ended stayed c 𝓜 𝓡 (Goes-ref 𝓛 1 0 tt (plain (λ _. R)), (Goes-dropped 𝓛 1 (plain (λ _. B)) yes (λ κs x w. refl), (Goes-dropped 𝓛 1 (plain (λ _. usize)) yes (λ κs x w. refl), (Goes-dropped 𝓛 1 (plain (λ _. u16)) yes (λ κs x w. refl), tt))))
    f.Key.name code.function (code.unfolded 𝓤 𝓛.H 𝓜 𝓡 wired)
    (λ κs. (mut_vals, ((λ x. base_val x.at ∷ []), (uint_vals w64, (uint_vals w16, tt))))) (λ κs. (mut_Tells (named 0) κs.0 R, ((λ x vs is. lowers.val_is x vs is), (uint_Tells w64, (uint_Tells w16, tt))))) (λ κs qs bounds a _ are.
    let b = a.0.ref_ptr.0 in let o = a.0.ref_ptr.1 in let h = a.0.now in let vs = mut_vals a.0 in
    let p = a.1.0.at in let i = a.1.1.0 in let v = a.1.1.1.0 in
    let fi = are.1.1.0.1 in let fv = are.1.1.1.0.1 in
    let y : W.Ghost = ((κs, qs, bounds, a, (vs, (base_val p ∷ [], (uint_vals w64 i, (uint_vals w16 v, tt))))), tt) in
    let cs = h.slots in let Asked : Type 0 = (p ≡ h.at) × (i < length cs) in
    qed 𝓛 (((‵ (flft κs.0 qs.0) ⊛ ‵ ftrue) ⊛ ‵ (owns (MutRef (named 0) κs.0 R ∷ B ∷ usize ∷ u16 ∷ []) a (vs, (base_val p ∷ [], (uint_vals w64 i, (uint_vals w16 v, tt)))))) ∷ raw (fact 𝓤 Asked) ∷ []) ∵
    move ! (1 ∷ []) $ heard ! Asked (λ asked. let inside = asked.1 in
    split ! $ split ! $ move ! (2 ∷ []) $ fsplit ! $ keep ! (0 ∷ 2 ∷ []) $
    enter ! _ _ _ _ _ $ alloc_all ! (λ l. pass_all ! refl ((tt, tt), (base_typed p, ((tt, record { fits = fi }), ((tt, record { fits = fv }), tt)))) $
    fsplit3 ! $ move ! (1 ∷ 2 ∷ 3 ∷ []) $ opens ! tt R b o (λ us.
    move ! (1 ∷ []) $ fsplit ! $ move ! (1 ∷ []) $
    in_a_block ! h.at (λ p. cells_own p cs) (id⊢ 𝓤 _) (λ b' o' e.
    fsplit ! $ flt_l ! (λ small.
    let zs = set cs i (Some v) in
    let rest = besides b' o' cs i in
    let offset : i * 2 < 2 ^ 64 = omega (arith, inside, small) in
    take_at ! 2 $ rewrite ! 0 (λ (r : Ptr). ‵ (fat full_share (layout B) (l 2) 0 (base_val r))) (asked.0 ∙ e) refl $ give_at ! 2 $
    -- [the cells; what the fields own; the struct's cell; the open borrow, in three entries]
    use1 𝓛 (‵ (fsep (slot b' (nth 2 o' i) (get_or cs i None)) rest)) (slot_out 𝓛 b' o' cs i inside) $ fsplit ! $
    use1 𝓛 (‵ (froom (ty_int w16) b' (nth 2 o' i))) (slot_room 𝓛 b' (nth 2 o' i) (get_or cs i None)) $
    rewrite ! 0 (λ (k : ℕ). ‵ (froom (ty_int w16) b' k)) (place_is 2 o' i) refl $
    -- [room for the cell; the other cells; what the fields own; the struct's cell; ..]
    first ! $ blocks ! $
    sets ! (bin ! (get ! refl) (lit ! tt) (record { fits = offset })) refl (tt, record { fits = offset }) $
    sets ! (bin ! (get_in ! (fld ! refl (stop !)) (sub ! 0 refl (whole !))) (get ! refl) tt) refl (tt, tt) $
    assigns_last ! (of_opd ! (get ! refl)) (through ! refl (stop !)) (init ! 0 refl (tt, record { fits = fv })) $
    exec ! 𝓣.C 𝓣.Λ (env code.Mir.locals l) (after 1 (code.function).body) (at_ret _ (W.post y)) $
    sets ! (of_opd ! (unit_lit !)) refl (tt, tt) $
    use1 𝓛 (‵ (part_at u16 full_share v b' (i * 2 + o'))) (uint_in 𝓛 full_share w16 v b' (i * 2 + o')) $
    rewrite ! 0 (λ (k : ℕ). ‵ (slot b' k (Some v))) (sym (place_is 2 o' i)) refl $
    fjoin ! $ use1 𝓛 (‵ (slots b' o' zs)) (slot_in 𝓛 b' o' cs i (Some v) inside) $
    flt_i ! (length zs * 2) (2 ^ 63) (let same : length zs ≡ length cs = length-set cs i (Some v) in omega (arith, same, small)) $ fjoin ! $
    rewrite ! 0 (λ (p : Ptr). ‵ (cells_own p zs)) (sym e) refl $
    move ! (1 ∷ []) $ fjoin ! $ move ! (1 ∷ []) $ closes ! tt R (record h { slots = zs }) us b o $
    returns ! (look_at ! 0 refl) $ free_all ! refl $ move ! (3 ∷ []) $
    suffices ! _ (ends_at 𝓛 f.ended stayed c y vunit tt (record h { slots = zs }, (tt, (tt, (tt, tt)))) (tt, (tt, (tt, (tt, tt))))) $ says ! (refl, refl) $
    group ! 3 $ nothing ! $ nothing ! $ join ! $ nothing ! $ join ! $ nothing ! $ join ! $ move ! (1 ∷ 0 ∷ []) $ join ! $ nothing ! $ move ! (2 ∷ 0 ∷ []) $ join ! $ frame ! $ frame ! $
    feq_i ! _ (vunit ∷ []) _ refl $ done !))))))
