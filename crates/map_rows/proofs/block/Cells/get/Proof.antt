-- `get` reads one number that the cells lend. Assumes `Logic`.
use Rattle.map_rows.proofs.Walks.{◌≡◌, ℕ, ◌+◌, ◌*◌, ◌^◌, ◌<◌, List, [], ◌∷◌, refl, ◌∙◌, arith, proved, id⊢, ftrue, flft, named, Val, vint, fact, tables, ‵, raw, ◌⊛◌, at_ret, ◌$◌, ◌∵◌, !, qed, done, move, keep, drop, use1, split, join, fsplit, fjoin, feq_i, feq_l, rewrite, suffices, enter, of_opd, lit, bin, load, look, stop, fld, first, blocks, exec, returns, alloc_all, pass_all, free_all, look_at, get, through, sets, env, uint_vals, uint_Tells, Ptr, in_a_block, plain, yes, nothing, owned, uint_Makes, heard, Stays, walk_of, says, stay_dropped, Goes-dropped, ends_at}
use Rattle.std.proofs.Common.{length, get_or, Option, None, w16, w64}
use base.Logic.{never}
use types.Kit.{flt_l, flt_i}
use types.Part.{whole, sub}
use types.ByLocal.{sets_last}
use denote.RattleType.{owns}
use denote.Ref.{ShrRef, shr_vals, shr_Tells}
use denote.Builtin.{u16, usize, RefOf}
use denote.Memory.{cell_at, shared_of}
use denote.Opens.{hide, unhide}
use denote.Steps.{looks, shuts}
use denote.Copied.{uint_Copied}
use denote.Index.{place_is, place as nth}
use Rattle.map_rows.proofs.Places.{slot_seen, filled_within}
use Rattle.std.proofs.VecSteps.Shapes.{after}
use Rattle.map_rows.specs.Memory.{IsFilled, cells_lent, slot_lent}
use Rattle.map_rows.specs.contracts.block.Cells.get as f
use Rattle.map_rows.proofs.block.Cells.get.Statement.{statement}
use Rattle.map_rows.proofs.block.Cells.get.Code as code
use Rattle.map_rows.specs.contracts.block.Cells.{the_row as R}
use Rattle.map_rows.specs.contracts.block.Base.{the_row as B}
use Rattle.map_rows.proofs.block.Base.TheLaws.{lowers}
use Rattle.map_rows.proofs.Values.{base_val}
use types.Kit.{prop, regoal}
use prog.Wp.{WpFn}
use mir.Val.{vptr}
use types.ByLocal.{get_in}

abbrev stayed : Stays f.ended.signature.params f.ended.kept
stayed = (stay_dropped (RefOf (0 ∷ []) tt (plain (λ _. R)) (λ _. tt)) yes, (stay_dropped (plain (λ _. B)) yes, (stay_dropped (plain (λ _. usize)) yes, tt)))

pub get_spec : {M : Type 1} → statement M
get_spec 𝓤 𝓛 𝓜 𝓡 wired =
    let c = f.clauses 𝓛 𝓜.mem 𝓡.returns in let W = walk_of 𝓛 f.ended stayed c in let 𝓣 = tables 𝓤 𝓛.H 𝓜 𝓡 𝓡.env in
    proved 𝓛 f.ended stayed c 𝓜 𝓡 (Goes-dropped 𝓛 1 (RefOf (0 ∷ []) tt (plain (λ _. R)) (λ _. tt)) yes (λ κs x w. refl), (Goes-dropped 𝓛 1 (plain (λ _. B)) yes (λ κs x w. refl), (Goes-dropped 𝓛 1 (plain (λ _. usize)) yes (λ κs x w. refl), tt)))
    f.Key.name code.function (code.unfolded 𝓤 𝓛.H 𝓜 𝓡 wired)
    (λ κs. (shr_vals, ((λ x. base_val x.at ∷ []), (uint_vals w64, tt)))) (λ κs. (shr_Tells (named 0) κs.0 R, ((λ x vs is. lowers.val_is x vs is), (uint_Tells w64, tt)))) (λ κs qs bounds a _ are.
    let κ = κs.0 in let rb = a.0.ref_ptr.0 in let ro = a.0.ref_ptr.1 in let h = a.0.now in
    let p = a.1.0.at in let i = a.1.1.0 in let fi = are.1.1.0.1 in let cs = h.slots in
    let y : W.Ghost = ((κs, qs, bounds, a, (shr_vals a.0, (base_val p ∷ [], (uint_vals w64 i, tt)))), tt) in
    let Asked : Type 0 = (p ≡ h.at) × IsFilled cs i in
    qed 𝓛 (((‵ (flft κ qs.0) ⊛ ‵ ftrue) ⊛ ‵ (owns (ShrRef (named 0) κ R ∷ B ∷ usize ∷ []) a (shr_vals a.0, (base_val p ∷ [], (uint_vals w64 i, tt))))) ∷ raw (fact 𝓤 Asked) ∷ []) ∵
    move ! (1 ∷ []) $ heard ! Asked (λ asked. let filled = asked.1 in let v = filled.0 in let inside : i < length cs = filled_within cs i v filled.1 in
    split ! $ split ! $ move ! (2 ∷ []) $ fsplit ! $ keep ! (0 ∷ 2 ∷ []) $
    fsplit ! $ drop ! $ unhide ! $ fsplit ! $ drop ! $
    -- [what the cells lend; the token]
    in_a_block ! h.at (λ p. cells_lent p cs κ) (id⊢ 𝓤 (never 𝓤)) (λ b o e.
    regoal ! (λ (r : Ptr). prop (WpFn 𝓤 𝓛.H 𝓣.C 𝓣.Λ code.function (vptr rb ro ∷ base_val r ∷ vint w64 i ∷ []) (W.post y))) (asked.0 ∙ e) refl $
    enter ! _ _ _ _ _ $ alloc_all ! (λ l. pass_all ! refl ((tt, tt), ((tt, (tt, tt)), ((tt, record { fits = fi }), tt))) $
    fsplit ! $ flt_l ! (λ small.
    let offset : i * 2 < 2 ^ 64 = omega (arith, inside, small) in
    use1 𝓛 (‵ (slot_lent b (nth 2 o i) (get_or cs i None) κ)) (slot_seen 𝓛 b κ o cs i inside) $
    rewrite ! 0 (λ (c : Option ℕ). ‵ (slot_lent b (nth 2 o i) c κ)) filled.1 refl $
    rewrite ! 0 (λ (k : ℕ). ‵ (shared_of u16 v b k κ)) (place_is 2 o i) refl $
    hide ! $
    -- [a `&` to the number; the token; the locals]
    looks ! tt u16 (uint_Copied 𝓛 w16).opens v b (i * 2 + o) (λ q2 vs2.
    move ! (1 ∷ []) $ fsplit ! $ feq_l ! (λ e2. flt_l ! (λ fv.
    rewrite ! 0 (λ (us : List Val). ‵ (cell_at q2 u16.mir us b (i * 2 + o))) e2 refl $
    first ! $ blocks ! $
    sets ! (bin ! (get ! refl) (lit ! tt) (record { fits = offset })) refl (tt, record { fits = offset }) $
    sets ! (bin ! (get_in ! (fld ! refl (stop !)) (sub ! 0 refl (whole !))) (get ! refl) tt) refl (tt, tt) $
    sets_last ! (of_opd ! (load ! (through ! refl (stop !)) (look ! 0 refl))) refl (tt, record { fits = fv }) $
    exec ! 𝓣.C 𝓣.Λ (env code.Mir.locals l) (after 1 (code.function).body) (at_ret _ (W.post y)) $
    sets ! (of_opd ! (get ! refl)) refl (tt, record { fits = fv }) $
    flt_i ! v (2 ^ 16) fv $ feq_i ! (List Val) (vint w16 v ∷ []) (vint w16 v ∷ []) refl $ fjoin ! $ move ! (1 ∷ 0 ∷ []) $ shuts ! tt u16 q2 v (vint w16 v ∷ []) b (i * 2 + o) $
    returns ! (look_at ! 0 refl) $ free_all ! refl $ keep ! (0 ∷ []) $
    suffices ! _ (ends_at 𝓛 f.ended stayed c y (vint w16 v) v (tt, (tt, (tt, tt))) (tt, (tt, (tt, tt)))) $ says ! filled.1 $
    owned ! u16 _ (uint_Makes 𝓛 w16) v _ (refl, fv) $
    nothing ! $ nothing ! $ join ! $ nothing ! $ join ! $ nothing ! $ join ! $ nothing ! $ move ! (3 ∷ 0 ∷ []) $ join ! $ done !))))))))
