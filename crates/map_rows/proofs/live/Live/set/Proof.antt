-- `set` changes the marks that contracts see, and no memory. Assumes `Logic`.
use Rattle.map_rows.proofs.Walks.{[], ◌∷◌, refl, proved, ftrue, flft, named, vunit, tables, ‵, ◌⊛◌, ◌$◌, ◌∵◌, !, qed, move, keep, split, join, fsplit, fsplit3, feq_i, suffices, frame, group, enter, of_opd, unit_lit, returns, alloc_all, pass_all, free_all, look_at, sets, MutRef, mut_vals, mut_Tells, uint_vals, uint_Tells, bool_vals, bool_Tells, bool, plain, yes, nothing, opens, closes, done, Stays, walk_of, says, stay_ref, Goes-ref, stay_dropped, Goes-dropped, ends_at}
use Rattle.std.proofs.Common.{w32}
use denote.Builtin.{u32}
use denote.RattleType.{owns}
use Rattle.map_rows.specs.Marks.{marked}
use Rattle.map_rows.specs.contracts.live.Live.set as f
use Rattle.map_rows.proofs.live.Live.set.Statement.{statement}
use Rattle.map_rows.proofs.live.Live.set.Code as code
use Rattle.map_rows.specs.contracts.live.Live.{the_row as R}

abbrev stayed : Stays f.ended.signature.params f.ended.kept
stayed = (stay_ref (0 ∷ []) tt (plain (λ _. R)), (stay_dropped (plain (λ _. u32)) yes, (stay_dropped (plain (λ _. bool)) yes, tt)))

pub set_spec : {M : Type 1} → statement M
set_spec 𝓤 𝓛 𝓜 𝓡 wired =
    let c = f.clauses 𝓛 𝓜.mem 𝓡.returns in let W = walk_of 𝓛 f.ended stayed c in let 𝓣 = tables 𝓤 𝓛.H 𝓜 𝓡 𝓡.env in
    proved 𝓛 f.ended stayed c 𝓜 𝓡 (Goes-ref 𝓛 1 0 tt (plain (λ _. R)), (Goes-dropped 𝓛 1 (plain (λ _. u32)) yes (λ κs x w. refl), (Goes-dropped 𝓛 1 (plain (λ _. bool)) yes (λ κs x w. refl), tt)))
    f.Key.name code.function (code.unfolded 𝓤 𝓛.H 𝓜 𝓡 wired)
    (λ κs. (mut_vals, (uint_vals w32, (bool_vals, tt)))) (λ κs. (mut_Tells (named 0) κs.0 R, (uint_Tells w32, (bool_Tells, tt)))) (λ κs qs bounds a _ are.
    let b = a.0.ref_ptr.0 in let o = a.0.ref_ptr.1 in let h = a.0.now in let vs = mut_vals a.0 in
    let r = a.1.0 in let l = a.1.1.0 in let fr = are.1.0.1 in
    let y : W.Ghost = ((κs, qs, bounds, a, (vs, (uint_vals w32 r, (bool_vals l, tt)))), tt) in
    let new = record h { marks = marked h.marks r l } in
    qed 𝓛 (((‵ (flft κs.0 qs.0) ⊛ ‵ ftrue) ⊛ ‵ (owns (MutRef (named 0) κs.0 R ∷ u32 ∷ bool ∷ []) a (vs, (uint_vals w32 r, (bool_vals l, tt))))) ∷ ‵ ftrue ∷ []) ∵
    split ! $ split ! $ move ! (2 ∷ []) $ fsplit ! $ keep ! (0 ∷ 2 ∷ []) $
    enter ! _ _ _ _ _ $ alloc_all ! (λ m. pass_all ! refl ((tt, tt), ((tt, record { fits = fr }), ((tt, tt), tt))) $
    fsplit3 ! $ move ! (1 ∷ 2 ∷ 3 ∷ []) $ opens ! tt R b o (λ us.
    sets ! (of_opd ! (unit_lit !)) refl (tt, tt) $
    closes ! tt R new us b o $
    returns ! (look_at ! 0 refl) $ free_all ! refl $ move ! (3 ∷ []) $
    suffices ! _ (ends_at 𝓛 f.ended stayed c y vunit tt (new, (tt, (tt, tt))) (tt, (tt, (tt, tt)))) $ says ! refl $
    group ! 3 $ nothing ! $ nothing ! $ join ! $ nothing ! $ join ! $ move ! (1 ∷ 0 ∷ []) $ join ! $ nothing ! $ move ! (2 ∷ 0 ∷ []) $ join ! $ frame ! $ frame ! $
    feq_i ! _ (vunit ∷ []) _ refl $ done !)))
