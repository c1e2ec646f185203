-- `new` owns nothing.
use Rattle.map_rows.proofs.Walks.{[], ◌∷◌, refl, proved, ftrue, tables, ‵, ◌⊛◌, ◌$◌, ◌∵◌, !, qed, done, keep, suffices, group, enter, returns, alloc_all, pass_all, free_all, look_at, sets, no_more, nothing, Stays, walk_of, says, ends_at}
use types.Part.{agg}
use types.Kit.{use0}
use mir.Val.{vstruct, vnil}
use denote.Shadow.{makes_shadow}
use Rattle.map_rows.specs.contracts.live.Live.new as f
use Rattle.map_rows.proofs.live.Live.new.Statement.{statement}
use Rattle.map_rows.proofs.live.Live.new.Code as code
use Rattle.map_rows.specs.contracts.live.Live.{the_row as R}

abbrev stayed : Stays f.ended.signature.params f.ended.kept
stayed = tt

pub new_spec : {M : Type 1} → statement M
new_spec 𝓤 𝓛 𝓜 𝓡 wired =
    let c = f.clauses 𝓛 𝓜.mem 𝓡.returns in let W = walk_of 𝓛 f.ended stayed c in let 𝓣 = tables 𝓤 𝓛.H 𝓜 𝓡 𝓡.env in
    proved 𝓛 f.ended stayed c 𝓜 𝓡 tt
    f.Key.name code.function (code.unfolded 𝓤 𝓛.H 𝓜 𝓡 wired)
    (λ κs. tt) (λ κs. tt) (λ κs qs bounds a _ are.
    let y : W.Ghost = ((κs, qs, bounds, a, tt), tt) in
    qed 𝓛 ((‵ ftrue ⊛ ‵ ftrue) ∷ ‵ ftrue ∷ []) ∵ keep ! [] $
    enter ! _ _ _ _ _ $ alloc_all ! (λ l. pass_all ! refl tt $
    sets ! (agg ! (no_more !)) refl (tt, tt) $
    returns ! (look_at ! 0 refl) $ free_all ! refl $
    suffices ! _ (ends_at 𝓛 f.ended stayed c y (vstruct vnil) record { marks = [] } tt tt) $ says ! refl $
    use0 𝓛 (‵ (R.own_val record { marks = [] } (vstruct vnil ∷ []))) (makes_shadow 𝓛 (R.own_val record { marks = [] } (vstruct vnil ∷ [])) ((λ uss. (tt, tt)), tt) ((tt, (refl, tt)), tt)) $
    group ! 3 $ nothing ! $ nothing ! $ done !))
