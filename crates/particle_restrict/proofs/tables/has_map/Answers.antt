use Rattle.std.proofs.Common.{◌≡◌, ◌≤◌, ◌⊎◌, inl, inr, sym, get_or, ◌-◌, ◌+◌, ◌∷◌, [], ◌++◌, true, false, length, refl, ap, ◌∙◌, arith}
use Rattle.std.proofs.lemmas.Bool.{cases_lt, false≢true}
use Rattle.std.proofs.lemmas.List.{length_push, length-replicate}
use Rattle.std.specs.Prelude.{replicate}
use Rattle.particle_restrict.proofs.Mapping.{table_first, table_more, table_done, window_first, window_more}
use Rattle.particle_restrict.proofs.tables.has_map.Goals as goal
use Rattle.particle_restrict.proofs.tables.has_map.Goals.{then-not-optional-j, else-not-optional-j}

pub loop-behind-init : goal.loop-behind-init
loop-behind-init g c =
    let no = c.in_ok-row.ensures.items_if_clones_equal (λ y h. h) in
    let row = c.in_ok-push.ensures.items ∙ ap (λ r. r ++ true ∷ []) no in
    record {
      count = ap length row ∙ (length_push (replicate c.args.members false) true ∙ ap (λ k. k + 1) (length-replicate c.args.members false));
      values = table_first (g.P.Pairs.restricts c.args.pairs.now) c.args.members c.args.optional.now c.push.new.self.items row;
      end = omega arith;
      outside = window_first c.args.members c.push.new.self.items row;
    }

pub loop-behind-preserved : goal.loop-behind-preserved
loop-behind-preserved g c =
    let inv = c.loop-behind.invariant in
    let sub = c.saturating_sub-low.ensures in
    let lows : (c.saturating_sub-low.result + 1 ≤ c.loop-behind.low) ⊎ (c.saturating_sub-low.result ≡ 0) =
    elim (cases_lt 0 c.loop-behind.low) [ inl l ↦ inl (omega arith) | inr n ↦ inr (omega arith) ] in
    let low_end : c.if-not-optional-j.end ≤ c.loop-behind.end = elim c.if-not-optional-j.branch [ then-not-optional-j w ↦ omega arith | else-not-optional-j w ↦ omega arith ] in
    let close : c.loop-behind.end ≤ c.if-not-optional-j.end + 1 = elim c.if-not-optional-j.branch [ then-not-optional-j w ↦ omega arith | else-not-optional-j w ↦ omega arith ] in
    record {
      count = c.turn.ensures.len ∙ inv.count;
      values = table_more (g.P.Pairs.restricts c.args.pairs.now) c.args.optional.now c.args.members c.loop-behind.behind _ _ c.loop-behind.row.items c.turn.new.row.items
          c.loop-behind-test.true refl refl inv.count inv.values c.turn.ensures.values;
      end = (let e = inv.end in omega arith);
      outside = window_more (g.P.Pairs.restricts c.args.pairs.now) _ c.loop-behind.low c.saturating_sub-low.result c.loop-behind.end c.if-not-optional-j.end
          (get_or c.args.optional.now (length c.args.optional.now - 1 - c.loop-behind.behind) false)
          c.loop-behind.row.items c.turn.new.row.items c.turn.ensures.len lows
          (λ t. elim c.if-not-optional-j.branch [ then-not-optional-j w ↦ absurd (false≢true (sym w.if-not-optional-j.true ∙ t)) | else-not-optional-j w ↦ omega arith ])
          close inv.outside c.turn.ensures.values;
    }

pub returns : goal.returns
returns g c = record {
  map = table_done (g.P.Pairs.restricts c.args.pairs.now) c.args.optional.now c.args.members c.loop-behind.behind c.loop-behind.row.items c.index.result.now
      c.loop-behind-test.false c.loop-behind.invariant.count c.index.ensures c.loop-behind.invariant.values;
}
