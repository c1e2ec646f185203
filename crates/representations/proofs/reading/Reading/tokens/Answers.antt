use Rattle.std.proofs.Common.{◌≡◌, ◌++◌, ◌∷◌, [], map, refl, sym, subst}
use Rattle.xs_names.proofs.GrownLaws.{Grown-trans}
use Rattle.representations.specs.Forms.{token_table, tokens_table}
use Rattle.representations.specs.Lasting.{IsLasting}
use Rattle.representations.specs.Wildcards.{token_space}
use Rattle.representations.proofs.LastingLaws.{lasting-more, table-more}
use Rattle.representations.proofs.reading.Reading.tokens.Goals as goal

pub loop-token-preserved : goal.loop-token-preserved
loop-token-preserved c =
    let naming = c.args.self.now.naming in
    let t = c.loop-token.names in
    let u = c.token.new.names in
    let xs = c.args.tokens.now in
    let i = c.loop-token.token-index in
    let x = c.token-item.result in
    let made = c.loop-token.listed in
    let one = c.in_ok-token.field-0 in
    let put : c.push.new.self ≡ made ++ one ∷ [] = c.in_ok-push.ensures.ok in
    record {
      target = λ later h. c.loop-token.invariant.target later (Grown-trans t u later c.in_ok-token.ensures.grown h);
      table = table-more tokens_table token_table (λ y ys v. refl) xs i x t u _ c.loop-token-test.true c.token-item.is c.in_ok-token.ensures.table c.loop-token.invariant.table;
      spaces = subst (IsLasting u (λ later. map (token_space later naming) _)) (sym put)
          (lasting-more (λ later. token_space later naming) t u xs i x made one c.loop-token-test.true c.token-item.is c.in_ok-token.ensures.grown c.loop-token.invariant.spaces c.in_ok-token.ensures.space);
      grown = Grown-trans _ t u c.loop-token.invariant.grown c.in_ok-token.ensures.grown;
    }
