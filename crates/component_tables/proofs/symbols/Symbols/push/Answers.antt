use Rattle.std.proofs.Common.{rules, ◌≡◌, List, Option, ℕ, ◌++◌, ◌∷◌, [], None, Some, length, sym, ap, ◌∙◌, subst}
use Rattle.component_tables.specs.Symbols.{AreKept}
use Rattle.component_tables.proofs.FirstLaws.{kept-none, kept-some, kept-same}
use Rattle.component_tables.proofs.symbols.Symbols.push.Goals as goal

pub invariant_of-self : goal.invariant_of-self
invariant_of-self c =
    let is : c.push.new.self.items ≡ c.self.inside.names.items ++ None ∷ [] = search rules in
    subst (λ (ns : List (Option ℕ)). AreKept ns c.self.inside.firsts.items) (sym is) (kept-none c.self.inside.names.items c.self.inside.firsts.items c.self.invariant)

pub invariant_of-self-in-Some : goal.invariant_of-self-in-Some
invariant_of-self-in-Some c =
    let number : c.in-Some.symbol ≡ c.number-in-Some.result = search rules in
    let is0 : c.push-in-Some.new.self.items ≡ c.self.inside.names.items ++ Some c.in-Some.symbol ∷ [] = search rules in
    let is = is0 ∙ ap (λ n. c.self.inside.names.items ++ Some n ∷ []) number in
    let place : c.len-place.result ≡ length c.self.inside.names.items = search rules in
    let kept = kept-same c.self.inside.names.items c.self.inside.firsts.items c.lengthen.new.firsts.items c.self.invariant c.lengthen.ensures.same in
    subst (λ (ns : List (Option ℕ)). AreKept ns c.put.new.firsts.items) (sym is)
    (kept-some c.self.inside.names.items c.lengthen.new.firsts.items c.put.new.firsts.items c.number-in-Some.result c.len-place.result place kept c.put.ensures)
