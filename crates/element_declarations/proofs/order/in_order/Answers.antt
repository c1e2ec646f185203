use Rattle.std.proofs.Common.{◌≡◌, ℕ, rules}
use Rattle.std.proofs.lemmas.Fn.{always_returns_same}
use Rattle.element_declarations.specs.Groups.{place_of}
use Rattle.element_declarations.proofs.OrderLaws.{in-order}
use Rattle.element_declarations.proofs.order.in_order.Goals as goal

pub returns : goal.returns
returns c =
    let key : ℕ → ℕ × ℕ × ℕ = λ n. ((place_of c.args.parts.now n).document, (place_of c.args.parts.now n).item, n) in
    let sorted = c.in_ok-sort_by_key.ensures.sorted key (always_returns_same _ (λ a r. r ≡ key a.0.now) _ (λ a r q k. search rules)) in
    in-order c.args.parts.now c.in_ok-order.order.items c.sort_by_key.new.self.items c.in_ok-order.ensures.count c.in_ok-order.ensures.counted c.sort_by_key.ensures.permutation sorted
