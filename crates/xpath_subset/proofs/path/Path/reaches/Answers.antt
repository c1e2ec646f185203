use Rattle.std.proofs.Common.{◌≡◌, ◌+◌, ◌<◌, ◌≤◌, true≢false, length, map, take, drop, ◌-◌, sym, ◌∙◌, ap, refl, subst, arith}
use Rattle.std.specs.Option.{option_map}
use Rattle.std.proofs.lemmas.List.{length-map, drop-map}
use Rattle.xpath_subset.specs.Reaches.{expanded_name, LeadsDown}
use Rattle.xpath_subset.specs.inside.Steps.{child_count}
use Rattle.xpath_subset.proofs.Leading.{slice_to_end, Reaches-here, Reaches-too_few, Reaches-anywhere}
use Rattle.xpath_subset.proofs.path.Path.reaches.Goals as goal

pub returns-in-None : goal.returns-in-None
returns-in-None c = (λ e. absurd (true≢false (sym e)), λ reaches. absurd (Reaches-too_few c.args.self.now (map (expanded_name c.args.names.now) c.args.elements.now) _ few reaches))
  where
    few : length (map (expanded_name c.args.names.now) c.args.elements.now) < child_count c.args.self.now.steps
    few =
        let all = length-map c.args.elements.now (expanded_name c.args.names.now) in
        let count : c.count_children.result ≡ child_count c.args.self.now.steps = c.count_children.ensures ∙ ap child_count c.as_slice-steps.ensures in
        let none : c.count_children.result ≤ length c.args.elements.now → ⊥ = c.in-None.ensures in
        by all count none
      where
        by : length (map (expanded_name c.args.names.now) c.args.elements.now) ≡ length c.args.elements.now → c.count_children.result ≡ child_count c.args.self.now.steps → (c.count_children.result ≤ length c.args.elements.now → ⊥) → length (map (expanded_name c.args.names.now) c.args.elements.now) < child_count c.args.self.now.steps
        by all count none = omega arith

pub returns-then-admitted : goal.returns-then-admitted
returns-then-admitted c =
    let both = Reaches-here c.args.self.now (map (expanded_name c.args.names.now) c.args.elements.now) (option_map (expanded_name c.args.names.now) c.args.attribute) c.if-not-self.true in (
      λ yes. both.1 (c.if-admitted.ensures.0 refl, subst (λ steps. LeadsDown steps (map (expanded_name c.args.names.now) c.args.elements.now)) c.as_slice-steps.ensures (c.leads_down.ensures.0 yes)),
      λ reaches. c.leads_down.ensures.1 (subst (λ steps. LeadsDown steps (map (expanded_name c.args.names.now) c.args.elements.now)) (sym c.as_slice-steps.ensures) (both.0 reaches).1),
    )

pub returns-then-admitted-2 : goal.returns-then-admitted-2
returns-then-admitted-2 c =
    let both = Reaches-anywhere c.args.self.now (map (expanded_name c.args.names.now) c.args.elements.now) (option_map (expanded_name c.args.names.now) c.args.attribute) c.in-Some.skipped c.if-not-self.false count in (
      λ yes. both.1 (c.if-admitted-2.ensures.0 refl, subst (LeadsDown c.args.self.now.steps) way (subst (λ steps. LeadsDown steps (map (expanded_name c.args.names.now) (take (length c.args.elements.now - c.in-Some.skipped) (drop c.in-Some.skipped c.args.elements.now)))) c.as_slice-steps.ensures (c.leads_down-then-admitted-2.ensures.0 yes))),
      λ reaches. c.leads_down-then-admitted-2.ensures.1 (subst (λ steps. LeadsDown steps (map (expanded_name c.args.names.now) (take (length c.args.elements.now - c.in-Some.skipped) (drop c.in-Some.skipped c.args.elements.now)))) (sym c.as_slice-steps.ensures) (subst (LeadsDown c.args.self.now.steps) (sym way) (both.0 reaches).1)),
    )
  where
    way : map (expanded_name c.args.names.now) (take (length c.args.elements.now - c.in-Some.skipped) (drop c.in-Some.skipped c.args.elements.now)) ≡ drop c.in-Some.skipped (map (expanded_name c.args.names.now) c.args.elements.now)
    way = ap (map (expanded_name c.args.names.now)) (slice_to_end c.in-Some.skipped c.args.elements.now) ∙ sym (drop-map (expanded_name c.args.names.now) c.in-Some.skipped c.args.elements.now)

    count : c.in-Some.skipped + child_count c.args.self.now.steps ≡ length (map (expanded_name c.args.names.now) c.args.elements.now)
    count = by (length-map c.args.elements.now (expanded_name c.args.names.now)) (c.count_children.ensures ∙ ap child_count c.as_slice-steps.ensures) c.in-Some.ensures
      where
        by : length (map (expanded_name c.args.names.now) c.args.elements.now) ≡ length c.args.elements.now → c.count_children.result ≡ child_count c.args.self.now.steps → (c.count_children.result ≤ length c.args.elements.now) × (c.in-Some.skipped ≡ length c.args.elements.now - c.count_children.result) → c.in-Some.skipped + child_count c.args.self.now.steps ≡ length (map (expanded_name c.args.names.now) c.args.elements.now)
        by all count skipped = omega arith
