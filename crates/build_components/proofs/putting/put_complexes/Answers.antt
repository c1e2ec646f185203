use Rattle.std.proofs.Common.{rules, ◌≡◌, ◌+◌, ◌-◌, ◌<◌, length, List, [], ◌∷◌, ◌++◌, take, drop, set, sym, ap, ◌∙◌, arith}
use Rattle.std.proofs.lemmas.List.{length_push, length-append}
use Rattle.xs_components.specs.Tables.{Tables}
use Rattle.xs_components.specs.declared.complex.ComplexType.{ComplexType}
use Rattle.build_types.proofs.PutLaws.{put-step, rest-step, whole-step}
use Rattle.build_components.proofs.putting.put_complexes.Goals as goal

pub left-preserved : goal.left-preserved
left-preserved c =
    let all = c.args.bodies.items in
    let old = c.args.parts.now.complexes.parts in
    let left = c.pop.new.self.items in
    let x = c.in-Some.part in
    let popped : c.left.left.items ≡ left ++ x ∷ [] = search rules in
    let many = length_push left x in
    let n : c.left.n ≡ c.left.n - 1 + 1 = omega (arith, c.left.invariant.many, ap length popped) in
    let k : c.left.n - 1 ≡ length left = omega (arith, c.left.invariant.many, ap length popped) in
    let whole = ap (λ (l : List ComplexType). l ++ drop c.left.n all) (sym popped) ∙ c.left.invariant.whole in
    let rest = rest-step all left (drop c.left.n all) x (c.left.n - 1) k whole in
    let within : c.left.n - 1 < length old = omega (arith, c.requires, ap length (sym whole), length-append (left ++ x ∷ []) (drop c.left.n all)) in
    record {
      many = k;
      whole = ap (λ (l : List ComplexType). left ++ l) rest ∙ whole-step left (drop c.left.n all) x ∙ whole;
      put = c.put_complex.ensures
          ∙ ap (λ (p : Tables). record p { complexes = record p.complexes { parts = set p.complexes.parts (c.left.n - 1) x } }) c.left.invariant.put
          ∙ ap (λ (l : List ComplexType). record c.args.parts.now { complexes = record c.args.parts.now.complexes { parts = l } })
          (ap (λ m. set (take m old ++ drop c.left.n all) (c.left.n - 1) x) n ∙ put-step old (drop c.left.n all) x (c.left.n - 1) within ∙ ap (λ (l : List ComplexType). take (c.left.n - 1) old ++ l) (sym rest));
    }
