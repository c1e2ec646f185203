use Rattle.std.proofs.Common.{◌≡◌, ◌<◌, ◌≤◌, ◌++◌, List, [], ◌∷◌, length, get_or, subst, arith}
use Rattle.xs_codes.specs.Least.{IsLeast, sooner}
use Rattle.xs_components.specs.declared.constraint.Constraint.{Constraint}
use Rattle.xpath_subset.specs.Reads.{ArePathsOf}
use Rattle.xpath_subset.specs.Faults.{IsFaultOf, IsIdentityFault}
use Rattle.xpath_subset.proofs.FaultLaws.{known-least, known-read, least-all, zip-all}
use Rattle.xpath_subset.proofs.phase.read_identities.Goals as goal

pub loop-constraint-preserved : goal.loop-constraint-preserved
loop-constraint-preserved c =
    let t = c.args.parts.now in
    let same = c.constraints-constraint-items.ensures.parts in
    let i = c.loop-constraint.constraint-index in
    let item = c.constraint-item.result in
    let within : i < length t.constraints.parts = subst (λ (xs : List Constraint). i < length xs) same (omega arith) in
    let is : item ≡ get_or t.constraints.parts i item = subst (λ (xs : List Constraint). item ≡ get_or xs i item) same c.constraint-item.is in
    let before = c.loop-constraint.invariant in
    let read = c.in_ok-found.field-0 in
    let joined : c.sooner-best.result ≡ sooner c.loop-constraint.best read.fault = cc (c.sooner-best.ensures.sooner) in
    let pushed : c.push.new.self.items ≡ c.loop-constraint.identities.items ++ read.paths ∷ [] = cc (c.in_ok-push.ensures.items) in
    record {
      least = known-least (IsFaultOf t) ArePathsOf t.constraints.parts i item within is c.loop-constraint.best read.fault c.sooner-best.result joined before.least c.in_ok-found.ensures.least;
      paths = known-read (IsFaultOf t) ArePathsOf t.constraints.parts i item within is c.loop-constraint.best read.fault c.sooner-best.result joined
          c.loop-constraint.identities.items c.push.new.self.items read.paths pushed before.paths c.in_ok-found.ensures.paths;
    }

pub returns-in-None : goal.returns-in-None
returns-in-None c =
    let t = c.args.parts.now in
    let i = c.loop-constraint.constraint-index in
    let past : length t.constraints.parts ≤ i = subst (λ (xs : List Constraint). length xs ≤ i) c.constraints-constraint-items.ensures.parts (omega arith) in
    let before = c.loop-constraint.invariant in
    let least = least-all (IsFaultOf t) t.constraints.parts i c.loop-constraint.best past before.least in
    record { read = (subst (IsLeast (IsIdentityFault t)) c.in-None.is least, zip-all ArePathsOf t.constraints.parts c.loop-constraint.identities.items i past (before.paths c.in-None.is)) }

pub returns-in-Some : goal.returns-in-Some
returns-in-Some c =
    let t = c.args.parts.now in
    let i = c.loop-constraint.constraint-index in
    let past : length t.constraints.parts ≤ i = subst (λ (xs : List Constraint). length xs ≤ i) c.constraints-constraint-items.ensures.parts (omega arith) in
    let least = least-all (IsFaultOf t) t.constraints.parts i c.loop-constraint.best past c.loop-constraint.invariant.least in
    record { read = subst (IsLeast (IsIdentityFault t)) c.in-Some.is least }
