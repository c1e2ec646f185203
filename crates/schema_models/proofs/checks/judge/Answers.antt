use Rattle.std.proofs.Common.{◌≡◌, true, rules}
use Rattle.schema_models.proofs.CheckLaws.{found-some, found-none}
use Rattle.schema_models.proofs.checks.judge.Goals as goal

pub returns-in-Some : goal.returns-in-Some
returns-in-Some c =
    let told : c.in_ok-consistent.field-0 ≡ true = search rules in
    let s = c.args.source in
    record {
      judged = found-some s.names.now s.parts.now s.members.now c.args.p (c.in_ok-consistent.ensures.consistent.0 told) c.in-Some.field-0 c.ambiguous.result c.in-Some.is
          (c.ambiguous.ensures s.names.now s.parts.now s.members.now s.classes.now c.args.p c.requires.built);
    }

pub returns-in-None : goal.returns-in-None
returns-in-None c =
    let told : c.in_ok-consistent.field-0 ≡ true = search rules in
    let s = c.args.source in
    record {
      judged = found-none s.names.now s.parts.now s.members.now c.args.p (c.in_ok-consistent.ensures.consistent.0 told) c.ambiguous.result c.in-None.is
          (c.ambiguous.ensures s.names.now s.parts.now s.members.now s.classes.now c.args.p c.requires.built);
    }
