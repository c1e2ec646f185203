use Rattle.content_models.proofs.Requiring.{IsRequired, AreHad}
use Rattle.content_models.proofs.machine.AllMachine.of.Given as goal

abbrev pub invariant-loop-place : goal.invariant-loop-place
invariant-loop-place l = record {
  required : IsRequired l.members l.place l.required;
  has : AreHad l.inhabited l.members l.place l.has_words;
}
