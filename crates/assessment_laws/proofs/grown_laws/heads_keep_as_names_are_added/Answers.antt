use Rattle.assessment_laws.proofs.Heads.{texts-kept, scope-kept, head-kept, heads-kept}
use Rattle.assessment_laws.proofs.grown_laws.heads_keep_as_names_are_added.Goals as goal

pub returns : goal.returns
returns c = record {
  texts = λ old new attributes g h. texts-kept old new g attributes h;
  scopes = λ old new bindings scope g h. scope-kept old new g bindings scope h;
  head = λ old new scope name bindings attributes g sound h. head-kept old new g sound scope name bindings attributes h;
  heads = λ old new scope f g sound h. heads-kept old new g sound scope f h;
}
