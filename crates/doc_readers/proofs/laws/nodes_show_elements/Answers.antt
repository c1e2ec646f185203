use Rattle.doc_readers.proofs.Showing.{name_shown, texts_shown, scope_shown, head_shown}
use Rattle.doc_readers.proofs.laws.nodes_show_elements.Goals as goal

pub returns : goal.returns
returns c = record {
  name = λ t ns d n z k. name_shown t ns d z n k;
  attributes = λ t ns d n z. texts_shown t ns d z n;
  scope = λ t ns d n outer z. scope_shown t ns d z n outer;
  head = λ t ns d n outer h z k is. head_shown t ns d z n outer h k is;
}
