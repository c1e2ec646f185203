use Rattle.std.proofs.Common.{ℕ, List, [], ◌∷◌, ◌++◌, subst}
use Rattle.std.specs.Prelude.{codes}
use Rattle.std.specs.Fmt.{decimal}
use Rattle.xs_codes.specs.Codes.{text_of}
use Rattle.told.specs.Tells.{Tells}
use Rattle.open_document.proofs.Swapped.{refused_parts}
use Rattle.open_document.proofs.swapping.refuse_set.Goals as goal

pub returns : goal.returns
returns g c =
    let fault = c.args.fault in
    record {
      tells = subst (Tells g.W.Sink.taken g.W.Sink.faults g.W.Sink.fault_bound c.args.sink.now c.write_answer.new.sink c.write_answer.result)
          (refused_parts (decimal fault.document) (decimal fault.item) (text_of fault.code))
          (subst (λ (code : List ℕ). Tells g.W.Sink.taken g.W.Sink.faults g.W.Sink.fault_bound c.args.sink.now c.write_answer.new.sink c.write_answer.result
          (codes "no 34 SetRefused " ++ (decimal fault.document ++ (codes " " ++ (decimal fault.item ++ (codes " " ++ (code ++ 10 ∷ []))))))) c.code_text.ensures.text c.write_answer.ensures.tells);
    }
