use Rattle.compiled_schema.specs.Usable.{set_of}
use Rattle.open_document.proofs.Swapped.{swap_behind, swap_logged, unswapped}
use Rattle.open_document.proofs.swapping.swap.Goals as goal

pub returns-in-Ok-clause-behind : goal.returns-in-Ok-clause-behind
returns-in-Ok-clause-behind g c =
    swap_behind c.args.document.now c.reopen.new.self c.clear.new.self (set_of c.args.set.value) c.in-Ok.ensures.reopens c.clear.ensures

pub returns-in-Ok-clause-logged : goal.returns-in-Ok-clause-logged
returns-in-Ok-clause-logged g c = λ lives.
    swap_logged c.args.document.now c.reopen.new.self c.clear.new.self (set_of c.args.set.value) c.in-Ok.ensures.reopens c.clear.ensures c.requires.ready.spaced c.requires.logged

pub returns-in-Err-clause-logged : goal.returns-in-Err-clause-logged
returns-in-Err-clause-logged g c = λ lives.
    absurd (unswapped c.args.document.now.session (set_of c.args.set.value) c.in-Err.field-0 c.reopen.new.self c.requires.live c.in-Err.ensures.reopens lives)
