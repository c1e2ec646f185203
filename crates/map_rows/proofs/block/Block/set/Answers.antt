use Rattle.std.proofs.Common.{ℕ, ◌<◌, ◌∙◌, List, Option, Some, length, length-set, sym, ap, subst}
use Rattle.map_rows.specs.Memory.{IsFilled}
use Rattle.map_rows.specs.Piece.{numbers_of}
use Rattle.map_rows.proofs.Slots.{still_filled, numbers-set, length-numbers}
use Rattle.map_rows.proofs.block.Block.set.Goals as goal

pub invariant_of-self : goal.invariant_of-self
invariant_of-self c =
    let s = c.self.inside in
    let i = c.self.invariant in
    let within : c.args.index < s.len = subst (λ n. c.args.index < n) (length-numbers s.cells.slots ∙ i.size) (rw (← c.self.view_is) at c.requires.index) in
    record {
      at = c.set.ensures.0 ∙ i.at;
      size = ap length c.set.ensures.1 ∙ length-set s.cells.slots c.args.index (Some c.args.number) ∙ i.size;
      filled = subst (λ (cs : List (Option ℕ)). (j : ℕ) → j < s.len → IsFilled cs j) (sym c.set.ensures.1) (still_filled s.cells.slots c.args.index c.args.number s.len i.size within i.filled);
      deed_alloc = i.deed_alloc;
      deed_at = i.deed_at;
      deed_len = i.deed_len;
    }

pub returns : goal.returns
returns c =
    let s = c.self.inside in
    rw (← c.self.view_is) (ap (λ (ns : List ℕ). record { at = s.base.at; numbers = ns }) (ap numbers_of c.set.ensures.1 ∙ numbers-set s.cells.slots c.args.index c.args.number))
