use Rattle.std.proofs.Common.{◌≡◌, ◌==◌, ◌++◌, ◌∷◌, ◌||◌, ◌∙◌, [], ℕ, take, if◌then◌else◌, get_or, ◌+◌, ap, sym}
use Rattle.std.specs.Prelude.{nat_eq}
use Rattle.std.specs.HashSet.{contains}
use Rattle.std.specs.List.{list_any}
use Rattle.std.proofs.lemmas.List.Folds.{list_any_more}
use Rattle.redefine_originals.specs.inside.Lists.{listed}
use Rattle.redefine_originals.proofs.RedefineLaws.{set-now, noted-step}
use Rattle.redefine_originals.proofs.redefines.note_members.Goals as goal

pub loop-member-preserved : goal.loop-member-preserved
loop-member-preserved c =
    let members = c.args.members.now in
    let i = c.loop-member.member-index in
    let known = contains nat_eq c.loop-member.noted in
    let x = get_or members i 0 in
    let more : (item : ℕ) → (known item || (x == item)) ≡ list_any (λ other. other == item) (take (i + 1) members) =
    λ item. ap (λ b. b || (x == item)) (c.loop-member.invariant.noted item) ∙ sym (list_any_more (λ other. other == item) members i 0 c.loop-member-test.true) in
    record {
      noted = λ item. c.in_ok-is_new.ensures.updates.0 item ∙ set-now (known item) (x == item) ∙ more item;
      owners = λ item.
          noted-step known x item c.args.number c.in_ok-is_new.is_new (listed c.args.owners.now item) (listed c.loop-member.owners item) (listed c.note_if.new.owners item)
          c.in_ok-is_new.ensures.added
          (c.loop-member.invariant.owners item ∙ ap (λ b. listed c.args.owners.now item ++ (if b then c.args.number ∷ [] else [])) (sym (c.loop-member.invariant.noted item)))
          (c.in_ok-note_if.ensures item)
          ∙ ap (λ b. listed c.args.owners.now item ++ (if b then c.args.number ∷ [] else [])) (more item);
    }
