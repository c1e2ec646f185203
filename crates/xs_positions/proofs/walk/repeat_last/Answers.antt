use Rattle.std.proofs.Common.{◌≡◌, ◌+◌, ◌*◌, ◌<◌, ◌^◌, None, length, ◌∙◌, arith}
use Rattle.xs_positions.specs.Tree.{repeat, size}
use Rattle.xs_positions.specs.PositionWords.{IsWord}
use Rattle.xs_positions.specs.Sets.{Describes}
use Rattle.xs_positions.specs.Parts.{sets_of, IsJoined}
use Rattle.xs_positions.proofs.Parting.{last_copy, before_fits, all_fit}
use Rattle.xs_positions.proofs.Steps.{row_count, first_within, last_within, linked_in, unbounded_sets, if_ok}
use Rattle.xs_positions.proofs.walk.repeat_last.Goals as goal

pub find_copies-requires : goal.find_copies-requires
find_copies-requires c =
    let split = last_copy c.args.base _ c.requires.0 c.pop.new.self.items c.in-Some.last (rw c.in-Some.ensures.items at c.requires.1.parts) in
    (c.requires.0, split.1, c.requires.1.word)

pub overflow_cast-start : goal.overflow_cast-start
overflow_cast-start c =
    let tree = c.requires.0 in
    let split = last_copy c.args.base _ tree c.pop.new.self.items c.in-Some.last (rw c.in-Some.ensures.items at c.requires.1.parts) in
    let joined = c.in_ok-whole.ensures tree split.1 c.requires.1.word in
    let len : c.len.result ≡ length c.pop.new.self.items * size tree = c.len.ensures ∙ row_count _ c.args.base _ c.in_ok-whole.field-0.whole joined.sets in
    let f : c.args.base + c.len.result < 2 ^ 32 = before_fits c.args.base _ (length c.pop.new.self.items) (size tree) c.len.result split.0 c.requires.1.fits len in
    omega arith

pub overflow_add-start : goal.overflow_add-start
overflow_add-start c =
    let tree = c.requires.0 in
    let split = last_copy c.args.base _ tree c.pop.new.self.items c.in-Some.last (rw c.in-Some.ensures.items at c.requires.1.parts) in
    let joined = c.in_ok-whole.ensures tree split.1 c.requires.1.word in
    let len : c.len.result ≡ length c.pop.new.self.items * size tree = c.len.ensures ∙ row_count _ c.args.base _ c.in_ok-whole.field-0.whole joined.sets in
    let f : c.args.base + c.len.result < 2 ^ 32 = before_fits c.args.base _ (length c.pop.new.self.items) (size tree) c.len.result split.0 c.requires.1.fits len in
    omega arith

pub looped-requires-clause-first : goal.looped-requires-clause-first
looped-requires-clause-first c =
    let tree = c.requires.0 in
    let split = last_copy c.args.base _ tree c.pop.new.self.items c.in-Some.last (rw c.in-Some.ensures.items at c.requires.1.parts) in
    let joined = c.in_ok-whole.ensures tree split.1 c.requires.1.word in
    let len : c.len.result ≡ length c.pop.new.self.items * size tree = c.len.ensures ∙ row_count _ c.args.base _ c.in_ok-whole.field-0.whole joined.sets in
    rw len (first_within _ (c.args.base + length c.pop.new.self.items * size tree) _ c.in-Some.last split.2.sets)

pub looped-requires-clause-last : goal.looped-requires-clause-last
looped-requires-clause-last c =
    let tree = c.requires.0 in
    let split = last_copy c.args.base _ tree c.pop.new.self.items c.in-Some.last (rw c.in-Some.ensures.items at c.requires.1.parts) in
    let joined = c.in_ok-whole.ensures tree split.1 c.requires.1.word in
    let len : c.len.result ≡ length c.pop.new.self.items * size tree = c.len.ensures ∙ row_count _ c.args.base _ c.in_ok-whole.field-0.whole joined.sets in
    rw len (last_within _ (c.args.base + length c.pop.new.self.items * size tree) _ c.in-Some.last split.2.sets)

pub looped-requires-clause-fits : goal.looped-requires-clause-fits
looped-requires-clause-fits c =
    let tree = c.requires.0 in
    let k = length c.pop.new.self.items in
    let split = last_copy c.args.base _ tree c.pop.new.self.items c.in-Some.last (rw c.in-Some.ensures.items at c.requires.1.parts) in
    let joined = c.in_ok-whole.ensures tree split.1 c.requires.1.word in
    let len : c.len.result ≡ k * size tree = c.len.ensures ∙ row_count _ c.args.base _ c.in_ok-whole.field-0.whole joined.sets in
    let last : length c.in-Some.last.follow.items ≡ size tree = row_count _ (c.args.base + k * size tree) _ c.in-Some.last split.2.sets in
    all_fit c.args.base _ k (size tree) c.len.result (length c.in-Some.last.follow.items) split.0 c.requires.1.fits len last

pub looped-requires-clause-loops : goal.looped-requires-clause-loops
looped-requires-clause-loops c =
    let tree = c.requires.0 in
    let split = last_copy c.args.base _ tree c.pop.new.self.items c.in-Some.last (rw c.in-Some.ensures.items at c.requires.1.parts) in
    let joined = c.in_ok-whole.ensures tree split.1 c.requires.1.word in
    let len : c.len.result ≡ length c.pop.new.self.items * size tree = c.len.ensures ∙ row_count _ c.args.base _ c.in_ok-whole.field-0.whole joined.sets in
    rw len (linked_in _ (c.args.base + length c.pop.new.self.items * size tree) _ c.in-Some.last split.2.sets)

pub then-requires : goal.then-requires
then-requires c =
    let tree = c.requires.0 in
    let split = last_copy c.args.base _ tree c.pop.new.self.items c.in-Some.last (rw c.in-Some.ensures.items at c.requires.1.parts) in
    last_within _ c.args.base _ c.in_ok-whole.field-0.whole (c.in_ok-whole.ensures tree split.1 c.requires.1.word).sets

pub returns : goal.returns
returns c = λ tree are.
    let k = length c.pop.new.self.items in
    let whole = c.in_ok-whole.field-0.whole in
    let looped = c.in_ok-last.last in
    let split = last_copy c.args.base _ tree c.pop.new.self.items c.in-Some.last (rw c.in-Some.ensures.items at are.parts) in
    let joined = c.in_ok-whole.ensures tree split.1 are.word in
    let len : c.len.result ≡ k * size tree = c.len.ensures ∙ row_count _ c.args.base _ whole joined.sets in
    if_ok (λ part. IsJoined c.args.base (sets_of whole) whole.nullable (sets_of looped) looped.nullable (sets_of part))
    (λ part. Describes (IsWord (repeat tree c.args.min None) c.args.base) c.args.base (size (repeat tree c.args.min None)) (sets_of part))
    c.then.result
    (λ part made. unbounded_sets tree c.args.base k whole c.in-Some.last part are.word joined.sets split.2.sets c.args.min looped whole.nullable looped.nullable split.0 joined.nullable
    (c.in_ok-last.ensures.nullable ∙ split.2.nullable) (rw len at c.in_ok-last.ensures.looped) made)
    c.then.ensures.joined
