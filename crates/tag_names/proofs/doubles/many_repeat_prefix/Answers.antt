use Rattle.std.proofs.Common.{◌∙◌, bytes_eq, string_bytes, refl}
use Rattle.std.specs.String.{string_eq}
use Rattle.tag_names.proofs.DoubleLaws.{start-prefixes, turn-seen, turn-added}
use Rattle.tag_names.proofs.doubles.many_repeat_prefix.Goals as goal

pub loop-binding-init : goal.loop-binding-init
loop-binding-init c = start-prefixes c.new-seen.result.keys c.args.bindings.now c.new-seen.ensures.empty

pub returns-then-not-added : goal.returns-then-not-added
returns-then-not-added c =
    turn-seen bytes_eq string_eq string_bytes (λ a b. refl) (λ b. b.prefix) c.loop-binding.seen.keys c.in_ok-key.key c.args.bindings.now c.loop-binding.binding-index c.binding-item.result
    c.loop-binding-test.true c.binding-item.is (c.in_ok-key.ensures.ok ∙ c.as_str.ensures) _ c.loop-binding.invariant c.in_ok-added.added c.in_ok-added.ensures.added c.if-not-added.true

pub loop-binding-preserved : goal.loop-binding-preserved
loop-binding-preserved c =
    turn-added bytes_eq string_eq string_bytes (λ a b. refl) (λ b. b.prefix) c.loop-binding.seen.keys c.in_ok-key.key c.args.bindings.now c.loop-binding.binding-index c.binding-item.result
    c.loop-binding-test.true c.binding-item.is (c.in_ok-key.ensures.ok ∙ c.as_str.ensures) _ c.loop-binding.invariant c.in_ok-added.added c.in_ok-added.ensures.added c.if-not-added.false
    c.insert.new.self.keys c.in_ok-added.ensures.keys
