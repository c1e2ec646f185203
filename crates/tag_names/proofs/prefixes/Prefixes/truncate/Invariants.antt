use Rattle.std.proofs.Common.{◌≡◌, ℕ, ◌-◌, ◌≤◌, drop, length}
use Rattle.tag_names.proofs.prefixes.Prefixes.truncate.Given as goal

abbrev pub invariant-bindings : goal.invariant-bindings
invariant-bindings l = (gone : ℕ) × (gone ≤ length l.fn.self - l.len) × (l.self ≡ drop gone l.fn.self)

abbrev pub decreases-bindings : goal.decreases-bindings
decreases-bindings l = length l.self
