use Rattle.std.proofs.Common.{◌≡◌, map, take}
use Rattle.pattern_syntax.specs.Classes.{class_of}
use Rattle.pattern_syntax.proofs.terms.clone_classes.Given as goal

-- the copies so far
abbrev pub invariant-loop-class : goal.invariant-loop-class
invariant-loop-class l = map class_of l.copy.items ≡ map class_of (take l.class-index l.classes)
