use Rattle.std.proofs.Common.{◌≡◌, ◌++◌, length}
use Rattle.std.specs.Prelude.{string_bytes}
use Rattle.std.specs.Option.{option_map}
use denote.Shadow.{shadow}
use denote.Text.{Utf8}
use Rattle.item_listing.specs.Escapes.{unescaped}
use Rattle.item_listing.proofs.escape.replace_escapes.Given as goal

abbrev pub invariant-loop-front : goal.invariant-loop-front
invariant-loop-front l = record {
  is_text : shadow (Utf8 l.rest);
  so_far : option_map (λ more. string_bytes l.out ++ more) (unescaped l.rest) ≡ unescaped l.text;
}

abbrev pub decreases-loop-front : goal.decreases-loop-front
decreases-loop-front l = length l.rest
