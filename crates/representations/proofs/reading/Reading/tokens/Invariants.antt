use Rattle.std.proofs.Common.{◌≡◌, drop, take, map}
use Rattle.xs_names.specs.Names.{Grown}
use Rattle.representations.specs.Forms.{tokens_table}
use Rattle.representations.specs.Lasting.{IsLasting}
use Rattle.representations.specs.Wildcards.{KnowsTarget, token_space}
use Rattle.representations.proofs.reading.Reading.tokens.Given as goal

abbrev pub invariant-loop-token : goal.invariant-loop-token
invariant-loop-token l = record {
  target : KnowsTarget l.names l.self;
  table : tokens_table (drop l.token-index l.tokens) l.names ≡ tokens_table l.tokens l.initial.names;
  spaces : IsLasting l.names (λ t. map (token_space t l.self.naming) (take l.token-index l.tokens)) l.listed;
  grown : Grown l.initial.names l.names;
}
