use Rattle.std.proofs.Common.{◌≡◌, drop}
use Rattle.representations.specs.Forms.{tokens_table}
use Rattle.representations.proofs.forms.add_tokens.Given as goal

abbrev pub invariant-loop-token : goal.invariant-loop-token
invariant-loop-token l = tokens_table (drop l.token-index l.tokens) l.names ≡ tokens_table l.tokens l.initial.names
