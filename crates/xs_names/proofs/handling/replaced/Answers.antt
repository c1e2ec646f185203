use Rattle.std.proofs.Common.{◌≡◌, IfOk, map, rules, string_bytes}
use Rattle.std.specs.Prelude.{encode_utf8_all}
use Rattle.std.specs.Str.{chars}
use Rattle.std.proofs.lemmas.Iterator.{text_from_collect, YieldsList-from_map, YieldsList-from_chars}
use Rattle.std.proofs.lemmas.Iterator.Consumers.{YieldsList-at}
use Rattle.xs_names.specs.WhiteSpace.{to_space}
use Rattle.xs_names.proofs.Spacing.{replaced-encodes}
use Rattle.xs_names.proofs.handling.replaced.Goals as goal

pub returns : goal.returns
returns c =
    let by_chars : IfOk c.collect.result (λ t. string_bytes t ≡ encode_utf8_all (map to_space (chars c.args.text.now))) =
    text_from_collect _ c.collect.ensures.ran (YieldsList-from_map _ to_space (YieldsList-at c.map.ensures.source (YieldsList-from_chars c.args.text.now c.utf8.text c.chars.ensures.rest)) c.map.ensures.closure (λ x r q k. search rules)) in
    rw (replaced-encodes c.args.text.now c.utf8.text) at by_chars
