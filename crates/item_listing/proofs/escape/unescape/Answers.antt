use Rattle.std.proofs.Common.{Some, sym, ap, ◌∙◌, lit<}
use Rattle.item_listing.proofs.Unescaping.{unescaped-plain}
use Rattle.item_listing.proofs.escape.unescape.Goals as goal

pub returns-in_ok-new-in-None : goal.returns-in_ok-new-in-None
returns-in_ok-new-in-None c =
    let plain = c.in-None.ensures.byte (lit< tt) (λ w o h. h) in
    ap Some c.in_ok-new-in-None.ensures ∙ sym (unescaped-plain c.args.text.now plain)
