use Rattle.std.proofs.Common.{lit<}
use Rattle.item_listing.proofs.Tabs.{after_tab, last_piece, text_after_tab}
use Rattle.item_listing.proofs.locations.read_locations.Goals as goal

pub tabs-preserved : goal.tabs-preserved
tabs-preserved c =
    let split = c.in-Some.ensures.byte (lit< tt) (λ w o h. h) in
    record {
      is_text = text_after_tab _ _ c.tabs.invariant.is_text split.1 split.2;
      so_far = after_tab c.args.text.now _ _ c.in-Some.after.now _ _ _ c.tabs.invariant.so_far split c.in_ok-push.ensures.ok c.in_ok-new.ensures;
    }

pub returns : goal.returns
returns c = last_piece c.args.text.now _ _ _ _ c.tabs.invariant.so_far (c.in_default.ensures.byte (lit< tt) (λ w o h. h)) c.in_ok-push-2.ensures.ok c.in_ok-new-2.ensures
