use Rattle.std.proofs.Common.{◌≡◌, Some, None, sym, ap, ◌∙◌, lit<}
use Rattle.std.specs.List.{slice_get}
use Rattle.item_listing.specs.Escapes.{escaped}
use Rattle.item_listing.proofs.Unescaping.{after_escape, after_last, onto, onto_nil, after_piece, ends_after, bad_after, escaped-ascii}
use Rattle.item_listing.proofs.escape.replace_escapes.Goals as goal

pub loop-front-init : goal.loop-front-init
loop-front-init c = record { is_text = c.utf8.text; so_far = rw c.new-out.ensures.bytes (sym (onto_nil _)) }

pub returns-in_default-first : goal.returns-in_default-first
returns-in_default-first c =
    let split = c.in-Some.ensures.byte (lit< tt) (λ w o h. h) in
    let piece = after_piece c.args.text.now _ _ _ c.in-Some.after.now c.loop-front.invariant.so_far split in
    let absent : slice_get c.in-Some.after.now 0 ≡ None = sym (rw c.as_bytes.ensures.value at c.in_default-first.ensures.value) in
    sym (piece ∙ ap (onto _) (ends_after _ absent))

pub returns-in_default-escaped : goal.returns-in_default-escaped
returns-in_default-escaped c =
    let split = c.in-Some.ensures.byte (lit< tt) (λ w o h. h) in
    let piece = after_piece c.args.text.now _ _ _ c.in-Some.after.now c.loop-front.invariant.so_far split in
    let first : slice_get c.in-Some.after.now 0 ≡ Some c.in-Some-first.first.now = sym (rw c.as_bytes.ensures.value at c.in-Some-first.ensures.value) in
    sym (piece ∙ ap (onto _) (bad_after _ _ first (sym c.in_default-escaped.ensures)))

pub loop-front-preserved : goal.loop-front-preserved
loop-front-preserved c =
    let split = c.in-Some.ensures.byte (lit< tt) (λ w o h. h) in
    let first : slice_get c.in-Some.after.now 0 ≡ Some c.in-Some-first.first.now = sym (rw c.as_bytes.ensures.value at c.in-Some-first.ensures.value) in
    let good : escaped c.in-Some-first.first.now ≡ Some c.in-Some-escaped.c = sym c.in-Some-escaped.ensures in
    record {
      is_text = c.after_first_byte-rest.utf8;
      so_far = after_escape c.args.text.now _ _ _ c.in-Some.after.now _ _ _ _ _ _ c.loop-front.invariant.so_far split first good
          c.in_ok-push_str.ensures.bytes c.in_ok-push.ensures.bytes (c.in_ok-push.ensures.ascii (escaped-ascii c.in-Some-first.first.now c.in-Some-escaped.c good)) c.after_first_byte-rest.ensures;
    }

pub returns : goal.returns
returns c =
    let plain = c.in_default.ensures.byte (lit< tt) (λ w o h. h) in
    ap Some c.in_ok-from_string.ensures ∙ after_last c.args.text.now _ _ _ c.loop-front.invariant.so_far plain c.in_ok-push_str-2.ensures.bytes
