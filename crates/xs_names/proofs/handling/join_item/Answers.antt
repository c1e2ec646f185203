use Rattle.std.proofs.Common.{◌≡◌, ◌≢◌, [], ◌∷◌, ◌++◌, sym, ◌∙◌, refl, lit<, string_bytes}
use Rattle.std.proofs.lemmas.Str.{encode_ascii}
use Rattle.xs_names.proofs.Joining.{joined_first, joined_more, filled, empty, behind_space}
use Rattle.xs_names.proofs.handling.join_item.Goals as goal
use Rattle.xs_names.proofs.handling.join_item.Goals.{then-not-is_empty+in_ok-push, else-not-is_empty}

pub returns : goal.returns
returns c = λ pieces h.
    let some : c.args.item.now ≢ [] = filled _ _ _ refl c.is_empty.ensures c.if-is_empty.false in
    elim c.if-not-is_empty.branch [
      | then-not-is_empty+in_ok-push w ↦
          let more : string_bytes c.args.joined.now ≢ [] = filled _ _ _ c.args.joined.now.bytes.ok.0 c.is_empty-2.ensures w.if-not-is_empty.true in
          let pushed : string_bytes w.push.new.self ≡ string_bytes c.args.joined.now ++ 0x20 ∷ [] = w.in_ok-push.ensures.bytes ∙ rw (encode_ascii 32 (lit< tt)) refl in
          let written : string_bytes c.push_str.new.self ≡ string_bytes w.push.new.self ++ c.args.item.now = rw w.joined-is at c.in_ok-push_str.ensures.bytes in
          behind_space _ _ _ _ pushed written
          ∙ rw h (sym (joined_more pieces c.args.item.now some (rw h at more)))
      | else-not-is_empty w ↦
          let none : string_bytes c.args.joined.now ≡ [] = empty _ _ _ c.args.joined.now.bytes.ok.0 c.is_empty-2.ensures w.if-not-is_empty.false in
          let written : string_bytes c.push_str.new.self ≡ string_bytes c.args.joined.now ++ c.args.item.now = rw w.joined-is at c.in_ok-push_str.ensures.bytes in
          rw none at written
          ∙ sym (joined_first pieces c.args.item.now some (rw h at none))
    ]
