use Rattle.std.proofs.Common.{◌≡◌, ◌+◌, ◌-◌, [], ◌∷◌, ◌++◌, length, take, sym, ap, ◌∙◌, subst, arith}
use Rattle.std.specs.Prelude.{All, string_bytes, vec_len}
use Rattle.std.specs.Str.{IsUtf8}
use Rattle.std.proofs.lemmas.List.{take_at}
use Rattle.std.proofs.lemmas.Str.{IsUtf8-string_bytes}
use Rattle.tag_names.specs.Packed.{Fits}
use Rattle.tag_names.specs.declared.packed.Spot.{Spot}
use Rattle.tag_names.proofs.PackedLaws.{lines-pushed, fits-pushed}
use Rattle.tag_names.proofs.packed.PackedLines.push.Goals as goal

pub returns-in-Ok-clause-ok : goal.returns-in-Ok-clause-ok
returns-in-Ok-clause-ok c =
    let text = string_bytes c.self.inside.text in
    let name = c.args.line.now.name in
    let value = c.args.line.now.value in
    let spot : Spot = record { start = c.len-start.result; middle = c.in_ok-middle.middle; end = c.in_ok-end.end } in
    let front : string_bytes c.in_ok-characters.characters ≡ name = c.in_ok-characters.ensures.ok ∙ c.as_str.ensures in
    let whole : string_bytes c.push_str.new.self ≡ name ++ value =
    c.in_ok-push_str.ensures.bytes ∙ ap (λ n. n ++ c.as_str-2.result.now) front ∙ ap (λ v. name ++ v) c.as_str-2.ensures in
    let front_length = ap length front in
    let whole_length = ap length whole in
    let start : c.len-start.result ≡ length text = omega (arith, c.len-start.ensures, c.self.inside.text.bytes.ok.0) in
    let middle : c.in_ok-middle.middle ≡ length text + length name = omega (arith, c.in_ok-middle.ensures, c.len-start.ensures, c.self.inside.text.bytes.ok.0, c.len.ensures, c.in_ok-characters.characters.bytes.ok.0, front_length) in
    let end : c.in_ok-end.end ≡ length text + length (name ++ value) = omega (arith, c.in_ok-end.ensures, c.len-start.ensures, c.self.inside.text.bytes.ok.0, c.len-2.ensures, c.push_str.new.self.bytes.ok.0, whole_length) in
    let grown : string_bytes c.push_str-2.new.self ≡ text ++ (name ++ value) =
    c.in-Ok.ensures.bytes ∙ ap (λ t. text ++ t) (c.as_str-3.ensures.value ∙ whole) in
    lines-pushed text name value spot start middle end (string_bytes c.push_str-2.new.self) c.self.inside.spots.items c.push.new.self.items grown c.in_ok-push.ensures.items c.self.invariant
    ∙ ap (λ ls. ls ++ c.args.line.now ∷ []) c.self.view_is

pub invariant_of-self-in-Ok : goal.invariant_of-self-in-Ok
invariant_of-self-in-Ok c =
    let text = string_bytes c.self.inside.text in
    let name = c.args.line.now.name in
    let value = c.args.line.now.value in
    let spot : Spot = record { start = c.len-start.result; middle = c.in_ok-middle.middle; end = c.in_ok-end.end } in
    let front : string_bytes c.in_ok-characters.characters ≡ name = c.in_ok-characters.ensures.ok ∙ c.as_str.ensures in
    let whole : string_bytes c.push_str.new.self ≡ name ++ value =
    c.in_ok-push_str.ensures.bytes ∙ ap (λ n. n ++ c.as_str-2.result.now) front ∙ ap (λ v. name ++ v) c.as_str-2.ensures in
    let front_length = ap length front in
    let whole_length = ap length whole in
    let start : c.len-start.result ≡ length text = omega (arith, c.len-start.ensures, c.self.inside.text.bytes.ok.0) in
    let middle : c.in_ok-middle.middle ≡ length text + length name = omega (arith, c.in_ok-middle.ensures, c.len-start.ensures, c.self.inside.text.bytes.ok.0, c.len.ensures, c.in_ok-characters.characters.bytes.ok.0, front_length) in
    let end : c.in_ok-end.end ≡ length text + length (name ++ value) = omega (arith, c.in_ok-end.ensures, c.len-start.ensures, c.self.inside.text.bytes.ok.0, c.len-2.ensures, c.push_str.new.self.bytes.ok.0, whole_length) in
    let grown : string_bytes c.push_str-2.new.self ≡ text ++ (name ++ value) =
    c.in-Ok.ensures.bytes ∙ ap (λ t. text ++ t) (c.as_str-3.ensures.value ∙ whole) in
    fits-pushed text name value spot start middle end (string_bytes c.push_str-2.new.self) c.self.inside.spots.items c.push.new.self.items grown c.in_ok-push.ensures.items c.self.invariant
    (IsUtf8-string_bytes c.self.inside.text) (subst IsUtf8 whole (IsUtf8-string_bytes c.push_str.new.self)) (subst IsUtf8 c.as_str-2.ensures c.as_str-2.utf8)

pub invariant_of-self-in-Err : goal.invariant_of-self-in-Err
invariant_of-self-in-Err c =
    let text = string_bytes c.self.inside.text in
    let spots = c.self.inside.spots.items in
    let spot : Spot = record { start = c.len-start.result; middle = c.in_ok-middle.middle; end = c.in_ok-end.end } in
    let left : c.pop.new.self.items ≡ spots =
    c.pop.ensures.rest ∙ ap (take (vec_len c.push.new.self - 1)) c.in_ok-push.ensures.items
    ∙ take_at spots (spot ∷ []) (vec_len c.push.new.self - 1) (omega (arith, c.in_ok-push.ensures.len, c.self.inside.spots.ok.0)) in
    subst (λ t. All (Fits t) c.pop.new.self.items) (sym c.in-Err.ensures.bytes) (subst (All (Fits text)) (sym left) c.self.invariant)
