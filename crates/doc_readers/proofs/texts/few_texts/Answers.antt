use Rattle.std.proofs.Common.{◌≡◌, ℕ, ◌+◌, ◌<◌, List, ◌++◌, length, take, get_or, string_bytes, sym, ap, ◌∙◌, subst, arith}
use Rattle.std.specs.Prelude.{IfOk}
use Rattle.std.specs.List.{flat_map}
use Rattle.std.proofs.lemmas.List.{append-nil}
use Rattle.std.proofs.lemmas.Option.{slice_get-get_or}
use Rattle.doc_nodes.specs.Nodes.{node, children_by, is_element_at}
use Rattle.doc_changes.specs.Readers.{chars_at, own_chars}
use Rattle.doc_readers.specs.Texts.{texts_upto}
use Rattle.doc_readers.proofs.Counting.{there, so-far, all-so-far}
use Rattle.doc_readers.proofs.Silent.{silent}
use Rattle.doc_readers.proofs.texts.few_texts.Goals as goal
use Rattle.doc_readers.proofs.texts.few_texts.Goals.{in-Some-chars_at+in_ok-push_str, in_default-chars_at}

-- the text that was found is written behind those before it
pub texts-preserved : goal.texts-preserved
texts-preserved c =
    let ns = c.args.doc.now in
    let xs = children_by (node ns c.args.node) in
    let next = c.in-Some.ensures in
    let lt : c.in-Some.place < length xs = there (is_element_at ns) xs c.in-Some.place next.is_text in
    let before : List ℕ = flat_map (chars_at ns) (take c.texts.from xs) in
    let more : flat_map (chars_at ns) (take (c.in-Some.place + 1) xs) ≡ before ++ chars_at ns (get_or xs c.in-Some.place 0) =
    so-far (is_element_at ns) (chars_at ns) (silent ns) xs c.texts.from c.in-Some.place next.past lt next.none_between in
    let child = slice_get-get_or xs c.in-Some.place 0 lt in
    record {
      within = omega (arith, lt, c.requires);
      so_far = elim c.match-chars_at.branch [
        | in-Some-chars_at+in_ok-push_str w ↦
            ap string_bytes w.chars-is ∙ w.in_ok-push_str.ensures.bytes ∙ ap (λ (l : List ℕ). l ++ w.as_str.result.now) c.texts.invariant.so_far
            ∙ ap (λ (l : List ℕ). before ++ l) (w.as_str.ensures ∙ w.in-Some-chars_at.ensures (get_or xs c.in-Some.place 0) child) ∙ sym more
        | in_default-chars_at w ↦
            ap string_bytes w.chars-is ∙ c.texts.invariant.so_far ∙ sym (append-nil before)
            ∙ ap (λ (l : List ℕ). before ++ l) (w.in_default-chars_at.ensures (get_or xs c.in-Some.place 0) child) ∙ sym more
      ];
    }

-- no more texts are left
pub returns : goal.returns
returns c =
    let ns = c.args.doc.now in
    let xs = children_by (node ns c.args.node) in
    let none : texts_upto ns c.args.node (length xs) ≡ texts_upto ns c.args.node c.texts.from =
    subst (λ n. texts_upto ns c.args.node n ≡ texts_upto ns c.args.node c.texts.from) c.requires c.in_default.ensures in
    let whole : string_bytes c.texts.chars ≡ own_chars ns c.args.node =
    c.texts.invariant.so_far ∙ all-so-far (is_element_at ns) (chars_at ns) (silent ns) xs c.texts.from (omega (arith, c.texts.invariant.within, c.requires)) none in
    subst (λ (chars : List ℕ). IfOk c.from_string.result (λ text. text ≡ chars)) whole c.from_string.ensures
