-- A text without white space is left as it is.
use Rattle.std.proofs.Common.{◌≡◌, ℕ, Bool, true, false, cond, List, [], ◌∷◌, ◌==◌, ◌||◌, ◌&&◌, not, filter, refl, sym, ap, ◌∙◌}
use Rattle.std.specs.List.{All, list_all, slice_split, join_with_byte}
use Rattle.std.proofs.lemmas.List.Elements.{All-nil, All-cons}
use Rattle.std.proofs.lemmas.List.Splits.{slice_split_none}
use Rattle.xs_names.specs.declared.handling.WhiteSpace.{WhiteSpace}
use Rattle.xs_names.specs.declared.handling.WhiteSpace.TheVariants.{Preserve, Replace, Collapse}
use Rattle.xs_names.specs.WhiteSpace.{is_space, is_item, to_space, replaced, collapsed, normalized, is_bare}

-- a character that is no white space stays
other_kept : (c : ℕ) → not (is_space (to_space c)) ≡ true → to_space c ≡ c
other_kept c e = by ((c == 0x9) || (c == 0xA) || (c == 0xD)) e
  where
    by : (t : Bool) → not (is_space (cond t 0x20 c)) ≡ true → cond t 0x20 c ≡ c
    by true e = absurd (cc)
    by false e = refl

not-true : (t : Bool) → not t ≡ true → t ≡ false
not-true true e = absurd (cc)
not-true false e = refl

other_spaceless : (c : ℕ) → not (is_space (to_space c)) ≡ true → is_space c ≡ false
other_spaceless c e = not-true (is_space c) (ap (λ d. not (is_space d)) (sym (other_kept c e)) ∙ e)

both : (a b : Bool) → (a && b) ≡ true → (a ≡ true) × (b ≡ true)
both true b e = (refl, e)
both false b e = absurd (cc)

bare_replaced : (text : List ℕ) → is_bare text ≡ true → replaced text ≡ text
bare_replaced [] e = refl
bare_replaced (c ∷ cs) e =
    let parts = both (not (is_space (to_space c))) (is_bare cs) e in
    rw (other_kept c parts.0, bare_replaced cs parts.1) refl

bare_spaceless : (text : List ℕ) → is_bare text ≡ true → All (λ c. is_space c ≡ false) text
bare_spaceless [] e = All-nil (λ c. is_space c ≡ false)
bare_spaceless (c ∷ cs) e =
    let parts = both (not (is_space (to_space c))) (is_bare cs) e in
    All-cons (λ d. is_space d ≡ false) c cs (other_spaceless c parts.0) (bare_spaceless cs parts.1)

alone_joined : (text : List ℕ) → join_with_byte 0x20 (filter is_item (text ∷ [])) ≡ text
alone_joined [] = refl
alone_joined (c ∷ cs) = refl

bare_collapsed : (text : List ℕ) → is_bare text ≡ true → collapsed text ≡ text
bare_collapsed text e =
    ap (λ t. join_with_byte 0x20 (filter is_item (slice_split is_space t))) (bare_replaced text e)
    ∙ ap (λ parts. join_with_byte 0x20 (filter is_item parts)) (slice_split_none is_space text (bare_spaceless text e))
    ∙ alone_joined text

pub bare_kept : (text : List ℕ) → is_bare text ≡ true → (handling : WhiteSpace) → normalized handling text ≡ text
bare_kept text e Preserve = refl
bare_kept text e Replace = bare_replaced text e
bare_kept text e Collapse = bare_collapsed text e
