-- White space that is treated twice, and items that are cut twice.
use Rattle.std.proofs.Common.{◌≡◌, ℕ, Bool, true, false, cond, List, [], ◌∷◌, ◌==◌, ◌||◌, not, map, filter, length, refl, sym, ap, ◌∙◌, arith}
use Rattle.std.specs.List.{All, slice_split, onto_first, join_with_byte}
use Rattle.std.proofs.lemmas.List.{map-append, length-map}
use Rattle.std.proofs.lemmas.List.Elements.{All-head, All-tail, All-nil, All-cons, All-filter}
use Rattle.std.proofs.lemmas.List.Splits.{slice_split_none, slice_split_at}
use Rattle.std.proofs.lemmas.Bool.Decides.{nat_tests}
use Rattle.xs_names.specs.declared.handling.WhiteSpace.{WhiteSpace}
use Rattle.xs_names.specs.declared.handling.WhiteSpace.TheVariants.{Preserve, Replace, Collapse}
use Rattle.xs_names.specs.WhiteSpace.{is_space, is_item, to_space, replaced, items, collapsed, normalized, stronger}

-- ---- replaced twice

spaced_twice : (c : ℕ) → to_space (to_space c) ≡ to_space c
spaced_twice c = by ((c == 0x9) || (c == 0xA) || (c == 0xD)) refl
  where
    by : (t : Bool) → ((c == 0x9) || (c == 0xA) || (c == 0xD)) ≡ t → to_space (cond t 0x20 c) ≡ cond t 0x20 c
    by true e = refl
    by false e = rw e refl

replaced_twice : (text : List ℕ) → replaced (replaced text) ≡ replaced text
replaced_twice [] = refl
replaced_twice (c ∷ cs) = rw (spaced_twice c, replaced_twice cs) refl

-- ---- the pieces of a text, and what replacing does to them

mapped_onto : (c : ℕ) (parts : List (List ℕ)) → map replaced (onto_first c parts) ≡ onto_first (to_space c) (map replaced parts)
mapped_onto c [] = refl
mapped_onto c (part ∷ parts) = refl

replaced_front : (c : ℕ) (rest : List (List ℕ)) (t : Bool) → map replaced rest ≡ rest
    → map replaced (cond t ([] ∷ rest) (onto_first (to_space c) rest)) ≡ cond t ([] ∷ rest) (onto_first (to_space c) rest)
replaced_front c rest true e = ap (λ parts. [] ∷ parts) e
replaced_front c rest false e = mapped_onto (to_space c) rest ∙ rw (spaced_twice c, e) refl

-- the pieces of what was replaced have nothing left to replace
pieces_replaced : (text : List ℕ) → map replaced (slice_split is_space (replaced text)) ≡ slice_split is_space (replaced text)
pieces_replaced [] = refl
pieces_replaced (c ∷ cs) = replaced_front c (slice_split is_space (replaced cs)) (is_space (to_space c)) (pieces_replaced cs)

items_mapped : (parts : List (List ℕ)) → filter is_item (map replaced parts) ≡ map replaced (filter is_item parts)
items_mapped [] = refl
items_mapped ([] ∷ parts) = items_mapped parts
items_mapped ((c ∷ cs) ∷ parts) = ap (λ xs. replaced (c ∷ cs) ∷ xs) (items_mapped parts)

items_replaced : (text : List ℕ) → map replaced (items text) ≡ items text
items_replaced text = sym (items_mapped (slice_split is_space (replaced text))) ∙ ap (filter is_item) (pieces_replaced text)

-- joined pieces are replaced piece by piece
joined_replaced : (parts : List (List ℕ)) → replaced (join_with_byte 0x20 parts) ≡ join_with_byte 0x20 (map replaced parts)
joined_replaced [] = refl
joined_replaced (part ∷ []) = refl
joined_replaced (part ∷ next ∷ parts) = rw (map-append to_space part (0x20 ∷ join_with_byte 0x20 (next ∷ parts)), joined_replaced (next ∷ parts)) refl

collapsed_replaced : (text : List ℕ) → replaced (collapsed text) ≡ collapsed text
collapsed_replaced text = joined_replaced (items text) ∙ ap (join_with_byte 0x20) (items_replaced text)

-- ---- the pieces of joined pieces

abbrev IsSpaceless : List ℕ → Type 0
IsSpaceless part = All (λ c. is_space c ≡ false) part

spaceless_onto : (c : ℕ) (parts : List (List ℕ)) → is_space c ≡ false → All IsSpaceless parts → All IsSpaceless (onto_first c parts)
spaceless_onto c [] e a = All-cons IsSpaceless (c ∷ []) [] (All-cons (λ d. is_space d ≡ false) c [] e (All-nil (λ d. is_space d ≡ false))) (All-nil IsSpaceless)
spaceless_onto c (part ∷ parts) e a =
    All-cons IsSpaceless (c ∷ part) parts (All-cons (λ d. is_space d ≡ false) c part e (All-head IsSpaceless part parts a)) (All-tail IsSpaceless part parts a)

spaceless_front : (c : ℕ) (rest : List (List ℕ)) (t : Bool) → is_space c ≡ t → All IsSpaceless rest → All IsSpaceless (cond t ([] ∷ rest) (onto_first c rest))
spaceless_front c rest true e a = All-cons IsSpaceless [] rest (All-nil (λ d. is_space d ≡ false)) a
spaceless_front c rest false e a = spaceless_onto c rest e a

-- no piece has a space
spaceless_pieces : (text : List ℕ) → All IsSpaceless (slice_split is_space text)
spaceless_pieces [] = All-cons IsSpaceless [] [] (All-nil (λ d. is_space d ≡ false)) (All-nil IsSpaceless)
spaceless_pieces (c ∷ cs) = spaceless_front c (slice_split is_space cs) (is_space c) refl (spaceless_pieces cs)

item_in_front : (part : List ℕ) (xs ys : List (List ℕ)) → filter is_item xs ≡ filter is_item ys → filter is_item (part ∷ xs) ≡ filter is_item (part ∷ ys)
item_in_front [] xs ys e = e
item_in_front (c ∷ cs) xs ys e = ap (λ zs. (c ∷ cs) ∷ zs) e

-- what is joined by spaces is cut into the same items
joined_items : (parts : List (List ℕ)) → All IsSpaceless parts → filter is_item (slice_split is_space (join_with_byte 0x20 parts)) ≡ filter is_item parts
joined_items [] a = refl
joined_items (part ∷ []) a = ap (filter is_item) (slice_split_none is_space part (All-head IsSpaceless part [] a))
joined_items (part ∷ next ∷ parts) a =
    let more : List ℕ = join_with_byte 0x20 (next ∷ parts) in
    ap (filter is_item) (slice_split_at is_space part 0x20 more (All-head IsSpaceless part (next ∷ parts) a) refl)
    ∙ item_in_front part (slice_split is_space more) (next ∷ parts) (joined_items (next ∷ parts) (All-tail IsSpaceless part (next ∷ parts) a))

items_twice : (parts : List (List ℕ)) → filter is_item (filter is_item parts) ≡ filter is_item parts
items_twice [] = refl
items_twice ([] ∷ parts) = items_twice parts
items_twice ((c ∷ cs) ∷ parts) = ap (λ zs. (c ∷ cs) ∷ zs) (items_twice parts)

items_of_collapsed : (text : List ℕ) → items (collapsed text) ≡ items text
items_of_collapsed text =
    ap (λ t. filter is_item (slice_split is_space t)) (collapsed_replaced text)
    ∙ joined_items (items text) (All-filter is_item IsSpaceless (slice_split is_space (replaced text)) (spaceless_pieces (replaced text)))
    ∙ items_twice (slice_split is_space (replaced text))

items_of_replaced : (text : List ℕ) → items (replaced text) ≡ items text
items_of_replaced text = ap (λ t. filter is_item (slice_split is_space t)) (replaced_twice text)

-- ---- the two laws

pub normalized_again : (other handling : WhiteSpace) (text : List ℕ) → normalized other (normalized handling text) ≡ normalized (stronger other handling) text
normalized_again Preserve handling text = refl
normalized_again Replace Preserve text = refl
normalized_again Replace Replace text = replaced_twice text
normalized_again Replace Collapse text = collapsed_replaced text
normalized_again Collapse Preserve text = refl
normalized_again Collapse Replace text = ap (join_with_byte 0x20) (items_of_replaced text)
normalized_again Collapse Collapse text = ap (join_with_byte 0x20) (items_of_collapsed text)

pub items_normalized : (handling : WhiteSpace) (text : List ℕ) → items (normalized handling text) ≡ items text
items_normalized Preserve text = refl
items_normalized Replace text = items_of_replaced text
items_normalized Collapse text = items_of_collapsed text

-- the same of a text that is known by its value alone
pub again : (handling : WhiteSpace) (text t : List ℕ) → t ≡ normalized handling text → (other : WhiteSpace) → normalized other t ≡ normalized (stronger other handling) text
again handling text t e other = ap (normalized other) e ∙ normalized_again other handling text

pub same_items : (handling : WhiteSpace) (text t : List ℕ) → t ≡ normalized handling text → items t ≡ items text
same_items handling text t e = ap items e ∙ items_normalized handling text

-- ---- the items of a text, counted at its white space

mapped_front : (c : ℕ) (spaced whole : List (List ℕ)) (t : Bool) → spaced ≡ map replaced whole
    → cond t ([] ∷ spaced) (onto_first (to_space c) spaced) ≡ map replaced (cond t ([] ∷ whole) (onto_first c whole))
mapped_front c spaced whole true e = ap (λ parts. [] ∷ parts) e
mapped_front c spaced whole false e = ap (onto_first (to_space c)) e ∙ sym (mapped_onto c whole)

pieces_mapped : (text : List ℕ) → slice_split is_space (replaced text) ≡ map replaced (slice_split (λ c. is_space (to_space c)) text)
pieces_mapped [] = refl
pieces_mapped (c ∷ cs) = mapped_front c (slice_split is_space (replaced cs)) (slice_split (λ c. is_space (to_space c)) cs) (is_space (to_space c)) (pieces_mapped cs)

-- as many pieces are items before white space is replaced as after it
pub items_counted : (text : List ℕ) → length (filter is_item (slice_split (λ c. is_space (to_space c)) text)) ≡ length (items text)
items_counted text =
    let pieces : List (List ℕ) = slice_split (λ c. is_space (to_space c)) text in
    sym (length-map (filter is_item pieces) replaced)
    ∙ ap length (sym (items_mapped pieces) ∙ ap (filter is_item) (sym (pieces_mapped text)))

pub item_by_length : (xs : List ℕ) → not (length xs == 0) ≡ is_item xs
item_by_length [] = refl
item_by_length (c ∷ cs) = let e : (length (c ∷ cs) == 0) ≡ false = grind (arith, nat_tests) in rw e refl
