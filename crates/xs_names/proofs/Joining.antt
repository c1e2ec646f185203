-- Items behind one another, with a space between each two.
use Rattle.std.proofs.Common.{◌≡◌, ◌≢◌, ℕ, Bool, List, [], ◌∷◌, ◌++◌, ◌==◌, filter, length, refl, ap, true, false, arith}
use Rattle.std.specs.List.{join_with_byte}
use Rattle.std.proofs.lemmas.List.{append_assoc, append-nil, nil_from_length}
use Rattle.std.proofs.lemmas.List.Elements.{filter-append}
use Rattle.std.proofs.lemmas.Bool.Decides.{nat_tests}
use Rattle.xs_names.specs.WhiteSpace.{is_item, joined}

join_more : (c : ℕ) (x : List ℕ) (xs : List (List ℕ)) (y : List ℕ) → join_with_byte c ((x ∷ xs) ++ y ∷ []) ≡ join_with_byte c (x ∷ xs) ++ (c ∷ y)
join_more c x [] y = refl
join_more c x (z ∷ zs) y = rw (join_more c z zs y, append_assoc) refl

-- the first of the items that are left is one
first_kept : (pieces : List (List ℕ)) (x : List ℕ) (xs : List (List ℕ)) → filter is_item pieces ≡ x ∷ xs → is_item x ≡ true
first_kept [] x xs e = cc
first_kept ([] ∷ pieces) x xs e = first_kept pieces x xs e
first_kept ((c ∷ cs) ∷ pieces) x xs e = let h : (c ∷ cs) ≡ x = cc in rw (← h) refl

-- nothing is joined only where there are no items
nothing_joined : (xs : List (List ℕ)) → ((x : List ℕ) (ys : List (List ℕ)) → xs ≡ x ∷ ys → is_item x ≡ true) → join_with_byte 0x20 xs ≡ [] → xs ≡ []
nothing_joined [] f e = refl
nothing_joined ([] ∷ ys) f e = cc (f [] ys refl)
nothing_joined ((c ∷ cs) ∷ []) f e = cc
nothing_joined ((c ∷ cs) ∷ y ∷ ys) f e = cc

more_items : (xs : List (List ℕ)) (item : List ℕ) → xs ≢ [] → join_with_byte 0x20 (xs ++ item ∷ []) ≡ join_with_byte 0x20 xs ++ (0x20 ∷ item)
more_items [] item ne = absurd (ne refl)
more_items (x ∷ xs) item ne = join_more 0x20 x xs item

pub joined_empty : (pieces : List (List ℕ)) (item : List ℕ) → item ≡ [] → joined (pieces ++ item ∷ []) ≡ joined pieces
joined_empty pieces item e = rw (e, filter-append is_item pieces ([] ∷ []), append-nil (filter is_item pieces)) refl

kept : (pieces : List (List ℕ)) (item : List ℕ) → item ≢ [] → filter is_item (pieces ++ item ∷ []) ≡ filter is_item pieces ++ item ∷ []
kept pieces [] ne = absurd (ne refl)
kept pieces (c ∷ cs) ne = filter-append is_item pieces ((c ∷ cs) ∷ [])

pub joined_first : (pieces : List (List ℕ)) (item : List ℕ) → item ≢ [] → joined pieces ≡ [] → joined (pieces ++ item ∷ []) ≡ item
joined_first pieces item ne e =
    let none : filter is_item pieces ≡ [] = nothing_joined (filter is_item pieces) (first_kept pieces) e in
    rw (kept pieces item ne, none) refl

pub joined_more : (pieces : List (List ℕ)) (item : List ℕ) → item ≢ [] → joined pieces ≢ [] → joined (pieces ++ item ∷ []) ≡ joined pieces ++ (0x20 ∷ item)
joined_more pieces item ne some =
    let ns : filter is_item pieces ≢ [] = λ e. some (rw e refl) in
    rw (kept pieces item ne) (more_items (filter is_item pieces) item ns)

pub items_empty : (pieces : List (List ℕ)) (item : List ℕ) → item ≡ [] → filter is_item (pieces ++ item ∷ []) ≡ filter is_item pieces
items_empty pieces item e = rw (e, filter-append is_item pieces ([] ∷ []), append-nil (filter is_item pieces)) refl

pub items_more : (pieces : List (List ℕ)) (item : List ℕ) → item ≢ [] → filter is_item (pieces ++ item ∷ []) ≡ filter is_item pieces ++ item ∷ []
items_more pieces item ne = kept pieces item ne

-- what `is_empty` says
pub filled : (xs : List ℕ) (n : ℕ) (b : Bool) → n ≡ length xs → b ≡ (n == 0) → b ≡ false → xs ≢ []
filled xs n b l p q = λ e. let t : length xs ≡ 0 = ap length e in absurd (grind (arith, nat_tests))

pub empty : (xs : List ℕ) (n : ℕ) (b : Bool) → n ≡ length xs → b ≡ (n == 0) → b ≡ true → xs ≡ []
empty xs n b l p q = nil_from_length xs (grind (arith, nat_tests))

pub behind_space : (old pushed new item : List ℕ) → pushed ≡ old ++ 0x20 ∷ [] → new ≡ pushed ++ item → new ≡ old ++ (0x20 ∷ item)
behind_space old pushed new item p q = rw (q, p, append_assoc) refl

pub alone : (old pushed new item : List ℕ) → old ≡ [] → pushed ≡ old → new ≡ pushed ++ item → new ≡ item
alone old pushed new item p q r = rw (r, q, p) refl
