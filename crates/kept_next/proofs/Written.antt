-- What the answers of a place are as text, and what they cost.
use Rattle.std.proofs.Common.{◌≡◌, ℕ, suc, ◌+◌, ◌*◌, ◌^◌, ◌<◌, ◌≤◌, List, [], ◌∷◌, ◌++◌, length, refl, sym, ap, ◌∙◌, mul-suc, mul-le-mul_right, one-add, arith}
use Rattle.std.specs.Prelude.{codes}
use Rattle.std.specs.Fmt.{decimal}
use Rattle.std.proofs.lemmas.List.{length-append}
use Rattle.std.proofs.lemmas.List.Sorted.{length_permutation}
use Rattle.std.proofs.Math.Nat.{mul_comm}
use Rattle.child_trees.specs.Bits.{bits}
use Rattle.model_lists.proofs.Digits.{more_digits}
use Rattle.xs_names.specs.Names.{NameTable}
use Rattle.kept_next.specs.Next.{fits_below, lines_below}
use Rattle.kept_next.specs.Order.{IsOrderOf, numbered, symbols_of}
use Rattle.kept_next.specs.declared.order.Symbol.{Symbol}
use Rattle.kept_next.specs.declared.symbol.SymbolName.{SymbolName}
use Rattle.kept_next.specs.declared.symbol.SymbolName.TheVariants.{Name, Namespace, Other}
use Rattle.kept_next.specs.Answers.{answers_of, cost, reply}
use Rattle.kept_next.specs.Place.{ListPlace, fits_at, name_at}
use Rattle.kept_next.proofs.Answered.{lines-same, counts-same}

-- ---- how many symbols there are

numbered-many : (named : ℕ → SymbolName) (first : ℕ) (xs : List ℕ) → length (numbered named first xs) ≡ length xs
numbered-many named first [] = refl
numbered-many named first (x ∷ xs) = let rest = numbered-many named (suc first) xs in omega (arith, rest)

pub order-few : (t : NameTable) (own spaces : List ℕ) (symbols : List Symbol) → IsOrderOf t own spaces symbols → suc (length own + length spaces) < 2 ^ 32 → length symbols < 2 ^ 32
order-few t own spaces symbols order few =
    let same = length_permutation (symbols_of own spaces) symbols order.all in
    let all = length-append (numbered Name 0 own ++ numbered Namespace (length own) spaces) (record { number = length own + length spaces; name = Other } ∷ []) in
    let parts = length-append (numbered Name 0 own) (numbered Namespace (length own) spaces) in
    let names = numbered-many Name 0 own in
    let others = numbered-many Namespace (length own) spaces in
    omega (arith, same, all, parts, names, others, few)

-- ---- the text

pub reply-is : (t : NameTable) (v : ListPlace) (symbols : List ℕ) (n : ℕ) → n ≡ fits_below (fits_at v symbols) (length v.symbols)
    → lines_below t (name_at v) (fits_at v symbols) (length v.symbols) ++ (codes "names " ++ decimal n ++ 10 ∷ []) ≡ reply t (answers_of v symbols)
reply-is t v symbols n many =
    let lines = sym (lines-same t (name_at v) (fits_at v symbols) (length v.symbols)) in
    let count = many ∙ sym (counts-same (name_at v) (fits_at v symbols) (length v.symbols)) in
    λ i. lines i ++ (codes "names " ++ decimal (count i) ++ 10 ∷ [])

-- ---- the cost

-- one state before the place, and for each symbol one step and one state behind all
pub whole-cost : (most k : ℕ) → most + k * (1 + most) ≡ most * (1 + k) + k
whole-cost most k =
    let a : k * (1 + most) ≡ k * most + k = rw (one-add most, mul-suc) refl in
    let b : most * (1 + k) ≡ most * k + most = rw (one-add k, mul-suc) refl in
    let c : k * most ≡ most * k = mul_comm k most in
    omega (arith, a, b, c)

-- more children cost no less
pub cost-more : (m n k : ℕ) → m ≤ n → cost m k ≤ cost n k
cost-more m n k l =
    let r = more_digits (m + 1) (n + 1) (omega (arith, l)) in
    let p : 8 * (bits (m + 1) + 1) * (1 + k) ≤ 8 * (bits (n + 1) + 1) * (1 + k) = mul-le-mul_right {m = 8 * (bits (m + 1) + 1)} {n = 8 * (bits (n + 1) + 1)} (1 + k) (omega (arith, r)) in
    omega (arith, p)
