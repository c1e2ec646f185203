-- A content model has one number of states and one number of symbols.
use Rattle.std.proofs.Common.{◌≡◌, ◌≢◌, ℕ, ◌*◌, ◌<◌, ◌≤◌, inl, inr, Bool, List, [], ◌∷◌, Some, length, get_or, sym, ap, subst, ◌∙◌, arith}
use Rattle.std.specs.Prelude.{Contains}
use Rattle.std.specs.List.{AllPairs}
use Rattle.std.proofs.lemmas.Bool.Decides.{Decides-eqb}
use Rattle.std.proofs.lemmas.Cmp.{nat_eq_equiv}
use Rattle.std.proofs.lemmas.Map.Made.{length-le_from_is_member, IsDistinct-from_AllPairs, is_member-Decides}
use Rattle.std.proofs.lemmas.Option.{slice_get-get_or}
use Rattle.xs_names.specs.Names.{NameTable}
use Rattle.xs_names.specs.Numbering.{HasNoRepeats}
use Rattle.xs_positions.specs.Positions.{Table}
use Rattle.xs_components.specs.Tables.{Tables}
use Rattle.particle_models.specs.Particles.{Particle}
use Rattle.particle_models.specs.Unrolled.{HasNoAll}
use Rattle.particle_forms.specs.Models.{model_of}
use Rattle.particle_forms.specs.Accepted.{accepts, is_inhabited}
use Rattle.content_automaton.specs.declared.symbol_terms.Accepts.{Accepts}
use Rattle.content_automaton.specs.Terms.{ExpandedName}
use Rattle.content_automaton.specs.Symbols.{SymbolTable, AreSymbolsOf, count_of}
use Rattle.content_models.specs.declared.member.AllMember.{AllMember}
use Rattle.content_models.specs.Shape.{all_within}
use Rattle.content_automaton.proofs.Counting.{no_more_than}
use Rattle.content_automaton.specs.Counted.{IsStateCountOf}
use Rattle.content_models.specs.Terms.{model_terms}
use Rattle.content_models.specs.Built.{IsLimitedAll, IsStateTotal}
use Rattle.content_models.proofs.StateLaws.{count-moved}
use Rattle.schema_models.specs.SetModels.{IsTableSize}

-- ---- lists of numbers, none twice
apart : (xs : List ℕ) → HasNoRepeats xs → AllPairs (λ x y. x ≢ y) xs
apart xs once i j d lower inside same =
    let e : i ≡ j = once i j (get_or xs j d) (slice_get-get_or xs i d (omega (arith, lower, inside)) ∙ ap (λ x. Some x) same) (slice_get-get_or xs j d inside) in
    omega (arith, lower, e)

no_more : (xs ys : List ℕ) → HasNoRepeats xs → ((n : ℕ) → Contains xs n → Contains ys n) → length xs ≤ length ys
no_more xs ys once inside =
    length-le_from_is_member nat_eq_equiv xs ys (IsDistinct-from_AllPairs Decides-eqb xs (apart xs once))
    (λ q m. (is_member-Decides Decides-eqb ys q).1 (inside q ((is_member-Decides Decides-eqb xs q).0 m)))

symbols-same : (terms : List Accepts) (s r : SymbolTable) → AreSymbolsOf terms s → AreSymbolsOf terms r → count_of s ≡ count_of r
symbols-same terms s r a b =
    let n : length s.names ≤ length r.names = no_more s.names r.names a.names_once (λ x c. (b.names x).1 ((a.names x).0 c)) in
    let m : length r.names ≤ length s.names = no_more r.names s.names b.names_once (λ x c. (a.names x).1 ((b.names x).0 c)) in
    let k : length s.spaces ≤ length r.spaces = no_more s.spaces r.spaces a.spaces_once (λ x c. (b.spaces x).1 ((a.spaces x).0 c)) in
    let l : length r.spaces ≤ length s.spaces = no_more r.spaces s.spaces b.spaces_once (λ x c. (a.spaces x).1 ((b.spaces x).0 c)) in
    omega (arith, n, m, k, l)

-- ---- states
counts-same : (f : ℕ → ExpandedName → Bool) (g : ℕ → Bool) (model : Particle) (u : Table) (a b : ℕ) → IsStateCountOf f g model u a → IsStateCountOf f g model u b → a ≡ b
counts-same f g model u a b x y =
    let l : length x.sets ≤ length y.sets = no_more_than x.sets y.sets x.different (λ set c. (y.all set).1 ((x.all set).0 c)) in
    let m : length y.sets ≤ length x.sets = no_more_than y.sets x.sets y.different (λ set c. (x.all set).1 ((y.all set).0 c)) in
    let i = x.counted in let j = y.counted in omega (arith, l, m, i, j)

no-all-within : (outer : List ℕ) (own : List AllMember) → HasNoAll (all_within outer own) → ⊥
no-all-within [] own h = h
no-all-within (l ∷ outer) own h = no-all-within outer own h

not-both : (own : List AllMember) (optional : Bool) (model : Particle) → HasNoAll model → IsLimitedAll own optional model → ⊥
not-both own optional model none is = no-all-within is.is_all.outer own (subst HasNoAll is.is_all.model_is none)

module _ (names : NameTable) (t : Tables) (members : List (List ℕ)) (p : ℕ) where
  totals-same : (a b : ℕ) → IsStateTotal names t members p a → IsStateTotal names t members p b → a ≡ b
  totals-same a b (inl (none, (u, is, x))) (inl (other, (v, also, y))) =
      counts-same (accepts names members t) (is_inhabited members t) (model_of t p) v.table a b
      (count-moved (accepts names members t) (is_inhabited members t) (model_of t p) u.table v.table (is.positions.symbols ∙ sym also.positions.symbols) a x) y
  totals-same a b (inl (none, x)) (inr ((own, optional, is), e)) = absurd (not-both own optional (model_of t p) none is)
  totals-same a b (inr ((own, optional, is), e)) (inl (none, x)) = absurd (not-both own optional (model_of t p) none is)
  totals-same a b (inr (x, e)) (inr (y, i)) = e ∙ sym i

  -- all counts of the states are that one
  pub total-below : (count : ℕ) → IsStateTotal names t members p count → count ≤ 2048 → ((n : ℕ) → IsStateTotal names t members p n → 2048 < n) → ⊥
  total-below count is l above = let m = above count is in omega (arith, l, m)

  module _ (classes : List ℕ) where
    pub sizes-same : (a b : ℕ) → IsTableSize names t members classes p a → IsTableSize names t members classes p b → a ≡ b
    sizes-same a b (n, s, total, symbols, is) (m, r, other, also, e) =
        is ∙ (ap (λ k. k * count_of s) (totals-same n m total other) ∙ (ap (λ k. m * k) (symbols-same (model_terms members t classes p) s r symbols also) ∙ sym e))
